-- The submits in flight, oldest first, and how often each is answered (USB/IP).
use Rattle.std.specs.Prelude.{◌≡◌, ◌≤◌, ℕ, ◌+◌, ◌==◌, Bool, true, false, if◌then◌else◌, List, [], ◌∷◌, ◌++◌, count_by, Option, Some, None, is_some}
use Rattle.std.specs.List.{list_any}
use Rattle.usbip_import.specs.declared.flight.Flight.{Flight}
use Rattle.usbip_import.specs.declared.flight.Purpose.{Purpose}
use Rattle.usbip_import.specs.declared.flight.Purpose.TheVariants.{Control, Report}

-- two submits are for the same: the control transfer, or a report of the same interface
abbrev pub same_purpose : Purpose → Purpose → Bool
same_purpose Control Control = true
same_purpose Control (Report place) = false
same_purpose (Report place) Control = false
same_purpose (Report place) (Report other) = place == other

-- the flight of this number, if one is in flight
abbrev pub flight_of : ℕ → List Flight → Option Flight
flight_of n [] = None
flight_of n (f ∷ fs) = if f.seqnum == n then Some f else flight_of n fs

-- some submit of this number is in flight
abbrev pub is_in_flight : ℕ → List Flight → Bool
is_in_flight n fs = is_some (flight_of n fs)

-- what is in flight without the flight of this number
abbrev pub without : ℕ → List Flight → List Flight
without n [] = []
without n (f ∷ fs) = if f.seqnum == n then fs else f ∷ without n fs

-- a submit for this purpose is in flight
abbrev pub is_asked : Purpose → List Flight → Bool
is_asked purpose fs = list_any (λ (f : Flight). same_purpose purpose f.purpose) fs

-- ---- whole connections

-- What happens to what is in flight: a submit is to be sent, or a reply to one of a number comes.
pub data Happening : Type 0 where
  Sends : (flight : Flight) → Happening
  Replies : (n : ℕ) → Happening

-- a submit that may be there, as a list of one or none
abbrev pub if_any : Option Flight → List Flight
if_any None = []
if_any (Some f) = f ∷ []

-- the submit that is sent: none where its number is in flight still
abbrev pub sent_at : List Flight → Happening → List Flight
sent_at fs (Sends f) = if is_in_flight f.seqnum fs then [] else f ∷ []
sent_at fs (Replies n) = []

-- the submit that is answered: the one of the reply's number, if it is in flight
abbrev pub answered_at : List Flight → Happening → List Flight
answered_at fs (Sends f) = []
answered_at fs (Replies n) = if_any (flight_of n fs)

-- what is in flight after something happened
abbrev pub flights_after : List Flight → Happening → List Flight
flights_after fs (Sends f) = fs ++ sent_at fs (Sends f)
flights_after fs (Replies n) = without n fs

-- what is in flight after all of these
abbrev pub flights_after_all : List Flight → List Happening → List Flight
flights_after_all fs [] = fs
flights_after_all fs (h ∷ hs) = flights_after_all (flights_after fs h) hs

-- the submits that are sent, in order
abbrev pub all_sent : List Flight → List Happening → List Flight
all_sent fs [] = []
all_sent fs (h ∷ hs) = sent_at fs h ++ all_sent (flights_after fs h) hs

-- the submits that are answered, in order
abbrev pub all_answered : List Flight → List Happening → List Flight
all_answered fs [] = []
all_answered fs (h ∷ hs) = answered_at fs h ++ all_answered (flights_after fs h) hs

-- Each submit is answered once, or is in flight still: of any sort of submit as many as were sent, and were in flight before,
-- are answered or in flight.
abbrev pub IsAnsweredOnce : List Flight → List Happening → Type 0
IsAnsweredOnce fs hs = (sort : Flight → Bool) →
    count_by sort (all_answered fs hs) + count_by sort (flights_after_all fs hs) ≡ count_by sort (all_sent fs hs) + count_by sort fs

-- a submit of this number
abbrev pub has_number : ℕ → Flight → Bool
has_number n f = f.seqnum == n

-- No number is in flight twice.
abbrev pub AreSingle : List Flight → Type 0
AreSingle fs = (n : ℕ) → count_by (has_number n) fs ≤ 1

-- a reply is to a submit of its number
abbrev pub IsInItsPlace : ℕ → List Flight → Type 0
IsInItsPlace n fs = (f : Flight) → flight_of n fs ≡ Some f → f.seqnum ≡ n
