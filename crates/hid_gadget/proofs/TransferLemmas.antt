-- A transfer of which nothing is lost takes a try for each of its pieces, and then both ends are at its end.
use Rattle.std.proofs.Common.{◌≡◌, ℕ, zero, suc, ◌+◌, ◌<◌, ◌≤◌, Bool, true, false, not, ◌||◌, ◌&&◌, ◌==◌, List, [], length, Option, Some, None, refl, ap, sym, ◌∙◌, subst, arith}
use Rattle.std.specs.Prelude.{if◌then◌else◌, nat_lt, unwrap_or}
use Rattle.std.proofs.lemmas.Bool.Decides.{nat_tests}
use Rattle.usb_transact.specs.declared.transaction.Fate.TheVariants.{Clean}
use Rattle.usb_control.specs.declared.setup.Setup.{Setup as Request}
use Rattle.usb_control.specs.declared.fault.ControlFault.TheVariants.{Stalled}
use Rattle.usb_control.specs.declared.device.Stage.{Stage}
use Rattle.usb_control.specs.declared.device.LastPacket.{LastPacket}
use Rattle.usb_control.specs.declared.host.HostStage.TheVariants as stages
use Rattle.usb_control.specs.SetupBytes.{IsEncoded, reads}
use Rattle.usb_control.specs.TryFunctions.{AppliesBy, PreparesBy, Table}
use Rattle.usb_control.specs.Host.{IsRunning}
use Rattle.usb_control.specs.Interleaving.{BothEnds, EndsAreAt, Tries, decision_now, ends_after_turn, ends_after_turns, ends_tried}
use Rattle.usb_control.specs.Positions.{TransferIsAt, host_bytes}
use Rattle.usb_control.specs.Runs.{is_open}
use Rattle.usb_control.specs.Transfer.{Shape, Decision, Refused, Accepted, Position, Piece, Status, Past, Place, Acts, Decides, act_at, answered_bytes, comes_from_device, data_pieces, decision_of, first_position, next_position, place_after_in, place_after_out, place_after_try, start, transfer_shape}
use Rattle.usb_control.proofs.InterleavingLemmas.{goes_by, is_running_runs, runs_so}
use Rattle.usb_control.proofs.LawLemmas.{begins}
use Rattle.hid_gadget.specs.declared.outcomes.Control.{Control}
use Rattle.hid_gadget.specs.Rooms.{with_front}
use Rattle.hid_gadget.specs.WholeTransfers.{EndsAfter, HasGot, IsOfTries, CarriesOut, after_transfer, bytes_given, clean_tries, control_result, decision_at_setup, end_with, ends_after_some, ends_after_tries, ends_at_start, given_bytes, room_after_transfer, sent_bytes, tries_needed, tries_of}

-- ---- places

-- both ends at a position, where nothing took effect yet
abbrev both_at : Decision → Position → Place
both_at d p = record { host = p; device = p; decision = d; applied = false; tries = 0; fault = None }

-- both ends past the last piece
abbrev both_past : Decision → Bool → Place
both_past d applied = record { host = Past; device = Past; decision = d; applied = applied; tries = 0; fault = None }

same_number : (k : ℕ) → (k == k) ≡ true
same_number k = grind (arith, nat_tests)

-- after SETUP both ends are at the first position behind it
setup_step : (shape : Shape) (d : Decision) → place_after_try shape Clean d start ≡ both_at d (first_position (data_pieces shape d))
setup_step shape d = refl

-- a piece moves both ends on, whichever way it goes
piece_way : (b : Bool) (count k : ℕ) (answer : Option (List ℕ))
    → (if b then place_after_in Clean count (both_at (Accepted answer) (Piece k)) else place_after_out Clean count (both_at (Accepted answer) (Piece k)))
    ≡ both_at (Accepted answer) (next_position count (Piece k))
piece_way true count k answer =
    ap (λ (same : Bool). let p : Place = record { host = (if same then next_position count (Piece k) else Piece k); device = next_position count (Piece k); decision = Accepted answer; applied = false; tries = 0; fault = None } in p) (same_number k)
piece_way false count k answer = refl

piece_step : (shape : Shape) (answer : Option (List ℕ)) (now : Decision) (k : ℕ)
    → place_after_try shape Clean now (both_at (Accepted answer) (Piece k))
    ≡ both_at (Accepted answer) (next_position (data_pieces shape (Accepted answer)) (Piece k))
piece_step shape answer now k = piece_way shape.reads (data_pieces shape (Accepted answer)) k answer

-- the status moves both ends past the last piece, and a write takes effect
status_way : (b applied : Bool) (count : ℕ) (answer : Option (List ℕ))
    → (let p : Place = record (both_at (Accepted answer) Status) { applied = applied } in if b then place_after_in Clean count p else place_after_out Clean count p)
    ≡ both_past (Accepted answer) applied
status_way true applied count answer = refl
status_way false applied count answer = refl

status_step : (shape : Shape) (answer : Option (List ℕ)) (now : Decision)
    → place_after_try shape Clean now (both_at (Accepted answer) Status) ≡ both_past (Accepted answer) (not shape.reads || false)
status_step shape answer now =
    status_way (comes_from_device shape Status) (not shape.reads || false) (data_pieces shape (Accepted answer)) answer

-- ---- a try

-- what a try leads to, where nothing of it is lost
record Turned {R : Type 0} (t : Table R) (setup : Request) (sends : List ℕ) (place : Place) (m n : BothEnds R) : Type 0 where
  asked : n.host.setup ≡ setup
  stands : TransferIsAt t.answer_of (transfer_shape setup) sends (place_after_try (transfer_shape setup) Clean (decision_now t m) place) n.host n.control
  acts : Acts (PreparesBy t) (AppliesBy t) t.answer_of setup sends
      (act_at place.host (transfer_shape setup) Clean (decision_now t m) place.decision place.applied)
      m.control.requests n.control.requests

-- a transfer that is at a place
abbrev IsAtPlace : {R : Type 0} → Table R → Request → List ℕ → Place → BothEnds R → Type 0
IsAtPlace t setup sends place m = TransferIsAt t.answer_of (transfer_shape setup) sends place m.host m.control

tried : {R : Type 0} (t : Table R) (setup : Request) (sends : List ℕ) (place : Place) (m : BothEnds R) → IsEncoded m.host.setup
    → m.host.setup ≡ setup → EndsAreAt t sends place m → is_open place ≡ true
    → Turned t m.host.setup sends place m (ends_after_turn t m (Tries Clean))
tried {R} t setup sends place m encoded asked stands running =
    let runs = runs_so t sends place m stands ∙ running in
    let by = goes_by t sends place Clean m encoded (is_running_runs m.host.stage runs) stands in
    let there : ends_tried t Clean m ≡ ends_after_turn t m (Tries Clean) =
    sym (ap (λ (b : Bool). if b then ends_tried t Clean m else m) runs) in
    let now : Turned t m.host.setup sends place m (ends_tried t Clean m) = record {
      asked = by.asked;
      stands = subst
          (λ (s : Request). TransferIsAt t.answer_of (transfer_shape s) sends
          (place_after_try (transfer_shape m.host.setup) Clean (decision_now t m) place) (ends_tried t Clean m).host (ends_tried t Clean m).control)
          by.asked by.stands;
      acts = by.acts;
    } in
    subst (λ (n : BothEnds R). Turned t m.host.setup sends place m n) there now

turned : {R : Type 0} (t : Table R) (setup : Request) (sends : List ℕ) (place : Place) (m : BothEnds R) → IsEncoded setup
    → m.host.setup ≡ setup → IsAtPlace t setup sends place m → is_open place ≡ true
    → Turned t setup sends place m (ends_after_turn t m (Tries Clean))
turned {R} t setup sends place m encoded asked stands running =
    let here : EndsAreAt t sends place m = subst (λ (s : Request). IsAtPlace t s sends place m) (sym asked) stands in
    subst (λ (s : Request). Turned t s sends place m (ends_after_turn t m (Tries Clean))) asked
    (tried t setup sends place m (subst IsEncoded (sym asked) encoded) asked here running)

-- ---- the pieces after SETUP of an accepted request

-- the position of a piece, or of the status behind the last one
abbrev position_of : ℕ → ℕ → Position
position_of count k = if nat_lt k count then Piece k else Status

-- what the end of an accepted request leaves of what answers requests
abbrev left_by : {R : Type 0} → Table R → Shape → List ℕ → R → R
left_by t shape sends requests = if shape.reads then requests else t.applied requests sends

-- both ends past the last piece of an accepted request
record Ended {R : Type 0} (t : Table R) (setup : Request) (sends : List ℕ) (answer : Option (List ℕ)) (requests : R) (n : BothEnds R) : Type 0 where
  asked : n.host.setup ≡ setup
  stands : IsAtPlace t setup sends (both_past (Accepted answer) (not (reads setup) || false)) n
  left : n.control.requests ≡ left_by t (transfer_shape setup) sends requests

at_status : {R : Type 0} (t : Table R) (setup : Request) (sends : List ℕ) (answer : Option (List ℕ)) (now : Decision) (old new : R) (b : Bool)
    → reads setup ≡ b
    → Acts (PreparesBy t) (AppliesBy t) t.answer_of setup sends (act_at Status (record { reads = b; length = setup.length }) Clean now (Accepted answer) false) old new
    → new ≡ (if b then old else t.applied old sends)
at_status t setup sends answer now old new true is acts = acts
at_status t setup sends answer now old new false is acts = acts

ends_status : {R : Type 0} (t : Table R) (setup : Request) (sends : List ℕ) (answer : Option (List ℕ)) (m : BothEnds R) → IsEncoded setup
    → m.host.setup ≡ setup → IsAtPlace t setup sends (both_at (Accepted answer) Status) m
    → Ended t setup sends answer m.control.requests (ends_after_turn t m (Tries Clean))
ends_status {R} t setup sends answer m encoded asked stands =
    let by = turned t setup sends (both_at (Accepted answer) Status) m encoded asked stands refl in
    let n = ends_after_turn t m (Tries Clean) in
    record {
      asked = by.asked;
      stands = subst (λ (p : Place). IsAtPlace t setup sends p n) (status_step (transfer_shape setup) answer (decision_now t m)) by.stands;
      left = at_status t setup sends answer (decision_now t m) m.control.requests n.control.requests (reads setup) refl by.acts;
    }

-- as many tries as pieces are left, and one for the status
ends_pieces : {R : Type 0} (t : Table R) (setup : Request) (sends : List ℕ) (answer : Option (List ℕ)) (left k : ℕ) (m : BothEnds R) → IsEncoded setup
    → m.host.setup ≡ setup → k + left ≡ data_pieces (transfer_shape setup) (Accepted answer)
    → IsAtPlace t setup sends (both_at (Accepted answer) (position_of (data_pieces (transfer_shape setup) (Accepted answer)) k)) m
    → Ended t setup sends answer m.control.requests (ends_after_turns t m (clean_tries (suc left)))
ends_pieces {R} t setup sends answer zero k m encoded asked all stands =
    let count = data_pieces (transfer_shape setup) (Accepted answer) in
    let last : nat_lt k count ≡ false = grind (arith, nat_tests, all) in
    ends_status t setup sends answer m encoded asked
    (subst (λ (b : Bool). IsAtPlace t setup sends (both_at (Accepted answer) (if b then Piece k else Status)) m) last stands)
ends_pieces {R} t setup sends answer (suc left) k m encoded asked all stands =
    let count = data_pieces (transfer_shape setup) (Accepted answer) in
    let more : nat_lt k count ≡ true = grind (arith, nat_tests, all) in
    let here : IsAtPlace t setup sends (both_at (Accepted answer) (Piece k)) m =
    subst (λ (b : Bool). IsAtPlace t setup sends (both_at (Accepted answer) (if b then Piece k else Status)) m) more stands in
    let by = turned t setup sends (both_at (Accepted answer) (Piece k)) m encoded asked here refl in
    let n = ends_after_turn t m (Tries Clean) in
    let next : IsAtPlace t setup sends (both_at (Accepted answer) (position_of count (suc k))) n =
    subst (λ (p : Place). IsAtPlace t setup sends p n) (piece_step (transfer_shape setup) answer (decision_now t m) k) by.stands in
    let rest = ends_pieces t setup sends answer left (suc k) n encoded by.asked (omega (arith, all)) next in
    let same : n.control.requests ≡ m.control.requests = by.acts in
    record {
      asked = rest.asked;
      stands = rest.stands;
      left = rest.left ∙ ap (left_by t (transfer_shape setup) sends) same;
    }

-- the first position is that of piece 0, or of the status
some_pieces : (count : ℕ) (none : Bool) → (count == 0) ≡ none → nat_lt 0 count ≡ not none
some_pieces count true e = grind (arith, nat_tests, e)
some_pieces count false e = grind (arith, nat_tests, e)

first_by : (none some : Bool) → some ≡ not none → (if none then Status else Piece 0) ≡ (if some then Piece 0 else Status)
first_by true false e = refl
first_by false true e = refl
first_by true true e = absurd (cc)
first_by false false e = absurd (cc)

first_is : (count : ℕ) → first_position count ≡ position_of count 0
first_is count = first_by (count == 0) (nat_lt 0 count) (some_pieces count (count == 0) refl)

-- ---- a refused request

-- the position after SETUP, by whether there are data
abbrev first_if : Bool → Position
first_if some = if some then Piece 0 else Status

-- the try after SETUP gets STALL, and nothing else is done
stalls_at : (shape : Shape) (now : Decision) (some : Bool)
    → place_after_try shape Clean now (both_at Refused (first_if some))
    ≡ record (both_at Refused (first_if some)) { fault = Some Stalled }
stalls_at shape now true = refl
stalls_at shape now false = refl

stalls_open : (some : Bool) → is_open (both_at Refused (first_if some)) ≡ true
stalls_open true = refl
stalls_open false = refl

nothing_done : {R : Type 0} (t : Table R) (setup : Request) (sends : List ℕ) (shape : Shape) (now : Decision) (some : Bool) (old new : R)
    → Acts (PreparesBy t) (AppliesBy t) t.answer_of setup sends (act_at (first_if some) shape Clean now Refused false) old new
    → new ≡ old
nothing_done t setup sends shape now true old new acts = acts
nothing_done t setup sends shape now false old new acts = acts

-- ---- whole transfers

-- the bytes of the host past the last piece
got_past : (r : Bool) (len : ℕ) (sends : List ℕ) (answer : Option (List ℕ)) (bytes : List ℕ)
    → bytes ≡ host_bytes (record { reads = r; length = len }) sends (Accepted answer) Past
    → (if r then bytes else []) ≡ (if r then answered_bytes (record { reads = r; length = len }) (Accepted answer) else [])
got_past true len sends answer bytes is = is
got_past false len sends answer bytes is = refl

-- what is left of an accepted request is what the transfer leaves
left_is : {R : Type 0} (t : Table R) (r : Bool) (len : ℕ) (written : List ℕ) (requests : R)
    → left_by t (record { reads = r; length = len }) (if r then [] else written) requests
    ≡ (if true && not r then t.applied requests written else requests)
left_is t true len written requests = refl
left_is t false len written requests = refl

-- how many bytes a host sends
sends_all : (r : Bool) (len : ℕ) (written : List ℕ) → (r ≡ false → length written ≡ len)
    → length (if r then [] else written) ≡ (if r then 0 else len)
sends_all true len written whole = refl
sends_all false len written whole = whole refl

-- what comes of a transfer, by what is decided on it
abbrev After : {R : Type 0} → Table R → Request → List ℕ → R → Bool → BothEnds R → Type 0
After t setup written prepared accepts n =
    HasGot (given_bytes (transfer_shape setup) (decision_of accepts (t.answer_of prepared))) n.host
    × (n.control.requests ≡ (if accepts && not (reads setup) then t.applied prepared written else prepared))

-- the tries after SETUP
after_setup : {R : Type 0} (t : Table R) (setup : Request) (written : List ℕ) (prepared : R) (accepts : Bool) (m : BothEnds R) → IsEncoded setup
    → m.host.setup ≡ setup → m.control.requests ≡ prepared
    → IsAtPlace t setup (sent_bytes setup written)
    (both_at (decision_of accepts (t.answer_of prepared)) (position_of (data_pieces (transfer_shape setup) (decision_of accepts (t.answer_of prepared))) 0)) m
    → (n : ℕ) → n + 1 ≡ tries_needed (transfer_shape setup) (decision_of accepts (t.answer_of prepared))
    → After t setup written prepared accepts (ends_after_turns t m (clean_tries n))
after_setup {R} t setup written prepared false m encoded asked same stands n all =
    let shape = transfer_shape setup in
    let count = data_pieces shape Refused in
    let sends = sent_bytes setup written in
    let one : n ≡ 1 = omega (arith, all) in
    let by = turned t setup sends (both_at Refused (position_of count 0)) m encoded asked stands (stalls_open (nat_lt 0 count)) in
    let end = ends_after_turn t m (Tries Clean) in
    let failed : end.host.stage ≡ stages.Failed Stalled =
    subst (λ (p : Place). IsAtPlace t setup sends p end) (stalls_at shape (decision_now t m) (nat_lt 0 count)) by.stands in
    let kept : end.control.requests ≡ prepared =
    nothing_done t setup sends shape (decision_now t m) (nat_lt 0 count) m.control.requests end.control.requests by.acts ∙ same in
    subst (λ (k : ℕ). After t setup written prepared false (ends_after_turns t m (clean_tries k))) (sym one) (failed, kept)
after_setup {R} t setup written prepared true m encoded asked same stands n all =
    let shape = transfer_shape setup in
    let answer = t.answer_of prepared in
    let count = data_pieces shape (Accepted answer) in
    let sends = sent_bytes setup written in
    let many : n ≡ suc count = omega (arith, all) in
    let by = ends_pieces t setup sends answer count 0 m encoded asked (let e : 0 + count ≡ count = omega arith in e) stands in
    let end = ends_after_turns t m (clean_tries (suc count)) in
    let got : HasGot (given_bytes shape (Accepted answer)) end.host = (
      by.stands.sender.stage,
      ap (λ (s : Request). if reads s then end.host.bytes else []) by.asked
          ∙ got_past (reads setup) setup.length sends answer end.host.bytes by.stands.sender.bytes,
    ) in
    let left : end.control.requests ≡ (if true && not (reads setup) then t.applied prepared written else prepared) =
    by.left ∙ ap (left_by t shape sends) same ∙ left_is t (reads setup) setup.length written prepared in
    subst (λ (k : ℕ). After t setup written prepared true (ends_after_turns t m (clean_tries k))) (sym many) (got, left)

-- ---- before the last try

runs_at : {R : Type 0} (t : Table R) (setup : Request) (sends : List ℕ) (place : Place) (m : BothEnds R)
    → m.host.setup ≡ setup → IsAtPlace t setup sends place m → is_open place ≡ true → IsRunning m.host.stage
runs_at t setup sends place m asked stands running =
    let here : EndsAreAt t sends place m = subst (λ (s : Request). IsAtPlace t s sends place m) (sym asked) stands in
    is_running_runs m.host.stage (runs_so t sends place m here ∙ running)

open_by : (d : Decision) (k : ℕ) (b : Bool) → is_open (both_at d (if b then Piece k else Status)) ≡ true
open_by d k true = refl
open_by d k false = refl

-- while pieces are left the host runs
runs_pieces : {R : Type 0} (t : Table R) (setup : Request) (sends : List ℕ) (answer : Option (List ℕ)) (left k : ℕ) (m : BothEnds R) → IsEncoded setup
    → m.host.setup ≡ setup → k + left ≡ data_pieces (transfer_shape setup) (Accepted answer)
    → IsAtPlace t setup sends (both_at (Accepted answer) (position_of (data_pieces (transfer_shape setup) (Accepted answer)) k)) m
    → (n : ℕ) → n ≤ left → IsRunning (ends_after_turns t m (clean_tries n)).host.stage
runs_pieces {R} t setup sends answer left k m encoded asked all stands zero few =
    let count = data_pieces (transfer_shape setup) (Accepted answer) in
    runs_at t setup sends (both_at (Accepted answer) (position_of count k)) m asked stands (open_by (Accepted answer) k (nat_lt k count))
runs_pieces {R} t setup sends answer zero k m encoded asked all stands (suc n) few = absurd (omega (arith, few))
runs_pieces {R} t setup sends answer (suc left) k m encoded asked all stands (suc n) few =
    let count = data_pieces (transfer_shape setup) (Accepted answer) in
    let more : nat_lt k count ≡ true = grind (arith, nat_tests, all) in
    let here : IsAtPlace t setup sends (both_at (Accepted answer) (Piece k)) m =
    subst (λ (b : Bool). IsAtPlace t setup sends (both_at (Accepted answer) (if b then Piece k else Status)) m) more stands in
    let by = turned t setup sends (both_at (Accepted answer) (Piece k)) m encoded asked here refl in
    let after = ends_after_turn t m (Tries Clean) in
    let next : IsAtPlace t setup sends (both_at (Accepted answer) (position_of count (suc k))) after =
    subst (λ (p : Place). IsAtPlace t setup sends p after) (piece_step (transfer_shape setup) answer (decision_now t m) k) by.stands in
    runs_pieces t setup sends answer left (suc k) after encoded by.asked (omega (arith, all)) next n (omega (arith, few))

-- after SETUP
runs_after : {R : Type 0} (t : Table R) (setup : Request) (written : List ℕ) (prepared : R) (accepts : Bool) (m : BothEnds R) → IsEncoded setup
    → m.host.setup ≡ setup
    → IsAtPlace t setup (sent_bytes setup written)
    (both_at (decision_of accepts (t.answer_of prepared)) (position_of (data_pieces (transfer_shape setup) (decision_of accepts (t.answer_of prepared))) 0)) m
    → (n : ℕ) → suc n < tries_needed (transfer_shape setup) (decision_of accepts (t.answer_of prepared))
    → IsRunning (ends_after_turns t m (clean_tries n)).host.stage
runs_after {R} t setup written prepared false m encoded asked stands n few =
    let count = data_pieces (transfer_shape setup) Refused in
    let none : 0 ≡ n = omega (arith, few) in
    subst (λ (k : ℕ). IsRunning (ends_after_turns t m (clean_tries k)).host.stage) none
    (runs_at t setup (sent_bytes setup written) (both_at Refused (position_of count 0)) m asked stands (open_by Refused 0 (nat_lt 0 count)))
runs_after {R} t setup written prepared true m encoded asked stands n few =
    let answer = t.answer_of prepared in
    let count = data_pieces (transfer_shape setup) (Accepted answer) in
    runs_pieces t setup (sent_bytes setup written) answer count 0 m encoded asked (let e : 0 + count ≡ count = omega arith in e) stands n
    (omega (arith, few))

-- SETUP is decided on
prepared_by : {R : Type 0} (t : Table R) (setup : Request) (sends : List ℕ) (d : Decision) (old new : R)
    → Acts (PreparesBy t) (AppliesBy t) t.answer_of setup sends (Decides d) old new → new ≡ t.prepared old setup
prepared_by t setup sends d old new (said, gives, is) = gives.1

-- a transfer is its tries
pub of_tries : {R : Type 0} (t : Table R) (old : R) (stage : Stage) (last_packet : LastPacket) (setup : Request) (written : List ℕ)
    → IsEncoded setup → (reads setup ≡ false → length written ≡ setup.length)
    → IsOfTries t old stage last_packet setup written (after_transfer t old setup written)
of_tries {R} t old stage last_packet setup written encoded whole =
    let shape = transfer_shape setup in
    let sends = sent_bytes setup written in
    let d = decision_at_setup t old setup in
    let m : BothEnds R = ends_at_start old stage last_packet setup written in
    let begun : IsAtPlace t setup sends start m =
    begins t.answer_of m.host.addr setup sends m.control (sends_all (reads setup) setup.length written whole) in
    let by = turned t setup sends start m encoded refl begun refl in
    let n = ends_after_turn t m (Tries Clean) in
    let first : IsAtPlace t setup sends (both_at d (position_of (data_pieces shape d) 0)) n =
    subst (λ (p : Position). IsAtPlace t setup sends (both_at d p) n) (first_is (data_pieces shape d)) by.stands in
    let same : n.control.requests ≡ t.prepared old setup = prepared_by t setup sends (decision_now t m) old n.control.requests by.acts in
    let some : (k : ℕ) × (k + 1 ≡ tries_needed shape d) = needed shape d in
    let end = after_setup t setup written (t.prepared old setup) (t.accepts old setup) n encoded by.asked same first some.0 some.1 in
    let all : ends_after_turns t n (clean_tries some.0) ≡ ends_after_tries t old stage last_packet setup written =
    ap (λ (k : ℕ). ends_after_turns t m (clean_tries k)) (let e : suc some.0 ≡ tries_needed shape d = omega (arith, some.1) in e) in
    record {
      host = subst (λ (x : BothEnds R). HasGot (bytes_given t old setup) x.host) all end.0;
      device = subst (λ (x : BothEnds R). x.control.requests ≡ after_transfer t old setup written) all end.1;
      runs = before (runs_after t setup written (t.prepared old setup) (t.accepts old setup) n encoded by.asked first);
    }
  where
    start_ends : BothEnds R
    start_ends = ends_at_start old stage last_packet setup written

    before : ((n : ℕ) → suc n < tries_of t old setup
        → IsRunning (ends_after_turns t (ends_after_turn t start_ends (Tries Clean)) (clean_tries n)).host.stage)
        → (n : ℕ) → n < tries_of t old setup → IsRunning (ends_after_some t old stage last_packet setup written n).host.stage
    before later zero few = refl
    before later (suc n) few = later n few

    needed : (shape : Shape) (d : Decision) → (k : ℕ) × (k + 1 ≡ tries_needed shape d)
    needed shape Refused = (1, refl)
    needed shape (Accepted answer) = (data_pieces shape (Accepted answer) + 1, (let e : data_pieces shape (Accepted answer) + 1 + 1 ≡ data_pieces shape (Accepted answer) + 2 = omega arith in e))

-- ---- a transfer by the functions of a table

-- what a transfer makes of what answers requests, how it ends and its room
pub record EndsByTable {R : Type 0} (t : Table R) (old : R) (setup : Request) (written : List ℕ) (new : R) (room : List ℕ) (result : Control) (filled : List ℕ) : Type 0 where
  pub core : new ≡ after_transfer t old setup written
  pub ended : result ≡ control_result t old setup
  pub bytes : filled ≡ room_after_transfer t old setup room

effect_is : {R : Type 0} (t : Table R) (accepted is_read : Bool) (written : List ℕ) (decided new : R)
    → CarriesOut (AppliesBy t) accepted is_read written decided new
    → new ≡ (if accepted && not is_read then t.applied decided written else decided)
effect_is t true false written decided new is = is
effect_is t true true written decided new is = is
effect_is t false false written decided new is = is
effect_is t false true written decided new is = is

pub ends_by_table : {R : Type 0} (t : Table R) (old : R) (setup : Request) (written : List ℕ) (said : Bool) (decided new : R) (room : List ℕ) (result : Control) (filled : List ℕ)
    → PreparesBy t old setup said decided → EndsAfter (AppliesBy t) (t.answer_of decided) setup written said decided new room result filled
    → EndsByTable t old setup written new room result filled
ends_by_table {R} t old setup written said decided new room result filled gives ends =
    let decision_is : decision_of said (t.answer_of decided) ≡ decision_at_setup t old setup =
    ap (λ (b : Bool). decision_of b (t.answer_of decided)) gives.0 ∙ ap (λ (x : R). decision_of (t.accepts old setup) (t.answer_of x)) gives.1 in
    record {
      core = effect_is t said (reads setup) written decided new ends.effect
          ∙ ap (λ (b : Bool). if b && not (reads setup) then t.applied decided written else decided) gives.0
          ∙ ap (λ (x : R). if t.accepts old setup && not (reads setup) then t.applied x written else x) gives.1;
      ended = ends.ended ∙ ap (λ (d : Decision). end_with (given_bytes (transfer_shape setup) d)) decision_is;
      bytes = ends.bytes ∙ ap (λ (d : Decision). with_front (unwrap_or (given_bytes (transfer_shape setup) d) []) room) decision_is;
    }
