-- How many polls a device needs until it has nothing more to send, if its controls stay as they are (USB 2.0, 5.7.4, 8.5.4
-- and 8.6; HID 1.11, 7.2.4; our choice).
use Rattle.std.specs.Prelude.{◌≡◌, ℕ, zero, suc, ◌+◌, ◌-◌, ◌*◌, ◌<◌, ◌≤◌, max, if◌then◌else◌, true, false, List, [], ◌∷◌, length, Option, Some, None, ℤ, pos, negsuc, ◌*ℤ◌, ◌<ℤ◌}
use Rattle.std.specs.Int.{div_ceil}
use Rattle.std.specs.Int.RustNames.{unsigned_abs}
use Rattle.hid_layout.specs.declared.control.Controls.{Controls}
use Rattle.hid_layout.specs.declared.control.Controls.TheVariants as head
use Rattle.hid_layout.specs.declared.control.ControlId.{ControlId}
use Rattle.hid_layout.specs.declared.control.ControlKind.TheVariants.{Switch, Value, NullValue, Relative}
use Rattle.hid_layout.specs.Controls.{Item, controls_of_form}
use Rattle.hid_snapshots.specs.declared.control_state.ControlState.{ControlState}
use Rattle.hid_snapshots.specs.declared.control_state.ControlState.TheVariants.{Absent, Switches, Values, Motions, RollOver}
use Rattle.hid_snapshots.specs.ControlStates.{FitsSnapshot, are_motions}
use Rattle.hid_snapshots.specs.Parts.{is_of, item_at, has_zeros}
use Rattle.hid_snapshots.specs.Pieces.{pieces_of}
use Rattle.hid_snapshots.specs.Snapshots.{is_pressed, state_at}
use Rattle.hid_snapshots.specs.Views.{value_in}
use Rattle.usb_transact.specs.declared.transaction.Fate.{Fate}
use Rattle.hid_bus.specs.ReportState.{ReportState, is_due, no_idle}
use Rattle.hid_bus.specs.Rounds.{OwnStep, Changes, Frame, Polls, closed_count}
use Rattle.hid_bus.specs.Fairness.{IsFair}
use Rattle.hid_bus.specs.LinkState.{LinkState, OpenRound, initial_link, state_after_steps}
use Rattle.hid_bus.specs.DeviceHistory.{BusEvent, state_after_all}
use Rattle.hid_bus.specs.Agreement.{HasNothingToSend, Agrees, AreSentIn, AllSetEach, has_too_many_keys}

-- a step that changes no control and starts no report by its idle time: a poll, or a frame where no report has an idle time
abbrev pub IsStill : List ℕ → OwnStep → Type 0
IsStill idle (Changes change) = ⊥
IsStill idle Frame = idle ≡ no_idle idle
IsStill idle (Polls fate) = Unit {0}

-- each of these steps is a poll, or a frame where no report has an idle time
abbrev pub AreStill : List ℕ → List OwnStep → Type 0
AreStill idle [] = Unit {0}
AreStill idle (x ∷ steps) = IsStill idle x × AreStill idle steps

-- the fates of the polls among these steps
abbrev pub fates_of : List OwnStep → List Fate
fates_of [] = []
fates_of (Changes change ∷ steps) = fates_of steps
fates_of (Frame ∷ steps) = fates_of steps
fates_of (Polls fate ∷ steps) = fate ∷ fates_of steps

-- n reports carry all motion of a control state: each motion is at most n times what one report carries, either way
abbrev pub FitsReports : ℕ → Controls → ControlState → Type 0
FitsReports n (head.Elements Relative least greatest count) (Motions ms) =
    are_motions (pos n *ℤ least) (pos n *ℤ greatest) ms
FitsReports n (head.Elements Switch least greatest count) (Motions ms) = ⊥
FitsReports n (head.Elements Value least greatest count) (Motions ms) = ⊥
FitsReports n (head.Elements NullValue least greatest count) (Motions ms) = ⊥
FitsReports n (head.Keys elements rolls count) (Motions ms) = ⊥
FitsReports n head.None (Motions ms) = ⊥
FitsReports n controls Absent = Unit {0}
FitsReports n controls (Switches ps) = Unit {0}
FitsReports n controls (Values vs) = Unit {0}
FitsReports n controls (RollOver ps) = Unit {0}

-- n rounds of report r are enough: they carry its motions, and there is one at least if it is due. Example: two rounds for 200
-- to the right, of which a report carries 127; one for a key
pub record IsEnough (items : List Item) (d : ReportState) (r n : ℕ) : Type 0 where
  pub motions : (i : ℕ) → is_of r (item_at items i) ≡ true
      → FitsReports n (controls_of_form (item_at items i).form) (state_at d.snapshot i)
  pub due : is_due items d r ≡ true → 0 < n

-- the clean polls that this many rounds of each of the first n reports take: one for each piece
abbrev pub polls_of_rounds : List Item → (ℕ → ℕ) → ℕ → ℕ
polls_of_rounds items rounds zero = 0
polls_of_rounds items rounds (suc r) = rounds r * pieces_of items r + polls_of_rounds items rounds r

-- the clean polls that the open round still takes: one for each piece that hasn't closed
abbrev pub polls_of_open : Option OpenRound → ℕ
polls_of_open None = 0
polls_of_open (Some round) = round.pieces - round.piece

-- the clean polls that a device takes to send all that it has, if these rounds of each report are enough
abbrev pub polls_to_rest : List Item → (ℕ → ℕ) → LinkState → ℕ
polls_to_rest items rounds s = polls_of_open s.current + polls_of_rounds items rounds (length s.reports.frames)

-- What is true of a device after a history, if its controls stay as they are from then on: its endpoint isn't halted, and
-- these rounds of each report are enough.
pub record ComesToRest (items : List Item) (snapshot : List ControlState) (idle : List ℕ) (bus_events : List BusEvent)
    (rounds : ℕ → ℕ) (steps : List OwnStep) : Type 0 where
  pub fits : FitsSnapshot items snapshot
  -- every relative control can send 0
  pub zeros : has_zeros items ≡ true
  pub sent : AreSentIn (length idle) items
  pub each : AllSetEach (length idle) bus_events
  pub going : (state_after_all items (initial_link items snapshot idle) bus_events).halted ≡ false
  pub enough : (r : ℕ) → r < length idle
      → IsEnough items (state_after_all items (initial_link items snapshot idle) bus_events).reports r (rounds r)
  pub still : AreStill (state_after_all items (initial_link items snapshot idle) bus_events).reports.idle steps

-- the device has nothing to send, and both ends agree
abbrev pub IsAtRest : List Item → LinkState → Type 0
IsAtRest items s = HasNothingToSend items s × Agrees items s

-- If controls stay as they are, both ends are at rest once this many polls lost nothing, whatever other polls lose.
abbrev pub RestsAfterCleanPolls : List Item → List ControlState → List ℕ → List BusEvent → (ℕ → ℕ) → List OwnStep → Type 0
RestsAfterCleanPolls items snapshot idle bus_events rounds steps =
    let s : LinkState = state_after_all items (initial_link items snapshot idle) bus_events in
    ComesToRest items snapshot idle bus_events rounds steps
    → polls_to_rest items rounds s ≤ closed_count (fates_of steps)
    → IsAtRest items (state_after_steps items s steps)

-- If at most k polls in a row lose something, both ends are at rest after (k + 1) times as many polls.
abbrev pub RestsInTime : ℕ → List Item → List ControlState → List ℕ → List BusEvent → (ℕ → ℕ) → List OwnStep → Type 0
RestsInTime k items snapshot idle bus_events rounds steps =
    let s : LinkState = state_after_all items (initial_link items snapshot idle) bus_events in
    ComesToRest items snapshot idle bus_events rounds steps
    → IsFair k (fates_of steps) → (k + 1) * polls_to_rest items rounds s ≤ length (fates_of steps)
    → IsAtRest items (state_after_steps items s steps)

-- ---- how many rounds a report needs

-- a motion can be sent: some value that an element carries has its sign
abbrev pub CanBeSent : ℤ → ℤ → ℤ → Type 0
CanBeSent least greatest m = (pos 0 <ℤ m → pos 0 <ℤ greatest) × (m <ℤ pos 0 → least <ℤ pos 0)

-- each motion of a list can be sent
abbrev pub AllCanBeSent : ℤ → ℤ → List ℤ → Type 0
AllCanBeSent least greatest [] = Unit {0}
AllCanBeSent least greatest (m ∷ ms) = CanBeSent least greatest m × AllCanBeSent least greatest ms

-- the motions of an item can be sent by its controls
abbrev pub MotionsCanBeSent : List ℤ → Controls → Type 0
MotionsCanBeSent ms head.None = Unit {0}
MotionsCanBeSent ms (head.Keys elements rolls count) = Unit {0}
MotionsCanBeSent ms (head.Elements Switch least greatest count) = Unit {0}
MotionsCanBeSent ms (head.Elements Value least greatest count) = Unit {0}
MotionsCanBeSent ms (head.Elements NullValue least greatest count) = Unit {0}
MotionsCanBeSent ms (head.Elements Relative least greatest count) = AllCanBeSent least greatest ms

-- what a control state keeps of motion can be sent by these controls
abbrev pub IsSendable : ControlState → Controls → Type 0
IsSendable Absent controls = Unit {0}
IsSendable (Switches ps) controls = Unit {0}
IsSendable (Values vs) controls = Unit {0}
IsSendable (Motions ms) controls = MotionsCanBeSent ms controls
IsSendable (RollOver ps) controls = Unit {0}

-- All motion that a snapshot keeps can be sent, as that of a blank one, and as a change without direction is refused (U5).
abbrev pub AreSendable : List Item → List ControlState → Type 0
AreSendable items snapshot =
    (i : ℕ) → IsSendable (state_at snapshot i) (controls_of_form (item_at items i).form)

-- how many reports a motion takes, of which each carries the greatest or the least value until the last. Example: 200 takes
-- two reports of at most 127
abbrev pub reports_of_motion : ℤ → ℤ → ℤ → ℕ
reports_of_motion least greatest (pos m) = div_ceil m (unsigned_abs greatest)
reports_of_motion least greatest (negsuc m) = div_ceil (m + 1) (unsigned_abs least)

-- how many reports these motions take together
abbrev pub reports_of_motions : ℤ → ℤ → List ℤ → ℕ
reports_of_motions least greatest [] = 0
reports_of_motions least greatest (m ∷ ms) =
    max (reports_of_motion least greatest m) (reports_of_motions least greatest ms)

-- how many reports the motions of an item take
abbrev pub reports_of_item : List ℤ → Controls → ℕ
reports_of_item ms head.None = 0
reports_of_item ms (head.Keys elements rolls count) = 0
reports_of_item ms (head.Elements Switch least greatest count) = 0
reports_of_item ms (head.Elements Value least greatest count) = 0
reports_of_item ms (head.Elements NullValue least greatest count) = 0
reports_of_item ms (head.Elements Relative least greatest count) = reports_of_motions least greatest ms

-- how many reports the motion of a control state takes
abbrev pub reports_of_state : ControlState → Controls → ℕ
reports_of_state Absent controls = 0
reports_of_state (Switches ps) controls = 0
reports_of_state (Values vs) controls = 0
reports_of_state (Motions ms) controls = reports_of_item ms controls
reports_of_state (RollOver ps) controls = 0

-- how many times report r takes all motion of its items
abbrev pub reports_of_items : ℕ → List Item → List ControlState → ℕ
reports_of_items r [] states = 0
reports_of_items r (item ∷ items) [] = 0
reports_of_items r (item ∷ items) (state ∷ states) =
    max (if is_of r item then reports_of_state state (controls_of_form item.form) else 0) (reports_of_items r items states)

-- the rounds that report r needs: as many as its motions take, and one at least where it is due. Example: none where nothing is
-- due, one for any number of keys, 79 for 10000 to the right
abbrev pub rounds_needed : List Item → ReportState → ℕ → ℕ
rounds_needed items d r = max (if is_due items d r then 1 else 0) (reports_of_items r items d.snapshot)

-- the clean polls that a device takes to send all that it has
abbrev pub polls_needed : List Item → LinkState → ℕ
polls_needed items s = polls_to_rest items (rounds_needed items s.reports) s

-- A device whose motion can be sent at first: after a history its endpoint isn't halted, and its controls stay as they are.
pub record StaysStill (items : List Item) (snapshot : List ControlState) (idle : List ℕ) (bus_events : List BusEvent)
    (steps : List OwnStep) : Type 0 where
  pub fits : FitsSnapshot items snapshot
  -- every relative control can send 0
  pub zeros : has_zeros items ≡ true
  pub sendable : AreSendable items snapshot
  pub sent : AreSentIn (length idle) items
  pub each : AllSetEach (length idle) bus_events
  pub going : (state_after_all items (initial_link items snapshot idle) bus_events).halted ≡ false
  pub still : AreStill (state_after_all items (initial_link items snapshot idle) bus_events).reports.idle steps

-- Both ends agree once as many polls lost nothing as the device needs, whatever other polls lose.
abbrev pub AgreesAfterCleanPolls : List Item → List ControlState → List ℕ → List BusEvent → List OwnStep → Type 0
AgreesAfterCleanPolls items snapshot idle bus_events steps =
    let s : LinkState = state_after_all items (initial_link items snapshot idle) bus_events in
    StaysStill items snapshot idle bus_events steps
    → polls_needed items s ≤ closed_count (fates_of steps)
    → IsAtRest items (state_after_steps items s steps)

-- The host has a control as the device had it earlier: pressed or not, and its value.
pub record HasFrom (earlier now : LinkState) (c : ControlId) : Type 0 where
  pub pressed : is_pressed (state_at now.view c.item) c.index ≡ is_pressed (state_at earlier.reports.snapshot c.item) c.index
  pub value : value_in (state_at now.view c.item) c.index ≡ value_in (state_at earlier.reports.snapshot c.item) c.index

-- Once as many polls lost nothing as the device needs, its host has each control as the device had it when changes stopped, but for
-- the keys of an array in rollover.
abbrev pub HasWhatWasPressed : List Item → List ControlState → List ℕ → List BusEvent → List OwnStep → Type 0
HasWhatWasPressed items snapshot idle bus_events steps =
    let s : LinkState = state_after_all items (initial_link items snapshot idle) bus_events in
    StaysStill items snapshot idle bus_events steps
    → polls_needed items s ≤ closed_count (fates_of steps)
    → (c : ControlId) → has_too_many_keys items s.reports.snapshot c.item ≡ false
    → HasFrom s (state_after_steps items s steps) c

-- Both ends agree within (k + 1) times the polls that the device needs, where at most k in a row lose something.
abbrev pub AgreesInTime : ℕ → List Item → List ControlState → List ℕ → List BusEvent → List OwnStep → Type 0
AgreesInTime k items snapshot idle bus_events steps =
    let s : LinkState = state_after_all items (initial_link items snapshot idle) bus_events in
    StaysStill items snapshot idle bus_events steps
    → IsFair k (fates_of steps) → (k + 1) * polls_needed items s ≤ length (fates_of steps)
    → IsAtRest items (state_after_steps items s steps)
