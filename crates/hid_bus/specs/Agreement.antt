-- When a device and its host agree: the device has nothing to send, so that polls are answered by NAK, and the host has what
-- is pressed (USB 2.0, 8.4.6 and 8.5.4; HID 1.11, 7.2.4 and 8; our choice).
use Rattle.std.specs.Prelude.{◌≡◌, ℕ, ◌<◌, Bool, true, false, List, [], ◌∷◌, length, Some, None, pos}
use Rattle.hid_layout.specs.declared.control.ControlId.{ControlId}
use Rattle.hid_layout.specs.Controls.{NoControls, Item, controls_of_form, form_at}
use Rattle.hid_snapshots.specs.declared.control_state.ControlState.{ControlState}
use Rattle.hid_snapshots.specs.declared.control_state.ControlState.TheVariants.{Absent, Switches, Values, Motions, RollOver}
use Rattle.hid_snapshots.specs.ControlStates.{FitsSnapshot}
use Rattle.hid_snapshots.specs.Parts.{shown_state, motion_of}
use Rattle.hid_snapshots.specs.Snapshots.{is_pressed, state_at}
use Rattle.hid_snapshots.specs.Views.{value_in}
use Rattle.hid_bus.specs.ReportState.{first_due}
use Rattle.usb_transact.specs.declared.transaction.Fate.{Fate}
use Rattle.hid_bus.specs.Rounds.{Polls}
use Rattle.hid_bus.specs.LinkState.{LinkState, initial_link, state_at_token, state_after_step, events_of_step}
use Rattle.hid_bus.specs.Motion.{open_motion}
use Rattle.hid_bus.specs.DeviceHistory.{BusEvent, Own, Idles, Configures, Halts, Clears, Resets, state_after_all}

-- The device has nothing to send: no round is open, the endpoint isn't halted and no report is due. Exactly then a poll whose
-- token arrives is answered by NAK.
pub record HasNothingToSend (items : List Item) (s : LinkState) : Type 0 where
  pub current : s.current ≡ None
  pub halted : s.halted ≡ false
  pub none_due : first_due items s.reports ≡ None

-- A poll whose token arrives is answered by NAK: no round is open once the token arrived, and the endpoint isn't halted, which
-- would answer STALL (USB 2.0, 8.4.5 and 8.5.4).
pub record AnswersNak (items : List Item) (s : LinkState) : Type 0 where
  pub halted : s.halted ≡ false
  pub none_opens : (state_at_token items s).current ≡ None

-- If the device has nothing to send, a poll delivers nothing and changes neither end, whatever is lost of it.
abbrev pub IsUnmoved : List Item → LinkState → Fate → Type 0
IsUnmoved items s fate =
    HasNothingToSend items s
    → (events_of_step items s (Polls fate) ≡ []) × (state_after_step items s (Polls fate) ≡ s)

-- a control state is shown as rolled over
abbrev pub is_rolled : ControlState → Bool
is_rolled (RollOver ps) = true
is_rolled Absent = false
is_rolled (Switches ps) = false
is_rolled (Values vs) = false
is_rolled (Motions ms) = false

-- More keys of an item are pressed than it has elements, so that its report shows none of them (HID 1.11, appendix C).
-- Example: seven keys of a boot keyboard
abbrev pub has_too_many_keys : List Item → List ControlState → ℕ → Bool
has_too_many_keys items snapshot i =
    is_rolled (shown_state (controls_of_form (form_at items i)) (state_at snapshot i))

-- Host and device agree on a control: it is pressed in the view exactly if it is pressed in the snapshot, it has the same
-- value in both, and no motion of it is left.
pub record AgreesOn (items : List Item) (s : LinkState) (c : ControlId) : Type 0 where
  pub pressed : is_pressed (state_at s.view c.item) c.index ≡ is_pressed (state_at s.reports.snapshot c.item) c.index
  pub value : value_in (state_at s.view c.item) c.index ≡ value_in (state_at s.reports.snapshot c.item) c.index
  pub motion : motion_of s.reports.snapshot c ≡ pos 0
  pub in_round : open_motion items s.reports.fixed s.current c ≡ pos 0

-- Host and device agree on each control of each item, except an array with too many keys pressed: the host keeps the keys
-- that it had of such an array.
abbrev pub Agrees : List Item → LinkState → Type 0
Agrees items s =
    (c : ControlId) → has_too_many_keys items s.reports.snapshot c.item ≡ false → AgreesOn items s c

-- an item is in one of the first n reports, or has no controls
abbrev pub IsSentIn : ℕ → Item → Type 0
IsSentIn n item = elim item.report [ None ↦ item.form ≡ NoControls | Some r ↦ r < n ]

-- each item is in one of the first n reports, or has no controls
abbrev pub AreSentIn : ℕ → List Item → Type 0
AreSentIn n [] = Unit {0}
AreSentIn n (item ∷ items) = IsSentIn n item × AreSentIn n items

-- idle times that are set are n, one for each report
abbrev pub SetsEach : ℕ → BusEvent → Type 0
SetsEach n (Own x) = Unit {0}
SetsEach n (Idles idle) = length idle ≡ n
SetsEach n Configures = Unit {0}
SetsEach n Halts = Unit {0}
SetsEach n Clears = Unit {0}
SetsEach n Resets = Unit {0}

-- a history sets n idle times whenever it sets any, one for each report
abbrev pub AllSetEach : ℕ → List BusEvent → Type 0
AllSetEach n [] = Unit {0}
AllSetEach n (x ∷ bus_events) = SetsEach n x × AllSetEach n bus_events

-- No key is left stuck: after any history of a device that was just configured, host and device agree if the device has
-- nothing to send. The history has any changes, frames, idle times, halts, clears, configurations, resets, and polls with any
-- losses.
abbrev pub AgreesAtNak : List Item → List ControlState → List ℕ → List BusEvent → Type 0
AgreesAtNak items snapshot idle bus_events =
    let s : LinkState = state_after_all items (initial_link items snapshot idle) bus_events in
    FitsSnapshot items snapshot → AreSentIn (length idle) items → AllSetEach (length idle) bus_events
    → HasNothingToSend items s → Agrees items s
