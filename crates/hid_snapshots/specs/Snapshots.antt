-- Snapshots of a device's controls, and the changes that are accepted
-- (our choice; the kinds of controls are those of HID 1.11, 6.2.2.5).
use Rattle.std.specs.Prelude.{◌≡◌, ℕ, ◌<◌, Bool, true, false, not, ◌&&◌, ◌||◌, nat_le, if◌then◌else◌, List, length, slice_get, slice_set, Option, Some, None, Result, Ok, Err, unwrap_or, ℤ, pos, ◌+ℤ◌, int_lt}
use Rattle.std.specs.Ordering.{int_eq}
use Rattle.hid_layout.specs.declared.control.Control.{Control}
use Rattle.hid_layout.specs.declared.control.ControlId.{ControlId}
use Rattle.hid_layout.specs.declared.control.Controls.{Controls}
use Rattle.hid_layout.specs.declared.control.Controls.TheVariants as head
use Rattle.hid_layout.specs.declared.control.ControlKind.{ControlKind}
use Rattle.hid_layout.specs.declared.control.ControlKind.TheVariants.{Switch, Value, NullValue, Relative}
use Rattle.hid_layout.specs.Controls.{Item, control_of, controls_of_form, form_at}
use Rattle.hid_snapshots.specs.declared.control_state.ControlState.{ControlState}
use Rattle.hid_snapshots.specs.declared.control_state.ControlState.TheVariants.{Absent, Switches, Values, Motions, RollOver}
use Rattle.hid_snapshots.specs.declared.change.Change.{Change}
use Rattle.hid_snapshots.specs.declared.change.Change.TheVariants.{Press, Release, Set, Null, Move}
use Rattle.hid_snapshots.specs.declared.fault.ChangeFault.{ChangeFault}
use Rattle.hid_snapshots.specs.declared.fault.ChangeFault.TheVariants.{NoSuchControl, WrongKind, OutOfRange, NoNull, NoDirection, MotionFull, ArrayFull}
use Rattle.hid_snapshots.specs.ControlStates.{is_in, is_i32, switch_count}

-- a value, or why a change is refused
abbrev pub OrFault : Type 0 → Type 0
OrFault A = Result A ChangeFault

-- the fault where the change is refused, else the rest
abbrev pub unless : {A : Type 0} → Bool → ChangeFault → OrFault A → OrFault A
unless refused fault rest = if refused then Err fault else rest

-- whether the place of a control state is pressed
abbrev pub is_pressed : ControlState → ℕ → Bool
is_pressed (Switches ps) j = unwrap_or (slice_get ps j) false
is_pressed state j = false

-- the motion of one element of a control state; 0 where it has none
abbrev pub motion_in : ControlState → ℕ → ℤ
motion_in (Motions ms) j = unwrap_or (slice_get ms j) (pos 0)
motion_in state j = pos 0

-- the control state with one place pressed or released
abbrev pub with_pressed : ControlState → ℕ → Bool → ControlState
with_pressed (Switches ps) j p = Switches (slice_set ps j p)
with_pressed state j p = state

-- the control state with one value set
abbrev pub with_value : ControlState → ℕ → Option ℤ → ControlState
with_value (Values vs) j v = Values (slice_set vs j v)
with_value state j v = state

-- the control state with one motion set
abbrev pub with_motion : ControlState → ℕ → ℤ → ControlState
with_motion (Motions ms) j m = Motions (slice_set ms j m)
with_motion state j m = state

-- how many places of a control state are pressed
abbrev pub pressed_count_in : ControlState → ℕ
pressed_count_in (Switches ps) = switch_count ps
pressed_count_in state = 0

-- all elements of an array are taken, and no code reports that more keys are pressed
abbrev pub is_full : Controls → ControlState → Bool
is_full (head.Keys elements rolls_over count) state = not rolls_over && nat_le elements (pressed_count_in state)
is_full (head.Elements kind least greatest count) state = false
is_full head.None state = false

-- an element of the item can carry the value
abbrev pub can_hold : Controls → ℤ → Bool
can_hold (head.Elements kind least greatest count) v = is_in least greatest v
can_hold (head.Keys elements rolls_over count) v = false
can_hold head.None v = false

-- some value that can be sent has the sign of the amount
abbrev pub has_direction : Controls → ℤ → Bool
has_direction (head.Elements kind least greatest count) by =
    int_eq by (pos 0) || ((int_lt (pos 0) by && int_lt (pos 0) greatest) || (int_lt by (pos 0) && int_lt least (pos 0)))
has_direction (head.Keys elements rolls_over count) by = false
has_direction head.None by = false

-- The control state of an item after a change, or the first fault that stands.
abbrev pub changed_state : ControlKind → Controls → ControlState → Change → OrFault ControlState
changed_state Switch controls state (Press c) =
    unless (not (is_pressed state c.index) && is_full controls state) ArrayFull (Ok (with_pressed state c.index true))
changed_state Switch controls state (Release c) = Ok (with_pressed state c.index false)
changed_state Value controls state (Set c v) =
    unless (not (can_hold controls v)) OutOfRange (Ok (with_value state c.index (Some v)))
changed_state Value controls state (Null c) = Err NoNull
changed_state NullValue controls state (Set c v) =
    unless (not (can_hold controls v)) OutOfRange (Ok (with_value state c.index (Some v)))
changed_state NullValue controls state (Null c) = Ok (with_value state c.index None)
changed_state Relative controls state (Move c by) =
    unless (not (has_direction controls by)) NoDirection
    (unless (not (is_i32 (motion_in state c.index +ℤ by))) MotionFull
    (Ok (with_motion state c.index (motion_in state c.index +ℤ by))))
changed_state kind controls state change = Err WrongKind

-- the control that a change names
abbrev pub target : Change → ControlId
target (Press c) = c
target (Release c) = c
target (Set c v) = c
target (Null c) = c
target (Move c by) = c

-- the control state at a place; one without controls after the last
abbrev pub state_at : List ControlState → ℕ → ControlState
state_at states i = unwrap_or (slice_get states i) Absent

-- the control states with one of them changed, unless that is refused
abbrev pub with_state : List ControlState → ℕ → OrFault ControlState → OrFault (List ControlState)
with_state states i (Ok state) = Ok (slice_set states i state)
with_state states i (Err fault) = Err fault

-- the control states once the control that is found there is changed; U1 where none is found
abbrev pub change_at : List Item → List ControlState → Change → Option Control → OrFault (List ControlState)
change_at items states change None = Err NoSuchControl
change_at items states change (Some control) =
    let i = (target change).item in
    with_state states i
    (changed_state control.kind (controls_of_form (form_at items i)) (state_at states i) change)

-- The snapshot after a change, or the first of U1 to U7, in this order, for which the change is refused. Example: 1 more
-- than a motion of 7FFFFFFF hex is U6
abbrev pub snapshot_after : List Item → List ControlState → Change → OrFault (List ControlState)
snapshot_after items states change = change_at items states change (control_of items (target change))

-- What a change does: it is done, or it is refused for the first of U1 to U7 that stands and the snapshot stays.
-- Example: 1 more than a motion of 7FFFFFFF hex is U6
abbrev pub Changes : List Item → List ControlState → Change → OrFault (Unit {0}) → List ControlState → Type 0
Changes items old change (Ok _) new = snapshot_after items old change ≡ Ok new
Changes items old change (Err fault) new = (snapshot_after items old change ≡ Err fault) × (new ≡ old)

-- what a change does to one control state: it is done, or it is refused and the control state stays
abbrev pub ChangesState : ControlKind → Controls → ControlState → Change → OrFault (Unit {0}) → ControlState
    → Type 0
ChangesState kind controls old change (Ok _) new = changed_state kind controls old change ≡ Ok new
ChangesState kind controls old change (Err fault) new = (changed_state kind controls old change ≡ Err fault) × (new ≡ old)

-- a control state has an element at an index
abbrev pub HasIndex : ControlState → ℕ → Type 0
HasIndex (Switches ps) j = j < length ps
HasIndex (Values vs) j = j < length vs
HasIndex (Motions ms) j = j < length ms
HasIndex (RollOver ps) j = Unit {0}
HasIndex Absent j = Unit {0}
