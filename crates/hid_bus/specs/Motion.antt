-- The motion of a control: what changes add to it, what events give of it, and what a link state still has (our
-- choice).
use Rattle.std.specs.Prelude.{◌≡◌, ℕ, Bool, true, false, not, ◌&&◌, ◌==◌, if◌then◌else◌, List, [], ◌∷◌, ◌++◌, length, map, Option, Some, None, Result, Ok, Err, ℤ, pos, ◌+ℤ◌}
use Rattle.hid_layout.specs.declared.control.ControlId.{ControlId}
use Rattle.hid_layout.specs.declared.control.ControlKind.TheVariants.{Switch, Value, NullValue, Relative}
use Rattle.hid_layout.specs.Controls.{Form, NoControls, Elements, Keys, Item}
use Rattle.hid_snapshots.specs.declared.control_state.ControlState.{ControlState}
use Rattle.hid_snapshots.specs.declared.control_state.ControlState.TheVariants.{Absent, Switches, Values, Motions, RollOver}
use Rattle.hid_snapshots.specs.declared.change.Change.{Change}
use Rattle.hid_snapshots.specs.declared.change.Change.TheVariants as change
use Rattle.hid_snapshots.specs.declared.fault.ChangeFault.{ChangeFault}
use Rattle.hid_snapshots.specs.declared.event.Event.{Event}
use Rattle.hid_snapshots.specs.declared.event.Event.TheVariants as event
use Rattle.hid_snapshots.specs.Parts.{is_of, item_at, motion_of}
use Rattle.hid_snapshots.specs.Snapshots.{snapshot_after}
use Rattle.hid_bus.specs.Rounds.{OwnStep, Changes, Frame, Polls}
use Rattle.hid_bus.specs.LinkState.{LinkState, OpenRound, has_all_pieces, state_after_step, state_after_steps, events_of_steps}
use Rattle.hid_bus.specs.DeviceHistory.{BusEvent, Own, Idles, Configures, Halts, Clears, Resets, state_after, state_after_all, events_of_history}

-- two IDs name the same control
abbrev pub is_same_control : ControlId → ControlId → Bool
is_same_control a b = (a.item == b.item) && (a.index == b.index)

-- what one event gives of a control's motion, delivered or dropped
abbrev pub motion_of_event : ControlId → Event → ℤ
motion_of_event c (event.Motion d u by) = if is_same_control d c then by else pos 0
motion_of_event c (event.Dropped d u by) = if is_same_control d c then by else pos 0
motion_of_event c (event.Down d u) = pos 0
motion_of_event c (event.Up d u) = pos 0
motion_of_event c (event.Value d u v) = pos 0
motion_of_event c (event.Null d u) = pos 0

-- the motion of a control that a list of events gives
abbrev pub motion_of_events : ControlId → List Event → ℤ
motion_of_events c [] = pos 0
motion_of_events c (e ∷ events) = motion_of_event c e +ℤ motion_of_events c events

-- what one accepted change adds to a control's motion
abbrev pub motion_of_change : ControlId → Change → ℤ
motion_of_change c (change.Move d by) = if is_same_control d c then by else pos 0
motion_of_change c (change.Press d) = pos 0
motion_of_change c (change.Release d) = pos 0
motion_of_change c (change.Set d v) = pos 0
motion_of_change c (change.Null d) = pos 0

-- what one own step adds to a control's motion: frames and polls add nothing
abbrev pub motion_of_step : ControlId → OwnStep → ℤ
motion_of_step c (Changes change) = motion_of_change c change
motion_of_step c Frame = pos 0
motion_of_step c (Polls fate) = pos 0

-- the motion that a list of steps adds to a control
abbrev pub motion_of_steps : ControlId → List OwnStep → ℤ
motion_of_steps c [] = pos 0
motion_of_steps c (s ∷ steps) = motion_of_step c s +ℤ motion_of_steps c steps

-- Motion is neither lost nor doubled: what was kept and what accepted steps added is what was given and what is kept.
abbrev pub Conserves : ControlId → List OwnStep → ℤ → List Event → ℤ → Type 0
Conserves c steps kept_before events kept_after =
    kept_before +ℤ motion_of_steps c steps ≡ motion_of_events c events +ℤ kept_after

-- what the open round carries of a control's motion, unless all its pieces have crossed
abbrev pub open_motion : List Item → List ControlState → Option OpenRound → ControlId → ℤ
open_motion items fixed None c = pos 0
open_motion items fixed (Some round) c =
    if not (has_all_pieces round) && is_of round.report (item_at items c.item) then motion_of fixed c else pos 0

-- the motion that a link state still has: in its snapshot, and in an open round that hasn't crossed. Example: of 200
-- moved 127 are given and 73 kept
abbrev pub link_motion : List Item → LinkState → ControlId → ℤ
link_motion items s c =
    motion_of s.reports.snapshot c +ℤ open_motion items s.reports.fixed s.current c

-- the result of a change that isn't refused
abbrev pub is_done : Result (List ControlState) ChangeFault → Bool
is_done (Ok item_states) = true
is_done (Err fault) = false

-- a change is accepted where the snapshot is changed by it; frames and polls are never refused
abbrev pub is_move_accepted : List Item → LinkState → OwnStep → Bool
is_move_accepted items s (Changes change) = is_done (snapshot_after items s.reports.snapshot change)
is_move_accepted items s Frame = true
is_move_accepted items s (Polls fate) = true

-- the step as a list, where it is kept, else an empty list
abbrev pub step_if : Bool → OwnStep → List OwnStep
step_if kept x = if kept then x ∷ [] else []

-- The steps without the changes that are refused where they come.
abbrev pub accepted_steps : List Item → LinkState → List OwnStep → List OwnStep
accepted_steps items s [] = []
accepted_steps items s (x ∷ steps) =
    step_if (is_move_accepted items s x) x ++ accepted_steps items (state_after_step items s x) steps

-- each change of these steps is accepted where it comes
abbrev pub are_accepted : List Item → LinkState → List OwnStep → Bool
are_accepted items s [] = true
are_accepted items s (x ∷ steps) =
    is_move_accepted items s x && are_accepted items (state_after_step items s x) steps

-- how many motions a control state keeps, if it keeps motions
abbrev pub kept_motions : ControlState → Option ℕ
kept_motions (Motions ms) = Some (length ms)
kept_motions Absent = None
kept_motions (Switches ps) = None
kept_motions (Values vs) = None
kept_motions (RollOver ps) = None

-- how many relative controls an item has, where it has such controls
abbrev pub relative_controls : Form → Option ℕ
relative_controls NoControls = None
relative_controls (Elements Switch least greatest us) = None
relative_controls (Elements Value least greatest us) = None
relative_controls (Elements NullValue least greatest us) = None
relative_controls (Elements Relative least greatest us) = Some (length us)
relative_controls (Keys elements rolls keys) = None

-- a motion is kept for each relative control of each item, and for no other
abbrev pub KeepsEach : List Item → List ControlState → Type 0
KeepsEach items item_states = map kept_motions item_states ≡ map (λ (item : Item). relative_controls item.form) items

-- The snapshot and the parts that were fixed last keep a motion for each relative control, and the view has a control
-- state for each item.
pub record HasMotions (items : List Item) (s : LinkState) : Type 0 where
  pub snapshot : KeepsEach items s.reports.snapshot
  pub fixed : KeepsEach items s.reports.fixed
  pub view : length s.view ≡ length items

-- Steps neither lose nor double the motion of any control.
abbrev pub KeepsMotion : List Item → LinkState → List OwnStep → Type 0
KeepsMotion items s steps =
    (c : ControlId) → Conserves c (accepted_steps items s steps) (link_motion items s c)
    (events_of_steps items s steps) (link_motion items (state_after_steps items s steps) c)

-- Steps that are all accepted neither lose nor double the motion of any control.
abbrev pub KeepsAccepted : List Item → LinkState → List OwnStep → Type 0
KeepsAccepted items s steps =
    (c : ControlId) → Conserves c steps (link_motion items s c)
    (events_of_steps items s steps) (link_motion items (state_after_steps items s steps) c)

-- the own steps of a history, without the changes that are refused where they come
abbrev pub accepted_steps_of_events : List Item → LinkState → List BusEvent → List OwnStep
accepted_steps_of_events items s [] = []
accepted_steps_of_events items s (Own x ∷ bus_events) =
    step_if (is_move_accepted items s x) x
    ++ accepted_steps_of_events items (state_after_step items s x) bus_events
accepted_steps_of_events items s (Idles idle ∷ bus_events) =
    accepted_steps_of_events items (state_after items s (Idles idle)) bus_events
accepted_steps_of_events items s (Configures ∷ bus_events) =
    accepted_steps_of_events items (state_after items s Configures) bus_events
accepted_steps_of_events items s (Halts ∷ bus_events) =
    accepted_steps_of_events items (state_after items s Halts) bus_events
accepted_steps_of_events items s (Clears ∷ bus_events) =
    accepted_steps_of_events items (state_after items s Clears) bus_events
accepted_steps_of_events items s (Resets ∷ bus_events) =
    accepted_steps_of_events items (state_after items s Resets) bus_events

-- A configuration takes effect only where no round is open. A halt, a clear and a reset may end one, and report its
-- motion as dropped.
abbrev pub IsBetweenRounds : LinkState → BusEvent → Type 0
IsBetweenRounds s (Own x) = Unit {0}
IsBetweenRounds s (Idles idle) = Unit {0}
IsBetweenRounds s Configures = s.current ≡ None
IsBetweenRounds s Halts = Unit {0}
IsBetweenRounds s Clears = Unit {0}
IsBetweenRounds s Resets = Unit {0}

-- no round is open at any configuration of a history
abbrev pub AreBetweenRounds : List Item → LinkState → List BusEvent → Type 0
AreBetweenRounds items s [] = Unit {0}
AreBetweenRounds items s (x ∷ bus_events) =
    IsBetweenRounds s x × AreBetweenRounds items (state_after items s x) bus_events

-- A history neither loses nor doubles the motion of any control, through idle times, halts, clears and resets, whose
-- drops are reported. Only a configuration would forget the motion of an open round.
abbrev pub KeepsThroughHistory : List Item → LinkState → List BusEvent → Type 0
KeepsThroughHistory items s bus_events =
    (c : ControlId) → Conserves c (accepted_steps_of_events items s bus_events) (link_motion items s c)
    (events_of_history items s bus_events) (link_motion items (state_after_all items s bus_events) c)
