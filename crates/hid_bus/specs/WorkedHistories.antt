-- Worked histories of known devices, by their events (USB 2.0, 8.5.4, 8.6, 9.4.5 and 9.4.7).
use Rattle.std.specs.Prelude.{◌≡◌, ℕ, Bool, false, List, [], ◌∷◌, map, ℤ}
use Rattle.hid_layout.specs.Controls.{Item}
use Rattle.hid_snapshots.specs.declared.change.Change.TheVariants as change
use Rattle.hid_snapshots.specs.declared.event.Event.{Event}
use Rattle.hid_snapshots.specs.declared.event.Event.TheVariants as event
use Rattle.hid_snapshots.specs.ControlStates.{blank}
use Rattle.hid_snapshots.specs.Events.{control_at}
use Rattle.hid_snapshots.specs.Samples.{usage}
use Rattle.hid_snapshots.specs.Parts.{blank_parts}
use Rattle.hid_bus.specs.ReportState.{ReportState}
use Rattle.hid_bus.specs.Rounds.{OwnStep, Changes, initial_history}
use Rattle.hid_bus.specs.LinkState.{LinkState, OpenRound, initial_link, state_after_steps}
use Rattle.hid_bus.specs.DeviceHistory.{BusEvent, outcomes_of_events, events_of_outcomes, state_after_all}

-- the control at place j of item i is pressed
abbrev pub press : ℕ → ℕ → OwnStep
press i j = Changes (change.Press (control_at i j))

-- the control at place j of item i is released
abbrev pub release : ℕ → ℕ → OwnStep
release i j = Changes (change.Release (control_at i j))

-- the control at place j of item i moves by an amount
abbrev pub move : ℕ → ℕ → ℤ → OwnStep
move i j by = Changes (change.Move (control_at i j) by)

-- the control at place j of item i is set to a value
abbrev pub set : ℕ → ℕ → ℤ → OwnStep
set i j v = Changes (change.Set (control_at i j) v)

-- the event that a key of the keyboard goes down: a place of item 4
abbrev pub key_down : ℕ → Event
key_down id = event.Down (control_at 4 id) (usage 7 id)

-- the event that a key of the keyboard goes up: a place of item 4
abbrev pub key_up : ℕ → Event
key_up id = event.Up (control_at 4 id) (usage 7 id)

-- the event that the first button of the mouse goes down: item 0
abbrev pub button_down : Event
button_down = event.Down (control_at 0 0) (usage 9 1)

-- the event that the first button of the mouse goes up: item 0
abbrev pub button_up : Event
button_up = event.Up (control_at 0 0) (usage 9 1)

-- the event that the mouse moves to the right: item 2
abbrev pub motion_x : ℤ → Event
motion_x by = event.Motion (control_at 2 0) (usage 1 0x30) by

-- the event that a motion of the mouse to the right is dropped: item 2
abbrev pub drop_x : ℤ → Event
drop_x by = event.Dropped (control_at 2 0) (usage 1 0x30) by

-- the event of the first of many values along x in one report
abbrev pub value_x : ℤ → Event
value_x v = event.Value (control_at 0 0) (usage 1 0x30) v

-- the event of the first of many motions along x in one report
abbrev pub first_motion_x : ℤ → Event
first_motion_x by = event.Motion (control_at 0 0) (usage 1 0x30) by

-- the event that the first of many motions along x in one report is dropped
abbrev pub first_drop_x : ℤ → Event
first_drop_x by = event.Dropped (control_at 0 0) (usage 1 0x30) by

-- an open round of the first report with n pieces, by the place of its current piece, and whether that has crossed
abbrev pub open_at : ℕ → ℕ → Bool → OpenRound
open_at pieces piece crossed = record { report = 0; pieces = pieces; piece = piece; crossed = crossed }

-- a device that was just configured, with nothing pressed or moved, one report and an idle time, has these events in a
-- history
abbrev pub HistoryGives : List Item → ℕ → List BusEvent → List Event → Type 0
HistoryGives items idle bus_events events =
    events_of_outcomes items (blank items)
    (outcomes_of_events items bus_events (initial_history items (blank items) (idle ∷ []))) ≡ events

-- the link state after a history of a device that was just configured, with nothing pressed or moved, one report and an
-- idle time
abbrev pub state_after_events : List Item → ℕ → List BusEvent → LinkState
state_after_events items idle bus_events =
    state_after_all items (initial_link items (blank items) (idle ∷ [])) bus_events

-- the link state after own steps of a device that was just configured, with nothing pressed or moved, one report and no
-- idle time
abbrev pub state_after_own_steps : List Item → List OwnStep → LinkState
state_after_own_steps items steps = state_after_steps items (initial_link items (blank items) (0 ∷ [])) steps

-- a device with nothing pressed or moved and no idle times, and n frames counted for each report
abbrev pub with_frames : List Item → List ℕ → ReportState
with_frames items frames = record {
  snapshot = blank items;
  fixed = blank_parts items;
  frames = frames;
  idle = map (λ n. 0) frames;
  aborted = map (λ n. false) frames;
}
