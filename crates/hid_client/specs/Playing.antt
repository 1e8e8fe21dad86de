-- What is known of a device that was attached to an empty bus, after some steps: its events, and its
-- host's view (USB 2.0, 8.5.4 and 8.6).
use Rattle.std.specs.Prelude.{◌≡◌, ◌⊎◌, ℕ, Bool, List, [], ◌∷◌, replicate}
use Rattle.hid_layout.specs.declared.control.ControlId.{ControlId}
use Rattle.hid_layout.specs.Controls.{items_of}
use Rattle.hid_layout.specs.Layout.{Contents}
use Rattle.hid_snapshots.specs.declared.control_state.ControlState.{ControlState}
use Rattle.hid_snapshots.specs.declared.event.Event.{Event}
use Rattle.hid_usages.specs.ControlStates.{blank}
use Rattle.hid_usages.specs.Snapshots.{is_pressed, state_at}
use Rattle.hid_device.specs.declared.config.Config.{Config}
use Rattle.hid_device.specs.Inputs.{input_count}
use Rattle.hid_bus.specs.Rounds.{Round, crossed_rounds, events_of_rounds, view_after_rounds}
use Rattle.hid_bus.specs.declared.step.Step.{Step}
use Rattle.hid_bus.specs.declared.step.Delivered.{Delivered}
use Rattle.hid_bus.specs.Delivered.{from_device}
use Rattle.hid_host.specs.declared.fault.StackFault.{StackFault}
use Rattle.hid_host.specs.declared.fault.StackFault.TheVariants.{Memory}
use Rattle.hid_stack.specs.Attaching.{CanAttach, IsAttachFault}
use Rattle.hid_stack.specs.Members.{fresh_member}
use Rattle.hid_stack.specs.Rig.{HasOnlySchedule, StopsAt, device_steps}

-- The rounds of device 1 that crossed: at first nothing is pressed, nothing has moved, and no idle time
-- is set.
abbrev pub rounds_played : Contents → List Step → List Round
rounds_played layout steps =
    crossed_rounds (items_of layout)
    (blank (items_of layout)) (replicate (input_count layout.reports) 0) (device_steps 1 steps)

-- The events of device 1's rounds that crossed: the changes between their parts, from the initial view on.
abbrev pub events_played : Contents → List Step → List Event
events_played layout steps =
    events_of_rounds (items_of layout) (blank (items_of layout)) (rounds_played layout steps)

-- The view that took the parts of device 1's rounds that crossed.
abbrev pub view_played : Contents → List Step → List ControlState
view_played layout steps =
    view_after_rounds (items_of layout) (blank (items_of layout)) (rounds_played layout steps)

-- The device has a layout that suits it; if no step is of a transfer, a halt or a reset, its events are those of the
-- rounds that crossed, and a control is held exactly if the view that took their parts holds it. Example: press, lost
-- ACK, press, two clean polls: down 07:04, down 07:05, and 07:05 is held
pub record IsPlayed (config : Config) (descriptor : List ℕ) (steps : List Step) (control : ControlId)
    (given : List Delivered) (is_held : Bool) : Type 0 where
  pub layout : Contents
  pub suits : CanAttach 1 config descriptor layout
  pub events : HasOnlySchedule 1 steps → from_device 1 given ≡ events_played layout steps
  pub held : HasOnlySchedule 1 steps
      → is_held ≡ is_pressed (state_at (view_played layout steps) control.item) control.index

-- A step is refused on the bus that has this device alone, once those before it are done.
pub record IsStopped (config : Config) (descriptor : List ℕ) (steps : List Step) (fault : StackFault) : Type 0 where
  pub layout : Contents
  pub suits : CanAttach 1 config descriptor layout
  pub at : ℕ
  pub stops : StopsAt (fresh_member 1 config descriptor layout ∷ []) steps at fault

-- Why nothing is reported: out of memory, no such device, or a step that is refused. Example: a press of item 9 of the
-- boot keyboard is S3 U1
abbrev pub IsNotPlayed : Config → List ℕ → List Step → StackFault → Type 0
IsNotPlayed config descriptor steps fault =
    (fault ≡ Memory) ⊎ IsAttachFault 1 config descriptor fault ⊎ IsStopped config descriptor steps fault
