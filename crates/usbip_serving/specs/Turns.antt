-- When an action comes at a device that is served, and what it does (our choice: docs/USBIP.md).
use Rattle.std.specs.Prelude.{◌≡◌, ℕ, zero, suc, ◌+◌, ◌-◌, ◌^◌, ◌==◌, ◌&&◌, not, min, nat_le, Bool, false, if◌then◌else◌, List, length, slice_get, Option, Some, None, is_some, Result, Ok, Err, MatchResult}
use Rattle.hid_layout.specs.Controls.{items_of}
use Rattle.hid_snapshots.specs.declared.change.Change.{Change as OneChange}
use Rattle.hid_snapshots.specs.declared.fault.ChangeFault.{ChangeFault}
use Rattle.hid_snapshots.specs.declared.control_state.ControlState.{ControlState}
use Rattle.hid_snapshots.specs.Snapshots.{snapshot_after}
use Rattle.hid_device.specs.Core.{changed_core, framed_core, reset_core}
use Rattle.hid_gadget.specs.Gadgets.{halted_gadget}
use Rattle.hid_gadget.specs.Rooms.{with_front}
use Rattle.usbip_export.specs.declared.exported_device.ExportedDevice.{ExportedDevice}
use Rattle.usbip_export.specs.Connections.{changed_at, devices_after_report, place_of_stage, report_answer}
use Rattle.usbip_serving.specs.declared.action.Action.{Action}
use Rattle.usbip_serving.specs.declared.action.Action.TheVariants.{Change, Halt, Reset, Frames}
use Rattle.usbip_serving.specs.declared.action.Turn.{Turn}
use Rattle.usbip_serving.specs.declared.action.Turn.TheVariants.{Sends, Acted, Waits}
use Rattle.usbip_serving.specs.declared.serving.Serving.{Serving}

-- ---- when an action comes

-- the device at the place that a host has, if it has one
abbrev pub device_at : List ExportedDevice → Option ℕ → Option ExportedDevice
device_at ds None = None
device_at ds (Some place) = slice_get ds place

-- The host of a device asks for a report: the device is configured, and a submit waits.
abbrev pub asks : Option ExportedDevice → Bool
asks None = false
asks (Some d) = d.gadget.is_configured && is_some (slice_get d.pending 0)

-- What a turn does: it sends a report, carries out an action, or waits.
pub data Move : Type 0 where
  Sending : Move
  Acting : (action : Action) → Move
  Waiting : Move

-- an action is carried out, if there is one
abbrev pub acting : Option Action → Move
acting None = Waiting
acting (Some action) = Acting action

-- The next action may come: the host asks for a report, and the time of the last frames is over.
abbrev pub may_act : Serving → List ExportedDevice → ℕ → Bool
may_act s ds now = asks (device_at ds (place_of_stage s.connection.stage)) && nat_le s.due now

-- What a turn does. A report that is asked for and due goes first. The next action comes once the host asks for a report, none
-- is due, and the time of the last frames is over; so the host has taken all that came before.
abbrev pub move_of : Serving → List ExportedDevice → List Action → ℕ → Move
move_of s ds actions now =
    if not (length (report_answer ds s.connection.stage) == 0) then Sending
    else if may_act s ds now
    then acting (slice_get actions s.done) else Waiting

-- ---- what an action does

-- The devices with that at a place changed, where it is the one that the host has.
abbrev pub changed_if : List ExportedDevice → Option ℕ → ℕ → (ExportedDevice → ExportedDevice) → List ExportedDevice
changed_if ds None at change = ds
changed_if ds (Some place) at change = if place == at then changed_at ds at change else ds

-- a device after a change of one of its controls
abbrev pub with_change : OneChange → ExportedDevice → ExportedDevice
with_change change d = record d { gadget = changed_core d.gadget change }

-- a device after a halt of the endpoint of its reports
abbrev pub with_halt : ExportedDevice → ExportedDevice
with_halt d = record d { gadget = halted_gadget d.gadget }

-- a device after a reset
abbrev pub with_reset : ExportedDevice → ExportedDevice
with_reset d = record d { gadget = reset_core d.gadget }

-- The devices after an action, where the host has that at this place: an action of another device is passed over.
abbrev pub devices_after_action : List ExportedDevice → Option ℕ → Action → List ExportedDevice
devices_after_action ds place (Change at change) = changed_if ds place at (with_change change)
devices_after_action ds place (Halt at) = changed_if ds place at with_halt
devices_after_action ds place (Reset at) = changed_if ds place at with_reset
devices_after_action ds place (Frames count) = ds

-- the device at a place, where it is the one that the host has
abbrev pub device_if : List ExportedDevice → Option ℕ → ℕ → Option ExportedDevice
device_if ds None at = None
device_if ds (Some place) at = if place == at then slice_get ds at else None

-- why there is no snapshot, if there is none
abbrev pub fault_of : Result (List ControlState) ChangeFault → Option ChangeFault
fault_of (Ok states) = None
fault_of (Err fault) = Some fault

-- Why a change is refused at this device: the first of U1 to U7 that stands. Where there is no device nothing is refused.
abbrev pub refusal_at : Option ExportedDevice → OneChange → Option ChangeFault
refusal_at None change = None
refusal_at (Some d) change = fault_of (snapshot_after (items_of d.gadget.layout) d.gadget.reports.snapshot change)

-- Why an action is refused, if it is: a change of a control alone can be. Example: 1 more than a motion of 7FFFFFFF hex is U6
abbrev pub refusal_of : List ExportedDevice → Option ℕ → Action → Option ChangeFault
refusal_of ds place (Change at change) = refusal_at (device_if ds place at) change
refusal_of ds place (Halt at) = None
refusal_of ds place (Reset at) = None
refusal_of ds place (Frames count) = None

-- When the action after this one may come: after frames, once they are over.
abbrev pub due_after : ℕ → ℕ → Action → ℕ
due_after due now (Frames count) = min (now + count) (2 ^ 64 - 1)
due_after due now _ = due

-- an action that is done is done once
abbrev pub after_action : Serving → ℕ → Action → Serving
after_action s now action = record s { due = due_after s.due now action; done = s.done + 1 }

-- ---- what a turn leaves

-- what a turn leaves: what it returns, the devices, and the room
pub record Leaves (result : Result Turn ChangeFault) (turn : Turn) (next before : Serving) (after left : List ExportedDevice)
    (written room : List ℕ) : Type 0 where
  pub told : result ≡ Ok turn
  pub serving : next ≡ before
  pub devices : after ≡ left
  pub filled : written ≡ room

-- What an action leaves. It is done; or it is refused for its cause, the device stays, and the action comes again.
pub record LeavesAction (s : Serving) (ds : List ExportedDevice) (now : ℕ) (room : List ℕ) (action : Action)
    (result : Result Turn ChangeFault) (next : Serving) (after : List ExportedDevice) (written : List ℕ) : Type 0 where
  pub ended : MatchResult result
      (λ told. (told ≡ Acted) × (refusal_of ds (place_of_stage s.connection.stage) action ≡ None)
      × (next ≡ after_action s now action))
      (λ fault. (refusal_of ds (place_of_stage s.connection.stage) action ≡ Some fault) × (next ≡ s))
  pub devices : after ≡ devices_after_action ds (place_of_stage s.connection.stage) action
  pub filled : written ≡ room

-- What a turn leaves that sends, acts or waits.
abbrev pub Turns : Serving → List ExportedDevice → ℕ → List ℕ → Move → Result Turn ChangeFault → Serving
    → List ExportedDevice → List ℕ → Type 0
Turns s ds now room Sending result next after written =
    Leaves result (Sends (length (report_answer ds s.connection.stage))) next s after
    (devices_after_report ds s.connection.stage) written (with_front (report_answer ds s.connection.stage) room)
Turns s ds now room (Acting action) result next after written =
    LeavesAction s (devices_after_report ds s.connection.stage) now room action result next after written
Turns s ds now room Waiting result next after written =
    Leaves result Waits next s after (devices_after_report ds s.connection.stage) written room

-- ---- frames

-- a device after a frame of 1 ms
abbrev pub with_frame : ExportedDevice → ExportedDevice
with_frame d = record d { gadget = framed_core d.gadget }

-- a device after this many frames
abbrev pub after_frames : ℕ → ExportedDevice → ExportedDevice
after_frames zero d = d
after_frames (suc n) d = with_frame (after_frames n d)

-- How many frames are over by the clock since this much of it passed, 1,020 at most: no idle time is longer (HID 1.11, 7.2.4).
abbrev pub frames_over : ℕ → ℕ → ℕ
frames_over passed now = min (now - passed) 1020
