-- What comes of the bytes that a connection gets, of a report, and of its end (USB/IP, as Linux speaks it).
use Rattle.std.specs.Prelude.{◌≡◌, ◌≢◌, ℕ, ◌==◌, not, Bool, if◌then◌else◌, List, [], length, slice_get, slice_set, Option, Some, None, Result, Ok, Err}
use Rattle.usbip.specs.declared.message.Status.{Status}
use Rattle.usbip.specs.declared.message.Submit.{Submit}
use Rattle.usbip.specs.declared.message.Unlink.{Unlink}
use Rattle.usbip.specs.declared.message.Command.{Command}
use Rattle.usbip.specs.declared.message.Command.TheVariants as commands
use Rattle.usbip.specs.declared.operation.Operation.{Operation as Asked}
use Rattle.usbip.specs.declared.operation.Operation.TheVariants as operations
use Rattle.usbip.specs.declared.operation.OperationStatus.{OperationStatus}
use Rattle.usbip.specs.declared.operation.OperationStatus.TheVariants.{Busy, NoDevice}
use Rattle.usbip.specs.Messages.{IsCommand, data_length}
use Rattle.usbip.specs.Operations.{IsOperation}
use Rattle.usbip.specs.Faults.{IsCommandFault, IsOperationFault}
use Rattle.hid_gadget.specs.Rooms.{with_front}
use Rattle.usbip_export.specs.declared.fault.ExportFault.{ExportFault}
use Rattle.usbip_export.specs.declared.fault.ExportFault.TheVariants.{Message, OtherDevice}
use Rattle.usbip_export.specs.declared.answer.Answer.{Answer}
use Rattle.usbip_export.specs.declared.connection.Stage.{Stage}
use Rattle.usbip_export.specs.declared.connection.Stage.TheVariants.{Operation, BusId, Command as AtCommand, Data, Over}
use Rattle.usbip_export.specs.declared.exported_device.ExportedDevice.{ExportedDevice}
use Rattle.usbip_export.specs.ExportedDevices.{answer_of_report, answer_to_submit, answer_to_unlink, device_after_end, device_after_import, device_after_report, device_after_submit, device_after_unlink, reply_at_submit, status_of_reply}
use Rattle.usbip_export.specs.Descriptions.{device_number, import_bytes, list_bytes, named_place, refused_import_bytes}

-- in bytes, what a connection takes next; nothing where it is over
abbrev pub bytes_wanted : Stage → ℕ
bytes_wanted Operation = 8
bytes_wanted BusId = 32
bytes_wanted (AtCommand place) = 48
bytes_wanted (Data place s) = data_length s.direction s.length
bytes_wanted Over = 0

-- What comes of bytes: how far their connection has come, the devices, and the answer.
pub record Outcome : Type 0 where
  pub stage : Stage
  pub devices : List ExportedDevice
  pub answer : List ℕ

-- ---- before a device is imported

-- A request for the list of devices is answered, and the connection is over. Of a request for a device the bus ID follows.
abbrev pub after_operation : List ExportedDevice → Asked → Outcome
after_operation ds operations.DeviceList = record { stage = Over; devices = ds; answer = list_bytes ds }
after_operation ds operations.Import = record { stage = BusId; devices = ds; answer = [] }

-- a device that the host doesn't get: the connection is over
abbrev pub after_refused_import : List ExportedDevice → OperationStatus → Outcome
after_refused_import ds status = record { stage = Over; devices = ds; answer = refused_import_bytes status }

-- the device at a place that the host gets: commands for it come next
abbrev pub imported_outcome : List ExportedDevice → ℕ → ExportedDevice → Outcome
imported_outcome ds place d =
    record {
      stage = AtCommand place;
      devices = slice_set ds place (device_after_import d);
      answer = import_bytes place d;
    }

-- A device that is asked for: one that another connection has is busy, and there may be none.
abbrev pub after_import_of : List ExportedDevice → ℕ → Option ExportedDevice → Outcome
after_import_of ds place None = after_refused_import ds NoDevice
after_import_of ds place (Some d) =
    if d.imported then after_refused_import ds Busy else imported_outcome ds place d

-- the device at a place that is asked for, if a place is
abbrev pub after_import_at : List ExportedDevice → Option ℕ → Outcome
after_import_at ds None = after_refused_import ds NoDevice
after_import_at ds (Some place) = after_import_of ds place (slice_get ds place)

-- The device of a bus ID is asked for. Example: of two devices 1-3 is refused with 4, no such device
abbrev pub after_bus_id : List ExportedDevice → List ℕ → Outcome
after_bus_id ds id = after_import_at ds (named_place id)

-- ---- commands

-- the connection of a device that isn't among these is over
abbrev pub without_device : List ExportedDevice → Outcome
without_device ds = record { stage = Over; devices = ds; answer = [] }

-- a submit with its data for this device, if there is one
abbrev pub after_submit_to : List ExportedDevice → ℕ → Submit → List ℕ → Option ExportedDevice → Outcome
after_submit_to ds place s sent None = without_device ds
after_submit_to ds place s sent (Some d) =
    record {
      stage = AtCommand place;
      devices = slice_set ds place (device_after_submit d s sent);
      answer = answer_to_submit d s;
    }

-- a submit with its data for the device at a place
abbrev pub after_submit : List ExportedDevice → ℕ → Submit → List ℕ → Outcome
after_submit ds place s sent = after_submit_to ds place s sent (slice_get ds place)

-- an unlink for this device, if there is one
abbrev pub after_unlink_of : List ExportedDevice → ℕ → Unlink → Option ExportedDevice → Outcome
after_unlink_of ds place u None = without_device ds
after_unlink_of ds place u (Some d) =
    record {
      stage = AtCommand place;
      devices = slice_set ds place (device_after_unlink d u);
      answer = answer_to_unlink d u;
    }

-- data follow the header of a submit
abbrev pub has_data : Submit → Bool
has_data s = not (data_length s.direction s.length == 0)

-- a submit whose data come next
abbrev pub data_outcome : List ExportedDevice → ℕ → Submit → Outcome
data_outcome ds place s = record { stage = Data place s; devices = ds; answer = [] }

-- A command for the device at a place. The data of a submit come first, where it has some.
abbrev pub after_command : List ExportedDevice → ℕ → Command → Outcome
after_command ds place (commands.Submit s) =
    if has_data s then data_outcome ds place s else after_submit ds place s []
after_command ds place (commands.Unlink u) = after_unlink_of ds place u (slice_get ds place)

-- the number of the device that a command names
abbrev pub named_device : Command → ℕ
named_device (commands.Submit s) = s.device
named_device (commands.Unlink u) = u.device

-- ---- reports, and the end

-- the devices with this one at a place changed, if there is one
abbrev pub with_device : List ExportedDevice → ℕ → (ExportedDevice → ExportedDevice) → Option ExportedDevice → List ExportedDevice
with_device ds place change None = ds
with_device ds place change (Some d) = slice_set ds place (change d)

-- the devices once the one at a place was changed
abbrev pub changed_at : List ExportedDevice → ℕ → (ExportedDevice → ExportedDevice) → List ExportedDevice
changed_at ds place change = with_device ds place change (slice_get ds place)

-- the place of the device that a connection has
abbrev pub place_of_stage : Stage → Option ℕ
place_of_stage (AtCommand place) = Some place
place_of_stage (Data place submit) = Some place
place_of_stage Operation = None
place_of_stage BusId = None
place_of_stage Over = None

-- the devices once that at the place of a connection was changed, if it has one
abbrev pub changed_device : List ExportedDevice → (ExportedDevice → ExportedDevice) → Option ℕ → List ExportedDevice
changed_device ds change None = ds
changed_device ds change (Some place) = changed_at ds place change

-- The devices after the end of a connection at this stage: nothing of its device waits, and nobody has that.
abbrev pub devices_after_end : List ExportedDevice → Stage → List ExportedDevice
devices_after_end ds stage = changed_device ds device_after_end (place_of_stage stage)

-- the devices once a connection at this stage asked for a report
abbrev pub devices_after_report : List ExportedDevice → Stage → List ExportedDevice
devices_after_report ds stage = changed_device ds device_after_report (place_of_stage stage)

-- what a device sends when a report is asked of it; nothing where there is no device
abbrev pub report_of : Option ExportedDevice → List ℕ
report_of None = []
report_of (Some d) = answer_of_report d

-- what the device at a place sends when a report is asked of it, if there is one
abbrev pub report_at : List ExportedDevice → Option ℕ → List ℕ
report_at ds None = []
report_at ds (Some place) = report_of (slice_get ds place)

-- what a connection at this stage sends where a report is asked for
abbrev pub report_answer : List ExportedDevice → Stage → List ℕ
report_answer ds stage = report_at ds (place_of_stage stage)

-- ---- what is taken

-- the status of the reply that this device gives a submit at once, if it does
abbrev pub status_at : Submit → Option ExportedDevice → Option Status
status_at s None = None
status_at s (Some d) = status_of_reply (reply_at_submit d s)

-- The status of the reply to a submit whose data come at this stage, where it is answered at once. At other stages there is none.
abbrev pub status_at_data : List ExportedDevice → Stage → Option Status
status_at_data ds (Data place s) = status_at s (slice_get ds place)
status_at_data ds _ = None

-- how many bytes of an answer there are
abbrev pub length_of : Result Answer ExportFault → Result ℕ ExportFault
length_of (Ok answer) = Ok answer.length
length_of (Err fault) = Err fault

-- What is left where bytes were taken: how many bytes of the answer there are, the stage, the devices, and the room with the
-- answer at its front.
pub record IsLeft (outcome : Outcome) (room : List ℕ) (n : ℕ) (next : Stage) (after : List ExportedDevice)
    (written : List ℕ) : Type 0 where
  pub count : n ≡ length outcome.answer
  pub stage : next ≡ outcome.stage
  pub devices : after ≡ outcome.devices
  pub filled : written ≡ with_front outcome.answer room

-- What is left where bytes were refused: the connection is over, and nothing is answered.
pub record IsEnded (before : Stage) (old : List ExportedDevice) (room : List ℕ) (next : Stage)
    (after : List ExportedDevice) (written : List ℕ) : Type 0 where
  pub stage : next ≡ Over
  pub devices : after ≡ devices_after_end old before
  pub filled : written ≡ room

-- why the head of an operation is refused
abbrev pub IsHeadRefusal : ExportFault → List ℕ → Type 0
IsHeadRefusal (Message fault) head = IsOperationFault fault head
IsHeadRefusal OtherDevice head = ⊥

-- why the header of a command for the device at a place is refused: it is none, or it names another device
abbrev pub IsHeaderRefusal : ℕ → ExportFault → List ℕ → Type 0
IsHeaderRefusal place (Message fault) header = IsCommandFault fault header
IsHeaderRefusal place OtherDevice header =
    (command : Command) × IsCommand header command × (named_device command ≢ device_number place)

-- what 8 bytes leave: those of an operation what it does, others the end
abbrev pub TakesHead : List ExportedDevice → List ℕ → List ℕ → Result ℕ ExportFault → Stage → List ExportedDevice → List ℕ → Type 0
TakesHead ds head room (Ok n) stage devices filled =
    (operation : Asked) × IsOperation head operation × IsLeft (after_operation ds operation) room n stage devices filled
TakesHead ds head room (Err fault) stage devices filled =
    IsHeadRefusal fault head × IsEnded Operation ds room stage devices filled

-- what 48 bytes leave: those of a command for the device what it does, others the end
abbrev pub TakesHeader : ℕ → List ExportedDevice → List ℕ → List ℕ → Result ℕ ExportFault → Stage → List ExportedDevice → List ℕ → Type 0
TakesHeader place ds header room (Ok n) stage devices filled =
    (command : Command) × IsCommand header command × (named_device command ≡ device_number place)
    × IsLeft (after_command ds place command) room n stage devices filled
TakesHeader place ds header room (Err fault) stage devices filled =
    IsHeaderRefusal place fault header × IsEnded (AtCommand place) ds room stage devices filled

-- what bytes leave that can't be refused
abbrev pub TakesAny : Outcome → List ℕ → Result ℕ ExportFault → Stage → List ExportedDevice → List ℕ → Type 0
TakesAny outcome room (Ok n) stage devices filled = IsLeft outcome room n stage devices filled
TakesAny outcome room (Err fault) stage devices filled = ⊥

-- What the bytes that a connection wanted leave, by its stage.
abbrev pub Takes : Stage → List ExportedDevice → List ℕ → List ℕ → Result ℕ ExportFault → Stage → List ExportedDevice → List ℕ → Type 0
Takes Operation ds bytes room result stage devices filled = TakesHead ds bytes room result stage devices filled
Takes BusId ds bytes room result stage devices filled = TakesAny (after_bus_id ds bytes) room result stage devices filled
Takes (AtCommand place) ds bytes room result stage devices filled =
    TakesHeader place ds bytes room result stage devices filled
Takes (Data place submit) ds bytes room result stage devices filled =
    TakesAny (after_submit ds place submit bytes) room result stage devices filled
Takes Over ds bytes room result stage devices filled = TakesAny (without_device ds) room result stage devices filled
