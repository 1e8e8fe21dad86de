-- What the calls of a virtual device answer (our choice; what a device does: hid_gadget; with memory of any length and
-- numbers of any value: hidstack_device).
use Rattle.std.specs.Prelude.{◌≡◌, ℕ, List, length, Option, Some, None, Result, Ok, Err}
use Rattle.hid_report_descriptor.specs.declared.usage.Usage.{Usage}
use Rattle.hid_layout.specs.declared.control.ControlId.{ControlId}
use Rattle.hid_layout.specs.Controls.{items_of}
use Rattle.hid_snapshots.specs.declared.change.Change.{Change}
use Rattle.hid_snapshots.specs.declared.fault.ChangeFault.{ChangeFault}
use Rattle.hid_snapshots.specs.declared.fault.ChangeFault.TheVariants.{NoSuchControl, WrongKind, OutOfRange, NoNull, NoDirection, MotionFull, ArrayFull}
use Rattle.hid_snapshots.specs.Snapshots.{snapshot_after}
use Rattle.hid_requests.specs.declared.fault.DeviceFault.{DeviceFault}
use Rattle.hid_device.specs.Core.{CoreState, changed_core}
use Rattle.hid_gadget.specs.declared.outcomes.Poll.{Poll}
use Rattle.hid_gadget.specs.declared.outcomes.Poll.TheVariants as polls
use Rattle.hid_gadget.specs.Rooms.{with_front}
use Rattle.hid_gadget.specs.WholeReports.{bytes_taken, core_after_report, report_result}
use Rattle.hidstack_session.specs.Elements.{one_of}
use Rattle.hidstack_device.specs.declared.config.HidConfig.{HidConfig}
use Rattle.hidstack_device.specs.declared.transfer.TransferFault.{TransferFault}
use Rattle.hidstack_device.specs.declared.transfer.TransferFault.TheVariants.{NoRoom, Short, Stalled}
use Rattle.hidstack_device.specs.Causes.{device_cause_number}
use Rattle.hidstack_device.specs.Finding.{IsNth}
use Rattle.hidstack_device.specs.Making.{MakesDevice}
use Rattle.hidstack_device.specs.Outputs.{output_with}
use Rattle.hidstack_device.specs.Transfers.{Transfers}
use Rattle.hidstack.specs.declared.device.HidDeviceOpened.{HidDeviceOpened}
use Rattle.hidstack.specs.declared.setup.HidSetup.{HidSetup}
use Rattle.hidstack.specs.declared.device_transfers.TheConstants.{PIECE}
use Rattle.hidstack.specs.declared.status.TheConstants.{OK, CLOSED, NO_ROOM, SHORT, NONE, RANGE, STALLED, WRONG_KIND, NO_NULL, NO_DIRECTION, FULL}
use Rattle.hidstack.specs.Setups.{setup_of}
use Rattle.hidstack.specs.Texts.{Leaves}
use Rattle.hidstack.specs.Writing.{BytesAreReturned}

-- ---- a device is opened

-- what is reported of a device that is made
abbrev pub opened_device : HidDeviceOpened
opened_device = record { at = 0; cause = 0; spare = 0 }

-- what is reported of one that is refused
abbrev pub refused_device : DeviceFault → HidDeviceOpened
refused_device fault = record { at = fault.at; cause = device_cause_number fault.cause; spare = 0 }

-- the handle was closed, and has a new device of this configuration and descriptor
abbrev pub OpensDevice : Option CoreState → HidConfig → List ℕ → Option CoreState → HidDeviceOpened → Type 0
OpensDevice before config descriptor after told =
    (before ≡ None) × (core : CoreState) × (after ≡ Some core) × MakesDevice config descriptor (Ok core)
    × (told ≡ opened_device)

-- the handle was closed and is so, and no device is made of this configuration and descriptor, for this cause
abbrev pub RefusesDevice : Option CoreState → HidConfig → List ℕ → Option CoreState → HidDeviceOpened → Type 0
RefusesDevice before config descriptor after told =
    (before ≡ None) × (after ≡ None) × (fault : DeviceFault) × MakesDevice config descriptor (Err fault)
    × (told ≡ refused_device fault)

-- the handle has a device already, which stays as it was, and so does what was reported
abbrev pub IsDeviceBusy : Option CoreState → Option CoreState → HidDeviceOpened → HidDeviceOpened → Type 0
IsDeviceBusy before after told told' = (core : CoreState) × (before ≡ Some core) × (after ≡ Some core) × (told' ≡ told)

-- ---- what happens to it

-- an open handle's device goes on so; a closed one is refused
abbrev pub GoesOn : (CoreState → CoreState) → Option CoreState → ℕ → Option CoreState → Type 0
GoesOn next None status after = (status ≡ CLOSED) × (after ≡ None)
GoesOn next (Some core) status after = (status ≡ OK) × (after ≡ Some (next core))

-- the status of a change that is refused, for the first of U1 to U7: of U6 and U7 one, since a move has only the one and a
-- press only the other
abbrev pub fault_status : ChangeFault → ℕ
fault_status NoSuchControl = NONE
fault_status WrongKind = WRONG_KIND
fault_status OutOfRange = RANGE
fault_status NoNull = NO_NULL
fault_status NoDirection = NO_DIRECTION
fault_status MotionFull = FULL
fault_status ArrayFull = FULL

-- the status of a change
abbrev pub change_status : {A : Type 0} → Result A ChangeFault → ℕ
change_status (Ok changed) = OK
change_status (Err fault) = fault_status fault

-- A control of an open handle's device changes, or the change is refused for the first of U1 to U7, and none of its controls
-- does. A closed one is refused. Example: a key of an array whose elements are all taken is refused with FULL
abbrev pub ChangesDevice : Option CoreState → Change → ℕ → Option CoreState → Type 0
ChangesDevice None change status after = (status ≡ CLOSED) × (after ≡ None)
ChangesDevice (Some core) change status after =
    (status ≡ change_status (snapshot_after (items_of core.layout) core.reports.snapshot change))
    × (after ≡ Some (changed_core core change))

-- ---- what is read of it

-- the place of a control is written, where there is one; else nothing changes
abbrev pub PlaceIsReturned : Option ControlId → ℕ → ℕ → ℕ → ℕ → ℕ → Type 0
PlaceIsReturned (Some c) item index status item' index' = (status ≡ OK) × (item' ≡ c.item) × (index' ≡ c.index)
PlaceIsReturned None item index status item' index' = (status ≡ NONE) × (item' ≡ item) × (index' ≡ index)

-- The place of the control of an open handle's device that has a usage, and comes after this many that have it, is written; of
-- none, and of a closed handle, nothing is.
abbrev pub FindsControl : Option CoreState → Usage → ℕ → ℕ → ℕ → ℕ → ℕ → ℕ → Type 0
FindsControl None u nth item index status item' index' = (status ≡ CLOSED) × (item' ≡ item) × (index' ≡ index)
FindsControl (Some core) u nth item index status item' index' =
    (found : Option ControlId) × IsNth (items_of core.layout) u (length core.layout.items) nth found
    × PlaceIsReturned found item index status item' index'

-- whether an open handle's device is configured is written, as 1 or 0; of a closed handle nothing is
abbrev pub ShowsConfigured : Option CoreState → ℕ → ℕ → ℕ → Type 0
ShowsConfigured None old status new = (status ≡ CLOSED) × (new ≡ old)
ShowsConfigured (Some core) old status new = (status ≡ OK) × (new ≡ one_of core.is_configured)

-- An Output or Feature report of an open handle's device is written as its host set it last, or too long and nothing is; or
-- there is no such report. A closed handle is refused.
abbrev pub OutputsDevice : Option CoreState → ℕ → ℕ → List ℕ → ℕ → List ℕ → ℕ → Type 0
OutputsDevice None kind id out status out' told = Leaves CLOSED out status out' told
OutputsDevice (Some core) kind id out status out' told = BytesAreReturned (output_with core kind id) out status out' told

-- ---- its transfers

-- the status of a control transfer
abbrev pub transfer_status : Result ℕ TransferFault → ℕ
transfer_status (Ok count) = OK
transfer_status (Err NoRoom) = NO_ROOM
transfer_status (Err Short) = SHORT
transfer_status (Err Stalled) = STALLED

-- how many bytes were answered; of a read with too little room how many it asks for
abbrev pub answer_count : HidSetup → Result ℕ TransferFault → ℕ
answer_count setup (Ok count) = count
answer_count setup (Err NoRoom) = setup.length
answer_count setup (Err Short) = 0
answer_count setup (Err Stalled) = 0

-- A control transfer of an open handle's device ends so, or is refused for its lengths, and then the device stays. A closed
-- handle is refused, and nothing changes.
abbrev pub ControlsDevice : Option CoreState → HidSetup → List ℕ → List ℕ → ℕ → Option CoreState → List ℕ → ℕ → Type 0
ControlsDevice None setup written answer status after answer' count =
    (status ≡ CLOSED) × (after ≡ None) × (answer' ≡ answer) × (count ≡ 0)
ControlsDevice (Some core) setup written answer status after answer' count =
    (ended : Result ℕ TransferFault) × (core' : CoreState) × Transfers core (setup_of setup) written answer ended core' answer'
    × (after ≡ Some core') × (status ≡ transfer_status ended) × (count ≡ answer_count setup ended)

-- the status of an interrupt transfer
abbrev pub poll_status : Poll → ℕ
poll_status (polls.Done count) = OK
poll_status polls.Nothing = NONE
poll_status polls.Stalled = STALLED
poll_status polls.TooSmall = NO_ROOM

-- how many bytes came; where the next piece doesn't fit, the room in which any does
abbrev pub poll_count : Poll → ℕ
poll_count (polls.Done count) = count
poll_count polls.Nothing = 0
poll_count polls.Stalled = 0
poll_count polls.TooSmall = PIECE

-- An interrupt transfer of an open handle's device with this room: how it ends, what stands at the front of the room, and the
-- device after it. A closed handle is refused, and nothing changes.
abbrev pub ReportsDevice : Option CoreState → List ℕ → ℕ → Option CoreState → List ℕ → ℕ → Type 0
ReportsDevice None room status after room' count = (status ≡ CLOSED) × (after ≡ None) × (room' ≡ room) × (count ≡ 0)
ReportsDevice (Some core) room status after room' count =
    (status ≡ poll_status (report_result core (length room))) × (count ≡ poll_count (report_result core (length room)))
    × (after ≡ Some (core_after_report core (length room)))
    × (room' ≡ with_front (bytes_taken core (length room)) room)
