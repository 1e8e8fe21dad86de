-- Which descriptors and configurations make a device, and why others don't (our choice).
use Rattle.std.specs.Prelude.{◌≡◌, ℕ, true, false, List, replicate, None, Result, Ok, Err}
use Rattle.hid_report_descriptor.specs.Bus.{Explains}
use Rattle.hid_layout.specs.Layout.{Contents}
use Rattle.hid_layout.specs.Controls.{items_of}
use Rattle.hid_snapshots.specs.declared.control_state.ControlState.{ControlState}
use Rattle.hid_snapshots.specs.ExactCapacity.{IsFull}
use Rattle.hid_snapshots.specs.ControlStates.{blank, FitsSnapshot, FitsShown}
use Rattle.hid_snapshots.specs.Codes.{has_empty_codes}
use Rattle.hid_snapshots.specs.Parts.{blank_parts, has_zeros}
use Rattle.hid_device.specs.declared.config.Config.{Config}
use Rattle.hid_requests.specs.declared.fault.DeviceCause.{DeviceCause}
use Rattle.hid_requests.specs.declared.fault.DeviceCause.TheVariants.{BadConfig, Layout, NoEmptyCode, RelativeWithoutZero, Memory}
use Rattle.hid_requests.specs.declared.fault.DeviceFault.{DeviceFault}
use Rattle.hid_device.specs.declared.storage.Room.{Room}
use Rattle.hid_device.specs.Config.{is_config}
use Rattle.hid_device.specs.Inputs.{input_count}
use Rattle.hid_device.specs.Outputs.{bare_outputs}
use Rattle.hid_requests.specs.declared.class.Protocol.TheVariants as protocols
use Rattle.usb_control.specs.Device.{idle_control}
use Rattle.hid_device.specs.declared.decisions.PendingWrite.TheVariants.{Nothing}
pub use Rattle.hid_layout.specs.Parsing.{ParsesTo}
use Rattle.hid_device.specs.Core.{CoreState}
use Rattle.hid_bus.specs.ReportState.{ReportState}
use Rattle.hid_device.specs.Device.{DeviceState, with_core}

-- A device that isn't configured yet: nothing is pressed and nothing has moved, no idle time is set (our choice),
-- reports are in the report protocol (HID 1.11, 7.2.6), and Output and Feature reports are zeros.
abbrev pub new_core : Config → List ℕ → Contents → CoreState
new_core config descriptor layout = record {
  layout = layout;
  config = config;
  descriptor = descriptor;
  is_configured = false;
  reports = record {
    snapshot = blank (items_of layout);
    fixed = blank_parts (items_of layout);
    frames = replicate (input_count layout.reports) 0;
    idle = replicate (input_count layout.reports) 0;
    aborted = replicate (input_count layout.reports) false;
  };
  current = None;
  piece = 0;
  toggle = false;
  halted = false;
  protocol = protocols.Report;
  outputs = bare_outputs layout;
  answer = None;
  pending = Nothing;
}

-- Room for what a new device keeps of its reports, and for the parts that are asked for, and no more.
pub record IsRoom (bytes : List ℕ) (layout : Contents) (room : Room) : Type 0 where
  pub descriptor : room.descriptor.items ≡ bytes
  pub snapshot : room.controls.snapshot ≡ blank (items_of layout)
  pub fixed : room.controls.fixed ≡ blank_parts (items_of layout)
  pub fits : FitsSnapshot (items_of layout) room.controls.snapshot
  pub fits_fixed : FitsShown (items_of layout) room.controls.fixed
  pub fits_still : FitsShown (items_of layout) room.controls.still
  pub frames : room.counts.frames.items ≡ replicate (input_count layout.reports) 0
  pub idle : room.counts.idle.items ≡ replicate (input_count layout.reports) 0
  pub aborted : room.counts.aborted.items ≡ replicate (input_count layout.reports) false
  pub outputs : room.outputs.items ≡ bare_outputs layout
  pub full : (IsFull room.descriptor) × (IsFull room.counts.frames) × (IsFull room.counts.idle) × (IsFull room.counts.aborted) × IsFull room.outputs

-- a new device at an address, which waits for no ACK, and of which no request is open
abbrev pub new_device : ℕ → Config → List ℕ → Contents → DeviceState
new_device addr config descriptor layout =
    record { addr = addr; control = idle_control (new_core config descriptor layout); awaits_ack = false }

-- a new device whose controls are as this snapshot has them
abbrev pub new_device_with : ℕ → Config → List ℕ → Contents → List ControlState → DeviceState
new_device_with addr config descriptor layout snapshot =
    let core : CoreState = new_core config descriptor layout in
    let standing : ReportState = record core.reports { snapshot = snapshot } in
    with_core (new_device addr config descriptor layout) (record core { reports = standing })

-- a descriptor is accepted with this layout, and a device can send every report of it
pub record CanServe (descriptor : List ℕ) (layout : Contents) : Type 0 where
  pub lays : ParsesTo descriptor layout
  pub empty_codes : has_empty_codes layout ≡ true
  pub zeros : has_zeros (items_of layout) ≡ true

-- a report descriptor is refused for this cause at this place: the layout's, or what its reports can't send
abbrev pub RefusesDescriptor : List ℕ → DeviceCause → ℕ → Type 0
RefusesDescriptor descriptor BadConfig at = ⊥
RefusesDescriptor descriptor (Layout cause) at = Explains descriptor cause at
RefusesDescriptor descriptor NoEmptyCode at =
    (layout : Contents) × ParsesTo descriptor layout × (has_empty_codes layout ≡ false) × (at ≡ 0)
RefusesDescriptor descriptor RelativeWithoutZero at =
    (layout : Contents) × ParsesTo descriptor layout × (has_empty_codes layout ≡ true)
    × (has_zeros (items_of layout) ≡ false) × (at ≡ 0)
RefusesDescriptor descriptor Memory at = (layout : Contents) × CanServe descriptor layout × (at ≡ 0)

-- a device is refused for this cause, with this place: first for its address and configuration, and then for its report
-- descriptor
abbrev pub Refuses : ℕ → Config → List ℕ → DeviceCause → ℕ → Type 0
Refuses addr config descriptor BadConfig at = (is_config addr config descriptor ≡ false) × (at ≡ 0)
Refuses addr config descriptor (Layout cause) at =
    (is_config addr config descriptor ≡ true) × RefusesDescriptor descriptor (Layout cause) at
Refuses addr config descriptor NoEmptyCode at =
    (is_config addr config descriptor ≡ true) × RefusesDescriptor descriptor NoEmptyCode at
Refuses addr config descriptor RelativeWithoutZero at =
    (is_config addr config descriptor ≡ true) × RefusesDescriptor descriptor RelativeWithoutZero at
Refuses addr config descriptor Memory at =
    (is_config addr config descriptor ≡ true) × RefusesDescriptor descriptor Memory at

-- out of memory, which has no place in the descriptor
abbrev pub no_memory : DeviceFault
no_memory = record { cause = Memory; at = 0 }

-- What making the core of a device gives: a new core, or the first cause for which its report descriptor is refused.
abbrev pub MakesCore : Config → List ℕ → Result CoreState DeviceFault → Type 0
MakesCore config descriptor (Ok core) =
    (layout : Contents) × CanServe descriptor layout × (core ≡ new_core config descriptor layout)
MakesCore config descriptor (Err fault) = RefusesDescriptor descriptor fault.cause fault.at

-- the device is made if address and configuration fit and it can serve its descriptor, else it is refused for the first
-- cause. Example: B4 is V3 at 0
abbrev pub MakesDevice : ℕ → Config → List ℕ → Result DeviceState DeviceFault → Type 0
MakesDevice addr config descriptor (Ok device) =
    (is_config addr config descriptor ≡ true) × ((layout : Contents) × CanServe descriptor layout
    × (device ≡ new_device addr config descriptor layout))
MakesDevice addr config descriptor (Err fault) = Refuses addr config descriptor fault.cause fault.at
