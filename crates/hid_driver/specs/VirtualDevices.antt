-- A driver beside a virtual device: what that answers, and what the driver knows then (USB 2.0, 9.4 and 9.6; HID 1.11,
-- 6.2.1, 7.1 and 7.2).
use Rattle.std.specs.Prelude.{◌≡◌, ◌≢◌, ℕ, zero, suc, max, List, [], ◌∷◌, take, Option, Some, None, Result, Err}
use Rattle.std.specs.Option.{option_map}
use Rattle.usb_control.specs.declared.descriptors.ConfigInfo.{ConfigInfo}
use Rattle.usb_control.specs.declared.descriptors.DeviceInfo.{DeviceInfo}
use Rattle.usb_control.specs.declared.setup.Setup.{Setup}
use Rattle.hid_layout.specs.Layout.{Contents}
use Rattle.hid_requests.specs.declared.request_kinds.RequestKind.{RequestKind}
use Rattle.hid_requests.specs.declared.request_kinds.RequestKind.TheVariants as kinds
use Rattle.hid_requests.specs.Descriptors.{configuration_bytes, device_bytes}
use Rattle.hid_requests.specs.RequestKinds.{request_kind_of}
use Rattle.hid_interfaces.specs.declared.interface.InterfaceInfo.{InterfaceInfo}
use Rattle.hid_driver.specs.declared.fault.DriverFault.{DriverFault}
use Rattle.hid_driver.specs.declared.fault.DriverFault.TheVariants.{Memory}
use Rattle.hid_driver.specs.declared.interface.Reading.TheVariants.{Open}
use Rattle.hid_driver.specs.declared.outcome.Outcome.{Outcome}
use Rattle.hid_driver.specs.declared.outcome.Outcome.TheVariants.{Done, Stalled, Failed}
use Rattle.hid_driver.specs.declared.state.DriverState.TheVariants.{Ready}
use Rattle.hid_driver.specs.declared.state.Moved.{Moved}
use Rattle.hid_driver.specs.Driver.{DriverValue}
use Rattle.hid_driver.specs.Moves.{Moves}
use Rattle.hid_driver.specs.Pipe.{pipe_at_start}
use Rattle.hid_driver.specs.Requests.{setup_awaited}

-- what a virtual device says of itself: its device descriptor, its configuration with the interval, and its report
-- descriptor
pub record VirtualDevice : Type 0 where
  pub info : DeviceInfo
  pub known : ConfigInfo
  pub interval : ℕ
  pub descriptor : List ℕ

-- what it has for a request of a row: a descriptor, and no bytes for a write
abbrev pub answer_to : VirtualDevice → RequestKind → List ℕ
answer_to device kinds.DeviceDescriptor = device_bytes device.info
answer_to device kinds.Configuration = configuration_bytes device.known device.interval
answer_to device kinds.ReportDescriptor = device.descriptor
answer_to device _ = []

-- what the transfer of a request gives: the answer cut to wLength; STALL where the request has no row
abbrev pub device_gives : VirtualDevice → Setup → Option (List ℕ)
device_gives device setup = option_map (λ kind. take setup.length (answer_to device kind)) (request_kind_of setup)

-- an outcome is these bytes, or STALL
abbrev pub IsOutcome : Option (List ℕ) → Outcome → Type 0
IsOutcome (Some given) (Done bytes) = bytes.now ≡ given
IsOutcome (Some given) Stalled = ⊥
IsOutcome (Some given) Failed = ⊥
IsOutcome None (Done bytes) = ⊥
IsOutcome None Stalled = Unit {0}
IsOutcome None Failed = ⊥

-- a driver moves by the transfer that it asks of a device, and memory doesn't run out
pub record MovesBeside (device : VirtualDevice) (before after : DriverValue) : Type 0 where
  pub setup : Setup
  pub asks : setup_awaited before.state before.interfaces ≡ Some setup
  pub outcome : Outcome
  pub comes : IsOutcome (device_gives device setup) outcome
  pub result : Result Moved DriverFault
  pub memory : result ≢ Err Memory
  pub moves : Moves before outcome result after

-- a number of such moves, one after another
abbrev pub MovesBesideBy : ℕ → VirtualDevice → DriverValue → DriverValue → Type 0
MovesBesideBy zero device before after = after ≡ before
MovesBesideBy (suc count) device before after =
    (next : DriverValue) × MovesBeside device before next × MovesBesideBy count device next after

-- what its interface is to a driver
abbrev pub virtual_interface : VirtualDevice → InterfaceInfo
virtual_interface device = record {
  number = 0;
  subclass = device.known.subclass;
  protocol = device.known.protocol;
  report_length = Some device.known.report_length;
  endpoint = Some (record { number = device.known.endpoint; packet_size = 64; interval = max device.interval 1 });
}

-- The driver that is ready for a virtual device: of its one interface it has this layout, with the initial view.
abbrev pub ready_for : VirtualDevice → Contents → DriverValue
ready_for device layout = record {
  state = Ready;
  device = Some device.info;
  interfaces = record { info = virtual_interface device; reading = Open (pipe_at_start 64 layout) } ∷ [];
  asked = [];
}
