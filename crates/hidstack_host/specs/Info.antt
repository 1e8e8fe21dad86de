-- What is known of a device and of its interfaces, as records of numbers (our choice).
use Rattle.std.specs.Prelude.{ℕ, length, slice_get, Option, Some, None}
use Rattle.std.specs.Option.{option_map}
use Rattle.usb_control.specs.declared.descriptors.DeviceInfo.{DeviceInfo}
use Rattle.hid_layout.specs.Layout.{Contents}
use Rattle.hid_layout.specs.Controls.{items_of, max_events}
use Rattle.hid_interfaces.specs.declared.interface.EndpointInfo.{EndpointInfo}
use Rattle.hid_interfaces.specs.declared.interface.InterfaceInfo.{InterfaceInfo}
use Rattle.hid_driver.specs.declared.interface.Interface.{Interface}
use Rattle.hid_driver.specs.declared.interface.InterfaceState.{InterfaceState}
use Rattle.hid_driver.specs.declared.interface.InterfaceState.TheVariants as states
use Rattle.hid_driver.specs.declared.state.DriverState.{DriverState}
use Rattle.hid_driver.specs.declared.state.DriverState.TheVariants.{Ready, Refused}
use Rattle.hid_driver.specs.Driver.{DriverValue}
use Rattle.hid_driver.specs.Interfaces.{pipe_of, state_shown, total_room}
use Rattle.hidstack_session.specs.Elements.{one_of}
use Rattle.hidstack_host.specs.declared.cause.Code.{Code}
use Rattle.hidstack_host.specs.declared.info.HidHostInfo.{HidHostInfo}
use Rattle.hidstack_host.specs.declared.info.HidInterface.{HidInterface}
use Rattle.hidstack_host.specs.declared.info.TheConstants.{HOST_WAITING, HOST_READY, HOST_REFUSED, INTERFACE_WAITING, INTERFACE_LIVE, INTERFACE_HALTED, INTERFACE_STOPPED, INTERFACE_BOOT, INTERFACE_REFUSED}
use Rattle.hidstack_host.specs.Causes.{cause_code, code_of}

-- how far a driver has come with its device: it is ready, its device is refused, or it waits for a request
abbrev pub state_number : DriverState → ℕ
state_number Ready = HOST_READY
state_number Refused = HOST_REFUSED
state_number state = HOST_WAITING

-- idVendor of a device descriptor that may have been read, else 0
abbrev pub vendor_of : Option DeviceInfo → ℕ
vendor_of None = 0
vendor_of (Some device) = device.vendor

-- idProduct of a device descriptor that may have been read, else 0
abbrev pub product_of : Option DeviceInfo → ℕ
product_of None = 0
product_of (Some device) = device.product

-- the record of what is known of a device
abbrev pub host_info : DriverValue → HidHostInfo
host_info driver = record {
  interfaces = length driver.interfaces;
  room = total_room driver.interfaces;
  state = state_number driver.state;
  vendor = vendor_of driver.device;
  product = product_of driver.device;
}

-- how far the driver has come with an interface, as a number, and the code of its cause where it is refused
abbrev pub state_code : InterfaceState → ℕ × Code
state_code states.Waiting = (INTERFACE_WAITING, code_of 0 0)
state_code states.Live = (INTERFACE_LIVE, code_of 0 0)
state_code states.Halted = (INTERFACE_HALTED, code_of 0 0)
state_code states.Stopped = (INTERFACE_STOPPED, code_of 0 0)
state_code states.Boot = (INTERFACE_BOOT, code_of 0 0)
state_code (states.Refused cause) = (INTERFACE_REFUSED, cause_code cause)

-- the number of an endpoint that may be there, else 0
abbrev pub endpoint_number : Option EndpointInfo → ℕ
endpoint_number None = 0
endpoint_number (Some endpoint) = endpoint.number

-- in bytes, a full packet of an endpoint that may be there, else 0
abbrev pub endpoint_size : Option EndpointInfo → ℕ
endpoint_size None = 0
endpoint_size (Some endpoint) = endpoint.packet_size

-- the interval of an endpoint that may be there, else 0
abbrev pub endpoint_interval : Option EndpointInfo → ℕ
endpoint_interval None = 0
endpoint_interval (Some endpoint) = endpoint.interval

-- the record of what the descriptors of an interface say, with this state and code
abbrev pub with_code : InterfaceInfo → ℕ → Code → HidInterface
with_code info state code = record {
  at = code.at;
  room = 0;
  reports = 0;
  items = 0;
  cause = code.number;
  packet_size = endpoint_size info.endpoint;
  number = info.number;
  endpoint = endpoint_number info.endpoint;
  interval = endpoint_interval info.endpoint;
  subclass = info.subclass;
  protocol = info.protocol;
  numbered = 0;
  state = state;
  letter = code.letter;
  spare = 0;
}

-- the record of an interface, without what its layout has
abbrev pub interface_record : Interface → HidInterface
interface_record interface =
    with_code interface.info (state_code (state_shown interface.reading)).0 (state_code (state_shown interface.reading)).1

-- the record with what a layout has: how many events a report gives at most, how many reports and items there are, and whether
-- reports have IDs
abbrev pub with_layout : HidInterface → Contents → HidInterface
with_layout known layout = record known {
  room = max_events (items_of layout);
  reports = length layout.reports;
  items = length layout.items;
  numbered = one_of layout.numbered;
}

-- the record with what a layout has that may be there
abbrev pub laid_out : HidInterface → Option Contents → HidInterface
laid_out known None = known
laid_out known (Some layout) = with_layout known layout

-- The record of the interface at a place: what its descriptors say, how far the driver has come with it, and what its layout has.
abbrev pub interface_at : DriverValue → ℕ → Option HidInterface
interface_at driver place =
    option_map (λ interface. laid_out (interface_record interface) (option_map (λ pipe. pipe.receiving.layout) (pipe_of interface.reading)))
    (slice_get driver.interfaces place)
