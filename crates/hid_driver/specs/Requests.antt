-- The requests that a driver makes, and in which order (USB 2.0, 9.4.1, 9.4.3 and 9.4.7; HID 1.11, 7.1.1 and 7.2.4; the
-- order is our choice).
use Rattle.std.specs.Prelude.{ℕ, ◌+◌, max, Bool, true, false, List, Option, Some, None, option_map, position, slice_get}
use Rattle.usb_control.specs.declared.setup.Setup.{Setup}
use Rattle.hid_interfaces.specs.declared.interface.InterfaceInfo.{InterfaceInfo}
use Rattle.hid_driver.specs.declared.interface.Interface.{Interface}
use Rattle.hid_driver.specs.declared.state.DriverState.{DriverState}
use Rattle.hid_driver.specs.declared.state.DriverState.TheVariants.{Device, Length, Configuration, Configure, Idle, Report, Clear, Protocol, Asked, Ready, Refused}
use Rattle.hid_driver.specs.Interfaces.{has_halt, is_waiting}

-- a request by its fields: bmRequestType, bRequest, wValue, wIndex and wLength (table 9-2)
abbrev pub request : ℕ → ℕ → ℕ → ℕ → ℕ → Setup
request type number value index len =
    record { request_type = type; request = number; value = value; index = index; length = len }

-- in bytes, the report descriptor that an interface names
abbrev pub length_of : InterfaceInfo → ℕ
length_of info = elim info.report_length [ None ↦ 0 | Some len ↦ len ]

-- in bytes, a full packet of an interface's endpoint
abbrev pub packet_size_of : InterfaceInfo → ℕ
packet_size_of info = elim info.endpoint [ None ↦ 1 | Some endpoint ↦ max endpoint.packet_size 1 ]

-- the number of an interface's endpoint
abbrev pub endpoint_number : InterfaceInfo → ℕ
endpoint_number info = elim info.endpoint [ None ↦ 0 | Some endpoint ↦ endpoint.number ]

-- SET_IDLE: reports come on change alone (HID 1.11, 7.2.4). Example: of interface 2 it is 21 0A 00 00 02 00 00 00
abbrev pub idle_setup : InterfaceInfo → Setup
idle_setup info = request 0x21 10 0 info.number 0

-- GET_DESCRIPTOR for a report descriptor: wIndex is the number of the interface (HID 1.11, 7.1.1)
abbrev pub report_setup : InterfaceInfo → Setup
report_setup info = request 0x81 6 0x2200 info.number (length_of info)

-- the number of a protocol in requests (HID 1.11, 7.2.5)
abbrev pub protocol_number : Bool → ℕ
protocol_number true = 0
protocol_number false = 1

-- SET_PROTOCOL (HID 1.11, 7.2.6). Example: the boot protocol of interface 0 is 21 0B 00 00 00 00 00 00
abbrev pub protocol_setup : InterfaceInfo → Bool → Setup
protocol_setup info boot = request 0x21 11 (protocol_number boot) info.number 0

-- CLEAR_FEATURE of ENDPOINT_HALT: wIndex is the address of the endpoint (9.4.1 and 9.3.4)
abbrev pub clear_setup : InterfaceInfo → Setup
clear_setup info = request 0x02 1 0 (0x80 + endpoint_number info) 0

-- The request that each state waits for. A device descriptor has 18 bytes (table 9-8), and the first descriptor of a
-- configuration nine (table 9-10).
abbrev pub setup_awaited : DriverState → List Interface → Option Setup
setup_awaited Device interfaces = Some (request 0x80 6 0x0100 0 18)
setup_awaited Length interfaces = Some (request 0x80 6 0x0200 0 9)
setup_awaited (Configuration len) interfaces = Some (request 0x80 6 0x0200 0 len)
setup_awaited (Configure number) interfaces = Some (request 0x00 9 number 0 0)
setup_awaited (Idle place) interfaces = option_map (λ it. idle_setup it.info) (slice_get interfaces place)
setup_awaited (Report place) interfaces = option_map (λ it. report_setup it.info) (slice_get interfaces place)
setup_awaited (Clear place) interfaces = option_map (λ it. clear_setup it.info) (slice_get interfaces place)
setup_awaited (Protocol place boot was_boot) interfaces =
    option_map (λ it. protocol_setup it.info boot) (slice_get interfaces place)
setup_awaited (Asked setup) interfaces = Some setup
setup_awaited Ready interfaces = None
setup_awaited Refused interfaces = None

-- what a driver waits for where no interface is left whose report descriptor is to be asked for
abbrev pub state_by_halt : Option ℕ → DriverState
state_by_halt None = Ready
state_by_halt (Some place) = Clear place

-- what a driver waits for, by the first interface that waits and the first whose endpoint is halted
abbrev pub state_by_waiting : Option ℕ → Option ℕ → DriverState
state_by_waiting None halted = state_by_halt halted
state_by_waiting (Some place) halted = Idle place

-- What a driver waits for next: the SET_IDLE of the first interface whose report descriptor wasn't asked for; else the
-- CLEAR_FEATURE of the first whose endpoint is halted; else nothing.
abbrev pub next_state : List Interface → DriverState
next_state interfaces = state_by_waiting (position is_waiting interfaces) (position has_halt interfaces)
