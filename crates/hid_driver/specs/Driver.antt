-- A driver, and what a transfer, an ask and a reset make of it (USB 2.0, 8.4.5, 9.1.1 and 9.4.5; HID 1.11, 7.2; the driver is
-- our choice).
use Rattle.std.specs.Prelude.{◌≡◌, ℕ, Bool, ◌==◌, if◌then◌else◌, List, [], map, slice_get, slice_set, Option, Some, None, Result, Ok, Err}
use Rattle.usb_control.specs.declared.descriptors.DeviceInfo.{DeviceInfo}
use Rattle.usb_control.specs.declared.setup.Setup.{Setup}
use Rattle.hid_snapshots.specs.declared.event.Event.{Event}
use Rattle.hid_driver.specs.declared.ask.Ask.{Ask}
use Rattle.hid_driver.specs.declared.driver.Todo.{Todo}
use Rattle.hid_driver.specs.declared.driver.Todo.TheVariants.{Control, Nothing}
use Rattle.hid_driver.specs.declared.fault.DriverFault.{DriverFault}
use Rattle.hid_driver.specs.declared.fault.DriverFault.TheVariants.{NoInterface, NotRead, Busy, NoBootProtocol}
use Rattle.hid_driver.specs.declared.interface.Interface.{Interface}
use Rattle.hid_driver.specs.declared.interface.Reading.TheVariants.{Boot}
use Rattle.hid_driver.specs.declared.outcome.DriverEvent.{DriverEvent}
use Rattle.hid_driver.specs.declared.outcome.Outcome.{Outcome}
use Rattle.hid_driver.specs.declared.outcome.Outcome.TheVariants.{Done, Stalled, Failed}
use Rattle.hid_driver.specs.declared.state.DriverState.{DriverState}
use Rattle.hid_driver.specs.declared.state.DriverState.TheVariants as states
use Rattle.hid_driver.specs.Asking.{ask_setup, data_of}
use Rattle.hid_driver.specs.Interfaces.{back_events, has_protocol, is_boot, pipe_of, reading_after_outcome, reading_events, reading_outcome}
use Rattle.hid_driver.specs.Pipe.{PipeState, event_of}
use Rattle.hid_driver.specs.Requests.{next_state, setup_awaited}

-- what a driver waits for, what the device descriptor says, the interfaces of the configuration, and the data of what is
-- asked for
pub record DriverValue : Type 0 where
  pub state : DriverState
  pub device : Option DeviceInfo
  pub interfaces : List Interface
  pub asked : List ℕ

-- a driver that knows nothing of its device
abbrev pub driver_at_start : DriverValue
driver_at_start = record { state = states.Device; device = None; interfaces = []; asked = [] }

-- the data of a request that was asked for; no other state sends any
abbrev pub data_by_state : DriverState → List ℕ → List ℕ
data_by_state (states.Asked setup) asked = asked
data_by_state _ asked = []

-- the data of the request that a driver waits for
abbrev pub data_awaited : DriverValue → List ℕ
data_awaited driver = data_by_state driver.state driver.asked

-- the control transfer that is to be made is the one that the state waits for
abbrev pub IsTodo : DriverValue → Todo → Type 0
IsTodo driver (Control setup data_sent) =
    (setup_awaited driver.state driver.interfaces ≡ Some setup) × (data_sent.now ≡ data_awaited driver)
IsTodo driver Nothing = setup_awaited driver.state driver.interfaces ≡ None

-- what a driver waits for after a STALL to an interrupt transfer: one that waits for nothing goes on
abbrev pub state_after_stall : DriverState → List Interface → DriverState
state_after_stall states.Ready interfaces = next_state interfaces
state_after_stall state interfaces = state

-- what it waits for after an interrupt transfer
abbrev pub state_after_outcome : DriverState → Outcome → List Interface → DriverState
state_after_outcome state Stalled interfaces = state_after_stall state interfaces
state_after_outcome state (Done bytes) interfaces = state
state_after_outcome state Failed interfaces = state

-- an interface after what came of an interrupt transfer
abbrev pub interface_after_outcome : Interface → Outcome → Interface
interface_after_outcome interface outcome =
    record interface { reading = reading_after_outcome interface.reading outcome }

-- the driver whose interfaces are these, after an interrupt transfer
abbrev pub driver_with_interfaces : DriverValue → Outcome → List Interface → DriverValue
driver_with_interfaces driver outcome interfaces = record driver {
  interfaces = interfaces;
  state = state_after_outcome driver.state outcome interfaces;
}

-- the driver after an interrupt transfer of an interface, if there is one
abbrev pub driver_after_outcome : DriverValue → ℕ → Outcome → Option Interface → DriverValue
driver_after_outcome driver place outcome None = driver
driver_after_outcome driver place outcome (Some interface) =
    driver_with_interfaces driver outcome
    (slice_set driver.interfaces place (interface_after_outcome interface outcome))

-- The driver after an interrupt transfer of the interface at this place: that interface takes it, and the others stay.
abbrev pub driver_after_report : DriverValue → ℕ → Outcome → DriverValue
driver_after_report driver place outcome =
    driver_after_outcome driver place outcome (slice_get driver.interfaces place)

-- what an interrupt transfer of an interface returns, if there is one
abbrev pub outcome_of_interface : Outcome → Option Interface → Result (Unit {0}) DriverFault
outcome_of_interface outcome None = Err NoInterface
outcome_of_interface outcome (Some interface) = reading_outcome interface.reading outcome

-- What an interrupt transfer of the interface at this place returns.
abbrev pub report_outcome : DriverValue → ℕ → Outcome → Result (Unit {0}) DriverFault
report_outcome driver place outcome = outcome_of_interface outcome (slice_get driver.interfaces place)

-- the events of an interrupt transfer of an interface, if there is one
abbrev pub events_of_interface : Outcome → Option Interface → List Event
events_of_interface outcome None = []
events_of_interface outcome (Some interface) = reading_events interface.reading outcome

-- The events of an interrupt transfer of the interface at this place.
abbrev pub received_events : DriverValue → ℕ → Outcome → List Event
received_events driver place outcome = events_of_interface outcome (slice_get driver.interfaces place)

-- The events of an interrupt transfer of the interface at this place, each with that place.
abbrev pub report_events : DriverValue → ℕ → Outcome → List DriverEvent
report_events driver place outcome = map (event_of place) (received_events driver place outcome)

-- the request of what is asked in a state: only one that waits for nothing makes it
abbrev pub ask_in_state : DriverState → Result Setup DriverFault → Result Setup DriverFault
ask_in_state states.Ready answer = answer
ask_in_state state answer = Err Busy

-- the request of what is asked of an interface whose reports are laid out, or why it is refused
abbrev pub ask_of_pipe : DriverState → Interface → Ask → Option PipeState → Result Setup DriverFault
ask_of_pipe state interface ask None = Err NotRead
ask_of_pipe state interface ask (Some pipe) = ask_in_state state (ask_setup interface.info pipe.receiving.layout ask)

-- the request of what is asked of an interface, if there is one
abbrev pub ask_of_interface : DriverState → Ask → Option Interface → Result Setup DriverFault
ask_of_interface state ask None = Err NoInterface
ask_of_interface state ask (Some interface) = ask_of_pipe state interface ask (pipe_of interface.reading)

-- The request of what is asked of the interface at this place, or the first cause for which it is refused.
abbrev pub ask_answer : DriverValue → ℕ → Ask → Result Setup DriverFault
ask_answer driver place ask = ask_of_interface driver.state ask (slice_get driver.interfaces place)

-- the result of a call that asks, without its setup
abbrev pub ask_outcome : Result Setup DriverFault → Result (Unit {0}) DriverFault
ask_outcome (Ok setup) = Ok tt
ask_outcome (Err fault) = Err fault

-- the driver after an ask, by its request
abbrev pub driver_by_answer : DriverValue → Ask → Result Setup DriverFault → DriverValue
driver_by_answer driver ask (Ok setup) = record driver { state = states.Asked setup; asked = data_of ask }
driver_by_answer driver ask (Err fault) = driver

-- The driver after an ask: it waits for that request, and keeps its data. One that is refused changes nothing.
abbrev pub driver_after_ask : DriverValue → ℕ → Ask → DriverValue
driver_after_ask driver place ask = driver_by_answer driver ask (ask_answer driver place ask)

-- whether a protocol is asked for in a state: only a driver that waits for nothing asks, and only an interface of the boot
-- subclass, 1, has another protocol (HID 1.11, 4.2 and 7.2.6)
abbrev pub protocol_in_state : DriverState → Interface → Result (Unit {0}) DriverFault
protocol_in_state states.Ready interface = if interface.info.subclass == 1 then Ok tt else Err NoBootProtocol
protocol_in_state state interface = Err Busy

-- Whether a protocol is asked for of an interface: its reports are laid out, or may be boot reports, and the state allows
-- it.
abbrev pub protocol_answer : DriverState → Interface → Result (Unit {0}) DriverFault
protocol_answer state interface =
    if has_protocol interface.reading then protocol_in_state state interface else Err NotRead

-- whether a protocol is asked for of an interface, if there is one
abbrev pub protocol_of_interface : DriverState → Option Interface → Result (Unit {0}) DriverFault
protocol_of_interface state None = Err NoInterface
protocol_of_interface state (Some interface) = protocol_answer state interface

-- What asking for a protocol of the interface at this place returns: the first cause for which it is refused, if any.
abbrev pub protocol_outcome : DriverValue → ℕ → Result (Unit {0}) DriverFault
protocol_outcome driver place = protocol_of_interface driver.state (slice_get driver.interfaces place)

-- the driver that asks this interface for a protocol: its reports aren't read from then on
abbrev pub driver_with_protocol : DriverValue → ℕ → Bool → Interface → DriverValue
driver_with_protocol driver place boot interface = record driver {
  interfaces = slice_set driver.interfaces place (record interface { reading = Boot });
  state = states.Protocol place boot (is_boot interface.reading);
}

-- the driver that asks the interface at a place for a protocol, if there is one
abbrev pub driver_asking : DriverValue → ℕ → Bool → Option Interface → DriverValue
driver_asking driver place boot None = driver
driver_asking driver place boot (Some interface) = driver_with_protocol driver place boot interface

-- the events that lead the view of an interface back to the initial one, if there is one
abbrev pub events_asking : ℕ → Option Interface → List DriverEvent
events_asking place None = []
events_asking place (Some interface) = map (event_of place) (back_events interface.reading)

-- the driver with the new request, or as it was where the request is refused
abbrev pub driver_by_protocol : DriverValue → ℕ → Bool → Interface → Result (Unit {0}) DriverFault → DriverValue
driver_by_protocol driver place boot interface (Ok asks) = driver_with_protocol driver place boot interface
driver_by_protocol driver place boot interface (Err fault) = driver

-- the driver after this interface, if there is one, is to be asked for a protocol
abbrev pub driver_after_protocol_of : DriverValue → ℕ → Bool → Option Interface → DriverValue
driver_after_protocol_of driver place boot None = driver
driver_after_protocol_of driver place boot (Some interface) =
    driver_by_protocol driver place boot interface (protocol_answer driver.state interface)

-- The driver after it is to ask for a protocol: what is refused changes nothing.
abbrev pub driver_after_protocol : DriverValue → ℕ → Bool → DriverValue
driver_after_protocol driver place boot =
    driver_after_protocol_of driver place boot (slice_get driver.interfaces place)

-- the events of asking, if it does: what is held is released
abbrev pub events_by_protocol : ℕ → Interface → Result (Unit {0}) DriverFault → List DriverEvent
events_by_protocol place interface (Ok asks) = map (event_of place) (back_events interface.reading)
events_by_protocol place interface (Err fault) = []

-- the events of asking this interface, if there is one, for a protocol
abbrev pub protocol_events_of : DriverState → ℕ → Option Interface → List DriverEvent
protocol_events_of state place None = []
protocol_events_of state place (Some interface) = events_by_protocol place interface (protocol_answer state interface)

-- The events of asking for a protocol: those that lead the view of that interface back to the initial one.
abbrev pub protocol_events : DriverValue → ℕ → List DriverEvent
protocol_events driver place = protocol_events_of driver.state place (slice_get driver.interfaces place)
