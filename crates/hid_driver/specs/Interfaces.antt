-- The HID interfaces of a device, and how far a driver has come with each (USB 2.0, 9.4.5; HID 1.11, 5.6; the states are
-- our choice).
use Rattle.std.specs.Prelude.{◌≡◌, ℕ, ◌+◌, ◌<◌, ◌≤◌, Bool, true, false, not, List, [], ◌∷◌, ◌++◌, length, map, sum_by, All, slice_get, slice_set, Option, Some, None, Result, Err}
use Rattle.hid_layout.specs.Layout.{Contents}
use Rattle.hid_layout.specs.Controls.{items_of, max_events}
use Rattle.hid_layout.specs.Reports.{report_bytes}
use Rattle.hid_snapshots.specs.declared.event.Event.{Event}
use Rattle.hid_interfaces.specs.declared.fault.InterfaceFault.{InterfaceFault}
use Rattle.hid_interfaces.specs.declared.interface.InterfaceInfo.{InterfaceInfo}
use Rattle.hid_interfaces.specs.Readable.{interface_fault, readable_with}
use Rattle.hid_driver.specs.declared.fault.DriverFault.{DriverFault}
use Rattle.hid_driver.specs.declared.fault.DriverFault.TheVariants.{BootProtocol, NotRead}
use Rattle.hid_driver.specs.declared.fault.InterfaceCause.TheVariants.{Descriptors}
use Rattle.hid_driver.specs.declared.outcome.DriverEvent.{DriverEvent}
use Rattle.hid_driver.specs.declared.outcome.Outcome.{Outcome}
use Rattle.hid_driver.specs.declared.pipe.Flow.{Flow}
use Rattle.hid_driver.specs.declared.pipe.Flow.TheVariants.{Live, Halted, Stopped}
use Rattle.hid_driver.specs.declared.interface.Reading.{Reading}
use Rattle.hid_driver.specs.declared.interface.Reading.TheVariants.{Waiting, Open, Boot, Refused}
use Rattle.hid_driver.specs.declared.interface.Interface.{Interface}
use Rattle.hid_driver.specs.declared.interface.InterfaceState.{InterfaceState}
use Rattle.hid_driver.specs.declared.interface.InterfaceState.TheVariants as states
use Rattle.hid_driver.specs.Pipe.{PipeState, event_of, events_back, pipe_events, pipe_outcome, pipe_after_outcome, pipe_with_flow}

-- what is known of an interface whose descriptors are read: it waits, or it is refused
abbrev pub reading_by_fault : Option InterfaceFault → Reading
reading_by_fault None = Waiting
reading_by_fault (Some fault) = Refused (Descriptors fault)

-- an interface whose descriptors are read; of those before it these can be read
abbrev pub interface_listed : List InterfaceInfo → InterfaceInfo → Interface
interface_listed readable info = record { info = info; reading = reading_by_fault (interface_fault readable info) }

-- The interfaces of a configuration, in order; of those before them the ones in `readable` can be read.
abbrev pub interfaces_after : List InterfaceInfo → List InterfaceInfo → List Interface
interfaces_after readable [] = []
interfaces_after readable (info ∷ rest) =
    interface_listed readable info ∷ interfaces_after (readable_with readable info) rest

-- the state of an interface whose reports are laid out
abbrev pub state_of_flow : Flow → InterfaceState
state_of_flow Live = states.Live
state_of_flow Halted = states.Halted
state_of_flow Stopped = states.Stopped

-- the state of an interface, as it is shown
abbrev pub state_shown : Reading → InterfaceState
state_shown Waiting = states.Waiting
state_shown (Open pipe) = state_of_flow pipe.flow
state_shown Boot = states.Boot
state_shown (Refused cause) = states.Refused cause

-- what its reports come out of, once they are laid out
abbrev pub pipe_of : Reading → Option PipeState
pipe_of Waiting = None
pipe_of (Open pipe) = Some pipe
pipe_of Boot = None
pipe_of (Refused cause) = None

-- the report descriptor of an interface is still to be asked for
abbrev pub waits : Reading → Bool
waits Waiting = true
waits (Open pipe) = false
waits Boot = false
waits (Refused cause) = false

-- an interface sends boot reports, or may
abbrev pub is_boot : Reading → Bool
is_boot Waiting = false
is_boot (Open pipe) = false
is_boot Boot = true
is_boot (Refused cause) = false

-- an interface whose report descriptor is still to be asked for
abbrev pub is_waiting : Interface → Bool
is_waiting interface = waits interface.reading

-- an endpoint is halted until a reset
abbrev pub is_stopped : Flow → Bool
is_stopped Live = false
is_stopped Halted = false
is_stopped Stopped = true

-- The reports of an interface are laid out, or may be boot reports, and its endpoint isn't stopped: SET_PROTOCOL clears no
-- halt.
abbrev pub has_protocol : Reading → Bool
has_protocol Waiting = false
has_protocol (Open pipe) = not (is_stopped pipe.flow)
has_protocol Boot = true
has_protocol (Refused cause) = false

-- an endpoint is halted
abbrev pub is_halted_flow : Flow → Bool
is_halted_flow Live = false
is_halted_flow Halted = true
is_halted_flow Stopped = false

-- the endpoint of an interface is halted, and the halt is still to be cleared
abbrev pub is_halted : Reading → Bool
is_halted Waiting = false
is_halted (Open pipe) = is_halted_flow pipe.flow
is_halted Boot = false
is_halted (Refused cause) = false

-- an interface whose endpoint is halted, and whose halt is still to be cleared
abbrev pub has_halt : Interface → Bool
has_halt interface = is_halted interface.reading

-- how many events a reading gives at most
abbrev pub reading_room : Reading → ℕ
reading_room Waiting = 0
reading_room (Open pipe) = max_events (items_of pipe.receiving.layout)
reading_room Boot = 0
reading_room (Refused cause) = 0

-- how many events an interface gives at most
abbrev pub event_room : Interface → ℕ
event_room interface = reading_room interface.reading

-- How many events these give at most.
abbrev pub total_room : List Interface → ℕ
total_room interfaces = sum_by event_room interfaces

-- What an interrupt transfer of an interface returns: one whose reports aren't laid out, or may be boot reports, is
-- refused.
abbrev pub reading_outcome : Reading → Outcome → Result (Unit {0}) DriverFault
reading_outcome (Open pipe) outcome = pipe_outcome pipe outcome
reading_outcome Waiting outcome = Err NotRead
reading_outcome Boot outcome = Err BootProtocol
reading_outcome (Refused cause) outcome = Err NotRead

-- what an interrupt transfer leaves of it
abbrev pub reading_after_outcome : Reading → Outcome → Reading
reading_after_outcome (Open pipe) outcome = Open (pipe_after_outcome pipe outcome)
reading_after_outcome Waiting outcome = Waiting
reading_after_outcome Boot outcome = Boot
reading_after_outcome (Refused cause) outcome = Refused cause

-- the events of an interrupt transfer of it
abbrev pub reading_events : Reading → Outcome → List Event
reading_events (Open pipe) outcome = pipe_events pipe outcome
reading_events Waiting outcome = []
reading_events Boot outcome = []
reading_events (Refused cause) outcome = []

-- an interface whose endpoint is halted, or not any more
abbrev pub reading_with_flow : Flow → Reading → Reading
reading_with_flow flow (Open pipe) = Open (pipe_with_flow flow pipe)
reading_with_flow flow Waiting = Waiting
reading_with_flow flow Boot = Boot
reading_with_flow flow (Refused cause) = Refused cause

-- the events that lead back to its initial view
abbrev pub back_events : Reading → List Event
back_events (Open pipe) = events_back pipe
back_events Waiting = []
back_events Boot = []
back_events (Refused cause) = []

-- The events that lead each interface back to its initial view, in order; the first of these stands at `place`.
abbrev pub all_back_events : ℕ → List Interface → List DriverEvent
all_back_events place [] = []
all_back_events place (interface ∷ rest) =
    map (event_of place) (back_events interface.reading) ++ all_back_events (place + 1) rest

-- no report of the layout is longer
abbrev pub HasNoLonger : ℕ → Contents → Type 0
HasNoLonger room layout = (r : ℕ) → r < length layout.reports → report_bytes layout r ≤ room

-- no report of an interface is longer
abbrev pub FitsRoom : ℕ → Reading → Type 0
FitsRoom room Waiting = Unit {0}
FitsRoom room (Open pipe) = HasNoLonger room pipe.receiving.layout
FitsRoom room Boot = Unit {0}
FitsRoom room (Refused cause) = Unit {0}

-- no report of these interfaces is longer
abbrev pub AllFitRoom : ℕ → List Interface → Type 0
AllFitRoom room interfaces = All (λ interface. FitsRoom room interface.reading) interfaces

-- no report descriptor of these was read
abbrev pub AreUnread : List Interface → Type 0
AreUnread interfaces = All (λ interface. pipe_of interface.reading ≡ None) interfaces

-- the interface at this place is read, or refused; the others stay
abbrev pub SetsReading : ℕ → Reading → List Interface → List Interface → Type 0
SetsReading place reading before after =
    (interface : Interface) × (slice_get before place ≡ Some interface)
    × (after ≡ slice_set before place (record interface { reading = reading }))
