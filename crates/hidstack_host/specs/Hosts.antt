-- What the calls of a host make of its driver, with room for events that it makes itself (our choice; the driver: hid_driver).
use Rattle.std.specs.Prelude.{◌≡◌, ℕ, ◌<◌, ◌≤◌, ◌⊎◌, List, ◌++◌, length, map, drop, Option, Some, None, IfSome, IsSome, Result}
use Rattle.hid_report_descriptor.specs.Items.{EncodedItem}
use Rattle.hid_report_descriptor.specs.Real.{Accepts}
use Rattle.hid_layout.specs.Layout.{layout_of}
use Rattle.hid_layout.specs.Controls.{items_of, max_events}
use Rattle.hid_driver.specs.declared.fault.DriverFault.{DriverFault}
use Rattle.hid_driver.specs.declared.outcome.DriverEvent.{DriverEvent}
use Rattle.hid_driver.specs.declared.outcome.Outcome.{Outcome}
use Rattle.hid_driver.specs.declared.outcome.Outcome.TheVariants.{Done, Stalled, Failed}
use Rattle.hid_driver.specs.declared.state.DriverState.{DriverState}
use Rattle.hid_driver.specs.declared.state.DriverState.TheVariants as states
use Rattle.hid_driver.specs.declared.state.Moved.{Moved}
use Rattle.hid_driver.specs.Driver.{DriverValue}
use Rattle.hid_driver.specs.Interfaces.{total_room}
use Rattle.hid_driver.specs.Moves.{Moves, Stays}
use Rattle.hidstack_host.specs.declared.event.HidHostEvent.{HidHostEvent}
use Rattle.hidstack_host.specs.declared.host.Told.{Told}
use Rattle.hidstack_host.specs.Events.{host_event}

-- a report by this report descriptor, if it is accepted, gives at most so many events
abbrev pub HasRoomFor : ℕ → List ℕ → Type 0
HasRoomFor most bytes = (items : List EncodedItem) → Accepts bytes items → max_events (items_of (layout_of items)) ≤ most

-- the report descriptor that came as the outcome of a request for one
abbrev pub descriptor_of : Outcome → Option (List ℕ)
descriptor_of (Done bytes) = Some bytes.now
descriptor_of Stalled = None
descriptor_of Failed = None

-- the report descriptor that came as the outcome of a request, if one was asked for and came
abbrev pub descriptor_came : DriverState → Outcome → Option (List ℕ)
descriptor_came (states.Report place) outcome = descriptor_of outcome
descriptor_came state outcome = None

-- A number of events more is enough after the outcome of a request: where a report descriptor came, for a report by it.
abbrev pub HasRoomIn : DriverState → ℕ → Outcome → Type 0
HasRoomIn state most outcome = IfSome (descriptor_came state outcome) (HasRoomFor most)

-- A report descriptor came, and memory for the events of its reports ran out: the driver stays.
abbrev pub LacksRoom : DriverValue → Outcome → Result Moved DriverFault → DriverValue → Type 0
LacksRoom before outcome result after = IsSome (descriptor_came before.state outcome) × Stays before result after

-- The driver goes on by the table of its states, or there is no room for the events of an interface, and it stays.
abbrev pub HostMoves : DriverValue → Outcome → Result Moved DriverFault → DriverValue → Type 0
HostMoves before outcome result after = Moves before outcome result after ⊎ LacksRoom before outcome result after

-- A call's events stand first in the table, with its result, and the driver is the next one. Where the table has fewer places than
-- the interfaces of the driver give events at most, nothing changes.
abbrev pub Delivers : DriverValue → List DriverEvent → Result (Unit {0}) DriverFault → DriverValue → List HidHostEvent → Option Told
    → DriverValue → List HidHostEvent → Type 0
Delivers before events result next out (Some told) after out' =
    (total_room before.interfaces ≤ length out) × (after ≡ next) × (told.count ≡ length events) × (told.result ≡ result)
    × (out' ≡ map host_event events ++ drop told.count out)
Delivers before events result next out None after out' =
    (length out < total_room before.interfaces) × (after ≡ before) × (out' ≡ out)
