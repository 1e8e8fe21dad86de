-- What the calls of a host answer (our choice; the host: hidstack_host, its driver: hid_driver).
use Rattle.std.specs.Prelude.{◌≡◌, ℕ, ◌==◌, ◌⊎◌, List, Option, Some, None, Result, Ok, Err}
use Rattle.usb_control.specs.declared.setup.Setup.{Setup}
use Rattle.hid_driver.specs.declared.ask.Ask.{Ask}
use Rattle.hid_driver.specs.declared.fault.DriverFault.{DriverFault}
use Rattle.hid_driver.specs.declared.fault.DriverFault.TheVariants.{Memory}
use Rattle.hid_driver.specs.declared.outcome.Outcome.{Outcome}
use Rattle.hid_driver.specs.declared.state.Moved.{Moved}
use Rattle.hid_driver.specs.Driver.{DriverValue, ask_answer, ask_outcome, data_awaited, driver_after_ask, driver_after_protocol, driver_after_report, driver_at_start, protocol_events, protocol_outcome, report_events, report_outcome}
use Rattle.hid_driver.specs.Interfaces.{all_back_events, total_room}
use Rattle.hid_driver.specs.Requests.{setup_awaited}
use Rattle.hidstack_host.specs.declared.asked.HidAsk.{HidAsk}
use Rattle.hidstack_host.specs.declared.event.HidHostEvent.{HidHostEvent}
use Rattle.hidstack_host.specs.declared.host.Told.{Told}
use Rattle.hidstack_host.specs.declared.moved.HidMoved.{HidMoved}
use Rattle.hidstack_host.specs.Asking.{IsAsk}
use Rattle.hidstack_host.specs.Causes.{detail_number, fault_number}
use Rattle.hidstack_host.specs.Hosts.{Delivers, HostMoves}
use Rattle.hidstack_host.specs.Moved.{moved_record, refused_record}
use Rattle.hidstack.specs.declared.host.HidHostResult.{HidHostResult}
use Rattle.hidstack.specs.declared.host.TheConstants.{PROTOCOL_BOOT}
use Rattle.hidstack.specs.declared.setup.HidSetup.{HidSetup}
use Rattle.hidstack.specs.declared.status.TheConstants.{OK, REFUSED, BUSY, CLOSED, NO_ROOM, NONE, MEMORY}
use Rattle.hidstack.specs.Outcomes.{IsOutcome}
use Rattle.hidstack.specs.Setups.{setup_record}
use Rattle.hidstack.specs.Texts.{Leaves, TextIsReturned}

-- A closed handle has a host that knows nothing of its device, or memory ran out and it is closed still. An open one stays.
abbrev pub OpensHost : Option DriverValue → ℕ → Option DriverValue → Type 0
OpensHost None status after =
    ((status ≡ OK) × (after ≡ Some driver_at_start)) ⊎ ((status ≡ MEMORY) × (after ≡ None))
OpensHost (Some h) status after = (status ≡ BUSY) × (after ≡ Some h)

-- The request that may be awaited is written with the data that it sends; where they have no room, or no request is awaited,
-- nothing is written.
abbrev pub RequestIsReturned : Option Setup → List ℕ → HidSetup → List ℕ → ℕ → HidSetup → List ℕ → ℕ → Type 0
RequestIsReturned None sent setup out status setup' out' told = (setup' ≡ setup) × Leaves NONE out status out' told
RequestIsReturned (Some request) sent setup out status setup' out' told =
    TextIsReturned sent out status out' told
    × (status ≡ OK → setup' ≡ setup_record request) × (status ≡ NO_ROOM → setup' ≡ setup)

-- the request that a driver waits for is written, if there is one
abbrev pub TodoIsReturned : DriverValue → HidSetup → List ℕ → ℕ → HidSetup → List ℕ → ℕ → Type 0
TodoIsReturned h setup out status setup' out' told =
    RequestIsReturned (setup_awaited h.state h.interfaces) (data_awaited h) setup out status setup' out' told

-- The request that an open handle's host waits for is written, if there is one. A closed one is refused, and nothing is written.
abbrev pub ShowsTodo : Option DriverValue → HidSetup → List ℕ → ℕ → HidSetup → List ℕ → ℕ → Type 0
ShowsTodo None setup out status setup' out' told = (setup' ≡ setup) × Leaves CLOSED out status out' told
ShowsTodo (Some h) setup out status setup' out' told = TodoIsReturned h setup out status setup' out' told

-- the status of what came of a control transfer: the driver went on, or memory ran out, or it is refused
abbrev pub move_status : Result Moved DriverFault → ℕ
move_status (Ok moved) = OK
move_status (Err Memory) = MEMORY
move_status (Err fault) = REFUSED

-- the record of what came of a control transfer
abbrev pub move_told : Result Moved DriverFault → HidMoved
move_told (Ok moved) = moved_record moved
move_told (Err fault) = refused_record fault

-- An open handle's host goes on by what came of a control transfer. A closed one is refused, and nothing is written.
abbrev pub MovesHost : Option DriverValue → ℕ → List ℕ → HidMoved → ℕ → Option DriverValue → HidMoved → Type 0
MovesHost None outcome bytes moved status after moved' = (status ≡ CLOSED) × (after ≡ None) × (moved' ≡ moved)
MovesHost (Some h) outcome bytes moved status after moved' =
    (came : Outcome) × (answer : Result Moved DriverFault) × (h' : DriverValue) × IsOutcome outcome bytes came
    × HostMoves h came answer h' × (after ≡ Some h') × (status ≡ move_status answer) × (moved' ≡ move_told answer)

-- no event, and no refusal
abbrev pub no_result : HidHostResult
no_result = record { count = 0; cause = 0; detail = 0 }

-- the record of a call that gave so many events: where it is refused, the numbers of the codes
abbrev pub result_of : ℕ → Result (Unit {0}) DriverFault → HidHostResult
result_of count (Ok done) = record { count = count; cause = 0; detail = 0 }
result_of count (Err fault) = record { count = count; cause = fault_number fault; detail = detail_number fault }

-- the status of a call that may be refused
abbrev pub result_status : Result (Unit {0}) DriverFault → ℕ
result_status (Ok done) = OK
result_status (Err fault) = REFUSED

-- the status of a call that gives events: none where the table has too few places
abbrev pub told_status : Option Told → ℕ
told_status (Some told) = result_status told.result
told_status None = NO_ROOM

-- the record of a call that gives events; of a table with too few places, how many it needs
abbrev pub told_result : ℕ → Option Told → HidHostResult
told_result room (Some told) = result_of told.count told.result
told_result room None = result_of room (Ok tt)

-- the host after a call that gives events, its status and its record
abbrev pub TellsHost : DriverValue → Option Told → DriverValue → ℕ → Option DriverValue → HidHostResult → Type 0
TellsHost h answer h' status after told =
    (after ≡ Some h') × (status ≡ told_status answer) × (told ≡ told_result (total_room h.interfaces) answer)

-- a closed handle is refused; nothing is written but a record of zeros
abbrev pub IsClosed : {A : Type 0} → ℕ → Option DriverValue → List A → List A → HidHostResult → Type 0
IsClosed status after out out' told = (status ≡ CLOSED) × (after ≡ None) × (out' ≡ out) × (told ≡ no_result)

-- An open handle's host takes what came of an interrupt transfer of an interface, and its events stand first in the table.
abbrev pub ReportsHost : Option DriverValue → ℕ → ℕ → List ℕ → List HidHostEvent → ℕ → Option DriverValue → List HidHostEvent
    → HidHostResult → Type 0
ReportsHost None place outcome bytes out status after out' told = IsClosed status after out out' told
ReportsHost (Some h) place outcome bytes out status after out' told =
    (came : Outcome) × (answer : Option Told) × (h' : DriverValue) × IsOutcome outcome bytes came
    × Delivers h (report_events h place came) (report_outcome h place came) (driver_after_report h place came) out answer h' out'
    × TellsHost h answer h' status after told

-- what is asked of an interface is the next request of its host, or it is refused
abbrev pub AskIsMade : DriverValue → ℕ → Ask → ℕ → Option DriverValue → HidHostResult → Type 0
AskIsMade h place ask status after told =
    (after ≡ Some (driver_after_ask h place ask)) × (status ≡ result_status (ask_outcome (ask_answer h place ask)))
    × (told ≡ result_of 0 (ask_outcome (ask_answer h place ask)))

-- An open handle's host is to ask an interface what a record and these data ask. A record that asks for nothing changes nothing.
abbrev pub AsksHost : Option DriverValue → ℕ → HidAsk → List ℕ → ℕ → Option DriverValue → HidHostResult → Type 0
AsksHost None place asked sent status after told = (status ≡ CLOSED) × (after ≡ None) × (told ≡ no_result)
AsksHost (Some h) place asked sent status after told =
    ((ask : Ask) × IsAsk asked sent ask × AskIsMade h place ask status after told)
    ⊎ (((ask : Ask) → IsAsk asked sent ask → ⊥) × (status ≡ NONE) × (after ≡ Some h) × (told ≡ no_result))

-- An open handle's host is to ask an interface for a protocol, and the events that let go of what is held of it stand first in the
-- table.
abbrev pub ProtocolsHost : Option DriverValue → ℕ → ℕ → List HidHostEvent → ℕ → Option DriverValue → List HidHostEvent
    → HidHostResult → Type 0
ProtocolsHost None place protocol out status after out' told = IsClosed status after out out' told
ProtocolsHost (Some h) place protocol out status after out' told =
    (answer : Option Told) × (h' : DriverValue)
    × Delivers h (protocol_events h place) (protocol_outcome h place) (driver_after_protocol h place (protocol == PROTOCOL_BOOT)) out
    answer h' out'
    × TellsHost h answer h' status after told

-- An open handle's host knows nothing of its device any more, and the events that let go of what was held stand first in the table.
abbrev pub ResetsHost : Option DriverValue → List HidHostEvent → ℕ → Option DriverValue → List HidHostEvent → HidHostResult → Type 0
ResetsHost None out status after out' told = IsClosed status after out out' told
ResetsHost (Some h) out status after out' told =
    (answer : Option Told) × (h' : DriverValue)
    × Delivers h (all_back_events 0 h.interfaces) (Ok tt) driver_at_start out answer h' out' × TellsHost h answer h' status after told
