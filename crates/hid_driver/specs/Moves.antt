-- The moves of a driver: the table of its states, row by row (USB 2.0, 9.1.1 and 9.4; HID 1.11, 7.1 and 7.2; the states are
-- our choice).
use Rattle.std.specs.Prelude.{◌≡◌, ◌⊎◌, ℕ, Bool, true, false, List, [], slice_get, slice_set, Option, Some, None, Result, Ok, Err}
use Rattle.hid_interfaces.specs.declared.configuration.Configuration.{Configuration}
use Rattle.hid_driver.specs.declared.answers.NoPipe.{NoPipe}
use Rattle.hid_driver.specs.declared.answers.NoPipe.TheVariants as pipes
use Rattle.hid_driver.specs.declared.fault.DriverFault.{DriverFault}
use Rattle.hid_driver.specs.declared.fault.DriverFault.TheVariants.{NoRequest, Memory}
use Rattle.hid_driver.specs.declared.interface.Interface.{Interface}
use Rattle.hid_driver.specs.declared.interface.Reading.{Reading}
use Rattle.hid_driver.specs.declared.interface.Reading.TheVariants.{Waiting, Open, Boot, Refused}
use Rattle.hid_driver.specs.declared.outcome.Outcome.{Outcome}
use Rattle.hid_driver.specs.declared.outcome.Outcome.TheVariants.{Done, Stalled, Failed}
use Rattle.hid_driver.specs.declared.pipe.Flow.{Flow}
use Rattle.hid_driver.specs.declared.pipe.Flow.TheVariants as flows
use Rattle.hid_driver.specs.declared.state.DriverState.{DriverState}
use Rattle.hid_driver.specs.declared.state.DriverState.TheVariants as states
use Rattle.hid_driver.specs.declared.state.Moved.{Moved}
use Rattle.hid_driver.specs.declared.state.Moved.TheVariants as moves
use Rattle.hid_driver.specs.Answers.{ConfigurationCame, ReportCame, device_answer, length_answer, status_answer}
use Rattle.hid_driver.specs.Driver.{DriverValue}
use Rattle.hid_driver.specs.Interfaces.{interfaces_after, reading_with_flow}
use Rattle.hid_driver.specs.Pipe.{PipeState}
use Rattle.hid_driver.specs.Requests.{next_state}

-- A device is refused: nothing is asked of it any more. Where memory ran out, the driver stays as it was.
abbrev pub driver_refused : DriverFault → DriverValue → DriverValue
driver_refused Memory driver = driver
driver_refused fault driver = record driver { state = states.Refused }

-- the next step of bringing a device up, where an answer is read; else the device is refused
abbrev pub Goes : {A : Type 0} → DriverValue → (A → DriverValue) → Result A DriverFault → Result Moved DriverFault
    → DriverValue → Type 0
Goes before next (Ok read) result after = (result ≡ Ok moves.Onward) × (after ≡ next read)
Goes before next (Err fault) result after = (result ≡ Err fault) × (after ≡ driver_refused fault before)

-- memory ran out, and nothing changed
abbrev pub Stays : DriverValue → Result Moved DriverFault → DriverValue → Type 0
Stays before result after = (result ≡ Err Memory) × (after ≡ before)

-- no request was to be made
abbrev pub HasNone : DriverValue → Result Moved DriverFault → DriverValue → Type 0
HasNone before result after = (result ≡ Err NoRequest) × (after ≡ before)

-- `Device`: the device descriptor is read, and then the length of the configuration
abbrev pub DeviceMoves : DriverValue → Outcome → Result Moved DriverFault → DriverValue → Type 0
DeviceMoves before outcome result after =
    Goes before (λ info. record before { state = states.Length; device = Some info }) (device_answer outcome) result after

-- `Length`: the length of the configuration is read, and then the configuration
abbrev pub LengthMoves : DriverValue → Outcome → Result Moved DriverFault → DriverValue → Type 0
LengthMoves before outcome result after =
    Goes before (λ len. record before { state = states.Configuration len }) (length_answer outcome) result after

-- the driver that knows a configuration
abbrev pub driver_with_configuration : DriverValue → Configuration → DriverValue
driver_with_configuration driver configuration = record driver {
  state = states.Configure configuration.number;
  interfaces = interfaces_after [] configuration.interfaces.items;
}

-- `Configuration`: its number and its HID interfaces are read, and then the device is configured
abbrev pub ConfigurationMoves : DriverValue → Outcome → Result Moved DriverFault → DriverValue → Type 0
ConfigurationMoves before outcome result after =
    ((read : Result Configuration DriverFault) × ConfigurationCame outcome read
    × Goes before (driver_with_configuration before) read result after)
    ⊎ Stays before result after

-- `Configure`: the device is configured
abbrev pub ConfigureMoves : DriverValue → Outcome → Result Moved DriverFault → DriverValue → Type 0
ConfigureMoves before outcome result after =
    Goes before (λ done. record before { state = next_state before.interfaces }) (status_answer outcome) result after

-- `Idle`: whatever came, the report descriptor is asked for
abbrev pub IdleMoves : ℕ → DriverValue → Result Moved DriverFault → DriverValue → Type 0
IdleMoves place before result after =
    (result ≡ Ok moves.Onward) × (after ≡ record before { state = states.Report place })

-- the driver with these interfaces, which goes on to the next request
abbrev pub driver_with_next : DriverValue → List Interface → DriverValue
driver_with_next driver interfaces = record driver { interfaces = interfaces; state = next_state interfaces }

-- the driver whose interface at a place is read, or refused, if there is one
abbrev pub settled_at : ℕ → Reading → DriverValue → Option Interface → DriverValue
settled_at place reading driver None = driver
settled_at place reading driver (Some interface) =
    driver_with_next driver (slice_set driver.interfaces place (record interface { reading = reading }))

-- The driver whose interface at a place is read, or refused; the others stay.
abbrev pub driver_settled : ℕ → Reading → DriverValue → DriverValue
driver_settled place reading driver = settled_at place reading driver (slice_get driver.interfaces place)

-- an interface is read or refused, or memory ran out
abbrev pub Settles : ℕ → DriverValue → Result PipeState NoPipe → Result Moved DriverFault → DriverValue → Type 0
Settles place before (Ok pipe) result after =
    ((result ≡ Ok (moves.Live place)) × (after ≡ driver_settled place (Open pipe) before)) ⊎ Stays before result after
Settles place before (Err (pipes.Refused cause)) result after =
    (result ≡ Ok (moves.Refused place)) × (after ≡ driver_settled place (Refused cause) before)
Settles place before (Err pipes.Memory) result after = Stays before result after

-- the report descriptor of an interface is read, if there is one
abbrev pub ReportMovesOf : ℕ → DriverValue → Outcome → Result Moved DriverFault → DriverValue → Option Interface → Type 0
ReportMovesOf place before outcome result after None = HasNone before result after
ReportMovesOf place before outcome result after (Some interface) =
    (read : Result PipeState NoPipe) × ReportCame interface.info outcome read × Settles place before read result after

-- `Report`: the interface is read, or refused; the others stay
abbrev pub ReportMoves : ℕ → DriverValue → Outcome → Result Moved DriverFault → DriverValue → Type 0
ReportMoves place before outcome result after =
    ReportMovesOf place before outcome result after (slice_get before.interfaces place)

-- a halt is cleared, or it isn't
abbrev pub flow_after_clear : Outcome → Flow
flow_after_clear (Done bytes) = flows.Live
flow_after_clear Stalled = flows.Stopped
flow_after_clear Failed = flows.Stopped

-- what a driver returns for a clear: the halt is cleared, or the interface is stopped
abbrev pub moved_by_clear : ℕ → Outcome → Moved
moved_by_clear place (Done bytes) = moves.Cleared place
moved_by_clear place Stalled = moves.Stopped place
moved_by_clear place Failed = moves.Stopped place

-- an interface whose halt is cleared, or isn't
abbrev pub interface_after_clear : Outcome → Interface → Interface
interface_after_clear outcome interface =
    record interface { reading = reading_with_flow (flow_after_clear outcome) interface.reading }

-- an interface whose halt was to be cleared is live or stopped, if there is one
abbrev pub ClearMovesOf : ℕ → DriverValue → Outcome → Result Moved DriverFault → DriverValue → Option Interface → Type 0
ClearMovesOf place before outcome result after None = HasNone before result after
ClearMovesOf place before outcome result after (Some interface) =
    (result ≡ Ok (moved_by_clear place outcome))
    × (after ≡ driver_with_next before (slice_set before.interfaces place (interface_after_clear outcome interface)))

-- `Clear`: the interface is live again, or stopped; the others stay
abbrev pub ClearMoves : ℕ → DriverValue → Outcome → Result Moved DriverFault → DriverValue → Type 0
ClearMoves place before outcome result after =
    ClearMovesOf place before outcome result after (slice_get before.interfaces place)

-- what came of what was asked for
abbrev pub answer_result : Result (Unit {0}) DriverFault → Result Moved DriverFault
answer_result (Ok done) = Ok moves.Answered
answer_result (Err fault) = Err fault

-- an interface in the boot protocol, or in the report protocol, whose report descriptor is to be asked for
abbrev pub reading_in_protocol : Bool → Reading
reading_in_protocol true = Boot
reading_in_protocol false = Waiting

-- An interface that was asked for a protocol: it took it; or it is as before; or neither is known.
abbrev pub reading_after_protocol : Bool → Bool → Outcome → Reading
reading_after_protocol boot was_boot (Done bytes) = reading_in_protocol boot
reading_after_protocol boot was_boot Stalled = reading_in_protocol was_boot
reading_after_protocol boot was_boot Failed = Boot

-- an interface is in a protocol, if there is one
abbrev pub ProtocolMovesOf : ℕ → Bool → Bool → DriverValue → Outcome → Result Moved DriverFault → DriverValue → Option Interface
    → Type 0
ProtocolMovesOf place boot was_boot before outcome result after None = HasNone before result after
ProtocolMovesOf place boot was_boot before outcome result after (Some interface) =
    (result ≡ answer_result (status_answer outcome))
    × (after ≡ driver_settled place (reading_after_protocol boot was_boot outcome) before)

-- `Protocol`: the interface waits for its report descriptor, or sends boot reports; the others stay
abbrev pub ProtocolMoves : ℕ → Bool → Bool → DriverValue → Outcome → Result Moved DriverFault → DriverValue → Type 0
ProtocolMoves place boot was_boot before outcome result after =
    ProtocolMovesOf place boot was_boot before outcome result after (slice_get before.interfaces place)

-- `Asked`: whatever came, it is over
abbrev pub AnswerMoves : DriverValue → Outcome → Result Moved DriverFault → DriverValue → Type 0
AnswerMoves before outcome result after =
    (result ≡ answer_result (status_answer outcome))
    × (after ≡ record before { state = next_state before.interfaces; asked = [] })

-- what a driver does with the outcome of a control transfer, by the state in which it stands
abbrev pub MovesAt : DriverState → DriverValue → Outcome → Result Moved DriverFault → DriverValue → Type 0
MovesAt states.Device before outcome result after = DeviceMoves before outcome result after
MovesAt states.Length before outcome result after = LengthMoves before outcome result after
MovesAt (states.Configuration len) before outcome result after = ConfigurationMoves before outcome result after
MovesAt (states.Configure number) before outcome result after = ConfigureMoves before outcome result after
MovesAt (states.Idle place) before outcome result after = IdleMoves place before result after
MovesAt (states.Report place) before outcome result after = ReportMoves place before outcome result after
MovesAt (states.Clear place) before outcome result after = ClearMoves place before outcome result after
MovesAt (states.Protocol place boot was_boot) before outcome result after =
    ProtocolMoves place boot was_boot before outcome result after
MovesAt (states.Asked setup) before outcome result after = AnswerMoves before outcome result after
MovesAt states.Ready before outcome result after = HasNone before result after
MovesAt states.Refused before outcome result after = HasNone before result after

-- The moves of a driver, by the table of its states.
abbrev pub Moves : DriverValue → Outcome → Result Moved DriverFault → DriverValue → Type 0
Moves before outcome result after = MovesAt before.state before outcome result after
