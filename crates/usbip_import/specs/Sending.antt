-- What an import sends: the request for its device, and the submits that its driver needs (USB/IP, as Linux takes them).
use Rattle.std.specs.Prelude.{◌≡◌, ℕ, ◌+◌, ◌%◌, ◌^◌, Bool, true, false, not, nat_lt, if◌then◌else◌, List, [], ◌∷◌, ◌++◌, length, Option, Some, None, Result, Ok, Err}
use Rattle.usb_control.specs.declared.setup.Setup.{Setup}
use Rattle.hid_driver.specs.Driver.{data_awaited, driver_at_start}
use Rattle.hid_driver.specs.Requests.{setup_awaited}
use Rattle.usbip.specs.declared.message.Command.TheVariants as commands
use Rattle.usbip.specs.declared.message.Submit.{Submit}
use Rattle.usbip.specs.declared.operation.Operation.TheVariants as operations
use Rattle.usbip.specs.Messages.{command_bytes}
use Rattle.usbip.specs.Operations.{operation_bytes}
use Rattle.usbip_import.specs.declared.fault.ImportFault.{ImportFault}
use Rattle.usbip_import.specs.declared.fault.ImportFault.TheVariants.{Memory}
use Rattle.usbip_import.specs.declared.flight.Flight.{Flight}
use Rattle.usbip_import.specs.declared.flight.TheConstants.{MAX_FLIGHTS}
use Rattle.usbip_import.specs.declared.flight.Purpose.{Purpose}
use Rattle.usbip_import.specs.declared.flight.Purpose.TheVariants.{Control, Report}
use Rattle.usbip_import.specs.declared.import.Import.{Import}
use Rattle.usbip_import.specs.declared.stage.Stage.{Stage}
use Rattle.usbip_import.specs.declared.stage.Stage.TheVariants.{Start, Requested, Described, Attached, Answering, Over}
use Rattle.usbip_import.specs.declared.submits.Due.{Due}
use Rattle.usbip_import.specs.Flights.{is_asked, is_in_flight}
use Rattle.usbip_import.specs.Submits.{control_submit, payload_of, report_due, report_submit, room_of}

-- an import of which nothing was sent
abbrev pub import_at_start : List ℕ → Import
import_at_start bus_id =
    record { driver = driver_at_start; stage = Start bus_id; device = 0; next = 1; flights = [] }

-- The request for a device: OP_REQ_IMPORT and its bus ID, 40 bytes.
abbrev pub request_bytes : List ℕ → List ℕ
request_bytes bus_id = operation_bytes operations.Import ++ bus_id

-- what is sent: a submit, the data after it, and what it is for
pub record Sending : Type 0 where
  pub purpose : Purpose
  pub submit : Submit
  pub payload : List ℕ

-- the number after this one: after the last comes 0
abbrev pub number_after : ℕ → ℕ
number_after n = (n + 1) % 2 ^ 32

-- the flight that a submit begins
abbrev pub flight_begun : Purpose → Submit → Flight
flight_begun purpose submit = record { seqnum = submit.seqnum; purpose = purpose; room = room_of submit }

-- the import with a submit in flight
abbrev pub import_begun : Purpose → Submit → Import → Import
import_begun purpose submit import = record import {
  flights = import.flights ++ flight_begun purpose submit ∷ [];
  next = number_after import.next;
}

-- the submit of a request that the driver waits for, if it does
abbrev pub sending_of_setup : Import → Option Setup → Option Sending
sending_of_setup import None = None
sending_of_setup import (Some setup) =
    let payload = payload_of setup (data_awaited import.driver) in
    Some (record { purpose = Control; submit = control_submit import.device import.next setup payload; payload = payload })

-- The submit of the control transfer that the driver waits for, unless one is in flight.
abbrev pub control_sending : Import → Option Sending
control_sending import =
    if is_asked Control import.flights then None
    else sending_of_setup import (setup_awaited import.driver.state import.driver.interfaces)

-- the submit for a report of an interface, if there is one
abbrev pub sending_of_due : Import → Option Due → Option Sending
sending_of_due import None = None
sending_of_due import (Some due) = Some (record {
  purpose = Report due.interface;
  submit = report_submit import.device import.next due.endpoint;
  payload = [];
})

-- The submit for a report of the first interface that is live and of which none is in flight.
abbrev pub report_sending : Import → Option Sending
report_sending import = sending_of_due import (report_due 0 import.flights import.driver.interfaces)

-- the first of two, if there is one
abbrev pub first_of : Option Sending → Option Sending → Option Sending
first_of None other = other
first_of (Some one) other = Some one

-- as many submits are in flight as may be
abbrev pub is_full : Import → Bool
is_full import = not (nat_lt (length import.flights) MAX_FLIGHTS)

-- The submit that is sent next: the control transfer before the reports.
abbrev pub submit_sending : Import → Option Sending
submit_sending import = first_of (control_sending import) (report_sending import)

-- what a call that sends this, if anything, returns, leaves and appends; where memory runs out nothing changes
abbrev pub Sends : Option Sending → Import → Result Bool ImportFault → Import → List ℕ → List ℕ → Type 0
Sends None before result after old new = (result ≡ Ok false) × (after ≡ before) × (new ≡ old)
Sends (Some s) before (Ok sent) after old new =
    (sent ≡ true) × (after ≡ import_begun s.purpose s.submit before)
    × (new ≡ old ++ command_bytes (commands.Submit s.submit) ++ s.payload)
Sends (Some s) before (Err fault) after old new = (fault ≡ Memory) × (after ≡ before) × (new ≡ old)

-- what a call that sends the request returns, leaves and appends
abbrev pub RequestSent : List ℕ → Import → Result Bool ImportFault → Import → List ℕ → List ℕ → Type 0
RequestSent bus_id before (Ok sent) after old new =
    (sent ≡ true) × (after ≡ record before { stage = Requested }) × (new ≡ old ++ request_bytes bus_id)
RequestSent bus_id before (Err fault) after old new = (fault ≡ Memory) × (after ≡ before) × (new ≡ old)

-- nothing is sent where as many submits are in flight as may be; a number that is in flight is passed over
abbrev pub SubmitSentIf : Bool → Bool → Import → Result Bool ImportFault → Import → List ℕ → List ℕ → Type 0
SubmitSentIf true used before result after old new = Sends None before result after old new
SubmitSentIf false true before result after old new =
    (result ≡ Ok false) × (after ≡ record before { next = number_after before.next }) × (new ≡ old)
SubmitSentIf false false before result after old new = Sends (submit_sending before) before result after old new

-- What a call that sends a submit, if one is due, returns, leaves and appends.
abbrev pub SubmitSent : Import → Result Bool ImportFault → Import → List ℕ → List ℕ → Type 0
SubmitSent before result after old new =
    SubmitSentIf (is_full before) (is_in_flight before.next before.flights) before result after old new

-- What a call that sends returns, leaves and appends, by the stage: the request first, and submits once the device is imported.
abbrev pub Sent : Stage → Import → Result Bool ImportFault → Import → List ℕ → List ℕ → Type 0
Sent (Start bus_id) before result after old new = RequestSent bus_id before result after old new
Sent Attached before result after old new = SubmitSent before result after old new
Sent Requested before result after old new = Sends None before result after old new
Sent Described before result after old new = Sends None before result after old new
Sent (Answering flight status len) before result after old new = Sends None before result after old new
Sent Over before result after old new = Sends None before result after old new
