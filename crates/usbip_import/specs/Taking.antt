-- What an import takes: the reply to its request, and the replies to its submits, which go to its driver (USB/IP, as Linux sends
-- them).
use Rattle.std.specs.Prelude.{◌≡◌, ℕ, ◌==◌, Bool, true, false, nat_lt, if◌then◌else◌, List, [], ◌++◌, Option, Some, None, Result, Ok, Err}
use Rattle.hid_driver.specs.declared.fault.DriverFault.{DriverFault}
use Rattle.hid_driver.specs.declared.outcome.DriverEvent.{DriverEvent}
use Rattle.hid_driver.specs.declared.outcome.Outcome.{Outcome}
use Rattle.hid_driver.specs.declared.outcome.Outcome.TheVariants as outcomes
use Rattle.hid_driver.specs.declared.state.Moved.{Moved}
use Rattle.hid_driver.specs.Driver.{driver_after_report, driver_at_start, report_events, report_outcome}
use Rattle.hid_driver.specs.Moves.{Moves}
use Rattle.usbip.specs.declared.fault.UsbipFault.{UsbipFault}
use Rattle.usbip.specs.declared.message.Reply.{Reply}
use Rattle.usbip.specs.declared.message.Reply.TheVariants as replies
use Rattle.usbip.specs.declared.message.Status.{Status}
use Rattle.usbip.specs.declared.message.Status.TheVariants as statuses
use Rattle.usbip.specs.declared.message.SubmitReply.{SubmitReply}
use Rattle.usbip.specs.declared.operation.Operation.TheVariants as operations
use Rattle.usbip.specs.declared.operation.OperationStatus.{OperationStatus}
use Rattle.usbip.specs.declared.operation.OperationStatus.TheVariants as ends
use Rattle.usbip.specs.Faults.{IsReplyFault}
use Rattle.usbip.specs.Messages.{IsReply}
use Rattle.usbip.specs.OperationReplies.{IsOperationReply, IsOperationReplyFault, device_number}
use Rattle.usbip_import.specs.declared.fault.ImportFault.{ImportFault}
use Rattle.usbip_import.specs.declared.fault.ImportFault.TheVariants.{Message, Refused, Busy, NoDevice, UnknownNumber, TooLong, Gone}
use Rattle.usbip_import.specs.declared.flight.Flight.{Flight}
use Rattle.usbip_import.specs.declared.flight.Purpose.{Purpose}
use Rattle.usbip_import.specs.declared.flight.Purpose.TheVariants as purposes
use Rattle.usbip_import.specs.declared.import.Import.{Import}
use Rattle.usbip_import.specs.declared.stage.Stage.{Stage}
use Rattle.usbip_import.specs.declared.stage.Stage.TheVariants.{Start, Requested, Described, Attached, Answering, Over}
use Rattle.usbip_import.specs.declared.stage.Told.{Told}
use Rattle.usbip_import.specs.declared.stage.Told.TheVariants.{Onward, Control, Report}
use Rattle.usbip_import.specs.Flights.{flight_of, without}

-- in bytes, what comes next: the head of OP_REP_IMPORT, the device, the header of a reply, or its data
abbrev pub wants : Stage → ℕ
wants (Start bus_id) = 0
wants Requested = 8
wants Described = 312
wants Attached = 48
wants (Answering flight status len) = len
wants Over = 0

-- an import goes on to a stage
abbrev pub Goes : Stage → Import → Result Told ImportFault → Import → Type 0
Goes stage before result after = (result ≡ Ok Onward) × (after ≡ record before { stage = stage })

-- an import is over, for this cause
abbrev pub Ends : ImportFault → Import → Result Told ImportFault → Import → Type 0
Ends fault before result after = (result ≡ Err fault) × (after ≡ record before { stage = Over })

-- what the head of a reply to the request says, or why it is none
abbrev pub IsHead : List ℕ → Result OperationStatus UsbipFault → Type 0
IsHead head (Ok status) = IsOperationReply head operations.Import status
IsHead head (Err fault) = IsOperationReplyFault fault head operations.Import

-- the device is described next, or the import is over: each refusal of the server has a name
abbrev pub HeadLeads : Result OperationStatus UsbipFault → Import → Result Told ImportFault → Import → Type 0
HeadLeads (Ok ends.Success) before result after = Goes Described before result after
HeadLeads (Ok ends.Failed) before result after = Ends Refused before result after
HeadLeads (Ok ends.Busy) before result after = Ends Busy before result after
HeadLeads (Ok ends.NoDevice) before result after = Ends NoDevice before result after
HeadLeads (Err fault) before result after = Ends (Message fault) before result after

-- The head of the reply to the request came.
abbrev pub HeadCame : List ℕ → Import → Result Told ImportFault → Import → Type 0
HeadCame head before result after =
    (read : Result OperationStatus UsbipFault) × IsHead head read × HeadLeads read before result after

-- The device came, as it is described: its number stands in each submit from then on.
abbrev pub DescriptionCame : List ℕ → Import → Result Told ImportFault → Import → Type 0
DescriptionCame description before result after =
    (result ≡ Ok Onward) × (after ≡ record before { stage = Attached; device = device_number description })

-- What a driver is given of a transfer: its bytes where it is done, a STALL, or that it failed.
abbrev pub IsOutcomeOf : Status → List ℕ → Outcome → Type 0
IsOutcomeOf statuses.Success bytes (outcomes.Done given) = given.now ≡ bytes
IsOutcomeOf statuses.Success bytes outcomes.Stalled = ⊥
IsOutcomeOf statuses.Success bytes outcomes.Failed = ⊥
IsOutcomeOf statuses.Stalled bytes outcome = outcome ≡ outcomes.Stalled
IsOutcomeOf status bytes outcome = outcome ≡ outcomes.Failed

-- the driver is given the outcome of its control transfer, or of a report of an interface, and no other interface is
abbrev pub AnswersBy : Purpose → Status → Outcome → Import → Result Told ImportFault → Import → List DriverEvent
    → List DriverEvent → Type 0
AnswersBy purposes.Control status outcome before result after old new =
    (moved : Result Moved DriverFault) × Moves before.driver outcome moved after.driver
    × (result ≡ Ok (Control status moved)) × (after ≡ record before { stage = Attached; driver = after.driver })
    × (new ≡ old)
AnswersBy (purposes.Report place) status outcome before result after old new =
    (result ≡ Ok (Report place status (report_outcome before.driver place outcome)))
    × (after ≡ record before { stage = Attached; driver = driver_after_report before.driver place outcome })
    × (new ≡ old ++ report_events before.driver place outcome)

-- A submit is answered: the driver is given its outcome, and what it delivers are the events of that.
pub record Answers (flight : Flight) (status : Status) (bytes : List ℕ) (before : Import) (result : Result Told ImportFault)
    (after : Import) (old new : List DriverEvent) : Type 0 where
  pub outcome : Outcome
  pub comes : IsOutcomeOf status bytes outcome
  pub answers : AnswersBy flight.purpose status outcome before result after old new

-- the device is gone: ESHUTDOWN
abbrev pub is_gone : Status → Bool
is_gone statuses.Shutdown = true
is_gone _ = false

-- in bytes, the data that follow a reply to a submit in flight: none where its data went to the device
abbrev pub length_following : Flight → SubmitReply → ℕ
length_following flight reply = if flight.room == 0 then 0 else reply.length

-- an import ends, and delivers nothing
abbrev pub EndsIn : ImportFault → Import → Result Told ImportFault → Import → List DriverEvent → List DriverEvent → Type 0
EndsIn fault before result after old new = Ends fault before result after × (new ≡ old)

-- A reply ends an import where the device is gone, or where it has more bytes than were asked for; else its data are taken, or
-- the submit is answered where it has none.
abbrev pub ReplyToIf : Bool → Bool → Bool → Flight → SubmitReply → Import → Result Told ImportFault → Import
    → List DriverEvent → List DriverEvent → Type 0
ReplyToIf true long some flight reply before result after old new = EndsIn Gone before result after old new
ReplyToIf false true some flight reply before result after old new = EndsIn TooLong before result after old new
ReplyToIf false false true flight reply before result after old new =
    Goes (Answering flight reply.status (length_following flight reply)) before result after × (new ≡ old)
ReplyToIf false false false flight reply before result after old new =
    Answers flight reply.status [] before result after old new

-- A reply to a submit that was in flight came.
abbrev pub ReplyTo : Flight → SubmitReply → Import → Result Told ImportFault → Import → List DriverEvent
    → List DriverEvent → Type 0
ReplyTo flight reply before result after old new =
    ReplyToIf (is_gone reply.status) (nat_lt flight.room (length_following flight reply))
    (nat_lt 0 (length_following flight reply)) flight reply before result after old new

-- the submit that a reply is to, by its number; one that isn't in flight is refused
abbrev pub ReplyToFlight : Option Flight → SubmitReply → Import → Result Told ImportFault → Import → List DriverEvent
    → List DriverEvent → Type 0
ReplyToFlight None reply before result after old new = EndsIn UnknownNumber before result after old new
ReplyToFlight (Some flight) reply before result after old new = ReplyTo flight reply before result after old new

-- what the header of a reply says, or why it is none
abbrev pub IsHeader : List ℕ → Result Reply UsbipFault → Type 0
IsHeader header (Ok reply) = IsReply header reply
IsHeader header (Err fault) = IsReplyFault fault header

-- A reply to a submit takes it out of what is in flight. Nothing was taken back, so a reply to an unlink is to no submit.
abbrev pub HeaderLeads : Result Reply UsbipFault → Import → Result Told ImportFault → Import → List DriverEvent
    → List DriverEvent → Type 0
HeaderLeads (Ok (replies.Submit reply)) before result after old new =
    ReplyToFlight (flight_of reply.seqnum before.flights) reply
    (record before { flights = without reply.seqnum before.flights }) result after old new
HeaderLeads (Ok (replies.Unlink reply)) before result after old new = EndsIn UnknownNumber before result after old new
HeaderLeads (Err fault) before result after old new = EndsIn (Message fault) before result after old new

-- The header of a reply came.
abbrev pub HeaderCame : List ℕ → Import → Result Told ImportFault → Import → List DriverEvent → List DriverEvent → Type 0
HeaderCame header before result after old new =
    (read : Result Reply UsbipFault) × IsHeader header read × HeaderLeads read before result after old new

-- What a call that takes bytes returns, leaves and delivers, by the stage.
abbrev pub Takes : Stage → List ℕ → Import → Result Told ImportFault → Import → List DriverEvent → List DriverEvent → Type 0
Takes (Start bus_id) bytes before result after old new = (result ≡ Ok Onward) × (after ≡ before) × (new ≡ old)
Takes Requested bytes before result after old new = HeadCame bytes before result after × (new ≡ old)
Takes Described bytes before result after old new = DescriptionCame bytes before result after × (new ≡ old)
Takes Attached bytes before result after old new = HeaderCame bytes before result after old new
Takes (Answering flight status len) bytes before result after old new =
    Answers flight status bytes before result after old new
Takes Over bytes before result after old new = (result ≡ Ok Onward) × (after ≡ before) × (new ≡ old)

-- The import whose connection is over: nothing is in flight, and the driver knows nothing of its device.
abbrev pub import_ended : Import → Import
import_ended import = record import { driver = driver_at_start; flights = []; stage = Over }
