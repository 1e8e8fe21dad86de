-- What stands between two reads or writes of a session with a USB/IP server (our choice: docs/USBIP.md).
use Rattle.std.specs.Prelude.{◌≡◌, ◌⊎◌, ℕ, ◌==◌, ◌-◌, ◌||◌, Bool, true, false, List, [], ◌∷◌, ◌++◌, length, Result, Ok, Err}
use Rattle.hid_report_descriptor.specs.Items.{EncodedItem}
use Rattle.hid_report_descriptor.specs.Real.{Accepts}
use Rattle.hid_layout.specs.Layout.{layout_of}
use Rattle.hid_driver.specs.declared.outcome.DriverEvent.{DriverEvent}
use Rattle.hid_driver.specs.declared.state.DriverState.{DriverState}
use Rattle.hid_driver.specs.declared.state.DriverState.TheVariants.{Ready}
use Rattle.hid_driver.specs.declared.state.Moved.TheVariants.{Live}
use Rattle.hid_driver.specs.Interfaces.{all_back_events}
use Rattle.usbip_import.specs.declared.fault.ImportFault.{ImportFault}
use Rattle.usbip_import.specs.declared.fault.ImportFault.TheVariants.{Memory}
use Rattle.usbip_import.specs.declared.flight.Flight.{Flight}
use Rattle.usbip_import.specs.declared.flight.Purpose.{Purpose}
use Rattle.usbip_import.specs.declared.flight.Purpose.TheVariants as purposes
use Rattle.usbip_import.specs.declared.import.Import.{Import}
use Rattle.usbip_import.specs.declared.stage.Stage.{Stage}
use Rattle.usbip_import.specs.declared.stage.Stage.TheVariants.{Start, Requested, Described, Attached, Answering, Over}
use Rattle.usbip_import.specs.declared.stage.Told.{Told}
use Rattle.usbip_import.specs.declared.stage.Told.TheVariants.{Onward, Control}
use Rattle.usbip_import.specs.Flights.{is_asked}
use Rattle.usbip_import.specs.Sending.{import_at_start}
use Rattle.usbip_import.specs.Taking.{Takes, import_ended, wants}
use Rattle.usbip_session.specs.declared.session.Laid.{Laid}

-- an import, what came of the next message, what is still to be sent, whether the last message was the data of an answer, its
-- events, and the layouts of the interfaces that are read
pub record SessionState : Type 0 where
  pub import : Import
  pub came : List ℕ
  pub unsent : List ℕ
  pub has_data : Bool
  pub events : List DriverEvent
  pub laid : List Laid

-- a session of which nothing was sent
abbrev pub session_at_start : List ℕ → SessionState
session_at_start bus_id = record { import = import_at_start bus_id; came = []; unsent = []; has_data = false; events = []; laid = [] }

-- in bytes, what the next message lacks
abbrev pub lacks : SessionState → ℕ
lacks session = wants session.import.stage - length session.came

-- what came of the next message, with these bytes
abbrev pub message_with : SessionState → List ℕ → List ℕ
message_with session bytes = session.came ++ bytes

-- memory ran out, and the import is as it was; or a message is taken as the import takes it: its events are the import's
abbrev pub TakesMessage : List ℕ → Import → Result Told ImportFault → Import → List DriverEvent → Type 0
TakesMessage message before result after events =
    ((result ≡ Err Memory) × (after ≡ before)) ⊎ Takes before.stage message before result after [] events

-- The layouts that are known after a message: where it was the report descriptor of an interface, and is read, its layout is one
-- more.
abbrev pub Lays : Told → List ℕ → List Laid → List Laid → Type 0
Lays (Control status (Ok (Live place))) descriptor old new =
    (items : List EncodedItem) × Accepts descriptor items
    × (new ≡ old ++ record { interface = place; layout = layout_of items } ∷ [])
Lays told descriptor old new = new ≡ old

-- the layouts that are known after what taking a message returned
abbrev pub LaysAfter : Result Told ImportFault → List ℕ → List Laid → List Laid → Type 0
LaysAfter (Ok told) message old new = Lays told message old new
LaysAfter (Err fault) message old new = new ≡ old

-- what comes in this stage is the data of an answer: an answer without data is its header alone
abbrev pub is_data : Stage → Bool
is_data (Answering flight status len) = true
is_data (Start bus_id) = false
is_data Requested = false
is_data Described = false
is_data Attached = false
is_data Over = false

-- a message came whole: it is taken, nothing is left of it, and what is to be sent stays
pub record TakesWhole (before : SessionState) (message : List ℕ) (result : Result Told ImportFault) (after : SessionState)
    : Type 0 where
  pub taken : Takes before.import.stage message before.import result after.import [] after.events
  pub came : after.came ≡ []
  pub unsent : after.unsent ≡ before.unsent
  pub has_data : after.has_data ≡ is_data before.import.stage
  pub laid : LaysAfter result message before.laid after.laid

-- a message is taken if it is whole; else what came of it is kept, and nothing else changes
abbrev pub TakesIf : Bool → SessionState → List ℕ → Result Told ImportFault → SessionState → Type 0
TakesIf true before message result after = TakesWhole before message result after
TakesIf false before message result after =
    (result ≡ Ok Onward) × (after ≡ record before { came = message; events = [] })

-- memory ran out for the message: the import is as it was, and so is what is held
abbrev pub RanOut : SessionState → Result Told ImportFault → SessionState → Type 0
RanOut before result after = (result ≡ Err Memory) × (after.import ≡ before.import)

-- memory ran out for the layout of an interface alone: the import took the message
pub record RanOutOfLayout (before : SessionState) (message : List ℕ) (result : Result Told ImportFault) (after : SessionState)
    : Type 0 where
  pub told : Told
  pub fault : result ≡ Err Memory
  pub taken : Takes before.import.stage message before.import (Ok told) after.import [] after.events

-- What bytes that came lead to: with what came before they are taken where they are a whole message. Or memory ran out, and what is
-- held isn't forgotten.
abbrev pub TakesBytes : SessionState → List ℕ → Result Told ImportFault → SessionState → Type 0
TakesBytes before bytes result after =
    RanOut before result after ⊎ RanOutOfLayout before (message_with before bytes) result after
    ⊎ TakesIf (length (message_with before bytes) == wants before.import.stage) before (message_with before bytes) result after

-- a submit is a control transfer
abbrev pub is_control : Purpose → Bool
is_control purposes.Control = true
is_control (purposes.Report place) = false

-- an answer is awaited: that to the request for the device, or one to a control transfer, until its last byte came
abbrev pub awaits_by : Stage → List Flight → Bool
awaits_by (Start bus_id) flights = false
awaits_by Requested flights = true
awaits_by Described flights = true
awaits_by Attached flights = is_asked purposes.Control flights
awaits_by (Answering flight status len) flights = is_control flight.purpose || is_asked purposes.Control flights
awaits_by Over flights = false

-- An answer is awaited, and not one for a report.
abbrev pub awaits_answer : SessionState → Bool
awaits_answer session = awaits_by session.import.stage session.import.flights

-- nothing of a message came in this stage, where this came of the next one
abbrev pub is_between_by : Stage → List ℕ → Bool
is_between_by (Answering flight status len) came = false
is_between_by (Start bus_id) came = length came == 0
is_between_by Requested came = length came == 0
is_between_by Described came = length came == 0
is_between_by Attached came = length came == 0
is_between_by Over came = length came == 0

-- Nothing of a message came that isn't whole.
abbrev pub is_between : SessionState → Bool
is_between session = is_between_by session.import.stage session.came

-- a driver waits for nothing
abbrev pub is_ready_state : DriverState → Bool
is_ready_state Ready = true
is_ready_state _ = false

-- The driver of a session waits for nothing.
abbrev pub is_ready : SessionState → Bool
is_ready session = is_ready_state session.import.driver.state

-- The session that is over: what is held of each interface is released.
abbrev pub session_at_end : SessionState → SessionState
session_at_end session = record session {
  import = import_ended session.import;
  came = [];
  unsent = [];
  events = all_back_events 0 session.import.driver.interfaces;
}
