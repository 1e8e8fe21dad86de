-- The reports of an interface: what its interrupt IN endpoints send (USB 2.0, 5.7; HID 1.11, 4.4), from its report descriptor on
-- (HID 1.11, 7.1.1), until it is in the boot protocol (HID 1.11, 7.2.6), or what is known of it ends.
use Rattle.std.specs.Prelude.{◌≡◌, ℕ, ◌==◌, ◌&&◌, not, if◌then◌else◌, Bool, true, false, List, [], ◌∷◌, ◌++◌, length, filter, map, position, Option, Some, None}
use Rattle.std.specs.List.{find, list_any}
use Rattle.usb_capture.specs.declared.urb.Direction.{Direction}
use Rattle.usb_capture.specs.declared.urb.Direction.TheVariants.{Out, In}
use Rattle.usb_capture.specs.declared.urb.Transfer.{Transfer}
use Rattle.usb_capture.specs.declared.urb.Transfer.TheVariants.{Interrupt, Control}
use Rattle.usb_capture.specs.declared.urb.UrbEvent.{UrbEvent}
use Rattle.usb_capture.specs.declared.urb.UrbEvent.TheVariants.{Completed, Failed}
use Rattle.usb_capture.specs.UrbRecord.{UrbRecord}
use Rattle.hid_capture.specs.declared.request.Request.{Request}
use Rattle.hid_capture.specs.declared.request.Request.TheVariants.{SetAddress, SetConfiguration, GetConfigurationDescriptor, GetReportDescriptor, SetProtocol, HubPort, Other}
use Rattle.hid_capture.specs.declared.tables.PendingRequest.{PendingRequest}
use Rattle.hid_capture.specs.declared.tracker.Content.{Content}
use Rattle.hid_capture.specs.declared.tracker.Content.TheVariants.{Report}
use Rattle.hid_capture.specs.Descriptors.{whole_configuration}
use Rattle.hid_capture.specs.Requests.{request_of}
use Rattle.hid_capture.specs.Tracking.{Tracking, has_id, is_at, is_boot, is_interface, has_descriptor_of, is_gone, source, outcome}

-- An interface of a device: the device's bus and address, the interface's number there, and its number in the capture.
pub record NumberedInterface : Type 0 where
  pub bus : ℕ
  pub device : ℕ
  pub interface : ℕ
  pub number : ℕ

-- The reports of an interface are read: it is the first with its number, has a descriptor, and is in the report protocol.
pub record IsRead (t : Tracking) (i : NumberedInterface) : Type 0 where
  pub numbered : position (is_interface i.bus i.device i.interface) t.interfaces ≡ Some i.number
  pub described : position (has_descriptor_of i.bus i.device i.interface) t.interfaces ≡ Some i.number
  pub reports : list_any (is_boot i.bus i.device i.interface) t.boots ≡ false

-- ---- where it begins

-- what a control transfer asked for, if its request is known
abbrev pub pending_request : Tracking → UrbRecord → Option PendingRequest
pending_request t urb = find (has_id urb.bus urb.device urb.id) t.requests

-- a request is for the report descriptor of an interface
abbrev pub IsFor : ℕ → Option PendingRequest → Type 0
IsFor interface None = false ≡ true
IsFor interface (Some r) = request_of r.setup ≡ GetReportDescriptor interface

-- A control transfer brings the report descriptor of an interface, in a frame that isn't truncated: all bytes that the device sent
-- for the request are there.
pub record Describes (t : Tracking) (urb : UrbRecord) (interface : ℕ) : Type 0 where
  pub completed : urb.event ≡ Completed
  pub control : urb.transfer ≡ Control
  pub whole : urb.is_truncated ≡ false
  pub request : IsFor interface (pending_request t urb)

-- ---- what is a report

-- an interface is the one that is known
abbrev pub is_known_as : ℕ → Option ℕ → Bool
is_known_as interface None = false
is_known_as interface (Some known) = known == interface

-- a URB is of an endpoint of the interface
abbrev pub is_from : Tracking → NumberedInterface → UrbRecord → Bool
is_from t i urb = is_at urb.bus urb.device i.bus i.device && is_known_as i.interface (source t i.bus i.device urb.endpoint)

-- a transfer of interrupts is completed
abbrev pub is_completed_interrupt : UrbEvent → Transfer → Bool
is_completed_interrupt Completed Interrupt = true
is_completed_interrupt event transfer = false

-- data go to the host
abbrev pub is_to_host : Direction → Bool
is_to_host In = true
is_to_host Out = false

-- a URB brings a report of the interface: a completed interrupt IN transfer of one of its endpoints, with data, of which each byte was captured
abbrev pub is_report_from : Tracking → NumberedInterface → UrbRecord → Bool
is_report_from t i urb =
    is_completed_interrupt urb.event urb.transfer
    && (is_to_host urb.direction && (is_from t i urb && (not (length urb.payload == 0) && not urb.is_truncated)))

-- ---- where it ends

-- a configuration is there
abbrev pub is_there : Option (ℕ × ℕ) → Bool
is_there None = false
is_there (Some found) = true

-- The answer to a request ends it: another device gets the address; a configuration of any device is set, or read with all its bytes; or
-- the interface is put into the boot protocol.
abbrev pub request_ends : NumberedInterface → UrbRecord → Request → Bool
request_ends i urb (SetAddress address) = is_at urb.bus address i.bus i.device
request_ends i urb (SetConfiguration value) = true
request_ends i urb GetConfigurationDescriptor = is_there (whole_configuration urb.payload)
request_ends i urb (GetReportDescriptor interface) = false
request_ends i urb (SetProtocol interface boot) =
    boot && (is_at urb.bus urb.device i.bus i.device && (interface == i.interface))
request_ends i urb HubPort = false
request_ends i urb Other = false

-- the answer to what was asked for ends it
abbrev pub answer_ends : NumberedInterface → UrbRecord → Option PendingRequest → Bool
answer_ends i urb None = false
answer_ends i urb (Some r) = request_ends i urb (request_of r.setup)

-- a control transfer that is completed ends it; so does an endpoint of the interface that is gone
abbrev pub event_ends : Tracking → NumberedInterface → UrbRecord → UrbEvent → Transfer → Bool
event_ends t i urb Completed Control = answer_ends i urb (pending_request t urb)
event_ends t i urb (Failed status) Interrupt = is_gone status && is_from t i urb
event_ends t i urb event transfer = false

-- a URB ends the reading of an interface
abbrev pub ends : Tracking → NumberedInterface → UrbRecord → Bool
ends t i urb = event_ends t i urb urb.event urb.transfer

-- none of these URBs ends it
abbrev pub NoneEnds : Tracking → NumberedInterface → List UrbRecord → Type 0
NoneEnds t i [] = Unit {0}
NoneEnds t i (urb ∷ rest) = (ends t i urb ≡ false) × NoneEnds (outcome t urb).after i rest

-- ---- all reports

-- the data of a URB are a report of the interface with this number, by what is said of them
abbrev pub is_report_of : ℕ → Content → Bool
is_report_of number (Report n) = n == number
is_report_of number content = false

-- the reports of the interface with this number, by what is said of URBs, in order
abbrev pub reports_told : Tracking → ℕ → List UrbRecord → List (List ℕ)
reports_told t number [] = []
reports_told t number (urb ∷ rest) =
    (if is_report_of number (outcome t urb).content then urb.payload ∷ [] else [])
    ++ reports_told (outcome t urb).after number rest

-- the reports that an interface sends, in order: the data of its transfers
abbrev pub reports_sent : Tracking → NumberedInterface → List UrbRecord → List (List ℕ)
reports_sent t i urbs = map (λ urb. urb.payload) (filter (is_report_from t i) urbs)
