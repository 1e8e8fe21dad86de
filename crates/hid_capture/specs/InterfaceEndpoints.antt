-- The interrupt IN endpoints of a HID interface, by the bytes of a configuration (USB 2.0, 9.4.3, 9.6.3, 9.6.5 and 9.6.6; HID 1.11,
-- 4.1): descriptors come one after another, and those of an interface's endpoints after its own and before the next interface's.
use Rattle.std.specs.Prelude.{◌≡◌, ℕ, ◌+◌, ◌*◌, ◌%◌, ◌≤◌, ◌==◌, ◌&&◌, not, nat_le, Bool, true, false, List, [], ◌∷◌, ◌++◌, length, take, filter, Option, Some, None}
use Rattle.std.specs.List.{find, list_any}
use Rattle.usb_capture.specs.declared.urb.Transfer.{Transfer}
use Rattle.usb_capture.specs.declared.urb.Transfer.TheVariants.{Control}
use Rattle.usb_capture.specs.declared.urb.UrbEvent.{UrbEvent}
use Rattle.usb_capture.specs.declared.urb.UrbEvent.TheVariants.{Completed}
use Rattle.usb_capture.specs.UrbRecord.{UrbRecord}
use Rattle.hid_capture.specs.declared.configuration.Configuration.{Configuration}
use Rattle.hid_capture.specs.declared.request.Request.{Request}
use Rattle.hid_capture.specs.declared.request.Request.TheVariants.{SetAddress, SetConfiguration, GetConfigurationDescriptor, GetReportDescriptor, SetProtocol, HubPort, Other}
use Rattle.hid_capture.specs.declared.tables.PendingRequest.{PendingRequest}
use Rattle.hid_capture.specs.Descriptors.{byte, total_length, whole_configuration}
use Rattle.hid_capture.specs.Reports.{is_there, pending_request}
use Rattle.hid_capture.specs.Requests.{request_of}
use Rattle.hid_capture.specs.Tracking.{Tracking, is_at, is_configuration_on, is_endpoint, is_of_configuration, is_of_device, source}

-- ---- descriptors

-- descriptors one after another, and the bytes after them
abbrev pub followed_by : List (List ℕ) → List ℕ → List ℕ
followed_by [] rest = rest
followed_by (descriptor ∷ others) rest = descriptor ++ followed_by others rest

-- each of these is a descriptor: two bytes or more, of which the first is their count
abbrev pub AreDescriptors : List (List ℕ) → Type 0
AreDescriptors [] = Unit {0}
AreDescriptors (descriptor ∷ others) = (byte descriptor 0 ≡ length descriptor) × (2 ≤ length descriptor) × AreDescriptors others

-- the descriptor of an interface
abbrev pub is_of_interface : List ℕ → Bool
is_of_interface descriptor = byte descriptor 1 == 4

-- the descriptor of the IN endpoint with this number
abbrev pub is_of_endpoint : ℕ → List ℕ → Bool
is_of_endpoint endpoint descriptor =
    (byte descriptor 1 == 5) && (nat_le 128 (byte descriptor 2) && (byte descriptor 2 % 128 == endpoint))

-- the descriptor of the HID interface with this number
pub record IsHidInterface (descriptor : List ℕ) (interface : ℕ) : Type 0 where
  pub size : byte descriptor 0 ≡ length descriptor
  pub long : 9 ≤ length descriptor
  pub kind : byte descriptor 1 ≡ 4
  pub number : byte descriptor 2 ≡ interface
  pub class : byte descriptor 5 ≡ 3

-- the descriptor of the interrupt IN endpoint with this number
pub record IsInterruptIn (descriptor : List ℕ) (endpoint : ℕ) : Type 0 where
  pub size : byte descriptor 0 ≡ length descriptor
  pub long : 7 ≤ length descriptor
  pub address : is_of_endpoint endpoint descriptor ≡ true
  pub interrupt : byte descriptor 3 % 4 ≡ 3

-- A HID interface has an interrupt IN endpoint: the endpoint's descriptor comes after the interface's, with no other interface's
-- between them, and is the first of an IN endpoint with its number.
pub record HasEndpoint (bytes : List ℕ) (interface endpoint : ℕ) : Type 0 where
  pub before : List (List ℕ)
  pub head : List ℕ
  pub between : List (List ℕ)
  pub last : List ℕ
  pub after : List ℕ
  pub order : bytes ≡ followed_by before (head ++ followed_by between (last ++ after))
  pub before_are : AreDescriptors before
  pub head_is : IsHidInterface head interface
  pub between_are : AreDescriptors between
  pub last_is : IsInterruptIn last endpoint
  pub own : list_any is_of_interface between ≡ false
  pub first_before : list_any (is_of_endpoint endpoint) before ≡ false
  pub first_between : list_any (is_of_endpoint endpoint) between ≡ false

-- ---- the configuration that is read

-- a request is for a configuration
abbrev pub IsForConfiguration : Option PendingRequest → Type 0
IsForConfiguration None = false ≡ true
IsForConfiguration (Some r) = request_of r.setup ≡ GetConfigurationDescriptor

-- A control transfer brings a configuration with all its bytes.
pub record Configures (t : Tracking) (urb : UrbRecord) : Type 0 where
  pub completed : urb.event ≡ Completed
  pub control : urb.transfer ≡ Control
  pub request : IsForConfiguration (pending_request t urb)
  pub long : 9 ≤ total_length urb.payload
  pub whole : total_length urb.payload ≤ length urb.payload

-- the configuration that a URB brings, by its value
abbrev pub configuration_of : UrbRecord → Configuration
configuration_of urb = record { bus = urb.bus; device = urb.device; value = byte urb.payload 5 }

-- a configuration is active if its value is that of the one that is set; where none is, if no other of its device is known
abbrev pub IsActiveBy : Tracking → Configuration → Option Configuration → Type 0
IsActiveBy t c (Some s) = s.value ≡ c.value
IsActiveBy t c None = list_any (is_of_device c.bus c.device) (filter (λ e. not (is_of_configuration c e)) t.endpoints) ≡ false

-- A configuration is the active one, as far as the capture says.
abbrev pub IsActive : Tracking → Configuration → Type 0
IsActive t c = IsActiveBy t c (find (is_configuration_on c.bus c.device) t.active_configurations)

-- All endpoints of a configuration have room: the descriptor of each has 7 bytes, and 256 endpoints are kept.
abbrev pub HasRoom : Tracking → UrbRecord → Type 0
HasRoom t urb = length t.endpoints * 7 + total_length urb.payload ≤ 256 * 7

-- ---- how long it is known

-- An endpoint is known to be a HID interface's, by a configuration of their device.
pub record IsKnown (t : Tracking) (c : Configuration) (interface endpoint : ℕ) : Type 0 where
  pub known : source t c.bus c.device endpoint ≡ Some interface
  pub found : find (is_endpoint (find (is_configuration_on c.bus c.device) t.active_configurations) c.bus c.device endpoint) t.endpoints
      ≡ Some (record { configuration = c; interface = Some interface; endpoint = endpoint })

-- The answer to a request ends it: another device gets the address; a configuration is set that is another, or another device's; or
-- one of any device is read with all its bytes.
abbrev pub request_forgets : Configuration → UrbRecord → Request → Bool
request_forgets c urb (SetAddress address) = is_at urb.bus address c.bus c.device
request_forgets c urb (SetConfiguration value) = not (is_at urb.bus urb.device c.bus c.device && (value == c.value))
request_forgets c urb GetConfigurationDescriptor = is_there (whole_configuration urb.payload)
request_forgets c urb (GetReportDescriptor interface) = false
request_forgets c urb (SetProtocol interface boot) = false
request_forgets c urb HubPort = false
request_forgets c urb Other = false

-- the answer to what was asked for ends it
abbrev pub answer_forgets : Configuration → UrbRecord → Option PendingRequest → Bool
answer_forgets c urb None = false
answer_forgets c urb (Some r) = request_forgets c urb (request_of r.setup)

-- a control transfer that is completed ends it
abbrev pub event_forgets : Tracking → Configuration → UrbRecord → UrbEvent → Transfer → Bool
event_forgets t c urb Completed Control = answer_forgets c urb (pending_request t urb)
event_forgets t c urb event transfer = false

-- A URB ends what is known of the endpoints of a configuration.
abbrev pub forgets : Tracking → Configuration → UrbRecord → Bool
forgets t c urb = event_forgets t c urb urb.event urb.transfer
