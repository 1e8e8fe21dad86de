-- What the URBs of a capture say of HID devices (USB 2.0, 9.4; HID 1.11, 7.1.1 and 7.2.6).
--
-- A device is known by its bus and address, an interface of it by its number. A transfer that isn't completed says nothing.
use Rattle.std.specs.Prelude.{ℕ, ◌+◌, ◌-◌, ◌==◌, ◌&&◌, ◌||◌, not, nat_lt, if◌then◌else◌, Bool, true, false, List, [], ◌∷◌, ◌++◌, length, take, drop, filter, map, position, slice_set, Option, Some, None}
use Rattle.std.specs.List.{find, list_any}
use Rattle.usb_capture.specs.declared.urb.Direction.{Direction}
use Rattle.usb_capture.specs.declared.urb.Direction.TheVariants.{Out, In}
use Rattle.usb_capture.specs.declared.urb.Transfer.{Transfer}
use Rattle.usb_capture.specs.declared.urb.Transfer.TheVariants.{Isochronous, Interrupt, Control, Bulk}
use Rattle.usb_capture.specs.declared.urb.UrbEvent.{UrbEvent}
use Rattle.usb_capture.specs.declared.urb.UrbEvent.TheVariants.{Submitted, Completed, Stalled, Failed}
use Rattle.usb_capture.specs.UrbRecord.{UrbRecord}
use Rattle.hid_capture.specs.declared.configuration.Configuration.{Configuration}
use Rattle.hid_capture.specs.declared.configuration.InterruptEndpoint.{InterruptEndpoint}
use Rattle.hid_capture.specs.declared.request.Request.{Request}
use Rattle.hid_capture.specs.declared.request.Request.TheVariants.{SetAddress, SetConfiguration, GetConfigurationDescriptor, GetReportDescriptor, SetProtocol, HubPort, Other}
use Rattle.hid_capture.specs.declared.tables.BootInterface.{BootInterface}
use Rattle.hid_capture.specs.declared.tables.TrackedInterface.{TrackedInterface}
use Rattle.hid_capture.specs.declared.tables.PendingRequest.{PendingRequest}
use Rattle.hid_capture.specs.declared.tracker.Content.{Content}
use Rattle.hid_capture.specs.declared.tracker.Content.TheVariants.{Nothing, Descriptor, TruncatedDescriptor, TooManyInterfaces, Report, TruncatedReport, Undescribed, Unknown, BootReport, InterfaceDisconnected, DeviceDisconnected}
use Rattle.hid_capture.specs.declared.tracker.Tracker.{Tracker}
use Rattle.hid_capture.specs.declared.undescribed.UndescribedEndpoint.{UndescribedEndpoint}
use Rattle.hid_capture.specs.Descriptors.{endpoints_in, whole_configuration}
use Rattle.hid_capture.specs.Requests.{request_of}
use Rattle.hid_capture.specs.Undescribed.{with_transfer_of, without_endpoint, without_hub}

-- The control transfers that are under way, the interrupt IN endpoints, the configuration that is set on each device, the
-- interfaces in the boot protocol, the interfaces that have a number: an interface has that of its place; and the endpoints whose
-- data came while no report descriptor was known for them.
pub record Tracking : Type 0 where
  pub requests : List PendingRequest
  pub endpoints : List InterruptEndpoint
  pub active_configurations : List Configuration
  pub boots : List BootInterface
  pub interfaces : List TrackedInterface
  pub undescribed : List UndescribedEndpoint

-- what a URB says, and what is known after it
pub record Outcome : Type 0 where
  pub content : Content
  pub after : Tracking

-- a URB that says nothing of reports
abbrev pub silence : Tracking → Outcome
silence t = record { content = Nothing; after = t }

-- ---- what is kept

-- room for one more of at most n: the oldest is dropped
abbrev pub latest : {A : Type 0} → ℕ → List A → List A
latest n kept = if nat_lt (length kept) n then kept else drop 1 kept

-- how many requests, active configurations and interfaces in the boot protocol are kept at most (our choice)
abbrev pub most_kept : ℕ
most_kept = 128

-- a bus and an address are those of a device
abbrev pub is_at : ℕ → ℕ → ℕ → ℕ → Bool
is_at bus device bus' device' = (bus == bus') && (device == device')

-- a request is joined to its answer by bus, device and id
abbrev pub has_id : ℕ → ℕ → ℕ → PendingRequest → Bool
has_id bus device id r = is_at r.bus r.device bus device && (r.id == id)

-- the endpoint is one of this device
abbrev pub is_of_device : ℕ → ℕ → InterruptEndpoint → Bool
is_of_device bus device e = is_at e.configuration.bus e.configuration.device bus device

-- the endpoint is one of this configuration
abbrev pub is_of_configuration : Configuration → InterruptEndpoint → Bool
is_of_configuration c e = is_of_device c.bus c.device e && (e.configuration.value == c.value)

-- the configuration is one of this device
abbrev pub is_configuration_on : ℕ → ℕ → Configuration → Bool
is_configuration_on bus device c = is_at c.bus c.device bus device

-- an interface in the boot protocol is one of this device
abbrev pub is_boot_of : ℕ → ℕ → BootInterface → Bool
is_boot_of bus device b = is_at b.bus b.device bus device

-- an interface in the boot protocol is this one
abbrev pub is_boot : ℕ → ℕ → ℕ → BootInterface → Bool
is_boot bus device interface b = is_boot_of bus device b && (b.interface == interface)

-- an interface with a number is this one
abbrev pub is_interface : ℕ → ℕ → ℕ → TrackedInterface → Bool
is_interface bus device interface tracked = is_at tracked.bus tracked.device bus device && (tracked.interface == interface)

-- the descriptor of an interface is forgotten, if it is of this device
abbrev pub without_descriptor_on : ℕ → ℕ → TrackedInterface → TrackedInterface
without_descriptor_on bus device tracked =
    if is_at tracked.bus tracked.device bus device then record tracked { is_described = false } else tracked

-- an interface of this device has a descriptor
abbrev pub is_described_on : ℕ → ℕ → TrackedInterface → Bool
is_described_on bus device tracked = is_at tracked.bus tracked.device bus device && tracked.is_described

-- an interface with a number has a descriptor, or has none, if it is this one
abbrev pub with_described : ℕ → ℕ → ℕ → Bool → TrackedInterface → TrackedInterface
with_described bus device interface described tracked =
    if is_interface bus device interface tracked then record tracked { is_described = described } else tracked

-- a configuration may be the one that is set; each may where none was set in the capture
abbrev pub may_be_active : Option Configuration → Configuration → Bool
may_be_active None c = true
may_be_active (Some s) c = s.value == c.value

-- an endpoint of a device with this number, in the configuration that is set
abbrev pub is_endpoint : Option Configuration → ℕ → ℕ → ℕ → InterruptEndpoint → Bool
is_endpoint active bus device endpoint e =
    is_of_device bus device e && (e.endpoint == endpoint) && may_be_active active e.configuration

-- Stands for the number of an interface of which only an endpoint is known: it is over 255, the greatest number of an interface.
abbrev pub unread_interface : ℕ → ℕ
unread_interface endpoint = 256 + endpoint

-- an endpoint in the configuration that is set, of an interface of which only this endpoint was known
abbrev pub is_endpoint_of : Option Configuration → TrackedInterface → InterruptEndpoint → Bool
is_endpoint_of active tracked e =
    is_of_device tracked.bus tracked.device e && (unread_interface e.endpoint == tracked.interface) && may_be_active active e.configuration

-- the interface has this number, if one is found
abbrev pub with_interface : TrackedInterface → Option ℕ → TrackedInterface
with_interface tracked None = tracked
with_interface tracked (Some interface) = record tracked { interface = interface }

-- the interface has the number that a configuration gives its endpoint
abbrev pub with_interface_of : TrackedInterface → Option InterruptEndpoint → TrackedInterface
with_interface_of tracked None = tracked
with_interface_of tracked (Some e) = with_interface tracked e.interface

-- an interface of which only an endpoint was known has its number, if a configuration was read that has the endpoint
abbrev pub with_interface_in : List Configuration → List InterruptEndpoint → TrackedInterface → TrackedInterface
with_interface_in active_configurations endpoints tracked =
    with_interface_of tracked (find (is_endpoint_of (find (is_configuration_on tracked.bus tracked.device) active_configurations) tracked) endpoints)

-- the interfaces of which only endpoints were known have their numbers, as far as configurations were read
abbrev pub with_interfaces : Tracking → Tracking
with_interfaces t = record t { interfaces = map (with_interface_in t.active_configurations t.endpoints) t.interfaces }

-- ---- requests

-- the requests with other ids
abbrev pub other_requests : UrbRecord → List PendingRequest → List PendingRequest
other_requests urb requests = filter (λ r. not (has_id urb.bus urb.device urb.id r)) requests

-- a request goes out, in place of one with its id
abbrev pub with_request : Tracking → UrbRecord → List ℕ → Tracking
with_request t urb setup = record t {
  requests = latest most_kept (other_requests urb t.requests)
      ++ record { bus = urb.bus; device = urb.device; id = urb.id; setup = setup } ∷ [];
}

-- a request has its answer
abbrev pub without_request : Tracking → UrbRecord → Tracking
without_request t urb = record t { requests = other_requests urb t.requests }

-- what is said where the descriptors of a device are forgotten
abbrev pub disconnection : Tracking → ℕ → ℕ → Content
disconnection t bus device =
    if list_any (is_described_on bus device) t.interfaces then DeviceDisconnected bus device else Nothing

-- a device gets an address: nothing is known of the device there
abbrev pub with_address : Tracking → ℕ → ℕ → Tracking
with_address t bus device = record t {
  endpoints = filter (λ e. not (is_of_device bus device e)) t.endpoints;
  active_configurations = filter (λ c. not (is_configuration_on bus device c)) t.active_configurations;
  boots = filter (λ b. not (is_boot_of bus device b)) t.boots;
  interfaces = map (without_descriptor_on bus device) t.interfaces;
}

-- a device gets an address: what is said of the one that had it, and what is known then
abbrev pub outcome_of_address : Tracking → ℕ → ℕ → Outcome
outcome_of_address t bus device =
    record { content = disconnection t bus device; after = with_address t bus device }

-- a device leaves the configuration that is set for another one; 0 is none
abbrev pub leaves : Option Configuration → ℕ → Bool
leaves None value = false
leaves (Some c) value = not (c.value == 0) && not (c.value == value)

-- what is said of a device that leaves its configuration, if it does
abbrev pub content_of_leaving : Tracking → Bool → ℕ → ℕ → Content
content_of_leaving t left bus device = if left then disconnection t bus device else Nothing

-- the interfaces have no descriptors where their device leaves its configuration
abbrev pub interfaces_after_leaving : Bool → ℕ → ℕ → List TrackedInterface → List TrackedInterface
interfaces_after_leaving left bus device interfaces =
    if left then map (without_descriptor_on bus device) interfaces else interfaces

-- A configuration is set: the interfaces are in the report protocol (HID 1.11, 7.2.6), and have the descriptors that were read
-- unless the device had another configuration.
abbrev pub with_configuration : Tracking → Configuration → Tracking
with_configuration t c = with_interfaces (record t {
  active_configurations = latest most_kept (filter (λ s. not (is_configuration_on c.bus c.device s)) t.active_configurations) ++ c ∷ [];
  boots = filter (λ b. not (is_boot_of c.bus c.device b)) t.boots;
  interfaces = interfaces_after_leaving (leaves (find (is_configuration_on c.bus c.device) t.active_configurations) c.value) c.bus c.device t.interfaces;
})

-- what is said where a configuration is set
abbrev pub content_of_configuration : Tracking → Configuration → Content
content_of_configuration t c =
    content_of_leaving t (leaves (find (is_configuration_on c.bus c.device) t.active_configurations) c.value) c.bus c.device

-- a configuration is set
abbrev pub outcome_of_configuration : Tracking → Configuration → Outcome
outcome_of_configuration t c = record { content = content_of_configuration t c; after = with_configuration t c }

-- endpoints with more of them, if there are 256 at most then (our choice)
abbrev pub endpoints_with : List InterruptEndpoint → List InterruptEndpoint → List InterruptEndpoint
endpoints_with others found = if nat_lt (256 - length others) (length found) then others else others ++ found

-- a configuration is read: its endpoints are these, in place of those that it had
abbrev pub with_endpoints : Tracking → Configuration → List ℕ → Tracking
with_endpoints t c bytes = with_interfaces (record t {
  endpoints = endpoints_with (filter (λ e. not (is_of_configuration c e)) t.endpoints) (endpoints_in (length bytes) c None bytes);
})

-- the answer to a request for a configuration, of which all is there or nothing is known
abbrev pub with_answer : Tracking → UrbRecord → Option (ℕ × ℕ) → Tracking
with_answer t urb None = t
with_answer t urb (Some found) =
    with_endpoints t (record { bus = urb.bus; device = urb.device; value = found.0 }) (take found.1 urb.payload)

-- the interfaces in the boot protocol with this one, if it is in it
abbrev pub boots_with : Bool → BootInterface → List BootInterface → List BootInterface
boots_with true b others = latest most_kept others ++ b ∷ []
boots_with false b others = others

-- an interface is put into a protocol, in place of the one that it had
abbrev pub with_protocol : Tracking → ℕ → ℕ → ℕ → Bool → Tracking
with_protocol t bus device interface boot = record t {
  boots = boots_with boot (record { bus = bus; device = device; interface = interface })
      (filter (λ b. not (is_boot bus device interface b)) t.boots);
}

-- a request goes to a port (USB 2.0, 11.24.2): its device is a hub, whose endpoints say which ports changed
abbrev pub with_hub : Tracking → ℕ → ℕ → Tracking
with_hub t bus device = record t { undescribed = without_hub t.undescribed bus device }

-- ---- descriptors

-- an interface without a descriptor: its number may be another's
abbrev pub is_free : TrackedInterface → Bool
is_free tracked = not tracked.is_described

-- the number of one more interface: the next, of 16; then the first that is free
abbrev pub next_number : List TrackedInterface → Option ℕ
next_number interfaces = if nat_lt (length interfaces) 16 then Some (length interfaces) else position is_free interfaces

-- the interfaces with one at a number
abbrev pub interfaces_with : List TrackedInterface → ℕ → TrackedInterface → List TrackedInterface
interfaces_with interfaces n tracked = if n == length interfaces then interfaces ++ tracked ∷ [] else slice_set interfaces n tracked

-- an interface gets a number, if there is one for it
abbrev pub outcome_of_number : Tracking → TrackedInterface → Option ℕ → Outcome
outcome_of_number t tracked None = record { content = TooManyInterfaces; after = t }
outcome_of_number t tracked (Some n) =
    record { content = Descriptor n; after = record t { interfaces = interfaces_with t.interfaces n tracked } }

-- an interface that has a descriptor and no number yet
abbrev pub new_interface : ℕ → ℕ → ℕ → TrackedInterface
new_interface bus device interface =
    record { bus = bus; device = device; interface = interface; is_described = true }

-- a descriptor of an interface, which has a number, or gets one
abbrev pub outcome_of_descriptor : Tracking → ℕ → ℕ → ℕ → Option ℕ → Outcome
outcome_of_descriptor t bus device interface (Some n) = record {
  content = Descriptor n;
  after = record t { interfaces = map (with_described bus device interface true) t.interfaces };
}
outcome_of_descriptor t bus device interface None =
    outcome_of_number t (new_interface bus device interface) (next_number t.interfaces)

-- the answer to a request for a descriptor; a truncated one says nothing of the interface
abbrev pub outcome_of_description : Tracking → UrbRecord → ℕ → Bool → Outcome
outcome_of_description t urb interface true = record { content = TruncatedDescriptor; after = t }
outcome_of_description t urb interface false =
    outcome_of_descriptor t urb.bus urb.device interface (position (is_interface urb.bus urb.device interface) t.interfaces)

-- what the answer to a request says
abbrev pub outcome_of_answer : Tracking → UrbRecord → Request → Outcome
outcome_of_answer t urb (SetAddress address) = outcome_of_address t urb.bus address
outcome_of_answer t urb (SetConfiguration value) =
    outcome_of_configuration t (record { bus = urb.bus; device = urb.device; value = value })
outcome_of_answer t urb GetConfigurationDescriptor = silence (with_answer t urb (whole_configuration urb.payload))
outcome_of_answer t urb (GetReportDescriptor interface) = outcome_of_description t urb interface urb.is_truncated
outcome_of_answer t urb (SetProtocol interface boot) = silence (with_protocol t urb.bus urb.device interface boot)
outcome_of_answer t urb HubPort = silence (with_hub t urb.bus urb.device)
outcome_of_answer t urb Other = silence t

-- a control transfer that is completed
abbrev pub outcome_of_completion : Tracking → UrbRecord → Option PendingRequest → Outcome
outcome_of_completion t urb None = silence t
outcome_of_completion t urb (Some r) = outcome_of_answer (without_request t urb) urb (request_of r.setup)

-- ---- reports

-- the interface of an endpoint, by the configuration that has it, if one was read
abbrev pub source_of : ℕ → Option InterruptEndpoint → Option ℕ
source_of endpoint None = Some (unread_interface endpoint)
source_of endpoint (Some e) = e.interface

-- the interface of an interrupt IN endpoint; none, if it isn't of the class HID
abbrev pub source : Tracking → ℕ → ℕ → ℕ → Option ℕ
source t bus device endpoint =
    source_of endpoint (find (is_endpoint (find (is_configuration_on bus device) t.active_configurations) bus device endpoint) t.endpoints)

-- an interface that has a descriptor
abbrev pub has_descriptor_of : ℕ → ℕ → ℕ → TrackedInterface → Bool
has_descriptor_of bus device interface tracked = is_interface bus device interface tracked && tracked.is_described

-- what data of an interface without a descriptor are: where only its endpoint is known, it may be of another class
abbrev pub content_without_descriptor : ℕ → Content
content_without_descriptor interface = if nat_lt interface 256 then Undescribed else Unknown

-- what data of an interface are, by its number in the capture, if it has a descriptor
abbrev pub content_by : Bool → ℕ → Option ℕ → Content
content_by truncated interface None = content_without_descriptor interface
content_by truncated interface (Some n) = if truncated then TruncatedReport n else Report n

-- what bytes of an interface are: in the boot protocol they aren't reports of its descriptor
abbrev pub content_from : Tracking → UrbRecord → Option ℕ → Content
content_from t urb None = Nothing
content_from t urb (Some interface) =
    if list_any (is_boot urb.bus urb.device interface) t.boots then BootReport
    else content_by urb.is_truncated interface (position (has_descriptor_of urb.bus urb.device interface) t.interfaces)

-- a transfer had data: of a truncated frame they may be missing
abbrev pub has_data : UrbRecord → Bool
has_data urb = not (length urb.payload == 0) || urb.is_truncated

-- what an interrupt transfer says: one to the device, and one without data, says nothing
abbrev pub content_of_bytes : Tracking → UrbRecord → Direction → Content
content_of_bytes t urb Out = Nothing
content_of_bytes t urb In =
    if has_data urb then content_from t urb (source t urb.bus urb.device urb.endpoint) else Nothing

-- data without a descriptor: whether their interface is known to be of the class HID
abbrev pub lacks_descriptor : Content → Option Bool
lacks_descriptor Undescribed = Some true
lacks_descriptor Unknown = Some false
lacks_descriptor content = None

-- what is known after data, of which a transfer is counted if they have no descriptor
abbrev pub after_bytes : Tracking → UrbRecord → Option Bool → Tracking
after_bytes t urb None = t
after_bytes t urb (Some is_hid) =
    record t { undescribed = with_transfer_of t.undescribed urb.bus urb.device urb.endpoint is_hid }

-- data are these, and what is known after them
abbrev pub outcome_of_data : Tracking → UrbRecord → Content → Outcome
outcome_of_data t urb content = record { content = content; after = after_bytes t urb (lacks_descriptor content) }

-- an interrupt transfer
abbrev pub outcome_of_bytes : Tracking → UrbRecord → Outcome
outcome_of_bytes t urb = outcome_of_data t urb (content_of_bytes t urb urb.direction)

-- ---- descriptors that are given

-- a descriptor is given for the interface of an endpoint: that is no endpoint without one any more
abbrev pub with_given : Tracking → ℕ → ℕ → ℕ → Tracking
with_given t bus device endpoint = record t { undescribed = without_endpoint t.undescribed bus device endpoint }

-- an interface has a descriptor that is given for it, unless it is in the boot protocol
abbrev pub outcome_of_given_for : Tracking → ℕ → ℕ → Option ℕ → Outcome
outcome_of_given_for t bus device None = silence t
outcome_of_given_for t bus device (Some interface) =
    if list_any (is_boot bus device interface) t.boots then silence t
    else outcome_of_descriptor t bus device interface (position (is_interface bus device interface) t.interfaces)

-- the interface of an interrupt IN endpoint has a descriptor that is given for it
unfoldable pub outcome_of_given : Tracking → ℕ → ℕ → ℕ → Outcome
outcome_of_given t bus device endpoint =
    outcome_of_given_for (with_given t bus device endpoint) bus device (source t bus device endpoint)

-- ---- a URB

-- a transfer is submitted: a SETUP packet is kept until its answer comes
abbrev pub outcome_of_submission : Tracking → UrbRecord → Option (List ℕ) → Outcome
outcome_of_submission t urb None = silence t
outcome_of_submission t urb (Some setup) = silence (with_request t urb setup)

-- a transfer is completed without an error
abbrev pub outcome_of_success : Tracking → UrbRecord → Transfer → Outcome
outcome_of_success t urb Control = outcome_of_completion t urb (find (has_id urb.bus urb.device urb.id) t.requests)
outcome_of_success t urb Interrupt = outcome_of_bytes t urb
outcome_of_success t urb Isochronous = silence t
outcome_of_success t urb Bulk = silence t

-- a request that is stalled has no answer
abbrev pub outcome_of_stall : Tracking → UrbRecord → Transfer → Outcome
outcome_of_stall t urb Control = silence (without_request t urb)
outcome_of_stall t urb Interrupt = silence t
outcome_of_stall t urb Isochronous = silence t
outcome_of_stall t urb Bulk = silence t

-- the endpoint is gone, with its device or its driver: Linux's -108 (ESHUTDOWN), or USBD_STATUS_DEVICE_GONE
abbrev pub is_gone : ℕ → Bool
is_gone status = (status == 0xFFFFFF94) || (status == 0xC0007000)

-- what is said where the descriptor of an interface is forgotten
abbrev pub disconnection_of : Option ℕ → Content
disconnection_of None = Nothing
disconnection_of (Some n) = InterfaceDisconnected n

-- the descriptor of an interface whose endpoint is gone is forgotten
abbrev pub outcome_of_shutdown : Tracking → UrbRecord → Option ℕ → Outcome
outcome_of_shutdown t urb None = silence t
outcome_of_shutdown t urb (Some interface) = record {
  content = disconnection_of (position (has_descriptor_of urb.bus urb.device interface) t.interfaces);
  after = record t { interfaces = map (with_described urb.bus urb.device interface false) t.interfaces };
}

-- a transfer failed otherwise than by STALL
abbrev pub outcome_of_failure : Tracking → UrbRecord → ℕ → Transfer → Outcome
outcome_of_failure t urb status Control = silence (without_request t urb)
outcome_of_failure t urb status Interrupt =
    if is_gone status then outcome_of_shutdown t urb (source t urb.bus urb.device urb.endpoint) else silence t
outcome_of_failure t urb status Isochronous = silence t
outcome_of_failure t urb status Bulk = silence t

-- a URB by what came of it
abbrev pub outcome_by_event : Tracking → UrbRecord → UrbEvent → Outcome
outcome_by_event t urb Submitted = outcome_of_submission t urb urb.setup
outcome_by_event t urb Completed = outcome_of_success t urb urb.transfer
outcome_by_event t urb Stalled = outcome_of_stall t urb urb.transfer
outcome_by_event t urb (Failed status) = outcome_of_failure t urb status urb.transfer

-- what a URB says, and what is known after it
unfoldable pub outcome : Tracking → UrbRecord → Outcome
outcome t urb = outcome_by_event t urb urb.event

-- the beginning of a capture: nothing is known
abbrev pub nothing_known : Tracking
nothing_known =
    record { requests = []; endpoints = []; active_configurations = []; boots = []; interfaces = []; undescribed = [] }

-- what a tracker of the program knows
abbrev pub tracking_of : Tracker → Tracking
tracking_of t = record {
  requests = t.requests.items;
  endpoints = t.endpoints.items;
  active_configurations = t.active_configurations.items;
  boots = t.boots.items;
  interfaces = t.interfaces.items;
  undescribed = t.undescribed.items;
}

-- what a tracker of the program said, and knows then
abbrev pub outcome_as : Content → Tracker → Outcome
outcome_as content t = record { content = content; after = tracking_of t }
