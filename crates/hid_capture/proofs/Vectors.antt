-- Values worked out by hand (USB 2.0, 9.6; HID 1.11, appendices B.1 and E.3 to E.5).
use Rattle.std.proofs.Common.{◌≡◌, ℕ, List, [], ◌∷◌, refl, Some, None, true, false, arith}
use Rattle.usb_capture.specs.declared.urb.Direction.TheVariants.{In}
use Rattle.usb_capture.specs.declared.urb.Transfer.TheVariants.{Interrupt}
use Rattle.usb_capture.specs.declared.urb.UrbEvent.TheVariants.{Completed}
use Rattle.usb_capture.specs.UrbRecord.{UrbRecord}
use Rattle.hid_capture.specs.declared.configuration.Configuration.{Configuration}
use Rattle.hid_capture.specs.declared.request.Request.TheVariants.{SetAddress, SetConfiguration, GetConfigurationDescriptor, GetReportDescriptor, SetProtocol, HubPort, Other}
use Rattle.hid_capture.specs.Descriptors.{whole_configuration, endpoints_in, has_descriptor, interface_after, is_interrupt_in, endpoint_at}
use Rattle.hid_capture.specs.InterfaceEndpoints.{HasEndpoint}
use Rattle.hid_capture.specs.Reports.{NumberedInterface, IsRead, NoneEnds, reports_told}
use Rattle.hid_capture.specs.Requests.{request_of}
use Rattle.hid_capture.specs.Tracking.{Tracking, nothing_known, outcome}

-- each row of the table of requests
set_address : request_of (0x00 ∷ 0x05 ∷ 0x04 ∷ 0 ∷ 0 ∷ 0 ∷ 0 ∷ 0 ∷ []) ≡ SetAddress 4
unfolding request_of
set_address = refl

set_configuration : request_of (0x00 ∷ 0x09 ∷ 0x01 ∷ 0 ∷ 0 ∷ 0 ∷ 0 ∷ 0 ∷ []) ≡ SetConfiguration 1
unfolding request_of
set_configuration = refl

get_configuration : request_of (0x80 ∷ 0x06 ∷ 0x00 ∷ 0x02 ∷ 0 ∷ 0 ∷ 0x22 ∷ 0 ∷ []) ≡ GetConfigurationDescriptor
unfolding request_of
get_configuration = refl

get_report_descriptor : request_of (0x81 ∷ 0x06 ∷ 0x00 ∷ 0x22 ∷ 0x01 ∷ 0 ∷ 0x34 ∷ 0 ∷ []) ≡ GetReportDescriptor 1
unfolding request_of
get_report_descriptor = refl

set_boot_protocol : request_of (0x21 ∷ 0x0B ∷ 0x00 ∷ 0 ∷ 0x02 ∷ 0 ∷ 0 ∷ 0 ∷ []) ≡ SetProtocol 2 true
unfolding request_of
set_boot_protocol = refl

-- GetPortStatus of the port 1
get_port_status : request_of (0xA3 ∷ 0x00 ∷ 0x00 ∷ 0 ∷ 0x01 ∷ 0 ∷ 0x04 ∷ 0 ∷ []) ≡ HubPort
unfolding request_of
get_port_status = refl

-- ClearPortFeature of the port 1
clear_port_feature : request_of (0x23 ∷ 0x01 ∷ 0x10 ∷ 0 ∷ 0x01 ∷ 0 ∷ 0x00 ∷ 0 ∷ []) ≡ HubPort
unfolding request_of
clear_port_feature = refl

-- a device descriptor is asked for
get_device : request_of (0x80 ∷ 0x06 ∷ 0x00 ∷ 0x01 ∷ 0 ∷ 0 ∷ 0x12 ∷ 0 ∷ []) ≡ Other
unfolding request_of
get_device = refl

-- A configuration of 34 bytes: its value is 1, and the interface 0 is of the class HID and has the endpoint 1 IN, of interrupts
abbrev mouse : List ℕ
mouse =
    0x09 ∷ 0x02 ∷ 0x22 ∷ 0x00 ∷ 0x01 ∷ 0x01 ∷ 0x00 ∷ 0xA0 ∷ 0x32
    ∷ 0x09 ∷ 0x04 ∷ 0x00 ∷ 0x00 ∷ 0x01 ∷ 0x03 ∷ 0x01 ∷ 0x02 ∷ 0x00
    ∷ 0x09 ∷ 0x21 ∷ 0x11 ∷ 0x01 ∷ 0x00 ∷ 0x01 ∷ 0x22 ∷ 0x34 ∷ 0x00
    ∷ 0x07 ∷ 0x05 ∷ 0x81 ∷ 0x03 ∷ 0x04 ∷ 0x00 ∷ 0x0A ∷ []

mouse_value : whole_configuration mouse ≡ Some (1, 34)
mouse_value = refl

abbrev here : Configuration
here = record { bus = 1; device = 4; value = 1 }

mouse_endpoints : endpoints_in 34 here None mouse ≡ record { configuration = here; interface = Some 0; endpoint = 1 } ∷ []
unfolding endpoints_in has_descriptor interface_after is_interrupt_in endpoint_at
mouse_endpoints = refl

-- by its bytes, the interface 0 of the mouse has the endpoint 1
mouse_has_endpoint : HasEndpoint mouse 0 1
mouse_has_endpoint = record {
  before = (0x09 ∷ 0x02 ∷ 0x22 ∷ 0x00 ∷ 0x01 ∷ 0x01 ∷ 0x00 ∷ 0xA0 ∷ 0x32 ∷ []) ∷ [];
  head = 0x09 ∷ 0x04 ∷ 0x00 ∷ 0x00 ∷ 0x01 ∷ 0x03 ∷ 0x01 ∷ 0x02 ∷ 0x00 ∷ [];
  between = (0x09 ∷ 0x21 ∷ 0x11 ∷ 0x01 ∷ 0x00 ∷ 0x01 ∷ 0x22 ∷ 0x34 ∷ 0x00 ∷ []) ∷ [];
  last = 0x07 ∷ 0x05 ∷ 0x81 ∷ 0x03 ∷ 0x04 ∷ 0x00 ∷ 0x0A ∷ [];
  after = [];
  order = refl;
  before_are = (refl, omega arith, tt);
  head_is = record { size = refl; long = omega arith; kind = refl; number = refl; class = refl };
  between_are = (refl, omega arith, tt);
  last_is = record { size = refl; long = omega arith; address = refl; interrupt = refl };
  own = refl;
  first_before = refl;
  first_between = refl;
}

-- an interface of 5 bytes has no class: 3 is the length of the descriptor after it
short_interface : endpoints_in 15 here None
    (0x05 ∷ 0x04 ∷ 0x00 ∷ 0x00 ∷ 0x01 ∷ 0x03 ∷ 0x24 ∷ 0x00 ∷ 0x07 ∷ 0x05 ∷ 0x81 ∷ 0x03 ∷ 0x04 ∷ 0x00 ∷ 0x0A ∷ [])
    ≡ record { configuration = here; interface = None; endpoint = 1 } ∷ []
unfolding endpoints_in has_descriptor interface_after is_interrupt_in endpoint_at
short_interface = refl

-- one of 8 bytes isn't whole either, so that the endpoint isn't of the interface before it
interface_of_eight : interface_after (Some 0) (0x08 ∷ 0x04 ∷ 0x01 ∷ 0x00 ∷ 0x01 ∷ 0x03 ∷ 0x01 ∷ 0x02 ∷ []) ≡ None
unfolding interface_after
interface_of_eight = refl

-- an endpoint of 3 bytes has no attributes: 3 is the length of the descriptor after it
short_endpoint : endpoints_in 6 here (Some 0) (0x03 ∷ 0x05 ∷ 0x81 ∷ 0x03 ∷ 0x24 ∷ 0x00 ∷ []) ≡ []
unfolding endpoints_in has_descriptor interface_after is_interrupt_in endpoint_at
short_endpoint = refl

-- one of 6 bytes isn't whole either; one of 9, as audio has it, is
endpoint_of_six : is_interrupt_in (0x06 ∷ 0x05 ∷ 0x81 ∷ 0x03 ∷ 0x04 ∷ 0x00 ∷ []) ≡ false
unfolding is_interrupt_in
endpoint_of_six = refl

endpoint_of_nine : is_interrupt_in (0x09 ∷ 0x05 ∷ 0x81 ∷ 0x03 ∷ 0x04 ∷ 0x00 ∷ 0x0A ∷ 0x00 ∷ 0x00 ∷ []) ≡ true
unfolding is_interrupt_in
endpoint_of_nine = refl

-- the first 9 bytes of the configuration of a mouse alone aren't all of it
short_configuration : whole_configuration (0x09 ∷ 0x02 ∷ 0x22 ∷ 0x00 ∷ 0x01 ∷ 0x01 ∷ 0x00 ∷ 0xA0 ∷ 0x32 ∷ []) ≡ None
short_configuration = refl

-- The mouse's configuration and report descriptor were read: its reports are read, and two transfers of its endpoint are two of them.
abbrev known_mouse : Tracking
known_mouse = record nothing_known {
  endpoints = record { configuration = here; interface = Some 0; endpoint = 1 } ∷ [];
  interfaces = record { bus = 1; device = 4; interface = 0; is_described = true } ∷ [];
}

abbrev mouse_interface : NumberedInterface
mouse_interface = record { bus = 1; device = 4; interface = 0; number = 0 }

abbrev transfer : List ℕ → UrbRecord
transfer bytes = record {
  id = 7;
  bus = 1;
  device = 4;
  endpoint = 1;
  direction = In;
  transfer = Interrupt;
  event = Completed;
  setup = None;
  payload = bytes;
  is_truncated = false;
}

abbrev two_transfers : List UrbRecord
two_transfers = transfer (0x01 ∷ 0x00 ∷ 0x00 ∷ []) ∷ transfer (0x00 ∷ 0x05 ∷ 0x00 ∷ []) ∷ []

mouse_is_read : IsRead known_mouse mouse_interface
mouse_is_read = record { numbered = refl; described = refl; reports = refl }

mouse_reads_on : NoneEnds known_mouse mouse_interface two_transfers
unfolding outcome
mouse_reads_on = (refl, (refl, tt))

mouse_reports : reports_told known_mouse 0 two_transfers ≡ (0x01 ∷ 0x00 ∷ 0x00 ∷ []) ∷ (0x00 ∷ 0x05 ∷ 0x00 ∷ []) ∷ []
unfolding outcome
mouse_reports = refl
