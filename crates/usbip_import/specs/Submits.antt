-- The submits that carry out what a driver has to do (USB/IP, as Linux takes them; USB 2.0, 9.3 and 9.6.6).
use Rattle.std.specs.Prelude.{ℕ, ◌+◌, max, Bool, nat_lt, ◌&&◌, if◌then◌else◌, List, [], ◌∷◌, length, take, Option, Some, None}
use Rattle.usb_control.specs.declared.setup.Setup.{Setup}
use Rattle.usb_control.specs.SetupBytes.{reads, setup_bytes}
use Rattle.hid_interfaces.specs.declared.interface.EndpointInfo.{EndpointInfo}
use Rattle.hid_driver.specs.declared.interface.Interface.{Interface}
use Rattle.hid_driver.specs.declared.interface.InterfaceState.{InterfaceState}
use Rattle.hid_driver.specs.declared.interface.InterfaceState.TheVariants.{Waiting, Live, Halted, Stopped, Boot, Refused}
use Rattle.hid_driver.specs.Interfaces.{state_shown}
use Rattle.usbip.specs.declared.message.Direction.{Direction}
use Rattle.usbip.specs.declared.message.Direction.TheVariants.{Out, In}
use Rattle.usbip.specs.declared.message.Submit.{Submit}
use Rattle.usbip.specs.Messages.{no_setup}
use Rattle.usbip_import.specs.declared.flight.Flight.{Flight}
use Rattle.usbip_import.specs.declared.flight.Purpose.TheVariants.{Report}
use Rattle.usbip_import.specs.declared.submits.Due.{Due}
use Rattle.usbip_import.specs.Flights.{is_asked}

-- Which way the data of a request go: bit 7 of its first byte is the direction, and one without data goes to the device.
abbrev pub direction_asked : Setup → Direction
direction_asked setup = if reads setup && nat_lt 0 setup.length then In else Out

-- the data that follow the submit of a request: at most wLength bytes of a write, and none of a read
abbrev pub payload_by : Direction → ℕ → List ℕ → List ℕ
payload_by In len bytes = []
payload_by Out len bytes = take len bytes

-- the data that follow the submit of a request, of these that the driver has for it
abbrev pub payload_of : Setup → List ℕ → List ℕ
payload_of setup bytes = payload_by (direction_asked setup) setup.length bytes

-- the transfer flags of Linux: 0x200 to the host
abbrev pub flags_of : Direction → ℕ
flags_of In = 0x200
flags_of Out = 0

-- the length of the submit of a request: wLength of a read, and of a write what follows
abbrev pub control_length : Direction → Setup → List ℕ → ℕ
control_length In setup payload = setup.length
control_length Out setup payload = length payload

-- The submit of a request, which these data follow: endpoint 0, and the setup data as they are on the bus. Example:
-- 80 06 00 01 00 00 12 00 asks for 18 bytes to the host
abbrev pub control_submit : ℕ → ℕ → Setup → List ℕ → Submit
control_submit device n setup payload = record {
  seqnum = n;
  device = device;
  direction = direction_asked setup;
  endpoint = 0;
  flags = flags_of (direction_asked setup);
  length = control_length (direction_asked setup) setup payload;
  interval = 0;
  setup = setup_bytes setup;
}

-- The submit for a report of an endpoint: its length is wMaxPacketSize, so that each packet is an answer of its own, and its
-- interval bInterval, at least 1. Example: of endpoint 1 with packets of 8 bytes it has room for 8
abbrev pub report_submit : ℕ → ℕ → EndpointInfo → Submit
report_submit device n endpoint = record {
  seqnum = n;
  device = device;
  direction = In;
  endpoint = endpoint.number;
  flags = flags_of In;
  length = max endpoint.packet_size 1;
  interval = max endpoint.interval 1;
  setup = no_setup;
}

-- in bytes, the most that may follow the reply to a submit: none where its data go to the device
abbrev pub room_by : Direction → ℕ → ℕ
room_by In len = len
room_by Out len = 0

-- in bytes, the most that may follow the reply to this submit
abbrev pub room_of : Submit → ℕ
room_of submit = room_by submit.direction submit.length

-- a report is to be asked of an interface in this state, unless one is asked for
abbrev pub endpoint_in : InterfaceState → Bool → Option EndpointInfo → Option EndpointInfo
endpoint_in Live asked endpoint = if asked then None else endpoint
endpoint_in Waiting asked endpoint = None
endpoint_in Halted asked endpoint = None
endpoint_in Stopped asked endpoint = None
endpoint_in Boot asked endpoint = None
endpoint_in (Refused cause) asked endpoint = None

-- the endpoint of the interface at this place, if a report of it is to be asked for: it is live, and none is asked for yet
abbrev pub endpoint_due : ℕ → List Flight → Interface → Option EndpointInfo
endpoint_due place flights interface =
    endpoint_in (state_shown interface.reading) (is_asked (Report place) flights) interface.info.endpoint

-- The first interface of which a report is to be asked for; the first of these stands at `place`.
abbrev pub report_due : ℕ → List Flight → List Interface → Option Due
report_due place flights [] = None
report_due place flights (interface ∷ rest) = elim (endpoint_due place flights interface) [
  | Some endpoint ↦ Some (record { interface = place; endpoint = endpoint })
  | None ↦ report_due (place + 1) flights rest
]
