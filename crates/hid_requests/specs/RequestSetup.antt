-- What a host asks: the setup data of its requests, and the data that go with them (USB 2.0, 9.3.4, 9.4 and 9.4.5; HID
-- 1.11, 7.1 and 7.2).
use Rattle.std.specs.Prelude.{◌≡◌, ℕ, ◌+◌, ◌*◌, ◌<◌, ◌≤◌, ◌^◌, Bool, true, false, List, [], length}
use Rattle.usb_control.specs.declared.setup.Setup.{Setup}
use Rattle.hid_requests.specs.declared.request_kinds.RequestKind.{RequestKind}
use Rattle.hid_requests.specs.declared.request_kinds.RequestKind.TheVariants as rows
use Rattle.hid_requests.specs.declared.class.Protocol.{Protocol}
use Rattle.hid_requests.specs.declared.class.Protocol.TheVariants as protocols
use Rattle.hid_requests.specs.declared.request.Request.{Request}
use Rattle.hid_requests.specs.declared.request.Request.TheVariants.{Device, Config, Report, Configure, Status, GetConfiguration, Idle, GetIdle, GetProtocol, GetReport, SetReport, Halt, Clear, EndpointStatus}
use Rattle.hid_requests.specs.declared.request.Request.TheVariants as requests
use Rattle.hid_requests.specs.declared.request.Asking.{Asking}
use Rattle.hid_requests.specs.Class.{protocol_number, type_of}

-- a request with wIndex 0: bmRequestType, bRequest, wValue, wLength (table 9-2)
abbrev pub asks : ℕ → ℕ → ℕ → ℕ → Setup
asks type number value len =
    record { request_type = type; request = number; value = value; index = 0; length = len }

-- a request of the endpoint of this number, to the host, with wValue 0: bmRequestType, bRequest, wLength (9.3.4)
abbrev pub endpoint_setup : ℕ → ℕ → ℕ → ℕ → Setup
endpoint_setup type number endpoint len =
    record { request_type = type; request = number; value = 0; index = 0x80 + endpoint; length = len }

-- a word of this high and low byte
abbrev pub word_of : ℕ → ℕ → ℕ
word_of high low = 2 ^ 8 * high + low

-- a host asks for the boot protocol, or for the report protocol
abbrev pub protocol_of : Bool → Protocol
protocol_of true = protocols.Boot
protocol_of false = protocols.Report

-- The setup data of each request: the status is two bytes (9.4.5) and the configuration's number one (9.4.2), as an
-- idle time and a protocol are (HID 1.11, 7.2.3 and 7.2.5). A configuration is asked for with 255 bytes and a report
-- with 256 (our choice). The feature that is set and cleared is 0, ENDPOINT_HALT (table 9-6).
abbrev pub setup_for : Request → Asking → Setup
setup_for Device asking = asks 0x80 6 0x0100 18
setup_for Config asking = asks 0x80 6 0x0200 255
setup_for Report asking = asks 0x81 6 0x2200 asking.report_length
setup_for Configure asking = asks 0x00 9 1 0
setup_for Status asking = asks 0x80 0 0 2
setup_for GetConfiguration asking = asks 0x80 8 0 1
setup_for (Idle id time) asking = asks 0x21 10 (word_of time id) 0
setup_for (GetIdle id) asking = asks 0xA1 2 id 1
setup_for (requests.Protocol boot) asking = asks 0x21 11 (protocol_number (protocol_of boot)) 0
setup_for GetProtocol asking = asks 0xA1 3 0 1
setup_for (GetReport kind id) asking = asks 0xA1 1 (word_of (type_of kind) id) 256
setup_for (SetReport kind id bytes) asking = asks 0x21 9 (word_of (type_of kind) id) (length bytes.items)
setup_for Halt asking = endpoint_setup 0x02 3 asking.endpoint 0
setup_for Clear asking = endpoint_setup 0x02 1 asking.endpoint 0
setup_for EndpointStatus asking = endpoint_setup 0x82 0 asking.endpoint 2

-- The data that go with a request: those of the report that is set.
abbrev pub sends_of : Request → List ℕ
sends_of (SetReport kind id bytes) = bytes.items
sends_of _ = []

-- A request fits its setup: its ID and its idle time are bytes, and the report that is set has at most 256 (HID 1.11,
-- 7.2).
abbrev pub FitsRequest : Request → Type 0
FitsRequest (Idle id time) = (id < 2 ^ 8) × (time < 2 ^ 8)
FitsRequest (GetIdle id) = id < 2 ^ 8
FitsRequest (GetReport kind id) = id < 2 ^ 8
FitsRequest (SetReport kind id bytes) = (id < 2 ^ 8) × (length bytes.items ≤ 256)
FitsRequest _ = Unit {0}

-- The endpoint that a request is about, if it is about one, is 1: that of Input reports (our choice). Example: Halt is
-- 02 03 00 00 81 00 00 00
abbrev pub IsOfReports : Request → Asking → Type 0
IsOfReports Halt asking = asking.endpoint ≡ 1
IsOfReports Clear asking = asking.endpoint ≡ 1
IsOfReports EndpointStatus asking = asking.endpoint ≡ 1
IsOfReports _ asking = Unit {0}

-- The row of the request tables that a host's request means.
abbrev pub row_of : Request → RequestKind
row_of Device = rows.DeviceDescriptor
row_of Config = rows.Configuration
row_of Report = rows.ReportDescriptor
row_of Configure = rows.SetConfiguration
row_of Status = rows.Status
row_of GetConfiguration = rows.GetConfiguration
row_of (Idle id time) = rows.SetIdle id time
row_of (GetIdle id) = rows.GetIdle id
row_of (requests.Protocol boot) = rows.SetProtocol (protocol_of boot)
row_of GetProtocol = rows.GetProtocol
row_of (GetReport kind id) = rows.GetReport kind id
row_of (SetReport kind id bytes) = rows.SetReport kind id (length bytes.items)
row_of Halt = rows.SetFeature
row_of Clear = rows.ClearFeature
row_of EndpointStatus = rows.ReportStatus
