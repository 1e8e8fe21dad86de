-- What a setup asks of a device: the standard and class requests that it answers (USB 2.0, 9.3.1 and 9.4, tables 9-2,
-- 9-4 and 9-5; HID 1.11, 7.1 and 7.2).
use Rattle.std.specs.Prelude.{◌≡◌, ℕ, ◌/◌, ◌%◌, ◌^◌, Bool, true, false, ◌&&◌, ◌==◌, if◌then◌else◌, Option, Some, None, option_map}
use Rattle.usb_control.specs.declared.setup.Setup.{Setup}
use Rattle.usb_control.specs.SetupBytes.{reads}
use Rattle.hid_requests.specs.declared.request_kinds.RequestKind.{RequestKind}
use Rattle.hid_requests.specs.declared.request_kinds.RequestKind.TheVariants.{Status, InterfaceStatus, ControlStatus, ReportStatus, DeviceDescriptor, Configuration, HidDescriptor, ReportDescriptor, GetConfiguration, GetInterface, SetConfiguration, ClearFeature, SetFeature, GetReport, GetIdle, GetProtocol, SetReport, SetIdle, SetProtocol}
use Rattle.hid_requests.specs.declared.class.Protocol.TheVariants.{Boot, Report}
use Rattle.hid_requests.specs.Class.{kind_of}

-- a request with this bmRequestType, bRequest, wValue and wIndex (table 9-2)
abbrev pub is_row : Setup → ℕ → ℕ → ℕ → ℕ → Bool
is_row setup type number value index =
    ((setup.request_type == type) && (setup.request == number))
    && ((setup.value == value) && (setup.index == index))

-- the setup has these fields, and no data
abbrev pub is_bare_row : Setup → ℕ → ℕ → ℕ → ℕ → Bool
is_bare_row setup type number value index = is_row setup type number value index && (setup.length == 0)

-- The row of a setup among the standard requests. bmRequestType is 0x80, 0x81 or 0x82 to read of the device, an
-- interface or an endpoint, and 0x00 or 0x02 to write to the device or an endpoint (table 9-2). bRequest is 0
-- GET_STATUS, 1 CLEAR_FEATURE, 3 SET_FEATURE, 6 GET_DESCRIPTOR, 8 GET_CONFIGURATION, 9 SET_CONFIGURATION or 10
-- GET_INTERFACE (table 9-4). wValue of GET_DESCRIPTOR has the type in its high byte, 1 device or 2 configuration (table
-- 9-5), 0x21 HID or 0x22 report (HID 1.11, 7.1), and in its low byte which of that type. The one feature is 0,
-- ENDPOINT_HALT (table 9-6), of endpoint 1 to the host.
abbrev pub standard_row : Setup → Option RequestKind
standard_row setup =
    if is_row setup 0x80 0 0 0 then Some Status
    else if is_row setup 0x81 0 0 0 then Some InterfaceStatus
    else if is_row setup 0x82 0 0 0x00 then Some ControlStatus
    else if is_row setup 0x82 0 0 0x80 then Some ControlStatus
    else if is_row setup 0x82 0 0 0x81 then Some ReportStatus
    else if is_row setup 0x80 6 0x0100 0 then Some DeviceDescriptor
    else if is_row setup 0x80 6 0x0200 0 then Some Configuration
    else if is_row setup 0x81 6 0x2100 0 then Some HidDescriptor
    else if is_row setup 0x81 6 0x2200 0 then Some ReportDescriptor
    else if is_row setup 0x80 8 0 0 then Some GetConfiguration
    else if is_row setup 0x81 10 0 0 then Some GetInterface
    else if is_bare_row setup 0x00 9 1 0 then Some SetConfiguration
    else if is_bare_row setup 0x02 1 0 0x81 then Some ClearFeature
    else if is_bare_row setup 0x02 3 0 0x81 then Some SetFeature
    else None

-- a request of interface 0 with this bmRequestType and bRequest, whatever its wValue
abbrev pub is_class : Setup → ℕ → ℕ → Bool
is_class setup type number =
    ((setup.request_type == type) && (setup.request == number)) && (setup.index == 0)

-- the setup of a class request has these fields, and no data
abbrev pub is_bare_class : Setup → ℕ → ℕ → Bool
is_bare_class setup type number = is_class setup type number && (setup.length == 0)

-- wValue's high byte
abbrev pub high_of : Setup → ℕ
high_of setup = setup.value / 2 ^ 8

-- wValue's low byte
abbrev pub low_of : Setup → ℕ
low_of setup = setup.value % 2 ^ 8

-- The row of a setup among the class requests, all of interface 0. bmRequestType is 0xA1 to read and 0x21 to write (HID
-- 1.11, 7.2). bRequest is 1 GET_REPORT, 2 GET_IDLE, 3 GET_PROTOCOL, 9 SET_REPORT, 10 SET_IDLE or 11 SET_PROTOCOL.
-- wValue has a Report ID in its low byte, and in its high byte the type of that report (7.2.1, 7.2.2), 0 (7.2.3) or the
-- idle time (7.2.4); or it is the protocol (7.2.6).
abbrev pub class_row : Setup → Option RequestKind
class_row setup =
    if is_class setup 0xA1 1 then option_map (λ kind. GetReport kind (low_of setup)) (kind_of (high_of setup))
    else if is_row setup 0xA1 2 (low_of setup) 0 then Some (GetIdle (low_of setup))
    else if is_row setup 0xA1 3 0 0 then Some GetProtocol
    else if is_class setup 0x21 9
    then option_map (λ kind. SetReport kind (low_of setup) setup.length) (kind_of (high_of setup))
    else if is_bare_class setup 0x21 10 then Some (SetIdle (low_of setup) (high_of setup))
    else if is_bare_row setup 0x21 11 0 0 then Some (SetProtocol Boot)
    else if is_bare_row setup 0x21 11 1 0 then Some (SetProtocol Report)
    else None

-- The row of the request that a setup is: by bmRequestType, bRequest, wValue and wIndex, and of a write by its wLength,
-- which is 0 but for SET_REPORT. Of features there is ENDPOINT_HALT alone, of endpoint 1 to the host. Example: 81 06 00
-- 22 00 00 3F 00 asks for the report descriptor, A1 01 07 03 00 00 40 00 for the Feature report of ID 7
unfoldable pub request_kind_of : Setup → Option RequestKind
request_kind_of setup = elim (standard_row setup) [ None ↦ class_row setup | Some asked ↦ Some asked ]

-- whether data of a row go to the host
abbrev pub is_read : RequestKind → Bool
is_read SetConfiguration = false
is_read ClearFeature = false
is_read SetFeature = false
is_read (SetReport kind id len) = false
is_read (SetIdle id time) = false
is_read (SetProtocol protocol) = false
is_read _ = true

-- in bytes, the data of a write: those of the report that is set
abbrev pub report_data_length : RequestKind → ℕ
report_data_length (SetReport kind id len) = len
report_data_length _ = 0

-- a request of a row reads where the row does, and a write has as many bytes as its row
pub record IsSorted (setup : Setup) (asked : RequestKind) : Type 0 where
  pub ways : reads setup ≡ is_read asked
  pub bytes : is_read asked ≡ false → setup.length ≡ report_data_length asked
