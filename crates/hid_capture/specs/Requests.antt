-- The requests on which it depends what the reports of a device are.
--
--   0 type, 1 | 1 code, 1 | 2 value, 2, the lowest byte first | 4 index, 2 | 6 length, 2
--
--   00 05 address 00             SET_ADDRESS                     USB 2.0, 9.4.6
--   00 09 configuration 00       SET_CONFIGURATION               USB 2.0, 9.4.7
--   80 06 xx 02                  GET_DESCRIPTOR, configuration   USB 2.0, 9.4.3
--   81 06 xx 22 interface        GET_DESCRIPTOR, report          HID 1.11, 7.1.1
--   21 0B protocol 00 interface  SET_PROTOCOL, 0 is boot         HID 1.11, 7.2.6
--   23 xx, A3 xx                 a request to a port of a hub    USB 2.0, 11.24.2
use Rattle.std.specs.Prelude.{ℕ, ◌==◌, ◌&&◌, ◌||◌, if◌then◌else◌, List, slice_index}
use Rattle.hid_capture.specs.declared.request.Request.{Request}
use Rattle.hid_capture.specs.declared.request.Request.TheVariants.{SetAddress, SetConfiguration, GetConfigurationDescriptor, GetReportDescriptor, SetProtocol, HubPort, Other}

-- the byte of a SETUP packet at the place `at`
abbrev pub part : List ℕ → ℕ → ℕ
part setup at = slice_index setup at

-- what a SETUP packet asks for, by the table
unfoldable pub request_of : List ℕ → Request
request_of setup =
    if (part setup 0 == 0x00) && (part setup 1 == 0x05) then SetAddress (part setup 2)
    else if (part setup 0 == 0x00) && (part setup 1 == 0x09) then SetConfiguration (part setup 2)
    else if (part setup 0 == 0x80) && (part setup 1 == 0x06) && (part setup 3 == 0x02) then GetConfigurationDescriptor
    else if (part setup 0 == 0x81) && (part setup 1 == 0x06) && (part setup 3 == 0x22) then GetReportDescriptor (part setup 4)
    else if (part setup 0 == 0x21) && (part setup 1 == 0x0B) then SetProtocol (part setup 4) (part setup 2 == 0)
    else if (part setup 0 == 0x23) || (part setup 0 == 0xA3) then HubPort
    else Other
