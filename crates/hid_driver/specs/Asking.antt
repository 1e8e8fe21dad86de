-- What is asked of an interface, beside its reports (HID 1.11, 7.2).
use Rattle.std.specs.Prelude.{ℕ, ◌+◌, ◌*◌, ◌^◌, Bool, true, false, nat_lt, ◌==◌, ◌&&◌, ◌||◌, if◌then◌else◌, List, [], length, position, Option, Some, None, is_some, option_map, Result, Ok, Err}
use Rattle.usb_control.specs.declared.setup.Setup.{Setup}
use Rattle.hid_report_descriptor.specs.declared.report.Report.{Report}
use Rattle.hid_report_descriptor.specs.declared.report.ReportKind.{ReportKind}
use Rattle.hid_report_descriptor.specs.declared.report.ReportKind.TheVariants.{Input, Output, Feature}
use Rattle.hid_report_descriptor.specs.Kinds.{same_kind}
use Rattle.hid_layout.specs.Layout.{Contents}
use Rattle.hid_layout.specs.Reports.{report_bytes}
use Rattle.hid_usages.specs.Reading.{first_byte}
use Rattle.hid_interfaces.specs.declared.interface.InterfaceInfo.{InterfaceInfo}
use Rattle.hid_driver.specs.declared.ask.Ask.{Ask}
use Rattle.hid_driver.specs.declared.ask.Ask.TheVariants.{GetReport, SetReport, Idle}
use Rattle.hid_driver.specs.declared.fault.DriverFault.{DriverFault}
use Rattle.hid_driver.specs.declared.fault.DriverFault.TheVariants.{NoReport, TooLong, WrongId}
use Rattle.hid_driver.specs.Requests.{request}

-- the type of a report in requests (7.2.1)
abbrev pub report_type : ReportKind → ℕ
report_type Input = 1
report_type Output = 2
report_type Feature = 3

-- a word of this high and low byte
abbrev pub word_of : ℕ → ℕ → ℕ
word_of high low = 2 ^ 8 * high + low

-- a request of an interface, by its class: wIndex is its number (7.2)
abbrev pub class_setup : InterfaceInfo → ℕ → ℕ → ℕ → ℕ → Setup
class_setup info type number value len = request type number value info.number len

-- a report of this kind with this ID
abbrev pub is_report : ReportKind → ℕ → Report → Bool
is_report kind id report = same_kind report.kind kind && (report.id == id)

-- in bytes, the report of this kind with this ID
abbrev pub report_size : Contents → ReportKind → ℕ → Option ℕ
report_size layout kind id = option_map (report_bytes layout) (position (is_report kind id) layout.reports)

-- GET_REPORT asks for as many bytes as the report has, its ID included (7.2.1)
abbrev pub get_setup : InterfaceInfo → ReportKind → ℕ → Option ℕ → Result Setup DriverFault
get_setup info kind id None = Err NoReport
get_setup info kind id (Some size) = Ok (class_setup info 0xA1 1 (word_of (report_type kind) id) size)

-- the bytes of a report with an ID begin with it (5.6)
abbrev pub begins_with_id : ℕ → List ℕ → Bool
begins_with_id id bytes = if id == 0 then true else elim (first_byte bytes) [ None ↦ false | Some first ↦ first == id ]

-- SET_REPORT gives the bytes that it is given, at most as many as the report has, its ID first where it has one (7.2.2)
abbrev pub set_setup : InterfaceInfo → ReportKind → ℕ → List ℕ → Option ℕ → Result Setup DriverFault
set_setup info kind id bytes None = Err NoReport
set_setup info kind id bytes (Some size) =
    if nat_lt size (length bytes) then Err TooLong
    else (if begins_with_id id bytes
    then Ok (class_setup info 0x21 9 (word_of (report_type kind) id) (length bytes)) else Err WrongId)

-- SET_IDLE is of an Input report that the interface has, or of all of them where the ID is 0 (7.2.4)
abbrev pub time_setup : InterfaceInfo → ℕ → ℕ → Option ℕ → Result Setup DriverFault
time_setup info id time size =
    if (id == 0) || is_some size then Ok (class_setup info 0x21 10 (word_of time id) 0) else Err NoReport

-- The request of what is asked of an interface with this layout, or why it is refused. Example: LEDs 02 of interface 1
-- are 21 09 00 02 01 00 01 00
abbrev pub ask_setup : InterfaceInfo → Contents → Ask → Result Setup DriverFault
ask_setup info layout (GetReport kind id) = get_setup info kind id (report_size layout kind id)
ask_setup info layout (SetReport kind id bytes) =
    set_setup info kind id bytes.now (report_size layout kind id)
ask_setup info layout (Idle id time) = time_setup info id time (report_size layout Input id)

-- the data that go with what is asked
abbrev pub data_of : Ask → List ℕ
data_of (SetReport kind id bytes) = bytes.now
data_of (GetReport kind id) = []
data_of (Idle id time) = []
