-- What class requests speak of: the types of reports, 1 Input, 2 Output and 3 Feature, and protocols, 0 boot and 1
-- report (HID 1.11, 7.2.1 and 7.2.5).
use Rattle.std.specs.Prelude.{ℕ, ◌==◌, if◌then◌else◌, Option, Some, None}
use Rattle.hid_report_descriptor.specs.declared.report.ReportKind.{ReportKind}
use Rattle.hid_report_descriptor.specs.declared.report.ReportKind.TheVariants.{Input, Output, Feature}
use Rattle.hid_requests.specs.declared.class.Protocol.{Protocol}
use Rattle.hid_requests.specs.declared.class.Protocol.TheVariants.{Boot, Report}

-- the type of a report (7.2.1)
abbrev pub type_of : ReportKind → ℕ
type_of Input = 1
type_of Output = 2
type_of Feature = 3

-- which reports are of a type; all others are reserved
abbrev pub kind_of : ℕ → Option ReportKind
kind_of type =
    if type == 1 then Some Input
    else if type == 2 then Some Output
    else if type == 3 then Some Feature
    else None

-- the number of a protocol (7.2.5)
abbrev pub protocol_number : Protocol → ℕ
protocol_number Boot = 0
protocol_number Report = 1
