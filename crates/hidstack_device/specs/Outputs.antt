-- Reports that a host sets, by the number of their kind (HID 1.11, 5.6, 7.2.1 and 7.2.2; the numbers: our choice).
use Rattle.std.specs.Prelude.{ℕ, ◌==◌, if◌then◌else◌, List, Option, Some, None}
use Rattle.hid_report_descriptor.specs.declared.report.ReportKind.{ReportKind}
use Rattle.hid_report_descriptor.specs.declared.report.ReportKind.TheVariants.{Input, Output, Feature}
use Rattle.hid_device.specs.Core.{CoreState}
use Rattle.hid_device.specs.RequestTable.{output_of}

-- the report kind of a number: 0 Input, 1 Output, 2 Feature
abbrev pub kind_with : ℕ → Option ReportKind
kind_with number =
    if number == 0 then Some Input
    else if number == 1 then Some Output
    else if number == 2 then Some Feature
    else None

-- the report of a kind that may be there
abbrev pub output_of_kind : CoreState → ℕ → Option ReportKind → Option (List ℕ)
output_of_kind core id None = None
output_of_kind core id (Some kind) = output_of core kind id

-- The Output or Feature report of this kind, as a number, and this ID, as it was set last; none of Input reports. Example: the
-- Output report of a boot keyboard, kind 1 and ID 0, is 00 at first
abbrev pub output_with : CoreState → ℕ → ℕ → Option (List ℕ)
output_with core kind id = output_of_kind core id (kind_with kind)
