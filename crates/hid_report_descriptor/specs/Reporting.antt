-- The reports that a list of fields gives (HID 1.11, 5.6).
use Rattle.std.specs.Prelude.{ℕ, List, [], ◌∷◌, ◌++◌, ◌==◌, if◌then◌else◌}
use Rattle.std.specs.List.{flat_map}
use Rattle.hid_report_descriptor.specs.declared.report.Report.{Report}
use Rattle.hid_report_descriptor.specs.declared.report.ReportKind.{ReportKind}
use Rattle.hid_report_descriptor.specs.declared.report.ReportKind.TheVariants.{Input, Output, Feature}
use Rattle.hid_report_descriptor.specs.Fields.{Field, report_bits}
use Rattle.hid_report_descriptor.specs.Faults.{numbers_from}

-- the report of a kind with an ID, where it has bits
abbrev pub report_if_any : List Field → ReportKind → ℕ → List Report
report_if_any fs kind id =
    let bits = report_bits kind id fs in
    if bits == 0 then [] else record { kind = kind; id = id; bits = bits } ∷ []

-- the reports of a kind among these fields, by ID
unfoldable pub reports_of_kind : List Field → ReportKind → List Report
reports_of_kind fs kind = flat_map (report_if_any fs kind) (numbers_from 0 256)

-- the reports that have bits, by kind and then by ID
unfoldable pub reports_of : List Field → List Report
reports_of fs = reports_of_kind fs Input ++ reports_of_kind fs Output ++ reports_of_kind fs Feature
