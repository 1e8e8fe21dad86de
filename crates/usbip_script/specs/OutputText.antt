-- The line of a report that a host set (our choice: docs/USBIP.md).
use Rattle.std.specs.Prelude.{ℕ, ◌+◌, ◌-◌, ◌^◌, ◌==◌, min, if◌then◌else◌, List, [], ◌∷◌, ◌++◌, drop, codes}
use Rattle.std.specs.Fmt.{decimal}
use Rattle.hid_report_descriptor.specs.declared.report.ReportKind.{ReportKind}
use Rattle.hid_report_descriptor.specs.declared.report.ReportKind.TheVariants.{Input, Output, Feature}
use Rattle.hid_notation.specs.Text.{bytes_text}
use Rattle.usbip_serving.specs.declared.set_report.SetReport.{SetReport}

-- the word of a kind of report
abbrev pub kind_word : ReportKind → List ℕ
kind_word Input = codes "input"
kind_word Output = codes "output"
kind_word Feature = codes "feature"

-- the bytes of a report after its ID, if it has one
abbrev pub after_id : ℕ → List ℕ → List ℕ
after_id id bytes = if id == 0 then bytes else drop 1 bytes

-- the number of the device at a place, from 1
abbrev pub number_of : ℕ → ℕ
number_of place = min (place + 1) (2 ^ 64 - 1)

-- The line of a report that was set: the device, the kind of report, its ID, and its bytes after that. Example: 1 output 0 02
abbrev pub output_text : SetReport → List ℕ → List ℕ
output_text set bytes =
    decimal (number_of set.place) ++ codes " " ++ kind_word set.kind ++ codes " " ++ decimal set.id
    ++ bytes_text (after_id set.id bytes) ++ 10 ∷ []
