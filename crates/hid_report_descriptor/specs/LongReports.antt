-- The report that an item makes too long, as a message names it (HID 1.11, 5.6 and 6.2.2.7; its text is our choice).
use Rattle.std.specs.Prelude.{◌≡◌, ◌≢◌, ℕ, ◌+◌, ◌/◌, ◌%◌, ◌==◌, List, [], ◌∷◌, ◌++◌, true, drop, if◌then◌else◌, Option, None, Some, codes}
use Rattle.std.specs.Fmt.{decimal}
use Rattle.hid_items.specs.ItemEncoding.{IsItemEncoding}
use Rattle.hid_report_descriptor.specs.declared.fault.Cause.TheVariants.{ReportTooLong}
use Rattle.hid_report_descriptor.specs.declared.fault.LayoutFault.{LayoutFault}
use Rattle.hid_report_descriptor.specs.declared.limits.Limits.{Limits}
use Rattle.hid_report_descriptor.specs.Limits.{longest_report}
use Rattle.hid_report_descriptor.specs.declared.long_reports.LongReport.{LongReport}
use Rattle.hid_report_descriptor.specs.declared.report.ReportKind.{ReportKind}
use Rattle.hid_report_descriptor.specs.declared.report.ReportKind.TheVariants.{Input, Output, Feature}
use Rattle.hid_report_descriptor.specs.Items.{EncodedItem, is_field}
use Rattle.hid_report_descriptor.specs.Fields.{fields, field_of, bits_of}
use Rattle.hid_report_descriptor.specs.Faults.{Reaches}

-- the report of an item after these, up to the end of the item
abbrev pub report_with : Limits → List EncodedItem → EncodedItem → LongReport
report_with limits before item =
    let field = field_of (fields before) before item in
    record { kind = field.kind; id = field.id; bits = field.offset + bits_of field; limits = limits }

-- the report of the Input, Output or Feature item at a place, where the items before it are accepted
pub record IsReportAt (limits : Limits) (bytes : List ℕ) (at : ℕ) (report : LongReport) : Type 0 where
  pub before : List EncodedItem
  pub item : EncodedItem
  pub reaches : Reaches limits bytes at before
  pub encoded : IsItemEncoding item
  pub next : (more : List ℕ) × (drop at bytes ≡ item ++ more)
  pub a_field : is_field item ≡ true
  pub with_item : report ≡ report_with limits before item

-- The report that a refusal names: of L15 the one that is too long, at the place of the refusal; of another cause none.
abbrev pub NamesReport : Limits → List ℕ → LayoutFault → Option LongReport → Type 0
NamesReport limits bytes fault None = fault.cause ≢ ReportTooLong
NamesReport limits bytes fault (Some report) = (fault.cause ≡ ReportTooLong) × IsReportAt limits bytes fault.at report

-- the bytes of its bits, the last of them filled up, and one for an ID
abbrev pub whole_bytes : LongReport → ℕ
whole_bytes report =
    (report.bits / 8 + (if report.bits % 8 == 0 then 0 else 1)) + (if report.id == 0 then 0 else 1)

-- the kind of a report in words
abbrev pub kind_words : ReportKind → List ℕ
kind_words Input = codes "Input"
kind_words Output = codes "Output"
kind_words Feature = codes "Feature"

-- how it is printed, with 0 for no ID. Example: Feature report 68 has 20000 bytes, over 16384
abbrev pub long_report_text : LongReport → List ℕ
long_report_text report =
    kind_words report.kind ++ (codes " report " ++ (decimal report.id ++ (codes " has " ++ (decimal (whole_bytes report)
    ++ (codes " bytes, over " ++ decimal (longest_report report.limits))))))
