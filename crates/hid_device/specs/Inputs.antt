-- The Input reports of a layout: they come first among its reports (our choice of their order; HID 1.11, 5.6).
use Rattle.std.specs.Prelude.{◌≡◌, ℕ, ◌<◌, true, List, count_by}
use Rattle.hid_report_descriptor.specs.declared.report.Report.{Report}
use Rattle.hid_report_descriptor.specs.declared.report.ReportKind.TheVariants.{Input}
use Rattle.hid_report_descriptor.specs.Kinds.{same_kind}
use Rattle.hid_layout.specs.Controls.{is_input}

-- how many of the reports are Input reports
abbrev pub input_count : List Report → ℕ
input_count reports = count_by (λ report. same_kind report.kind Input) reports

-- the reports below their count are the Input reports
pub record AreInputsFirst (reports : List Report) : Type 0 where
  pub first : (r : ℕ) → r < input_count reports → is_input reports r ≡ true
  pub no_others : (r : ℕ) → is_input reports r ≡ true → r < input_count reports
