-- Input, Output and Feature (HID 1.11, 6.2.2.5).
use Rattle.std.specs.Prelude.{ℕ, Bool, true, false}
use Rattle.hid_report_descriptor.specs.declared.report.ReportKind.{ReportKind}
use Rattle.hid_report_descriptor.specs.declared.report.ReportKind.TheVariants.{Input, Output, Feature}

-- two kinds are the same
abbrev pub same_kind : ReportKind → ReportKind → Bool
same_kind Input Input = true
same_kind Output Output = true
same_kind Feature Feature = true
same_kind _ _ = false

-- Input reports come first, then Output, then Feature (our choice)
abbrev pub rank : ReportKind → ℕ
rank Input = 0
rank Output = 1
rank Feature = 2
