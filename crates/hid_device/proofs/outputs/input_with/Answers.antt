use Rattle.std.proofs.Common.{◌≡◌, ℕ, true, List, Option, Some, None, ap, sym, ◌∙◌}
use Rattle.std.specs.Prelude.{IfSome}
use Rattle.hid_report_descriptor.specs.declared.report.Report.{Report}
use Rattle.hid_report_descriptor.specs.declared.report.ReportKind.TheVariants.{Input}
use Rattle.hid_layout.specs.Controls.{is_input}
use Rattle.hid_device.specs.Outputs.{report_number_of}
use Rattle.hid_device.proofs.OutputLemmas.{named_input}
use Rattle.hid_device.proofs.outputs.input_with.Goals as goal

pub returns-clause-input : goal.returns-clause-input
returns-clause-input c =
    by_place c.place_among.result
    (ap (λ (reports : List Report). report_number_of reports Input c.args.id) (sym c.reports.ensures)
    ∙ sym c.place_among.ensures.place)
  where
    by_place : (o : Option ℕ) → report_number_of c.args.layout.now.reports Input c.args.id ≡ o
        → IfSome o (λ r. is_input c.args.layout.now.reports r ≡ true)
    by_place None found = tt
    by_place (Some r) found = named_input c.args.layout.now.reports c.args.id r found
