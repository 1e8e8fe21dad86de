use Rattle.std.proofs.Common.{◌≡◌, arith, get_or, ap, ◌∙◌}
use Rattle.hid_report_descriptor.specs.declared.report.Report.{Report}
use Rattle.hid_report_descriptor.specs.declared.report.ReportKind.TheVariants.{Input}
use Rattle.hid_report_descriptor.specs.Totals.{comes_before}
use Rattle.hid_report_descriptor.proofs.OrderLemmas.{searched}
use Rattle.hid_report_descriptor.proofs.totals.place_by_halving.Goals as goal

pub returns-clause-first : goal.returns-clause-first
returns-clause-first c =
    let none : Report = record { kind = Input; id = 0; bits = 0 } in
    let ends : c.loop-low.low ≡ c.loop-low.high = omega (arith, c.loop-low-test.false, c.loop-low.invariant.order) in
    searched c.args.kind c.args.id c.args.reports.now c.loop-low.low none c.requires (omega (arith, ends, c.loop-low.invariant.within)) (c.loop-low.invariant.last none)
    (λ h. ap (λ n. comes_before c.args.kind c.args.id (get_or c.args.reports.now n none)) ends ∙ c.loop-low.invariant.next none (omega (arith, h, ends)))
