use Rattle.std.proofs.Common.{ap, subst, sym, ◌∙◌}
use Rattle.hid_report_descriptor.specs.declared.report.Report.{Report}
use Rattle.hid_report_descriptor.specs.Totals.{bits_in_report, IsFound}
use Rattle.hid_report_descriptor.proofs.TotalsLemmas.{bits_at_place}
use Rattle.hid_report_descriptor.proofs.OrderLemmas.{bits_absent}
use Rattle.hid_report_descriptor.proofs.totals.ReportTotals.bits.Goals as goal

pub returns-in-Ok : goal.returns-in-Ok
returns-in-Ok c =
    let found = subst (λ l. IsFound c.args.kind c.args.id l c.in-Ok.i) c.deref.ensures.value c.in-Ok.ensures.found in
    ap (λ (r : Report). r.bits) c.index.ensures
    ∙ bits_at_place c.args.kind c.args.id c.args.self.now.list.items c.in-Ok.i c.index.result.now found.its_place found.there

pub returns-in-Err : goal.returns-in-Err
returns-in-Err c =
    sym (bits_absent c.args.kind c.args.id c.deref.result.now c.in-Err.ensures.absent.none)
    ∙ ap (bits_in_report c.args.kind c.args.id) c.deref.ensures.value
