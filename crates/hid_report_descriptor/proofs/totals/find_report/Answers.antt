use Rattle.std.proofs.Common.{ap, sym, ◌∙◌}
use Rattle.std.specs.Prelude.{slice_get}
use Rattle.hid_report_descriptor.specs.Totals.{has_report}
use Rattle.hid_report_descriptor.proofs.OrderLemmas.{none_found}
use Rattle.hid_report_descriptor.proofs.totals.find_report.Goals as goal

pub returns-else-is_at-clause-absent : goal.returns-else-is_at-clause-absent
returns-else-is_at-clause-absent c = record {
  its_place = c.place-i.ensures.first;
  within = c.place-i.ensures.within;
  none = none_found c.args.kind c.args.id c.args.reports.now c.requires (ap (λ i. has_report c.args.kind c.args.id (slice_get c.args.reports.now i)) (sym c.place-i.ensures.first) ∙ sym c.if-is_at.ensures);
}
