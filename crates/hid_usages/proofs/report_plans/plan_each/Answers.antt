use Rattle.std.proofs.Common.{◌∷◌, [], List, length, length-append, ap, arith}
use Rattle.hid_usages.specs.declared.planned_report.PlannedReport.{PlannedReport}
use Rattle.hid_usages.proofs.LastLemmas.{anew_next}
use Rattle.hid_usages.proofs.report_plans.plan_each.Goals as goal

pub push_reserved-requires : goal.push_reserved-requires
push_reserved-requires c = omega (arith, c.loop-report.invariant.count, c.loop-report.invariant.room, c.loop-report-test.true)

pub loop-report-preserved : goal.loop-report-preserved
loop-report-preserved c =
    let reports = c.loop-report.reports.items in
    let next = c.push_reserved.ensures.items in
    record {
      count = omega (arith, c.push_reserved.ensures.len, c.loop-report.invariant.count);
      many = omega (arith, ap (λ (xs : List PlannedReport). length xs) next, length-append reports (c.in_ok-planned.planned ∷ []), c.loop-report.invariant.many);
      each = anew_next c.args.layout.now reports c.push_reserved.new.self.items c.loop-report.report c.in_ok-planned.planned c.loop-report.invariant.many c.loop-report.invariant.each c.in_ok-planned.ensures next;
      room = omega (arith, c.push_reserved.ensures.capacity, c.loop-report.invariant.room);
    }

pub returns : goal.returns
returns c = record {
  there = λ r input. omega (arith, c.input_end-count.ensures.inputs r input, c.loop-report-test.false, c.loop-report.invariant.many);
  each = c.loop-report.invariant.each;
}
