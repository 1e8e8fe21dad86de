use Rattle.std.proofs.Common.{◌≡◌, inl, inr, List, length, ap, subst, arith}
use Rattle.std.proofs.lemmas.Bool.{cases_lt}
use Rattle.hid_report_descriptor.specs.declared.report.Report.{Report}
use Rattle.hid_snapshots.specs.Parts.{IsInput}
use Rattle.hid_snapshots.proofs.PlanLemmas.{input_there}
use Rattle.hid_usages.proofs.report_plans.input_end.Goals as goal

pub loop-report-preserved : goal.loop-report-preserved
loop-report-preserved c = record {
  inputs = λ r low input. elim (cases_lt r c.loop-report.report) [
    | inl before ↦ omega (arith, c.loop-report.invariant.inputs r before input, c.end_with-end.ensures.grows)
    | inr from ↦
        let at : r ≡ c.loop-report.report = omega arith in
        omega (arith, at, c.end_with-end.ensures.input (subst (IsInput c.args.layout.now) at input))
  ];
  end = c.end_with-end.ensures.within;
}

pub returns-clause-inputs : goal.returns-clause-inputs
returns-clause-inputs c = λ r input. c.loop-report.invariant.inputs r (omega (arith, input_there c.args.layout.now r input, c.loop-report-test.false, ap (λ (rs : List Report). length rs) c.reports-report-end.ensures)) input
