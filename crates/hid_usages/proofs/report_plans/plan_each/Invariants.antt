use Rattle.std.proofs.Common.{◌≡◌, ◌≤◌, ℕ, Some, length, vec_len, vec_capacity}
use Rattle.std.specs.List.{slice_get}
use Rattle.hid_usages.specs.declared.planned_report.PlannedReport.{PlannedReport}
use Rattle.hid_usages.specs.PlannedReports.{IsPlannedAnew}
use Rattle.hid_usages.proofs.report_plans.plan_each.Given as goal

abbrev pub invariant-loop-report : goal.invariant-loop-report
invariant-loop-report l = record {
  count : vec_len l.reports ≡ l.report;
  many : length l.reports.items ≡ l.report;
  each : (r : ℕ) (planned : PlannedReport) → slice_get l.reports.items r ≡ Some planned → IsPlannedAnew l.layout r planned;
  room : l.count ≤ vec_capacity l.reports;
}
