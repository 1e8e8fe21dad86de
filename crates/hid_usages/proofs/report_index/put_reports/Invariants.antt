use Rattle.hid_usages.specs.PlannedReports.{IsIndex}
use Rattle.hid_usages.proofs.report_index.put_reports.Given as goal

abbrev pub invariant-loop-report : goal.invariant-loop-report
invariant-loop-report l = IsIndex l.layout l.index
