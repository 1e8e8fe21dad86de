use Rattle.std.proofs.Common.{◌≡◌, ◌++◌, map, take, drop}
use Rattle.hid_usages.specs.PlannedReports.{without_last}
use Rattle.hid_usages.proofs.report_plans.forget_last.Given as goal

abbrev pub invariant-loop-k : goal.invariant-loop-k
invariant-loop-k l = l.reports ≡ take l.k (map without_last l.fn.reports) ++ drop l.k l.fn.reports
