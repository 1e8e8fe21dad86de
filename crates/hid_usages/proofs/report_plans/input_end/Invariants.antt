use Rattle.std.proofs.Common.{ℕ, ◌<◌, ◌≤◌}
use Rattle.hid_snapshots.specs.Parts.{IsInput}
use Rattle.hid_usages.proofs.report_plans.input_end.Given as goal

abbrev pub invariant-loop-report : goal.invariant-loop-report
invariant-loop-report l = record {
  inputs : (r : ℕ) → r < l.report → IsInput l.layout r → r < l.end;
  end : l.end ≤ l.report;
}
