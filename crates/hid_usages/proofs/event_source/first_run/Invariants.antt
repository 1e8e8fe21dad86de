use Rattle.std.proofs.Common.{length, ◌-◌}
use Rattle.hid_usages.proofs.SourceLemmas.{AreInRun}
use Rattle.hid_usages.proofs.event_source.first_run.Given as goal

abbrev pub invariant-loop-ranges : goal.invariant-loop-ranges
invariant-loop-ranges l = AreInRun l.entries l.first l.ranges l.count

abbrev pub decreases-loop-ranges : goal.decreases-loop-ranges
decreases-loop-ranges l = length l.entries - l.ranges
