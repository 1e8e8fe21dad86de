use Rattle.hid_usages.specs.Plans.{ArePassed}
use Rattle.hid_usages.proofs.plan.next_unpassed.Given as goal

abbrev pub invariant-loop-k : goal.invariant-loop-k
invariant-loop-k l = ArePassed l.items l.span l.from l.k
