use Rattle.hid_usages.specs.SameWords.{AreSameWords}
use Rattle.hid_usages.proofs.changed_bits.next_unlike.Given as goal

abbrev pub invariant-loop-k : goal.invariant-loop-k
invariant-loop-k l = AreSameWords l.last l.bytes l.from l.k
