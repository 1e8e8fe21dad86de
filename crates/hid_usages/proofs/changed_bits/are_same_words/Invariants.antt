use Rattle.std.proofs.Common.{◌*◌}
use Rattle.hid_usages.specs.ChangedBits.{SameFrom}
use Rattle.hid_usages.proofs.changed_bits.are_same_words.Given as goal

abbrev pub invariant-loop-k : goal.invariant-loop-k
invariant-loop-k l = SameFrom l.last l.bytes 0 (64 * l.k)
