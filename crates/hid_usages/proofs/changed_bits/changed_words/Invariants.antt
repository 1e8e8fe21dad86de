use Rattle.std.proofs.Common.{◌/◌, ◌-◌, ◌≤◌, length}
use Rattle.hid_usages.proofs.ChangedBitLemmas.{AreCompared}
use Rattle.hid_usages.proofs.changed_bits.changed_words.Given as goal

abbrev pub invariant-loop-k : goal.invariant-loop-k
invariant-loop-k l = record {
  compared : AreCompared l.last l.bytes l.from l.span;
  within : l.from ≤ length l.bytes / 8;
}

abbrev pub decreases-loop-k : goal.decreases-loop-k
decreases-loop-k l = length l.bytes / 8 - l.from
