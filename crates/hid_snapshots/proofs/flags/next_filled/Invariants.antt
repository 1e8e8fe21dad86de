use Rattle.std.proofs.Common.{◌≡◌, ℕ, ◌<◌, ◌≤◌, ◌-◌, take}
use Rattle.hid_snapshots.specs.Words.{word_at}
use Rattle.hid_snapshots.proofs.flags.next_filled.Given as goal

abbrev pub invariant-loop-k : goal.invariant-loop-k
invariant-loop-k l = record {
  low : l.fn.from ≤ l.k;
  none : (i : ℕ) → l.fn.from ≤ i → i < l.k → word_at (take l.fn.count l.fn.words) i ≡ 0;
}

abbrev pub decreases-loop-k : goal.decreases-loop-k
decreases-loop-k l = l.count - l.k
