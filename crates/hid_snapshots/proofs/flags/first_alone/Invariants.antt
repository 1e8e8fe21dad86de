use Rattle.std.proofs.Common.{◌≡◌, ℕ, ◌*◌, ◌/◌, ◌-◌, ◌<◌, ◌≤◌, false, take}
use Rattle.hid_snapshots.specs.Words.{are_alone}
use Rattle.hid_snapshots.proofs.flags.first_alone.Given as goal

abbrev pub invariant-loop-k : goal.invariant-loop-k
invariant-loop-k l = record {
  start : l.start ≡ l.fn.from - 64 * l.k;
  reached : l.fn.from / 64 ≤ l.k;
  none : (i : ℕ) → l.fn.from ≤ i → i < 64 * l.k → are_alone (take l.fn.count l.fn.words) l.fn.others i ≡ false;
}

abbrev pub decreases-loop-k : goal.decreases-loop-k
decreases-loop-k l = l.count - l.k
