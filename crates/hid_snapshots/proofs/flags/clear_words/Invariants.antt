use Rattle.std.proofs.Common.{◌≡◌, ℕ, ◌<◌, ◌-◌, take, drop}
use Rattle.hid_snapshots.specs.Words.{word_at, AreNoted}
use Rattle.hid_snapshots.proofs.flags.clear_words.Given as goal

abbrev pub invariant-loop-k : goal.invariant-loop-k
invariant-loop-k l = record {
  noted : AreNoted (take l.fn.count l.words) (drop l.fn.count l.words) l.top;
  zeros : (i : ℕ) → i < l.k → word_at (take l.fn.count l.words) i ≡ 0;
}

abbrev pub decreases-loop-k : goal.decreases-loop-k
decreases-loop-k l = l.count - l.k
