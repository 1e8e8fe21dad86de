use Rattle.std.proofs.Common.{◌-◌, ◌<◌, ◌≤◌, length}
use Rattle.std.specs.Prelude.{slice_index}
use Rattle.hid_layout.proofs.search.entries_up_to.Given as goal

-- the range before the lower end has begun, and the one at the upper end hasn't
abbrev pub invariant-loop-low : goal.invariant-loop-low
invariant-loop-low l = record {
  order : l.low ≤ l.high;
  within : l.high ≤ length l.starts;
  last : 0 < l.low → slice_index l.starts (l.low - 1) ≤ l.place;
  next : l.high < length l.starts → l.place < slice_index l.starts l.high;
}

abbrev pub decreases-loop-low : goal.decreases-loop-low
decreases-loop-low l = l.high - l.low
