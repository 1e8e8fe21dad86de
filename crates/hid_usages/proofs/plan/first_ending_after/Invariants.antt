use Rattle.std.proofs.Common.{◌≡◌, ◌-◌, ◌<◌, ◌≤◌, ℕ, Some, length}
use Rattle.std.specs.List.{slice_get}
use Rattle.hid_usages.specs.declared.plan.PlannedItem.{PlannedItem}
use Rattle.hid_usages.proofs.plan.first_ending_after.Given as goal

abbrev pub invariant-loop-range : goal.invariant-loop-range
invariant-loop-range l = record {
  order : l.range.first ≤ l.range.end;
  within : l.range.end ≤ length l.items;
  before : (k : ℕ) (item : PlannedItem) → k < l.range.first → slice_get l.items k ≡ Some item → item.end ≤ l.bit;
}

abbrev pub decreases-loop-range : goal.decreases-loop-range
decreases-loop-range l = l.range.end - l.range.first
