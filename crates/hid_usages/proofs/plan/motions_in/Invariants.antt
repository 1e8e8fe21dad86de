use Rattle.std.proofs.Common.{◌≡◌, ◌<◌, ◌≤◌, ℕ, Some}
use Rattle.std.specs.List.{slice_get}
use Rattle.hid_usages.specs.declared.plan.PlannedItem.{PlannedItem}
use Rattle.hid_usages.specs.declared.plan.PlannedKind.TheVariants as kind
use Rattle.hid_usages.proofs.plan.motions_in.Given as goal

abbrev pub invariant-loop-k : goal.invariant-loop-k
invariant-loop-k l = record {
  each : (j : ℕ) (item : PlannedItem) → j < l.k → slice_get l.items j ≡ Some item → item.kind ≡ kind.Motions → (l.motions.first ≤ j) × (j < l.motions.end);
  order : l.motions.first ≤ l.motions.end;
  end : l.motions.end ≤ l.k;
}
