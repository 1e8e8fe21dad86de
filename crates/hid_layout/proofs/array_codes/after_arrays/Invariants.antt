use Rattle.std.proofs.Common.{◌≡◌, ℕ, ◌<◌, ◌≤◌, Some}
use Rattle.std.specs.List.{slice_get}
use Rattle.hid_report_descriptor.specs.declared.shape.Shape.TheVariants.{Array}
use Rattle.hid_layout.specs.declared.main_item.MainItem.{MainItem}
use Rattle.hid_layout.proofs.array_codes.after_arrays.Given as goal

-- the arrays so far stand before the end
abbrev pub invariant-loop-i : goal.invariant-loop-i
invariant-loop-i l =
    (l.end ≤ l.i)
    × ((j : ℕ) (item : MainItem) → slice_get l.items j ≡ Some item → j < l.i → item.shape ≡ Array → j < l.end)
