use Rattle.std.proofs.Common.{◌≡◌, ℕ, ◌+◌, ◌<◌, Some}
use Rattle.std.specs.List.{slice_get}
use Rattle.hid_report_descriptor.specs.declared.locals.NamedUsage.{NamedUsage}
use Rattle.hid_report_descriptor.proofs.item_lists.are_single.Given as goal

-- each range that was passed has one usage
abbrev pub invariant-loop-i : goal.invariant-loop-i
invariant-loop-i l = (j : ℕ) (e : NamedUsage × NamedUsage) → slice_get l.named j ≡ Some e → j + 1 < l.i → e.0.id ≡ e.1.id
