use Rattle.std.proofs.Common.{◌≡◌, ◌<◌, ℕ, Some, length, take, slice_get}
use Rattle.hid_report_descriptor.specs.Usages.{usage_list, starts_of}
use Rattle.hid_layout.specs.Finding.{usage_in_form}
use Rattle.hid_layout.specs.Controls.{items_of, form_at}
use Rattle.hid_layout.proofs.layout.Layout.find_in.Given as goal

-- no control whose usage is in the ranges so far has the usage
abbrev pub invariant-loop-i : goal.invariant-loop-i
invariant-loop-i l = record {
  at : slice_get l.fn.self.entries l.fn.item ≡ Some l.entries;
  starts : l.starts ≡ starts_of l.entries;
  end : l.i-end ≡ length l.entries;
  none : (j : ℕ) → j < length (usage_list (take l.i l.entries)) → slice_get (usage_list l.entries) j ≡ Some l.fn.usage
      → usage_in_form (form_at (items_of l.fn.self) l.fn.item) j ≡ Some l.fn.usage → ⊥;
}
