use Rattle.std.proofs.Common.{◌≡◌, ◌<◌, Some, length}
use Rattle.hid_layout.specs.declared.control.ControlId.{ControlId}
use Rattle.hid_layout.specs.Finding.{control_usage}
use Rattle.hid_layout.specs.Controls.{items_of}
use Rattle.hid_layout.proofs.layout.Layout.find.Given as goal

-- no control of the items so far has the usage
abbrev pub invariant-loop-item : goal.invariant-loop-item
invariant-loop-item l = record {
  end : l.item-end ≡ length l.fn.self.items;
  none : (d : ControlId) → d.item < l.item → control_usage (items_of l.fn.self) d ≡ Some l.fn.usage → ⊥;
}
