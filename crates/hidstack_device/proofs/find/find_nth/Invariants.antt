use Rattle.std.proofs.Common.{◌≡◌, ◌+◌, length}
use Rattle.hid_layout.specs.Controls.{items_of}
use Rattle.hidstack_device.specs.Finding.{count_before}
use Rattle.hidstack_device.proofs.find.find_nth.Given as goal

-- those of the items so far are counted
abbrev pub invariant-loop-item : goal.invariant-loop-item
invariant-loop-item l = record {
  count : count_before (items_of l.fn.layout) l.fn.usage l.item + l.left ≡ l.fn.nth;
  end : l.item-end ≡ length l.fn.layout.items;
}
