use Rattle.std.proofs.Common.{◌≡◌, ◌+◌}
use Rattle.hid_layout.specs.Controls.{items_of}
use Rattle.hidstack_device.specs.Finding.{count_in, places_of}
use Rattle.hidstack_device.proofs.find.nth_in.Given as goal

-- those of the item so far are counted
abbrev pub invariant-loop-index : goal.invariant-loop-index
invariant-loop-index l = record {
  count : count_in (items_of l.fn.layout) l.fn.usage l.fn.item l.index + l.left ≡ l.fn.nth;
  end : l.index-end ≡ places_of (items_of l.fn.layout) l.fn.item;
}
