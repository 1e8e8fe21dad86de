use Rattle.std.proofs.Common.{◌≡◌, length}
use Rattle.hid_layout.specs.Controls.{items_of}
use Rattle.hidstack_device.proofs.ReleaseLemmas.{core_with_items}
use Rattle.hidstack_device.proofs.release.release_all.Given as goal

-- nothing of the items so far is pressed
abbrev pub invariant-loop-item : goal.invariant-loop-item
invariant-loop-item l = record {
  so_far : l.gadget ≡ core_with_items l.fn.gadget l.item;
  end : l.item-end ≡ length l.fn.gadget.reports.snapshot;
  items : l.item-end ≡ length (items_of l.fn.gadget.layout);
}
