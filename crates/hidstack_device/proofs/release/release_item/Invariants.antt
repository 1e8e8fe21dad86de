use Rattle.std.proofs.Common.{◌≡◌}
use Rattle.hid_layout.specs.Controls.{items_of}
use Rattle.hidstack_device.specs.Finding.{places_of}
use Rattle.hidstack_device.proofs.ReleaseLemmas.{HasState, core_with_first}
use Rattle.hidstack_device.proofs.release.release_item.Given as goal

-- nothing at the places so far is pressed
abbrev pub invariant-loop-index : goal.invariant-loop-index
invariant-loop-index l = record {
  so_far : l.gadget ≡ core_with_first l.fn.gadget l.fn.item l.index;
  has : HasState l.fn.gadget l.fn.item;
  end : l.index-end ≡ places_of (items_of l.fn.gadget.layout) l.fn.item;
}
