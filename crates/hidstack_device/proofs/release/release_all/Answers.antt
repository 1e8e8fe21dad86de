use Rattle.std.proofs.Common.{◌≡◌, ◌∙◌, ap, length, refl, subst, sym, arith}
use Rattle.hid_layout.specs.Layout.{Contents}
use Rattle.hid_layout.specs.Controls.{items_of}
use Rattle.hid_snapshots.proofs.ItemLemmas.{items_of-length}
use Rattle.hidstack_device.proofs.ReleaseLemmas.{items_next}
use Rattle.hidstack_device.proofs.release.release_all.Goals as goal

pub loop-item-init : goal.loop-item-init
loop-item-init c =
    let layout : Contents = c.layout.result.now in
    let same = c.layout.ensures.layout in
    let items : length c.items-item-end.result.now ≡ length (items_of c.args.gadget.now.layout) =
    ap length c.items-item-end.ensures.items ∙ sym (items_of-length layout c.items-item-end.ensures.layout) ∙ ap (λ (l : Contents). length (items_of l)) same in
    record {
      so_far = refl;
      end = items ∙ sym c.layout.ensures.sound.snapshot.one_each;
      items = items;
    }

pub loop-item-preserved : goal.loop-item-preserved
loop-item-preserved c =
    let end = c.loop-item.invariant.end in
    record {
      so_far = items_next c.args.gadget.now c.loop-item.gadget c.release_item.new.gadget c.loop-item.item (omega (arith, end)) c.loop-item.invariant.so_far c.release_item.ensures;
      end = end;
      items = c.loop-item.invariant.items;
    }
