use Rattle.std.proofs.Common.{◌<◌, ◌∙◌, ap, length, subst, sym, arith}
use Rattle.hid_layout.specs.Layout.{Contents}
use Rattle.hid_layout.specs.Controls.{items_of}
use Rattle.hid_snapshots.proofs.ItemLemmas.{items_from-short}
use Rattle.hidstack_device.specs.Finding.{places_of}
use Rattle.hidstack_device.proofs.ReleaseLemmas.{first_all, first_next, first_none, has_state}
use Rattle.hidstack_device.proofs.release.release_item.Goals as goal

pub place_count-index-end-requires : goal.place_count-index-end-requires
place_count-index-end-requires c =
    let layout : Contents = c.args.gadget.now.layout in
    let few = items_from-short layout layout.items layout.entries in
    let within = c.requires in
    let here : c.args.item < length layout.items = omega (arith, few, within) in
    subst (λ (l : Contents). c.args.item < length l.items) (sym c.layout.ensures.layout) here

pub loop-index-init : goal.loop-index-init
loop-index-init c = let has = has_state c.args.gadget.now c.args.item c.layout.ensures.sound c.requires in record {
  so_far = first_none c.args.gadget.now c.args.item has;
  has = has;
  end = c.place_count-index-end.ensures ∙ ap (λ (layout : Contents). places_of (items_of layout) c.args.item) c.layout.ensures.layout;
}

pub loop-index-preserved : goal.loop-index-preserved
loop-index-preserved c =
    let has = c.loop-index.invariant.has in
    let end = c.loop-index.invariant.end in
    record {
      so_far = first_next c.args.gadget.now c.loop-index.gadget c.release_at.new.gadget c.args.item c.loop-index.index has (omega (arith, end)) c.loop-index.invariant.so_far c.release_at.ensures;
      has = has;
      end = end;
    }
