use Rattle.std.proofs.Common.{◌∙◌, sym, append-nil}
use Rattle.std.specs.Vec.{vec_len}
use Rattle.hid_report_descriptor.specs.Locals.{entry_on_page}
use Rattle.hid_report_descriptor.proofs.PushLemmas.{mapped_more, mapped_all, room_for_next, room_for_rest}
use Rattle.hid_report_descriptor.proofs.item_lists.add_ranges.Goals as goal

pub loop-entry-init : goal.loop-entry-init
loop-entry-init c = record { entries_added = c.in_ok-reserve.ensures.items ∙ sym (append-nil c.args.entries.now.items); room = c.in_ok-reserve.ensures.ok }

pub push_reserved-requires : goal.push_reserved-requires
push_reserved-requires c = room_for_next c.args.named.now c.loop-entry.entry-index (vec_len c.loop-entry.entries) _ c.loop-entry-test.true c.loop-entry.invariant.room

pub loop-entry-preserved : goal.loop-entry-preserved
loop-entry-preserved c = record {
  entries_added = mapped_more (entry_on_page c.args.page) c.args.entries.now.items c.loop-entry.entries.items c.push_reserved.new.self.items c.args.named.now c.loop-entry.entry-index _ c.entry_on_page.result c.loop-entry-test.true
      c.loop-entry.invariant.entries_added c.entry_on_page.ensures c.push_reserved.ensures.items;
  room = rw c.push_reserved.ensures.capacity (room_for_rest c.args.named.now c.loop-entry.entry-index (vec_len c.loop-entry.entries) _ _ c.loop-entry-test.true c.loop-entry.invariant.room c.push_reserved.ensures.len);
}

pub returns-clause-more : goal.returns-clause-more
returns-clause-more c = mapped_all (entry_on_page c.args.page) c.args.entries.now.items c.loop-entry.entries.items c.args.named.now c.loop-entry.entry-index c.loop-entry-test.false c.loop-entry.invariant.entries_added
