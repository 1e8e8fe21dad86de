use Rattle.std.proofs.Common.{◌++◌, map, refl, ap, arith}
use Rattle.std.specs.Vec.{vec_len}
use Rattle.hid_report_descriptor.specs.Locals.{entry_on_page}
use Rattle.hid_report_descriptor.specs.Usages.{starts_of}
use Rattle.hid_report_descriptor.proofs.ItemListLemmas.{single_starts}
use Rattle.hid_report_descriptor.proofs.PushLemmas.{starts_pushed, room_for_next, room_for_rest, starts_all}
use Rattle.hid_report_descriptor.proofs.item_lists.add_starts.Goals as goal

pub returns-then-are_single-clause-added : goal.returns-then-are_single-clause-added
returns-then-are_single-clause-added c = (single_starts c.args.page c.args.named.now c.if-are_single.ensures, refl)

pub loop-entry-init : goal.loop-entry-init
loop-entry-init c = record { small = omega arith; added = ap (λ l. l ++ starts_of (map (entry_on_page c.args.page) c.args.named.now)) c.in_ok-reserve.ensures.items; room = c.in_ok-reserve.ensures.ok }

pub overflow_cast-before : goal.overflow_cast-before
overflow_cast-before c = record { fits = omega (arith, c.requires, c.loop-entry-test.true, c.loop-entry.invariant.small) }

pub push_reserved-requires : goal.push_reserved-requires
push_reserved-requires c = room_for_next c.args.named.now c.loop-entry.entry-index (vec_len c.loop-entry.starts) _ c.loop-entry-test.true c.loop-entry.invariant.room

pub overflow_add-before : goal.overflow_add-before
overflow_add-before c = record { fits = omega (arith, c.requires, c.loop-entry-test.true, c.loop-entry.invariant.small, c.entry_count-before.ensures.few) }

pub loop-entry-preserved : goal.loop-entry-preserved
loop-entry-preserved c = record {
  small = omega (arith, c.entry_count-before.ensures.few, c.loop-entry.invariant.small);
  added = starts_pushed (entry_on_page c.args.page) _ c.loop-entry.starts.items c.push_reserved.new.self.items c.args.named.now c.loop-entry.entry-index c.loop-entry.before c.entry_count-before.result _ c.entry_on_page.result
      c.loop-entry-test.true c.loop-entry.invariant.added c.entry_on_page.ensures c.entry_count-before.ensures.value c.push_reserved.ensures.items;
  room = rw c.push_reserved.ensures.capacity (room_for_rest c.args.named.now c.loop-entry.entry-index (vec_len c.loop-entry.starts) _ _ c.loop-entry-test.true c.loop-entry.invariant.room c.push_reserved.ensures.len);
}

pub returns-clause-added : goal.returns-clause-added
returns-clause-added c = (
  omega (arith, c.len-at.ensures),
  starts_all (entry_on_page c.args.page) _ c.loop-entry.starts.items c.args.named.now c.loop-entry.entry-index c.loop-entry.before c.loop-entry-test.false c.loop-entry.invariant.added,
)
