use Rattle.std.proofs.Common.{◌∙◌, ◌++◌, sym, ap, append-nil, take_all}
use Rattle.std.specs.Vec.{vec_len}
use Rattle.hid_report_descriptor.proofs.PushLemmas.{taken_more, room_for_next, room_for_rest}
use Rattle.hid_report_descriptor.proofs.item_lists.add_path.Goals as goal

pub loop-collection-init : goal.loop-collection-init
loop-collection-init c = (c.in_ok-reserve.ensures.items ∙ sym (append-nil c.args.paths.now.items), c.in_ok-reserve.ensures.ok)

pub push_reserved-requires : goal.push_reserved-requires
push_reserved-requires c = room_for_next c.args.path.now c.loop-collection.collection-index (vec_len c.loop-collection.paths) _ c.loop-collection-test.true c.loop-collection.invariant.1

pub loop-collection-preserved : goal.loop-collection-preserved
loop-collection-preserved c = (
  taken_more c.args.paths.now.items c.loop-collection.paths.items c.push_reserved.new.self.items c.args.path.now c.loop-collection.collection-index _ c.loop-collection-test.true c.loop-collection.invariant.0 c.push_reserved.ensures.items,
  rw c.push_reserved.ensures.capacity (room_for_rest c.args.path.now c.loop-collection.collection-index (vec_len c.loop-collection.paths) _ _ c.loop-collection-test.true c.loop-collection.invariant.1 c.push_reserved.ensures.len),
)

pub returns-clause-more : goal.returns-clause-more
returns-clause-more c = c.loop-collection.invariant.0 ∙ ap (λ l. c.args.paths.now.items ++ l) (take_all c.loop-collection.collection-index c.args.path.now c.loop-collection-test.false)
