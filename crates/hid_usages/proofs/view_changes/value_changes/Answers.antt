use Rattle.std.proofs.Common.{◌∙◌, drop, arith}
use Rattle.std.specs.List.{zip}
use Rattle.hid_snapshots.proofs.ItemLemmas.{got}
use Rattle.hid_snapshots.specs.Events.{usages_at, control_at, value_event}
use Rattle.hid_usages.proofs.EventLemmas.{all_appended, element_list_events-from, each_end, zip_at, room_for, room_left, told}
use Rattle.hid_usages.proofs.view_changes.value_changes.Goals as goal

pub push_value_event-requires-clause-room : goal.push_value_event-requires-clause-room
push_value_event-requires-clause-room c = λ usage here.
    room_for _ _ _ _ _
    (element_list_events-from (λ j u p. value_event (control_at c.args.item j) u p.0 p.1)
    (usages_at c.args.layout.now c.args.item) (zip c.args.before.now c.args.after.now) c.loop-index.index usage
    (c.get.result, c.get-in-loop-index.result) here
    (zip_at c.args.before.now c.args.after.now c.loop-index.index c.get.result c.get-in-loop-index.result c.get.ensures c.get-in-loop-index.ensures)) c.loop-index.invariant.room

pub loop-index-preserved : goal.loop-index-preserved
loop-index-preserved c =
    let u = got (usages_at c.args.layout.now c.args.item) c.loop-index.index (omega arith) in
    let step =
    element_list_events-from (λ j u p. value_event (control_at c.args.item j) u p.0 p.1)
    (usages_at c.args.layout.now c.args.item) (zip c.args.before.now c.args.after.now) c.loop-index.index u.0
    (c.get.result, c.get-in-loop-index.result) u.1
    (zip_at c.args.before.now c.args.after.now c.loop-index.index c.get.result c.get-in-loop-index.result c.get.ensures c.get-in-loop-index.ensures) in
    record {
      events = told _ _ _ _ _ _ step c.loop-index.invariant.events ((c.push_value_event.ensures u.0 u.1).items);
      room = room_left _ _ _ _ _ _ _ step c.loop-index.invariant.room ((c.push_value_event.ensures u.0 u.1).len)
          (c.push_value_event.ensures u.0 u.1).room;
      same_room = (c.push_value_event.ensures u.0 u.1).room ∙ c.loop-index.invariant.same_room;
    }

pub returns : goal.returns
returns c =
    all_appended _ _ _ _ (each_end (λ j u p. value_event (control_at c.args.item j) u p.0 p.1) (usages_at c.args.layout.now c.args.item) (drop c.loop-index.index (zip c.args.before.now c.args.after.now)) c.loop-index.index (omega arith)) c.loop-index.invariant.events c.loop-index.invariant.same_room
