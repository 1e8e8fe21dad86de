use Rattle.std.proofs.Common.{arith, drop, ◌≡◌, ◌∙◌, ap, sym, Some, ℤ, to_z, of_z, w64, rules}
use Rattle.std.specs.List.{slice_get}
use Rattle.std.proofs.lemmas.Int.{to_z-of_z}
use Rattle.hid_snapshots.specs.Events.{usages_at, control_at}
use Rattle.hid_snapshots.specs.Snapshots.{state_at}
use Rattle.hid_usages.specs.Dropping.{motions_in, drop_event}
use Rattle.hid_usages.proofs.DropLemmas.{motion_there}
use Rattle.hid_usages.proofs.EventLemmas.{all_appended, each_end, element_list_events-from, room_for, room_left, told}
use Rattle.hid_usages.proofs.dropped_motion.motion_drops.Goals as goal

pub drop_event-requires : goal.drop_event-requires
drop_event-requires c =
    let part = state_at c.args.dropped.now.shown.now c.args.item in
    let by = to_z w64 (of_z w64 c.motion.result) in
    let same : by ≡ c.motion.result = search (rules, to_z-of_z) in
    let here : slice_get (motions_in part) c.loop-index.index ≡ Some by
    = motion_there part c.args.count c.loop-index.index c.requires.part (omega arith) ∙ ap (λ (v : ℤ). Some v) (sym (same ∙ c.motion.ensures)) in
    room_for _ _ _ _ _
    (element_list_events-from (λ j u m. drop_event (control_at c.args.item j) u m)
    (usages_at c.args.dropped.now.layout.now c.args.item)
    (motions_in part) c.loop-index.index c.usage_at.result by c.usage_at.ensures here) c.loop-index.invariant.room

pub loop-index-preserved : goal.loop-index-preserved
loop-index-preserved c =
    let part = state_at c.args.dropped.now.shown.now c.args.item in
    let by = to_z w64 (of_z w64 c.motion.result) in
    let same : by ≡ c.motion.result = search (rules, to_z-of_z) in
    let here : slice_get (motions_in part) c.loop-index.index ≡ Some by
    = motion_there part c.args.count c.loop-index.index c.requires.part (omega arith) ∙ ap (λ (v : ℤ). Some v) (sym (same ∙ c.motion.ensures)) in
    let step =
    element_list_events-from (λ j u m. drop_event (control_at c.args.item j) u m)
    (usages_at c.args.dropped.now.layout.now c.args.item)
    (motions_in part) c.loop-index.index c.usage_at.result by c.usage_at.ensures here in
    record {
      events = told _ _ _ _ _ _ step c.loop-index.invariant.events c.drop_event.ensures.items;
      room = room_left _ _ _ _ _ _ _ step c.loop-index.invariant.room c.drop_event.ensures.len c.drop_event.ensures.room;
      same_room = c.drop_event.ensures.room ∙ c.loop-index.invariant.same_room;
    }

pub returns : goal.returns
returns c =
    let ms = motions_in (state_at c.args.dropped.now.shown.now c.args.item) in
    all_appended _ _ _ _ (each_end (λ j u m. drop_event (control_at c.args.item j) u m) (usages_at c.args.dropped.now.layout.now c.args.item) (drop c.loop-index.index ms) c.loop-index.index (omega arith)) c.loop-index.invariant.events c.loop-index.invariant.same_room
