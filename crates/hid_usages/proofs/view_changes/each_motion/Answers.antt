use Rattle.std.proofs.Common.{arith, drop, ◌≡◌, ◌∙◌, ap, sym, map, Some, ℤ, to_z, of_z, w64, rules}
use Rattle.std.specs.List.{slice_get}
use Rattle.std.proofs.lemmas.Int.{to_z-of_z}
use Rattle.hid_snapshots.proofs.ItemLemmas.{got}
use Rattle.hid_usages.specs.Reading.{read_motion}
use Rattle.hid_snapshots.specs.Events.{usages_at, control_at, motion_event}
use Rattle.hid_usages.proofs.EventLemmas.{all_appended, each_end, element_list_events-from, room_for, room_left, told}
use Rattle.hid_usages.proofs.view_changes.each_motion.Goals as goal

pub push_motion-requires-clause-room : goal.push_motion-requires-clause-room
push_motion-requires-clause-room g c = λ usage usage_here.
    let all = map (read_motion c.args.bounds.now.least c.args.bounds.now.greatest) c.args.numbers.now in
    let by = to_z w64 (of_z w64 c.motion.result) in
    let same : by ≡ c.motion.result = search (rules, to_z-of_z) in
    let here : slice_get all c.loop-index.index ≡ Some by = c.motion.ensures ∙ ap (λ (v : ℤ). Some v) (sym same) in
    room_for _ _ _ _ _
    (element_list_events-from (λ j u m. motion_event (control_at c.args.source.now.item j) u m)
    (usages_at c.args.source.now.layout.now c.args.source.now.item) all c.loop-index.index usage by usage_here here) c.loop-index.invariant.room

pub loop-index-preserved : goal.loop-index-preserved
loop-index-preserved g c =
    let u = got (usages_at c.args.source.now.layout.now c.args.source.now.item) c.loop-index.index (omega arith) in
    let all = map (read_motion c.args.bounds.now.least c.args.bounds.now.greatest) c.args.numbers.now in
    let by = to_z w64 (of_z w64 c.motion.result) in
    let same : by ≡ c.motion.result = search (rules, to_z-of_z) in
    let here : slice_get all c.loop-index.index ≡ Some by = c.motion.ensures ∙ ap (λ (v : ℤ). Some v) (sym same) in
    let step =
    element_list_events-from (λ j u m. motion_event (control_at c.args.source.now.item j) u m)
    (usages_at c.args.source.now.layout.now c.args.source.now.item) all c.loop-index.index u.0 by u.1 here in
    record {
      events = told _ _ _ _ _ _ step c.loop-index.invariant.events ((c.push_motion.ensures u.0 u.1).items);
      room = room_left _ _ _ _ _ _ _ step c.loop-index.invariant.room ((c.push_motion.ensures u.0 u.1).len)
          (c.push_motion.ensures u.0 u.1).room;
      same_room = (c.push_motion.ensures u.0 u.1).room ∙ c.loop-index.invariant.same_room;
    }

pub returns : goal.returns
returns g c =
    let all = map (read_motion c.args.bounds.now.least c.args.bounds.now.greatest) c.args.numbers.now in
    all_appended _ _ _ _ (each_end (λ j u m. motion_event (control_at c.args.source.now.item j) u m) (usages_at c.args.source.now.layout.now c.args.source.now.item) (drop c.loop-index.index all) c.loop-index.index (omega arith)) c.loop-index.invariant.events c.loop-index.invariant.same_room
