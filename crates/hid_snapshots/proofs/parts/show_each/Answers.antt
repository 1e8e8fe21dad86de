use Rattle.std.proofs.Common.{rules, length, get_or, sym, arith}
use Rattle.hid_layout.specs.Controls.{items_of}
use Rattle.hid_snapshots.specs.Parts.{part_shown}
use Rattle.hid_snapshots.proofs.PartLemmas.{show_room, show_next, show_all}
use Rattle.hid_snapshots.proofs.PlanLemmas.{along_next, along_step, along_end}
use Rattle.hid_snapshots.proofs.SkipLemmas.{shown_skips}
use Rattle.hid_snapshots.proofs.parts.show_each.Goals as goal

pub show_item-requires-clause-room : goal.show_item-requires-clause-room
show_item-requires-clause-room c =
    let skips = shown_skips c.args.layout.now c.args.report c.args.still c.args.states.now c.args.parts.now c.loop-place.parts c.plan_of-place-items.ensures.layout c.requires.input c.requires.states.one_each c.requires.parts.one_each c.loop-place.auto.parts in
    let next = along_next c.args.layout.now c.args.report c.loop-place.place-index c.plan_of-place-items.result.now _ skips c.plan_of-place-items.ensures.plan (omega arith) c.loop-place.invariant in
    show_room (part_shown c.args.still c.args.report) (items_of c.args.layout.now) c.args.states.now c.args.parts.now c.loop-place.parts (get_or c.plan_of-place-items.result.now c.loop-place.place-index 0) c.state_at.result.now c.index-parts-i.result c.requires.states c.requires.parts next.holds (search rules) c.state_at.ensures c.loop-place.auto.parts

pub loop-place-preserved : goal.loop-place-preserved
loop-place-preserved c =
    let skips = shown_skips c.args.layout.now c.args.report c.args.still c.args.states.now c.args.parts.now c.loop-place.parts c.plan_of-place-items.ensures.layout c.requires.input c.requires.states.one_each c.requires.parts.one_each c.loop-place.auto.parts in
    let next = along_next c.args.layout.now c.args.report c.loop-place.place-index c.plan_of-place-items.result.now _ skips c.plan_of-place-items.ensures.plan (omega arith) c.loop-place.invariant in
    along_step c.args.layout.now c.args.report c.loop-place.place-index _ _ _ next
    (show_next (part_shown c.args.still c.args.report) (items_of c.args.layout.now) c.args.states.now c.args.parts.now c.loop-place.parts (get_or c.plan_of-place-items.result.now c.loop-place.place-index 0) c.state_at.result.now c.index-parts-i.result c.show_item.new.part c.requires.states.one_each c.requires.parts.one_each next.holds (search rules) c.state_at.ensures c.loop-place.auto.parts c.show_item.ensures)

pub returns-clause-shown : goal.returns-clause-shown
returns-clause-shown c =
    let skips = shown_skips c.args.layout.now c.args.report c.args.still c.args.states.now c.args.parts.now c.loop-place.parts c.plan_of-place-items.ensures.layout c.requires.input c.requires.states.one_each c.requires.parts.one_each c.loop-place.auto.parts in
    let all = along_end c.args.layout.now c.args.report c.loop-place.place-index c.plan_of-place-items.result.now _ skips c.plan_of-place-items.ensures.plan c.loop-place-test.false c.loop-place.invariant in
    show_all (part_shown c.args.still c.args.report) (items_of c.args.layout.now) c.args.states.now c.args.parts.now c.loop-place.parts (length c.args.layout.now.items) c.requires.states.one_each c.requires.parts.one_each all (sym c.plan_of-place-items.ensures.all)
