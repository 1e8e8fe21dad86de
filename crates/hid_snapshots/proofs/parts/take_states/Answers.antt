use Rattle.std.proofs.Common.{rules, length, get_or, ◌∙◌, sym, arith}
use Rattle.hid_layout.specs.Controls.{items_of}
use Rattle.hid_snapshots.specs.Parts.{without_motion_of}
use Rattle.hid_snapshots.proofs.PartLemmas.{show_start, show_next, show_all, by_item_turned}
use Rattle.hid_snapshots.proofs.PlanLemmas.{along_next, along_step, along_end}
use Rattle.hid_snapshots.proofs.ShownLemmas.{takes_next}
use Rattle.hid_snapshots.proofs.SkipLemmas.{taken_skips}
use Rattle.hid_snapshots.proofs.parts.take_states.Goals as goal

pub take_item-requires-clause-room : goal.take_item-requires-clause-room
take_item-requires-clause-room c =
    let skips = taken_skips c.args.layout.now c.args.report c.args.parts.now c.args.states.now c.loop-place.states c.plan_of-place-items.ensures.layout c.requires.input c.requires.parts.one_each c.requires.states.one_each c.loop-place.auto.states in
    let next = along_next c.args.layout.now c.args.report c.loop-place.place-index c.plan_of-place-items.result.now _ skips c.plan_of-place-items.ensures.plan (omega arith) c.loop-place.invariant in
    let there =
    show_start (λ item part state. without_motion_of c.args.report item state part)
    (items_of c.args.layout.now) c.args.parts.now c.args.states.now c.loop-place.states
    (get_or c.plan_of-place-items.result.now c.loop-place.place-index 0) c.index-states-i.result c.requires.parts.one_each c.requires.states.one_each next.holds (search rules) c.loop-place.auto.states in
    (takes_next (items_of c.args.layout.now) c.args.report c.args.states.now c.args.parts.now (get_or c.plan_of-place-items.result.now c.loop-place.place-index 0) _ c.state_at.result.now c.requires.zeros c.requires.part c.requires.states c.requires.parts (search rules) there c.state_at.ensures).room

pub take_item-requires-clause-amounts : goal.take_item-requires-clause-amounts
take_item-requires-clause-amounts c =
    let skips = taken_skips c.args.layout.now c.args.report c.args.parts.now c.args.states.now c.loop-place.states c.plan_of-place-items.ensures.layout c.requires.input c.requires.parts.one_each c.requires.states.one_each c.loop-place.auto.states in
    let next = along_next c.args.layout.now c.args.report c.loop-place.place-index c.plan_of-place-items.result.now _ skips c.plan_of-place-items.ensures.plan (omega arith) c.loop-place.invariant in
    let there =
    show_start (λ item part state. without_motion_of c.args.report item state part)
    (items_of c.args.layout.now) c.args.parts.now c.args.states.now c.loop-place.states
    (get_or c.plan_of-place-items.result.now c.loop-place.place-index 0) c.index-states-i.result c.requires.parts.one_each c.requires.states.one_each next.holds (search rules) c.loop-place.auto.states in
    (takes_next (items_of c.args.layout.now) c.args.report c.args.states.now c.args.parts.now (get_or c.plan_of-place-items.result.now c.loop-place.place-index 0) _ c.state_at.result.now c.requires.zeros c.requires.part c.requires.states c.requires.parts (search rules) there c.state_at.ensures).amounts

pub take_item-requires-clause-others : goal.take_item-requires-clause-others
take_item-requires-clause-others c =
    let skips = taken_skips c.args.layout.now c.args.report c.args.parts.now c.args.states.now c.loop-place.states c.plan_of-place-items.ensures.layout c.requires.input c.requires.parts.one_each c.requires.states.one_each c.loop-place.auto.states in
    let next = along_next c.args.layout.now c.args.report c.loop-place.place-index c.plan_of-place-items.result.now _ skips c.plan_of-place-items.ensures.plan (omega arith) c.loop-place.invariant in
    let there =
    show_start (λ item part state. without_motion_of c.args.report item state part)
    (items_of c.args.layout.now) c.args.parts.now c.args.states.now c.loop-place.states
    (get_or c.plan_of-place-items.result.now c.loop-place.place-index 0) c.index-states-i.result c.requires.parts.one_each c.requires.states.one_each next.holds (search rules) c.loop-place.auto.states in
    (takes_next (items_of c.args.layout.now) c.args.report c.args.states.now c.args.parts.now (get_or c.plan_of-place-items.result.now c.loop-place.place-index 0) _ c.state_at.result.now c.requires.zeros c.requires.part c.requires.states c.requires.parts (search rules) there c.state_at.ensures).others

pub loop-place-preserved : goal.loop-place-preserved
loop-place-preserved c =
    let skips = taken_skips c.args.layout.now c.args.report c.args.parts.now c.args.states.now c.loop-place.states c.plan_of-place-items.ensures.layout c.requires.input c.requires.parts.one_each c.requires.states.one_each c.loop-place.auto.states in
    let next = along_next c.args.layout.now c.args.report c.loop-place.place-index c.plan_of-place-items.result.now _ skips c.plan_of-place-items.ensures.plan (omega arith) c.loop-place.invariant in
    along_step c.args.layout.now c.args.report c.loop-place.place-index _ _ _ next
    (show_next (λ item part state. without_motion_of c.args.report item state part)
    (items_of c.args.layout.now) c.args.parts.now c.args.states.now c.loop-place.states
    (get_or c.plan_of-place-items.result.now c.loop-place.place-index 0) c.state_at.result.now c.index-states-i.result c.take_item.new.state c.requires.parts.one_each c.requires.states.one_each next.holds (search rules) c.state_at.ensures c.loop-place.auto.states c.take_item.ensures)

pub returns : goal.returns
returns c =
    let skips = taken_skips c.args.layout.now c.args.report c.args.parts.now c.args.states.now c.loop-place.states c.plan_of-place-items.ensures.layout c.requires.input c.requires.parts.one_each c.requires.states.one_each c.loop-place.auto.states in
    let all = along_end c.args.layout.now c.args.report c.loop-place.place-index c.plan_of-place-items.result.now _ skips c.plan_of-place-items.ensures.plan c.loop-place-test.false c.loop-place.invariant in
    show_all (λ item part state. without_motion_of c.args.report item state part)
    (items_of c.args.layout.now) c.args.parts.now c.args.states.now c.loop-place.states
    (length c.args.layout.now.items) c.requires.parts.one_each c.requires.states.one_each all
    (sym c.plan_of-place-items.ensures.all)
    ∙ by_item_turned (without_motion_of c.args.report) (items_of c.args.layout.now) c.args.states.now c.args.parts.now
