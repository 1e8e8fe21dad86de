use Rattle.std.proofs.Common.{rules, length, get_or, ◌∙◌, sym, arith}
use Rattle.hid_layout.specs.Controls.{items_of}
use Rattle.hid_snapshots.specs.Parts.{by_item, calls_for, is_changed}
use Rattle.hid_snapshots.proofs.FillLemmas.{any_from_hit, any_from_miss, any_past}
use Rattle.hid_snapshots.proofs.PartLemmas.{called_there, by_item_length}
use Rattle.hid_snapshots.proofs.PlanLemmas.{along_next, along_step, along_end}
use Rattle.hid_snapshots.proofs.SkipLemmas.{changed_skips}
use Rattle.hid_snapshots.proofs.parts.is_changed.Goals as goal

pub returns-then-calls_for : goal.returns-then-calls_for
returns-then-calls_for c =
    let skips = changed_skips c.args.layout.now c.args.report c.args.states.now c.args.parts.now (is_changed (items_of c.args.layout.now) c.args.report c.args.states.now c.args.parts.now) c.plan_of-place-items.ensures.layout c.requires.input c.requires.states c.requires.parts in
    let next = along_next c.args.layout.now c.args.report c.loop-place.place-index c.plan_of-place-items.result.now _ skips c.plan_of-place-items.ensures.plan (omega arith) c.loop-place.invariant in
    let here = called_there (calls_for c.args.report) (items_of c.args.layout.now) c.args.states.now c.args.parts.now (get_or c.plan_of-place-items.result.now c.loop-place.place-index 0) c.state_at.result.now c.state_at-in-loop-place.result.now c.requires.states c.requires.parts (search rules) c.state_at.ensures c.state_at-in-loop-place.ensures in
    sym (next.holds ∙ any_from_hit (λ called. called) (by_item (calls_for c.args.report) (items_of c.args.layout.now) c.args.states.now c.args.parts.now) (get_or c.plan_of-place-items.result.now c.loop-place.place-index 0) _ here (sym c.calls_for.ensures ∙ c.if-calls_for.true))

pub loop-place-preserved : goal.loop-place-preserved
loop-place-preserved c =
    let skips = changed_skips c.args.layout.now c.args.report c.args.states.now c.args.parts.now (is_changed (items_of c.args.layout.now) c.args.report c.args.states.now c.args.parts.now) c.plan_of-place-items.ensures.layout c.requires.input c.requires.states c.requires.parts in
    let next = along_next c.args.layout.now c.args.report c.loop-place.place-index c.plan_of-place-items.result.now _ skips c.plan_of-place-items.ensures.plan (omega arith) c.loop-place.invariant in
    let here = called_there (calls_for c.args.report) (items_of c.args.layout.now) c.args.states.now c.args.parts.now (get_or c.plan_of-place-items.result.now c.loop-place.place-index 0) c.state_at.result.now c.state_at-in-loop-place.result.now c.requires.states c.requires.parts (search rules) c.state_at.ensures c.state_at-in-loop-place.ensures in
    along_step c.args.layout.now c.args.report c.loop-place.place-index _ _ _ next
    (next.holds ∙ any_from_miss (λ called. called) (by_item (calls_for c.args.report) (items_of c.args.layout.now) c.args.states.now c.args.parts.now) (get_or c.plan_of-place-items.result.now c.loop-place.place-index 0) _ here (sym c.calls_for.ensures ∙ c.if-calls_for.false))

pub returns : goal.returns
returns c =
    let skips = changed_skips c.args.layout.now c.args.report c.args.states.now c.args.parts.now (is_changed (items_of c.args.layout.now) c.args.report c.args.states.now c.args.parts.now) c.plan_of-place-items.ensures.layout c.requires.input c.requires.states c.requires.parts in
    let all = along_end c.args.layout.now c.args.report c.loop-place.place-index c.plan_of-place-items.result.now _ skips c.plan_of-place-items.ensures.plan c.loop-place-test.false c.loop-place.invariant in
    let len = by_item_length (calls_for c.args.report) (items_of c.args.layout.now) c.args.states.now c.args.parts.now c.requires.states c.requires.parts in
    sym (all ∙ any_past (λ called. called) (by_item (calls_for c.args.report) (items_of c.args.layout.now) c.args.states.now c.args.parts.now) (length c.args.layout.now.items) (omega (arith, len, c.plan_of-place-items.ensures.all)))
