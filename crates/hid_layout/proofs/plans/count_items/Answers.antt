use Rattle.std.proofs.Common.{length, map, ap, ◌∙◌, arith}
use Rattle.std.proofs.lemmas.List.{take_all}
use Rattle.hid_report_descriptor.specs.Faults.{numbers_from}
use Rattle.hid_layout.specs.Plans.{count_of}
use Rattle.hid_layout.proofs.PlanLemmas.{item_at, item_there, count_small, count_more}
use Rattle.hid_layout.proofs.plans.count_items.Goals as goal

pub overflow_add-counts : goal.overflow_add-counts
overflow_add-counts c =
    let i = c.loop-item.item-index in
    let items = c.args.items.now in
    record { fits = omega (arith, count_small items (length c.args.counts.now) i (item_at items i).report c.loop-item.counts c.loop-item.invariant (item_there items (length c.args.counts.now) i c.requires.there (omega (arith, c.loop-item-test.true)))) }

pub bounds-counts-item-in-loop-item : goal.bounds-counts-item-in-loop-item
bounds-counts-item-in-loop-item c =
    let i = c.loop-item.item-index in
    omega (arith, item_there c.args.items.now (length c.args.counts.now) i c.requires.there (omega (arith, c.loop-item-test.true)))

pub loop-item-preserved : goal.loop-item-preserved
loop-item-preserved c = count_more c.args.items.now (length c.args.counts.now) c.loop-item.item-index c.loop-item.counts c.requires.there (omega (arith, c.loop-item-test.true)) c.loop-item.invariant

pub loop-item-init : goal.loop-item-init
loop-item-init c = c.requires.none

pub returns : goal.returns
returns c =
    c.loop-item.invariant
    ∙ ap (λ l. map (count_of l) (numbers_from 0 (length c.args.counts.now)))
    (take_all c.loop-item.item-index c.args.items.now (omega arith))

pub bounds-items-item-index : goal.bounds-items-item-index
bounds-items-item-index c = c.loop-item-test.true

pub bounds-counts-item : goal.bounds-counts-item
bounds-counts-item c = omega (arith, item_there c.args.items.now (length c.args.counts.now) c.loop-item.item-index c.requires.there (omega (arith, c.loop-item-test.true)))

pub offset_bounds-counts-item : goal.offset_bounds-counts-item
offset_bounds-counts-item c = record { fits = omega (arith, item_there c.args.items.now (length c.args.counts.now) c.loop-item.item-index c.requires.there (omega (arith, c.loop-item-test.true))) }
