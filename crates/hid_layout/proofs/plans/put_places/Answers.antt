use Rattle.std.proofs.Common.{◌<◌, length, map, ap, subst, ◌∙◌, arith}
use Rattle.std.proofs.lemmas.List.{take_all}
use Rattle.hid_report_descriptor.specs.Faults.{numbers_from}
use Rattle.hid_layout.specs.Plans.{end_of, ArePut}
use Rattle.hid_layout.proofs.PlanLemmas.{item_there, end_room, ends_none, ends_more, put_none, put_more}
use Rattle.hid_layout.proofs.plans.put_places.Goals as goal

pub loop-i-init : goal.loop-i-init
loop-i-init c = record {
  ends = ends_none c.args.items.now (length c.args.ends.now) c.args.ends.now c.requires.begun;
  places = put_none (length c.args.ends.now) c.args.items.now c.args.places.now c.requires.room;
}

pub bounds-places-end : goal.bounds-places-end
bounds-places-end c =
    omega (arith, c.loop-i.invariant.places.room, end_room c.args.items.now (length c.args.ends.now) c.loop-i.i c.loop-i.ends c.requires.there (omega (arith, c.loop-i-test.true)) c.loop-i.invariant.ends)

pub overflow_add-ends : goal.overflow_add-ends
overflow_add-ends c =
    record { fits = omega (arith, end_room c.args.items.now (length c.args.ends.now) c.loop-i.i c.loop-i.ends c.requires.there (omega (arith, c.loop-i-test.true)) c.loop-i.invariant.ends) }

pub bounds-ends-item-in-loop-i : goal.bounds-ends-item-in-loop-i
bounds-ends-item-in-loop-i c = omega (arith, item_there c.args.items.now (length c.args.ends.now) c.loop-i.i c.requires.there (omega (arith, c.loop-i-test.true)))

pub loop-i-preserved : goal.loop-i-preserved
loop-i-preserved c =
    let n = length c.args.ends.now in
    let there : c.loop-i.i < length c.args.items.now = omega (arith, c.loop-i-test.true) in
    record {
      ends = ends_more c.args.items.now n c.loop-i.i c.loop-i.ends c.requires.there there c.loop-i.invariant.ends;
      places = put_more c.args.items.now n c.loop-i.i c.loop-i.ends c.loop-i.places c.requires.there there c.loop-i.invariant.ends c.loop-i.invariant.places;
    }

pub offset_bounds-places-end : goal.offset_bounds-places-end
offset_bounds-places-end c =
    record { fits = omega (arith, c.requires.room, end_room c.args.items.now (length c.args.ends.now) c.loop-i.i c.loop-i.ends c.requires.there (omega (arith, c.loop-i-test.true)) c.loop-i.invariant.ends) }

pub offset_bounds-ends-item-in-loop-i : goal.offset_bounds-ends-item-in-loop-i
offset_bounds-ends-item-in-loop-i c = record { fits = omega (arith, item_there c.args.items.now (length c.args.ends.now) c.loop-i.i c.requires.there (omega (arith, c.loop-i-test.true))) }

pub bounds-items-i : goal.bounds-items-i
bounds-items-i c = c.loop-i-test.true

pub bounds-ends-item : goal.bounds-ends-item
bounds-ends-item c = omega (arith, item_there c.args.items.now (length c.args.ends.now) c.loop-i.i c.requires.there (omega (arith, c.loop-i-test.true)))

pub offset_bounds-ends-item : goal.offset_bounds-ends-item
offset_bounds-ends-item c = record { fits = omega (arith, item_there c.args.items.now (length c.args.ends.now) c.loop-i.i c.requires.there (omega (arith, c.loop-i-test.true))) }

pub returns-clause-ends : goal.returns-clause-ends
returns-clause-ends c =
    c.loop-i.invariant.ends
    ∙ ap (λ l. map (end_of c.args.items.now l) (numbers_from 0 (length c.args.ends.now)))
    (take_all c.loop-i.i c.args.items.now (omega arith))

pub returns-clause-places : goal.returns-clause-places
returns-clause-places c = subst (λ l. ArePut (length c.args.ends.now) c.args.items.now l c.loop-i.places) (take_all c.loop-i.i c.args.items.now (omega arith)) c.loop-i.invariant.places
