use Rattle.std.proofs.Common.{◌≡◌, ◌∙◌, ◌++◌, ◌∷◌, [], ℕ, List, All, ◌<◌, get_or, length, map, sym, ap, subst, arith}
use Rattle.std.proofs.lemmas.List.{take_more, take_all}
use Rattle.hid_layout.specs.ArrayCodes.{plan_of}
use Rattle.hid_snapshots.proofs.PlanLemmas.{plan_within}
use Rattle.hid_usages.specs.declared.plan.PlannedItem.{PlannedItem}
use Rattle.hid_usages.specs.Plans.{place_of, HoldsMotions}
use Rattle.hid_usages.proofs.PlanOrderLemmas.{plan_in_order}
use Rattle.hid_usages.proofs.PassingLemmas.{planned_more, places_more}
use Rattle.hid_usages.proofs.plan.plan_items.Goals as goal

pub loop-place-preserved : goal.loop-place-preserved
loop-place-preserved c =
    let places = c.plan-places.result.now in
    let k = c.loop-place.place-index in
    let next = c.push_reserved.ensures.items in
    record {
      places =
          ap (map place_of) next ∙ places_more c.loop-place.items.items c.planned_item.result
          ∙ ap (λ (p : ℕ). map place_of c.loop-place.items.items ++ p ∷ []) c.planned_item.ensures.place
          ∙ ap (λ (ps : List ℕ). ps ++ get_or places k 0 ∷ []) c.loop-place.invariant.places
          ∙ sym (take_more places k 0 (omega arith));
      each = rw next (planned_more c.args.layout.now c.loop-place.items.items c.planned_item.result c.loop-place.invariant.each c.planned_item.ensures.item);
      count = omega (arith, c.push_reserved.ensures.len, c.loop-place.invariant.count);
      room = c.push_reserved.ensures.capacity ∙ c.loop-place.invariant.room;
    }

pub planned_item-requires : goal.planned_item-requires
planned_item-requires c =
    let places = c.plan-places.result.now in
    let k = c.loop-place.place-index in
    let within : All (λ place. place < length c.args.layout.now.items) places = subst (All (λ place. place < length c.args.layout.now.items)) (sym c.plan-places.ensures) (plan_within c.args.layout.now c.args.report) in
    within k 0 (omega arith)

pub returns : goal.returns
returns c =
    let places = c.plan-places.result.now in
    let all : map place_of c.loop-place.items.items ≡ plan_of c.args.layout.now c.args.report =
    c.loop-place.invariant.places ∙ take_all c.loop-place.place-index places (omega arith) ∙ c.plan-places.ensures in
    let motions : HoldsMotions c.loop-place.items.items c.motions_in-motions.result = subst (λ (xs : List PlannedItem). HoldsMotions xs c.motions_in-motions.result) c.deref.ensures.value c.motions_in-motions.ensures in
    record {
      places = all;
      each = c.loop-place.invariant.each;
      order = plan_in_order c.args.layout.now c.args.report c.loop-place.items.items c.items.ensures.layout all c.loop-place.invariant.each;
      motions = motions;
    }
