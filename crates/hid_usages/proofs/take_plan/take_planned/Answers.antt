use Rattle.std.proofs.Common.{◌≡◌, ◌<◌, ◌+◌, ◌∙◌, ℕ, inl, inr, Bool, false, Some, List, get_or, length, map, replicate, refl, ap, sym, subst, arith, vec_len, vec_capacity}
use Rattle.std.proofs.lemmas.Bool.{cases_lt}
use Rattle.std.proofs.lemmas.Option.{slice_get_within}
use Rattle.hid_layout.specs.Controls.{items_of}
use Rattle.hid_layout.specs.declared.main_item.MainItem.{MainItem}
use Rattle.hid_snapshots.specs.ControlStates.{InView}
use Rattle.hid_snapshots.proofs.FillLemmas.{filled}
use Rattle.hid_snapshots.proofs.PlanLemmas.{IsAlong, along_step, along_end}
use Rattle.hid_usages.specs.declared.plan.PlannedItem.{PlannedItem}
use Rattle.hid_usages.specs.Plans.{place_of, ArePassed}
use Rattle.hid_usages.specs.Taking.{read_view}
use Rattle.hid_usages.proofs.BitLemmas.{same_number}
use Rattle.hid_usages.proofs.EventLemmas.{appends, room_for, room_left, told}
use Rattle.hid_usages.proofs.PassingLemmas.{next_planned, place_known, places_length, planned_there}
use Rattle.hid_usages.proofs.PlanOrderLemmas.{IsKnownPlan, known_plan, passed_over, passed_to, none_taken}
use Rattle.hid_usages.proofs.TakeLemmas.{HasTaken, read_start, read_next, events_from_item-next, view_from_item-length, taking_skips, all_told}
use Rattle.hid_usages.proofs.ViewLemmas.{room_at}
use Rattle.hid_usages.proofs.take_plan.take_planned.Goals as goal

pub planned_at-planned-requires : goal.planned_at-planned-requires
planned_at-planned-requires g c = omega (arith, c.items_of_span-range.ensures.within, c.in-Some.ensures.1)

pub next_unpassed-requires : goal.next_unpassed-requires
next_unpassed-requires g c = omega (arith, c.items_of_span-range.ensures.within, ap (λ (items : List PlannedItem). length items) c.deref.ensures.value)

pub items_of_span-range-requires-clause-order : goal.items_of_span-range-requires-clause-order
items_of_span-range-requires-clause-order g c = c.requires.plan.order

pub items_of_span-range-requires-clause-motions : goal.items_of_span-range-requires-clause-motions
items_of_span-range-requires-clause-motions g c = c.requires.plan.motions

pub loop-k-init : goal.loop-k-init
loop-k-init g c =
    let layout = c.args.received.now.layout.now in
    let r = c.args.received.now.report in
    let bytes = c.args.received.now.bytes.now in
    let plan = c.args.plan.now.items.items in
    let range = c.items_of_span-range.result in
    let held = c.items_of_span-range.ensures in
    let known : IsKnownPlan layout r bytes c.args.last.now.bytes.now c.args.last.now.changed plan c.args.states.now c.args.states.now = known_plan _ _ _ _ _ c.args.plan.now _ _ c.items.ensures.layout c.requires.received.input c.requires.plan c.requires.known (c.requires.fits.one_each ∙ c.requires.places.all) refl in
    let start = none_taken layout r bytes c.args.states.now c.args.out.now.items (vec_len c.args.out.now) (vec_capacity c.args.out.now) c.requires.room in
    let along = passed_over layout r bytes c.args.last.now.bytes.now c.args.last.now.changed plan c.args.states.now c.args.states.now c.args.out.now.items c.args.out.now.items (vec_len c.args.out.now) (vec_capacity c.args.out.now) range.first 0 known (omega (arith, held.order, held.within))
    (λ j item there low high. inl (held.passed j item there (inl (omega (arith, high))))) start in
    record {
      along = subst (λ (m : ℕ). IsAlong layout r m (HasTaken layout r bytes c.args.states.now c.args.states.now c.args.out.now.items c.args.out.now.items (vec_len c.args.out.now) (vec_capacity c.args.out.now))) (let e : 0 + range.first ≡ range.first = omega arith in e) along;
      named = refl;
      same_room = refl;
      within = omega (arith, held.order, held.within);
    }

pub take_planned_item-requires-clause-held : goal.take_planned_item-requires-clause-held
take_planned_item-requires-clause-held g c =
    let skips = taking_skips c.args.received.now.layout.now c.args.received.now.report c.args.received.now.bytes.now c.args.states.now c.loop-k.states c.args.out.now.items c.loop-k.out.items (vec_len c.loop-k.out) (vec_capacity c.loop-k.out) (c.requires.fits.one_each ∙ c.requires.places.all) c.loop-k.auto.states in
    let known : IsKnownPlan c.args.received.now.layout.now c.args.received.now.report c.args.received.now.bytes.now c.args.last.now.bytes.now c.args.last.now.changed c.args.plan.now.items.items c.args.states.now c.loop-k.states = known_plan _ _ _ _ _ c.args.plan.now _ _ c.items.ensures.layout c.requires.received.input c.requires.plan c.requires.known (c.requires.fits.one_each ∙ c.requires.places.all) c.loop-k.auto.states in
    let along = passed_to c.args.received.now.layout.now c.args.received.now.report c.args.received.now.bytes.now c.args.last.now.bytes.now c.args.last.now.changed c.args.plan.now.items.items c.args.states.now c.loop-k.states c.args.out.now.items c.loop-k.out.items (vec_len c.loop-k.out) (vec_capacity c.loop-k.out) c.loop-k.from c.in-Some.k known c.in-Some.ensures.0 (omega (arith, c.items_of_span-range.ensures.within, c.in-Some.ensures.1)) (subst (λ (items : List PlannedItem). ArePassed items c.args.last.now.changed c.loop-k.from c.in-Some.k) c.deref.ensures.value c.in-Some.ensures.2) c.loop-k.invariant.along in
    let next = next_planned c.args.received.now.layout.now c.args.received.now.report c.in-Some.k c.args.plan.now.items.items _ c.planned_at-planned.result.now skips c.requires.places.plan c.planned_at-planned.ensures along in
    let here : c.planned_at-planned.result.now.place < length c.args.received.now.layout.now.items = slice_get_within c.args.received.now.layout.now.items c.planned_at-planned.result.now.place next.item next.listed in
    let within : c.planned_at-planned.result.now.place < length c.args.states.now = omega (arith, here, c.requires.fits.one_each, c.requires.places.all) in
    let there = read_start c.args.received.now.layout.now c.args.received.now.report c.args.received.now.bytes.now c.args.states.now c.loop-k.states c.planned_at-planned.result.now.place c.index-states-i.result next.holds.states within c.loop-k.auto.states in
    room_at InView (items_of c.args.received.now.layout.now) c.args.states.now c.planned_at-planned.result.now.place _ c.requires.fits (omega (arith, here, c.requires.places.all)) there

pub take_planned_item-requires-clause-planned : goal.take_planned_item-requires-clause-planned
take_planned_item-requires-clause-planned g c =
    planned_there c.args.received.now.layout.now c.args.plan.now.items.items c.in-Some.k c.planned_at-planned.result.now c.requires.plan.each c.planned_at-planned.ensures

pub take_planned_item-requires-clause-in_report : goal.take_planned_item-requires-clause-in_report
take_planned_item-requires-clause-in_report g c = λ m listed.
    let skips = taking_skips c.args.received.now.layout.now c.args.received.now.report c.args.received.now.bytes.now c.args.states.now c.loop-k.states c.args.out.now.items c.loop-k.out.items (vec_len c.loop-k.out) (vec_capacity c.loop-k.out) (c.requires.fits.one_each ∙ c.requires.places.all) c.loop-k.auto.states in
    let known : IsKnownPlan c.args.received.now.layout.now c.args.received.now.report c.args.received.now.bytes.now c.args.last.now.bytes.now c.args.last.now.changed c.args.plan.now.items.items c.args.states.now c.loop-k.states = known_plan _ _ _ _ _ c.args.plan.now _ _ c.items.ensures.layout c.requires.received.input c.requires.plan c.requires.known (c.requires.fits.one_each ∙ c.requires.places.all) c.loop-k.auto.states in
    let along = passed_to c.args.received.now.layout.now c.args.received.now.report c.args.received.now.bytes.now c.args.last.now.bytes.now c.args.last.now.changed c.args.plan.now.items.items c.args.states.now c.loop-k.states c.args.out.now.items c.loop-k.out.items (vec_len c.loop-k.out) (vec_capacity c.loop-k.out) c.loop-k.from c.in-Some.k known c.in-Some.ensures.0 (omega (arith, c.items_of_span-range.ensures.within, c.in-Some.ensures.1)) (subst (λ (items : List PlannedItem). ArePassed items c.args.last.now.changed c.loop-k.from c.in-Some.k) c.deref.ensures.value c.in-Some.ensures.2) c.loop-k.invariant.along in
    let next = next_planned c.args.received.now.layout.now c.args.received.now.report c.in-Some.k c.args.plan.now.items.items _ c.planned_at-planned.result.now skips c.requires.places.plan c.planned_at-planned.ensures along in
    let same : Some next.item ≡ Some m = sym next.listed ∙ listed in
    let is : next.item ≡ m = cc in
    ap (λ (item : MainItem). item.report) (sym is) ∙ same_number next.item.report c.args.received.now.report next.in_report

pub take_planned_item-requires-clause-known : goal.take_planned_item-requires-clause-known
take_planned_item-requires-clause-known g c =
    let skips = taking_skips c.args.received.now.layout.now c.args.received.now.report c.args.received.now.bytes.now c.args.states.now c.loop-k.states c.args.out.now.items c.loop-k.out.items (vec_len c.loop-k.out) (vec_capacity c.loop-k.out) (c.requires.fits.one_each ∙ c.requires.places.all) c.loop-k.auto.states in
    let known : IsKnownPlan c.args.received.now.layout.now c.args.received.now.report c.args.received.now.bytes.now c.args.last.now.bytes.now c.args.last.now.changed c.args.plan.now.items.items c.args.states.now c.loop-k.states = known_plan _ _ _ _ _ c.args.plan.now _ _ c.items.ensures.layout c.requires.received.input c.requires.plan c.requires.known (c.requires.fits.one_each ∙ c.requires.places.all) c.loop-k.auto.states in
    let along = passed_to c.args.received.now.layout.now c.args.received.now.report c.args.received.now.bytes.now c.args.last.now.bytes.now c.args.last.now.changed c.args.plan.now.items.items c.args.states.now c.loop-k.states c.args.out.now.items c.loop-k.out.items (vec_len c.loop-k.out) (vec_capacity c.loop-k.out) c.loop-k.from c.in-Some.k known c.in-Some.ensures.0 (omega (arith, c.items_of_span-range.ensures.within, c.in-Some.ensures.1)) (subst (λ (items : List PlannedItem). ArePassed items c.args.last.now.changed c.loop-k.from c.in-Some.k) c.deref.ensures.value c.in-Some.ensures.2) c.loop-k.invariant.along in
    let next = next_planned c.args.received.now.layout.now c.args.received.now.report c.in-Some.k c.args.plan.now.items.items _ c.planned_at-planned.result.now skips c.requires.places.plan c.planned_at-planned.ensures along in
    let here : c.planned_at-planned.result.now.place < length c.args.received.now.layout.now.items = slice_get_within c.args.received.now.layout.now.items c.planned_at-planned.result.now.place next.item next.listed in
    let within : c.planned_at-planned.result.now.place < length c.args.states.now = omega (arith, here, c.requires.fits.one_each, c.requires.places.all) in
    let there = read_start c.args.received.now.layout.now c.args.received.now.report c.args.received.now.bytes.now c.args.states.now c.loop-k.states c.planned_at-planned.result.now.place c.index-states-i.result next.holds.states within c.loop-k.auto.states in
    place_known c.args.received.now.layout.now c.args.received.now.report c.args.received.now.bytes.now c.args.last.now.bytes.now c.args.last.now.changed c.args.states.now c.planned_at-planned.result.now.place _ c.requires.known there

pub take_planned_item-requires-clause-named : goal.take_planned_item-requires-clause-named
take_planned_item-requires-clause-named g c =
    let skips = taking_skips c.args.received.now.layout.now c.args.received.now.report c.args.received.now.bytes.now c.args.states.now c.loop-k.states c.args.out.now.items c.loop-k.out.items (vec_len c.loop-k.out) (vec_capacity c.loop-k.out) (c.requires.fits.one_each ∙ c.requires.places.all) c.loop-k.auto.states in
    let known : IsKnownPlan c.args.received.now.layout.now c.args.received.now.report c.args.received.now.bytes.now c.args.last.now.bytes.now c.args.last.now.changed c.args.plan.now.items.items c.args.states.now c.loop-k.states = known_plan _ _ _ _ _ c.args.plan.now _ _ c.items.ensures.layout c.requires.received.input c.requires.plan c.requires.known (c.requires.fits.one_each ∙ c.requires.places.all) c.loop-k.auto.states in
    let along = passed_to c.args.received.now.layout.now c.args.received.now.report c.args.received.now.bytes.now c.args.last.now.bytes.now c.args.last.now.changed c.args.plan.now.items.items c.args.states.now c.loop-k.states c.args.out.now.items c.loop-k.out.items (vec_len c.loop-k.out) (vec_capacity c.loop-k.out) c.loop-k.from c.in-Some.k known c.in-Some.ensures.0 (omega (arith, c.items_of_span-range.ensures.within, c.in-Some.ensures.1)) (subst (λ (items : List PlannedItem). ArePassed items c.args.last.now.changed c.loop-k.from c.in-Some.k) c.deref.ensures.value c.in-Some.ensures.2) c.loop-k.invariant.along in
    let next = next_planned c.args.received.now.layout.now c.args.received.now.report c.in-Some.k c.args.plan.now.items.items _ c.planned_at-planned.result.now skips c.requires.places.plan c.planned_at-planned.ensures along in
    let here : c.planned_at-planned.result.now.place < length c.args.received.now.layout.now.items = slice_get_within c.args.received.now.layout.now.items c.planned_at-planned.result.now.place next.item next.listed in
    let within : c.planned_at-planned.result.now.place < length c.args.states.now = omega (arith, here, c.requires.fits.one_each, c.requires.places.all) in
    let there = read_start c.args.received.now.layout.now c.args.received.now.report c.args.received.now.bytes.now c.args.states.now c.loop-k.states c.planned_at-planned.result.now.place c.index-states-i.result next.holds.states within c.loop-k.auto.states in
    record {
      places = omega (arith, c.requires.named.each c.planned_at-planned.result.now.place _ there, ap length c.loop-k.invariant.named);
      none = subst (λ (ps : List Bool). ps ≡ replicate (length ps) false) (sym c.loop-k.invariant.named) c.requires.named.none;
    }

pub take_planned_item-requires-clause-room : goal.take_planned_item-requires-clause-room
take_planned_item-requires-clause-room g c =
    let skips = taking_skips c.args.received.now.layout.now c.args.received.now.report c.args.received.now.bytes.now c.args.states.now c.loop-k.states c.args.out.now.items c.loop-k.out.items (vec_len c.loop-k.out) (vec_capacity c.loop-k.out) (c.requires.fits.one_each ∙ c.requires.places.all) c.loop-k.auto.states in
    let known : IsKnownPlan c.args.received.now.layout.now c.args.received.now.report c.args.received.now.bytes.now c.args.last.now.bytes.now c.args.last.now.changed c.args.plan.now.items.items c.args.states.now c.loop-k.states = known_plan _ _ _ _ _ c.args.plan.now _ _ c.items.ensures.layout c.requires.received.input c.requires.plan c.requires.known (c.requires.fits.one_each ∙ c.requires.places.all) c.loop-k.auto.states in
    let along = passed_to c.args.received.now.layout.now c.args.received.now.report c.args.received.now.bytes.now c.args.last.now.bytes.now c.args.last.now.changed c.args.plan.now.items.items c.args.states.now c.loop-k.states c.args.out.now.items c.loop-k.out.items (vec_len c.loop-k.out) (vec_capacity c.loop-k.out) c.loop-k.from c.in-Some.k known c.in-Some.ensures.0 (omega (arith, c.items_of_span-range.ensures.within, c.in-Some.ensures.1)) (subst (λ (items : List PlannedItem). ArePassed items c.args.last.now.changed c.loop-k.from c.in-Some.k) c.deref.ensures.value c.in-Some.ensures.2) c.loop-k.invariant.along in
    let next = next_planned c.args.received.now.layout.now c.args.received.now.report c.in-Some.k c.args.plan.now.items.items _ c.planned_at-planned.result.now skips c.requires.places.plan c.planned_at-planned.ensures along in
    let here : c.planned_at-planned.result.now.place < length c.args.received.now.layout.now.items = slice_get_within c.args.received.now.layout.now.items c.planned_at-planned.result.now.place next.item next.listed in
    let within : c.planned_at-planned.result.now.place < length c.args.states.now = omega (arith, here, c.requires.fits.one_each, c.requires.places.all) in
    let there = read_start c.args.received.now.layout.now c.args.received.now.report c.args.received.now.bytes.now c.args.states.now c.loop-k.states c.planned_at-planned.result.now.place c.index-states-i.result next.holds.states within c.loop-k.auto.states in
    let step =
    events_from_item-next c.args.received.now.layout.now c.args.received.now.report c.args.received.now.bytes.now c.args.states.now c.planned_at-planned.result.now.place (get_or c.loop-k.states c.planned_at-planned.result.now.place c.index-states-i.result) there in
    room_for _ _ _ _ _ step next.holds.fits

pub loop-k-preserved : goal.loop-k-preserved
loop-k-preserved g c =
    let skips = taking_skips c.args.received.now.layout.now c.args.received.now.report c.args.received.now.bytes.now c.args.states.now c.loop-k.states c.args.out.now.items c.loop-k.out.items (vec_len c.loop-k.out) (vec_capacity c.loop-k.out) (c.requires.fits.one_each ∙ c.requires.places.all) c.loop-k.auto.states in
    let known : IsKnownPlan c.args.received.now.layout.now c.args.received.now.report c.args.received.now.bytes.now c.args.last.now.bytes.now c.args.last.now.changed c.args.plan.now.items.items c.args.states.now c.loop-k.states = known_plan _ _ _ _ _ c.args.plan.now _ _ c.items.ensures.layout c.requires.received.input c.requires.plan c.requires.known (c.requires.fits.one_each ∙ c.requires.places.all) c.loop-k.auto.states in
    let along = passed_to c.args.received.now.layout.now c.args.received.now.report c.args.received.now.bytes.now c.args.last.now.bytes.now c.args.last.now.changed c.args.plan.now.items.items c.args.states.now c.loop-k.states c.args.out.now.items c.loop-k.out.items (vec_len c.loop-k.out) (vec_capacity c.loop-k.out) c.loop-k.from c.in-Some.k known c.in-Some.ensures.0 (omega (arith, c.items_of_span-range.ensures.within, c.in-Some.ensures.1)) (subst (λ (items : List PlannedItem). ArePassed items c.args.last.now.changed c.loop-k.from c.in-Some.k) c.deref.ensures.value c.in-Some.ensures.2) c.loop-k.invariant.along in
    let next = next_planned c.args.received.now.layout.now c.args.received.now.report c.in-Some.k c.args.plan.now.items.items _ c.planned_at-planned.result.now skips c.requires.places.plan c.planned_at-planned.ensures along in
    let here : c.planned_at-planned.result.now.place < length c.args.received.now.layout.now.items = slice_get_within c.args.received.now.layout.now.items c.planned_at-planned.result.now.place next.item next.listed in
    let within : c.planned_at-planned.result.now.place < length c.args.states.now = omega (arith, here, c.requires.fits.one_each, c.requires.places.all) in
    let there = read_start c.args.received.now.layout.now c.args.received.now.report c.args.received.now.bytes.now c.args.states.now c.loop-k.states c.planned_at-planned.result.now.place c.index-states-i.result next.holds.states within c.loop-k.auto.states in
    let step =
    events_from_item-next c.args.received.now.layout.now c.args.received.now.report c.args.received.now.bytes.now c.args.states.now c.planned_at-planned.result.now.place (get_or c.loop-k.states c.planned_at-planned.result.now.place c.index-states-i.result) there in
    record {
      along = along_step c.args.received.now.layout.now c.args.received.now.report c.in-Some.k _ _ _ next (record {
        states = read_next c.args.received.now.layout.now c.args.received.now.report c.args.received.now.bytes.now c.args.states.now c.loop-k.states c.planned_at-planned.result.now.place c.index-states-i.result c.take_planned_item.new.state next.holds.states within c.loop-k.auto.states c.take_planned_item.ensures.state;
        events = told _ _ _ _ _ _ step next.holds.events c.take_planned_item.ensures.appends.items;
        fits = room_left _ _ _ _ _ _ _ step next.holds.fits c.take_planned_item.ensures.appends.len c.take_planned_item.ensures.appends.room;
      });
      named = c.take_planned_item.ensures.named ∙ c.loop-k.invariant.named;
      same_room = c.take_planned_item.ensures.appends.room ∙ c.loop-k.invariant.same_room;
      within = omega (arith, c.items_of_span-range.ensures.within, c.in-Some.ensures.1);
    }

pub loop-k-smaller : goal.loop-k-smaller
loop-k-smaller g c = omega (arith, c.items_of_span-range.ensures.within, c.in-Some.ensures.0, c.in-Some.ensures.1)

pub returns-clause-view : goal.returns-clause-view
returns-clause-view g c =
    let layout = c.args.received.now.layout.now in
    let r = c.args.received.now.report in
    let bytes = c.args.received.now.bytes.now in
    let plan = c.args.plan.now.items.items in
    let range = c.items_of_span-range.result in
    let held = c.items_of_span-range.ensures in
    let known : IsKnownPlan layout r bytes c.args.last.now.bytes.now c.args.last.now.changed plan c.args.states.now c.loop-k.states = known_plan _ _ _ _ _ c.args.plan.now _ _ c.items.ensures.layout c.requires.received.input c.requires.plan c.requires.known (c.requires.fits.one_each ∙ c.requires.places.all) c.loop-k.auto.states in
    let skips = taking_skips layout r bytes c.args.states.now c.loop-k.states c.args.out.now.items c.loop-k.out.items (vec_len c.loop-k.out) (vec_capacity c.loop-k.out) known.all known.same in
    let along = passed_to layout r bytes c.args.last.now.bytes.now c.args.last.now.changed plan c.args.states.now c.loop-k.states c.args.out.now.items c.loop-k.out.items (vec_len c.loop-k.out) (vec_capacity c.loop-k.out) c.loop-k.from (length plan) known c.loop-k.invariant.within (omega arith)
    (λ j item there low high. elim (cases_lt j range.end) [
      | inl before ↦ subst (λ (items : List PlannedItem). ArePassed items c.args.last.now.changed c.loop-k.from range.end) c.deref.ensures.value c.in_default.ensures j item there low before
      | inr behind ↦ held.passed j item there (inr behind)
    ]) c.loop-k.invariant.along in
    let all = along_end layout r (length plan) (map place_of plan) _ skips c.requires.places.plan (omega (arith, places_length plan)) along in
    let target = read_view c.args.received.now.layout.now c.args.received.now.report c.args.received.now.bytes.now c.args.states.now in
    let len : length target ≡ length c.args.states.now =
    view_from_item-length c.args.received.now.layout.now c.args.received.now.report c.args.received.now.bytes.now 0 c.args.states.now in
    all.states ∙ filled target c.args.states.now (length c.args.received.now.layout.now.items) (omega (arith, c.requires.fits.one_each, c.requires.places.all)) (omega (arith, len))

pub returns-clause-appends : goal.returns-clause-appends
returns-clause-appends g c =
    let layout = c.args.received.now.layout.now in
    let r = c.args.received.now.report in
    let bytes = c.args.received.now.bytes.now in
    let plan = c.args.plan.now.items.items in
    let range = c.items_of_span-range.result in
    let held = c.items_of_span-range.ensures in
    let known : IsKnownPlan layout r bytes c.args.last.now.bytes.now c.args.last.now.changed plan c.args.states.now c.loop-k.states = known_plan _ _ _ _ _ c.args.plan.now _ _ c.items.ensures.layout c.requires.received.input c.requires.plan c.requires.known (c.requires.fits.one_each ∙ c.requires.places.all) c.loop-k.auto.states in
    let skips = taking_skips layout r bytes c.args.states.now c.loop-k.states c.args.out.now.items c.loop-k.out.items (vec_len c.loop-k.out) (vec_capacity c.loop-k.out) known.all known.same in
    let along = passed_to layout r bytes c.args.last.now.bytes.now c.args.last.now.changed plan c.args.states.now c.loop-k.states c.args.out.now.items c.loop-k.out.items (vec_len c.loop-k.out) (vec_capacity c.loop-k.out) c.loop-k.from (length plan) known c.loop-k.invariant.within (omega arith)
    (λ j item there low high. elim (cases_lt j range.end) [
      | inl before ↦ subst (λ (items : List PlannedItem). ArePassed items c.args.last.now.changed c.loop-k.from range.end) c.deref.ensures.value c.in_default.ensures j item there low before
      | inr behind ↦ held.passed j item there (inr behind)
    ]) c.loop-k.invariant.along in
    let all = along_end layout r (length plan) (map place_of plan) _ skips c.requires.places.plan (omega (arith, places_length plan)) along in
    appends _ _ _ (all_told c.args.received.now.layout.now c.args.received.now.report c.args.received.now.bytes.now c.args.states.now (length c.args.received.now.layout.now.items) c.loop-k.out.items _ (omega (arith, c.requires.fits.one_each, c.requires.places.all)) all.events) c.loop-k.invariant.same_room
