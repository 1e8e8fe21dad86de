use Rattle.std.proofs.Common.{◌≡◌, ◌<◌, ◌+◌, ◌∙◌, ℕ, Bool, false, Some, List, get_or, drop, length, replicate, refl, ap, sym, subst, arith, vec_len, vec_capacity}
use Rattle.std.proofs.lemmas.Option.{slice_get_within}
use Rattle.hid_layout.specs.ArrayCodes.{plan_of}
use Rattle.hid_layout.specs.Controls.{items_of}
use Rattle.hid_layout.specs.declared.main_item.MainItem.{MainItem}
use Rattle.hid_snapshots.specs.ControlStates.{InView}
use Rattle.hid_snapshots.proofs.FillLemmas.{filled}
use Rattle.hid_snapshots.proofs.PlanLemmas.{IsNext, along_next, along_step, along_end}
use Rattle.hid_usages.specs.Taking.{read_view}
use Rattle.hid_usages.proofs.BitLemmas.{same_number}
use Rattle.hid_usages.proofs.EventLemmas.{appends, room_for, room_left, told}
use Rattle.hid_usages.proofs.PlanOrderLemmas.{none_taken}
use Rattle.hid_usages.proofs.TakeLemmas.{HasTaken, read_start, read_next, events_from_item-next, view_from_item-length, taking_skips, all_told}
use Rattle.hid_usages.proofs.ViewLemmas.{room_at}
use Rattle.hid_usages.proofs.take.take_items.Goals as goal

pub loop-place-init : goal.loop-place-init
loop-place-init g c = record {
  along = none_taken c.args.received.now.layout.now c.args.received.now.report c.args.received.now.bytes.now c.args.states.now c.args.out.now.items (vec_len c.args.out.now) (vec_capacity c.args.out.now) c.requires.room;
  named = refl;
  same_room = refl;
}

pub take_planned_item-requires-clause-in_report : goal.take_planned_item-requires-clause-in_report
take_planned_item-requires-clause-in_report g c = λ m listed.
    let layout = c.args.received.now.layout.now in
    let r = c.args.received.now.report in
    let bytes = c.args.received.now.bytes.now in
    let start = c.args.states.now in
    let now = c.loop-place.states in
    let k = c.loop-place.place-index in
    let all = c.requires.fits.one_each ∙ c.requires.places.all in
    let skips = taking_skips layout r bytes start now c.args.out.now.items c.loop-place.out.items (vec_len c.loop-place.out) (vec_capacity c.loop-place.out) all c.loop-place.auto.states in
    let at = c.planned_item-planned.result.place in
    let taken = HasTaken layout r bytes start now c.args.out.now.items c.loop-place.out.items (vec_len c.loop-place.out) (vec_capacity c.loop-place.out) in
    let next = subst (λ (n : ℕ). IsNext layout r n (drop (k + 1) (plan_of layout r)) taken) (sym c.planned_item-planned.ensures.place)
    (along_next layout r k c.args.places.now taken skips c.requires.places.plan (omega arith) c.loop-place.invariant.along) in
    let same : Some next.item ≡ Some m = sym next.listed ∙ listed in
    let is : next.item ≡ m = cc in
    ap (λ (item : MainItem). item.report) (sym is) ∙ same_number next.item.report r next.in_report

pub take_planned_item-requires-clause-known : goal.take_planned_item-requires-clause-known
take_planned_item-requires-clause-known g c =
    let short = c.items.ensures.layout.short c.args.received.now.report in
    record {
      same = λ n low outside. absurd (c.every_bit.ensures n (omega (arith, low, short)) outside);
      left = λ n low outside. absurd (c.every_bit.ensures n (omega (arith, low, short)) outside);
    }

pub take_planned_item-requires-clause-held : goal.take_planned_item-requires-clause-held
take_planned_item-requires-clause-held g c =
    let layout = c.args.received.now.layout.now in
    let r = c.args.received.now.report in
    let bytes = c.args.received.now.bytes.now in
    let start = c.args.states.now in
    let now = c.loop-place.states in
    let k = c.loop-place.place-index in
    let all = c.requires.fits.one_each ∙ c.requires.places.all in
    let skips = taking_skips layout r bytes start now c.args.out.now.items c.loop-place.out.items (vec_len c.loop-place.out) (vec_capacity c.loop-place.out) all c.loop-place.auto.states in
    let at = c.planned_item-planned.result.place in
    let taken = HasTaken layout r bytes start now c.args.out.now.items c.loop-place.out.items (vec_len c.loop-place.out) (vec_capacity c.loop-place.out) in
    let next = subst (λ (n : ℕ). IsNext layout r n (drop (k + 1) (plan_of layout r)) taken) (sym c.planned_item-planned.ensures.place)
    (along_next layout r k c.args.places.now taken skips c.requires.places.plan (omega arith) c.loop-place.invariant.along) in
    let within : at < length start = omega (arith, slice_get_within layout.items at next.item next.listed, all) in
    let there = read_start layout r bytes start now at c.index-states-i.result next.holds.states within c.loop-place.auto.states in
    room_at InView (items_of layout) start at _ c.requires.fits (omega (arith, within, c.requires.fits.one_each)) there

pub take_planned_item-requires-clause-named : goal.take_planned_item-requires-clause-named
take_planned_item-requires-clause-named g c =
    let layout = c.args.received.now.layout.now in
    let r = c.args.received.now.report in
    let bytes = c.args.received.now.bytes.now in
    let start = c.args.states.now in
    let now = c.loop-place.states in
    let k = c.loop-place.place-index in
    let all = c.requires.fits.one_each ∙ c.requires.places.all in
    let skips = taking_skips layout r bytes start now c.args.out.now.items c.loop-place.out.items (vec_len c.loop-place.out) (vec_capacity c.loop-place.out) all c.loop-place.auto.states in
    let at = c.planned_item-planned.result.place in
    let taken = HasTaken layout r bytes start now c.args.out.now.items c.loop-place.out.items (vec_len c.loop-place.out) (vec_capacity c.loop-place.out) in
    let next = subst (λ (n : ℕ). IsNext layout r n (drop (k + 1) (plan_of layout r)) taken) (sym c.planned_item-planned.ensures.place)
    (along_next layout r k c.args.places.now taken skips c.requires.places.plan (omega arith) c.loop-place.invariant.along) in
    let within : at < length start = omega (arith, slice_get_within layout.items at next.item next.listed, all) in
    let there = read_start layout r bytes start now at c.index-states-i.result next.holds.states within c.loop-place.auto.states in
    record {
      places = omega (arith, c.requires.named.each at _ there, ap length c.loop-place.invariant.named);
      none = subst (λ (ps : List Bool). ps ≡ replicate (length ps) false) (sym c.loop-place.invariant.named) c.requires.named.none;
    }

pub take_planned_item-requires-clause-room : goal.take_planned_item-requires-clause-room
take_planned_item-requires-clause-room g c =
    let layout = c.args.received.now.layout.now in
    let r = c.args.received.now.report in
    let bytes = c.args.received.now.bytes.now in
    let start = c.args.states.now in
    let now = c.loop-place.states in
    let k = c.loop-place.place-index in
    let all = c.requires.fits.one_each ∙ c.requires.places.all in
    let skips = taking_skips layout r bytes start now c.args.out.now.items c.loop-place.out.items (vec_len c.loop-place.out) (vec_capacity c.loop-place.out) all c.loop-place.auto.states in
    let at = c.planned_item-planned.result.place in
    let taken = HasTaken layout r bytes start now c.args.out.now.items c.loop-place.out.items (vec_len c.loop-place.out) (vec_capacity c.loop-place.out) in
    let next = subst (λ (n : ℕ). IsNext layout r n (drop (k + 1) (plan_of layout r)) taken) (sym c.planned_item-planned.ensures.place)
    (along_next layout r k c.args.places.now taken skips c.requires.places.plan (omega arith) c.loop-place.invariant.along) in
    let within : at < length start = omega (arith, slice_get_within layout.items at next.item next.listed, all) in
    let there = read_start layout r bytes start now at c.index-states-i.result next.holds.states within c.loop-place.auto.states in
    let step = events_from_item-next layout r bytes start at (get_or now at c.index-states-i.result) there in
    room_for _ _ _ _ _ step next.holds.fits

pub loop-place-preserved : goal.loop-place-preserved
loop-place-preserved g c =
    let layout = c.args.received.now.layout.now in
    let r = c.args.received.now.report in
    let bytes = c.args.received.now.bytes.now in
    let start = c.args.states.now in
    let now = c.loop-place.states in
    let k = c.loop-place.place-index in
    let all = c.requires.fits.one_each ∙ c.requires.places.all in
    let skips = taking_skips layout r bytes start now c.args.out.now.items c.loop-place.out.items (vec_len c.loop-place.out) (vec_capacity c.loop-place.out) all c.loop-place.auto.states in
    let at = c.planned_item-planned.result.place in
    let taken = HasTaken layout r bytes start now c.args.out.now.items c.loop-place.out.items (vec_len c.loop-place.out) (vec_capacity c.loop-place.out) in
    let next = subst (λ (n : ℕ). IsNext layout r n (drop (k + 1) (plan_of layout r)) taken) (sym c.planned_item-planned.ensures.place)
    (along_next layout r k c.args.places.now taken skips c.requires.places.plan (omega arith) c.loop-place.invariant.along) in
    let within : at < length start = omega (arith, slice_get_within layout.items at next.item next.listed, all) in
    let there = read_start layout r bytes start now at c.index-states-i.result next.holds.states within c.loop-place.auto.states in
    let step = events_from_item-next layout r bytes start at (get_or now at c.index-states-i.result) there in
    record {
      along = along_step layout r k _ _ _ next (record {
        states = read_next layout r bytes start now at c.index-states-i.result c.take_planned_item.new.state next.holds.states within c.loop-place.auto.states c.take_planned_item.ensures.state;
        events = told _ _ _ _ _ _ step next.holds.events c.take_planned_item.ensures.appends.items;
        fits = room_left _ _ _ _ _ _ _ step next.holds.fits c.take_planned_item.ensures.appends.len c.take_planned_item.ensures.appends.room;
      });
      named = c.take_planned_item.ensures.named ∙ c.loop-place.invariant.named;
      same_room = c.take_planned_item.ensures.appends.room ∙ c.loop-place.invariant.same_room;
    }

pub returns-clause-view : goal.returns-clause-view
returns-clause-view g c =
    let skips = taking_skips c.args.received.now.layout.now c.args.received.now.report c.args.received.now.bytes.now c.args.states.now c.loop-place.states c.args.out.now.items c.loop-place.out.items (vec_len c.loop-place.out) (vec_capacity c.loop-place.out) (c.requires.fits.one_each ∙ c.requires.places.all) c.loop-place.auto.states in
    let all = along_end c.args.received.now.layout.now c.args.received.now.report c.loop-place.place-index c.args.places.now _ skips c.requires.places.plan c.loop-place-test.false c.loop-place.invariant.along in
    let target = read_view c.args.received.now.layout.now c.args.received.now.report c.args.received.now.bytes.now c.args.states.now in
    let len : length target ≡ length c.args.states.now =
    view_from_item-length c.args.received.now.layout.now c.args.received.now.report c.args.received.now.bytes.now 0 c.args.states.now in
    all.states ∙ filled target c.args.states.now (length c.args.received.now.layout.now.items) (omega (arith, c.requires.fits.one_each, c.requires.places.all)) (omega (arith, len))

pub returns-clause-appends : goal.returns-clause-appends
returns-clause-appends g c =
    let skips = taking_skips c.args.received.now.layout.now c.args.received.now.report c.args.received.now.bytes.now c.args.states.now c.loop-place.states c.args.out.now.items c.loop-place.out.items (vec_len c.loop-place.out) (vec_capacity c.loop-place.out) (c.requires.fits.one_each ∙ c.requires.places.all) c.loop-place.auto.states in
    let all = along_end c.args.received.now.layout.now c.args.received.now.report c.loop-place.place-index c.args.places.now _ skips c.requires.places.plan c.loop-place-test.false c.loop-place.invariant.along in
    appends _ _ _ (all_told c.args.received.now.layout.now c.args.received.now.report c.args.received.now.bytes.now c.args.states.now (length c.args.received.now.layout.now.items) c.loop-place.out.items _ (omega (arith, c.requires.fits.one_each, c.requires.places.all)) all.events) c.loop-place.invariant.same_room

pub returns-clause-named : goal.returns-clause-named
returns-clause-named g c = c.loop-place.invariant.named
