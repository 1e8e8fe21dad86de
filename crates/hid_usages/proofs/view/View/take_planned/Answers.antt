use Rattle.std.proofs.Common.{◌∙◌, List, length, sym, ap, subst, arith}
use Rattle.hid_layout.specs.Controls.{items_of}
use Rattle.hid_snapshots.specs.declared.control_state.ControlState.{ControlState}
use Rattle.hid_snapshots.specs.declared.event.Event.{Event}
use Rattle.hid_snapshots.specs.ControlStates.{FitControlStates, InView}
use Rattle.hid_usages.specs.Appending.{Appends}
use Rattle.hid_usages.specs.Taking.{read_events, NoFlagSet}
use Rattle.hid_usages.proofs.PassingLemmas.{known_of, planned_places}
use Rattle.hid_usages.proofs.RoomLemmas.{names_stay}
use Rattle.hid_usages.proofs.TakeLemmas.{read_view_fits, read_events_few, view_after}
use Rattle.hid_usages.proofs.view.View.take_planned.Goals as goal

pub take_planned-requires-clause-places : goal.take_planned-requires-clause-places
take_planned-requires-clause-places g c =
    let r = c.args.received.now in
    record {
      plan = c.requires.plan.places;
      within = planned_places r.layout.now r.report c.args.plan.now c.requires.plan;
      all = sym c.item_count.ensures.all ∙ c.item_count.ensures.listed;
    }

pub take_planned-requires-clause-plan : goal.take_planned-requires-clause-plan
take_planned-requires-clause-plan g c = c.requires.plan

pub take_planned-requires-clause-known : goal.take_planned-requires-clause-known
take_planned-requires-clause-known g c =
    let r = c.args.received.now in
    let same = c.deref_mut.ensures.value ∙ c.self.view_is in
    known_of r.layout.now r.report r.bytes.now c.args.last.now.bytes.now c.args.last.now.changed _ _ (sym same) c.requires.known

pub take_planned-requires-clause-room : goal.take_planned-requires-clause-room
take_planned-requires-clause-room g c =
    let r = c.args.received.now in
    let same = c.deref_mut.ensures.value ∙ c.self.view_is in
    let few = read_events_few r.layout.now r.report r.bytes.now c.args.self.now c.item_count.ensures.layout c.requires.received.input c.requires.fits in
    omega (arith, few, ap (λ (view : List ControlState). length (read_events r.layout.now r.report r.bytes.now view)) same, c.requires.room)

pub take_planned-requires-clause-fits : goal.take_planned-requires-clause-fits
take_planned-requires-clause-fits g c =
    let same = c.deref_mut.ensures.value ∙ c.self.view_is in
    subst (λ (states : List ControlState). FitControlStates InView (items_of c.args.received.now.layout.now) states) (sym same) c.requires.fits

pub take_planned-requires-clause-named : goal.take_planned-requires-clause-named
take_planned-requires-clause-named g c =
    let same = c.deref_mut.ensures.value ∙ c.self.view_is in
    subst (λ (states : List ControlState). NoFlagSet states c.self.inside.named) (c.self.view_is ∙ sym same) c.self.invariant

pub returns-clause-view : goal.returns-clause-view
returns-clause-view g c =
    let r = c.args.received.now in
    let is = view_after r.layout.now r.report r.bytes.now c.args.self.now c.deref_mut.result.now c.take_planned.new.states c.self.inside.states.items c.self.inside.states.len (omega arith) (c.deref_mut.ensures.value ∙ c.self.view_is) c.take_planned.ensures.view in
    is

pub returns-clause-appends : goal.returns-clause-appends
returns-clause-appends g c =
    let r = c.args.received.now in
    let same = c.deref_mut.ensures.value ∙ c.self.view_is in
    subst (λ (es : List Event). Appends c.args.out.now es c.take_planned.new.out) (ap (λ (view : List ControlState). read_events r.layout.now r.report r.bytes.now view) same) c.take_planned.ensures.appends

pub returns-clause-fits : goal.returns-clause-fits
returns-clause-fits g c =
    let r = c.args.received.now in
    let is = view_after r.layout.now r.report r.bytes.now c.args.self.now c.deref_mut.result.now c.take_planned.new.states c.self.inside.states.items c.self.inside.states.len (omega arith) (c.deref_mut.ensures.value ∙ c.self.view_is) c.take_planned.ensures.view in
    subst (λ (states : List ControlState). FitControlStates InView (items_of r.layout.now) states) (sym is) (read_view_fits r.layout.now r.report r.bytes.now c.args.self.now c.item_count.ensures.layout c.requires.received.input c.requires.fits)

pub returns-clause-few : goal.returns-clause-few
returns-clause-few g c =
    let r = c.args.received.now in
    let same = c.deref_mut.ensures.value ∙ c.self.view_is in
    let few = read_events_few r.layout.now r.report r.bytes.now c.args.self.now c.item_count.ensures.layout c.requires.received.input c.requires.fits in
    omega (arith, few, ap (λ (view : List ControlState). length (read_events r.layout.now r.report r.bytes.now view)) same, c.take_planned.ensures.appends.len)

pub invariant_of-self : goal.invariant_of-self
invariant_of-self g c =
    let r = c.args.received.now in
    let is = view_after r.layout.now r.report r.bytes.now c.args.self.now c.deref_mut.result.now c.take_planned.new.states c.self.inside.states.items c.self.inside.states.len (omega arith) (c.deref_mut.ensures.value ∙ c.self.view_is) c.take_planned.ensures.view in
    let fits = subst (λ (states : List ControlState). FitControlStates InView (items_of r.layout.now) states) (sym is) (read_view_fits r.layout.now r.report r.bytes.now c.args.self.now c.item_count.ensures.layout c.requires.received.input c.requires.fits) in
    let names = subst (λ (states : List ControlState). NoFlagSet states c.self.inside.named) c.self.view_is c.self.invariant in
    names_stay (items_of r.layout.now) c.args.self.now _ c.self.inside.named c.take_planned.new.named c.requires.fits fits names c.take_planned.ensures.named
