use Rattle.std.proofs.Common.{◌∙◌, List, ◌++◌, sym, ap, subst, arith}
use Rattle.hid_layout.specs.Controls.{items_of}
use Rattle.hid_snapshots.specs.declared.control_state.ControlState.{ControlState}
use Rattle.hid_snapshots.specs.declared.event.Event.{Event}
use Rattle.hid_snapshots.specs.ControlStates.{FitsView, blank}
use Rattle.hid_usages.specs.Dropping.{drops_from}
use Rattle.hid_usages.specs.Taking.{NoFlagSet}
use Rattle.hid_usages.proofs.BackLemmas.{drops_back_few}
use Rattle.hid_usages.proofs.DropLemmas.{drops_are}
use Rattle.hid_usages.proofs.view.View.changes_back_and_drops.Goals as goal

pub all_changes_back_and_drops-requires-clause-before : goal.all_changes_back_and_drops-requires-clause-before
all_changes_back_and_drops-requires-clause-before c = subst (FitsView (items_of c.args.layout.now)) (sym (c.deref.ensures.value ∙ c.self.view_is)) c.requires.fits

pub all_changes_back_and_drops-requires-clause-none : goal.all_changes_back_and_drops-requires-clause-none
all_changes_back_and_drops-requires-clause-none c =
    subst (λ (states : List ControlState). NoFlagSet states c.self.inside.named)
    (sym c.deref.ensures.value) c.self.invariant

pub all_changes_back_and_drops-requires-clause-room : goal.all_changes_back_and_drops-requires-clause-room
all_changes_back_and_drops-requires-clause-room c =
    let fits = subst (FitsView (items_of c.args.layout.now)) (sym (c.deref.ensures.value ∙ c.self.view_is)) c.requires.fits in
    omega (arith, c.requires.room, drops_back_few (items_of c.args.layout.now) c.args.report c.deref.result.now c.args.shown.now fits c.requires.shown)

pub returns-clause-events : goal.returns-clause-events
returns-clause-events c =
    let items = items_of c.args.layout.now in
    let told =
    ap (λ (states : List ControlState). drops_from 0 c.args.report items states (blank items) c.args.shown.now)
    (c.deref.ensures.value ∙ c.self.view_is)
    ∙ sym (drops_are items c.args.report c.args.self.now (blank items) c.args.shown.now) in
    c.all_changes_back_and_drops.ensures.items ∙ ap (λ (es : List Event). c.args.out.now.items ++ es) told

pub returns-clause-few : goal.returns-clause-few
returns-clause-few c =
    let fits = subst (FitsView (items_of c.args.layout.now)) (sym (c.deref.ensures.value ∙ c.self.view_is)) c.requires.fits in
    omega (arith, c.all_changes_back_and_drops.ensures.len, drops_back_few (items_of c.args.layout.now) c.args.report c.deref.result.now c.args.shown.now fits c.requires.shown)
