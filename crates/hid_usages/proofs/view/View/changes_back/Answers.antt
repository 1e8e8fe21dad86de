use Rattle.std.proofs.Common.{◌∙◌, List, ◌++◌, sym, ap, subst, arith}
use Rattle.hid_layout.specs.Controls.{items_of}
use Rattle.hid_snapshots.specs.declared.control_state.ControlState.{ControlState}
use Rattle.hid_snapshots.specs.ControlStates.{FitsView, blank}
use Rattle.hid_snapshots.specs.Views.{changes_between}
use Rattle.hid_usages.specs.Taking.{NoFlagSet}
use Rattle.hid_usages.proofs.BackLemmas.{changes_back_few}
use Rattle.hid_usages.proofs.view.View.changes_back.Goals as goal

pub all_changes_back-requires-clause-before : goal.all_changes_back-requires-clause-before
all_changes_back-requires-clause-before c = subst (FitsView (items_of c.args.layout.now)) (sym (c.deref.ensures.value ∙ c.self.view_is)) c.requires.fits

pub all_changes_back-requires-clause-none : goal.all_changes_back-requires-clause-none
all_changes_back-requires-clause-none c =
    subst (λ (states : List ControlState). NoFlagSet states c.self.inside.named)
    (sym c.deref.ensures.value) c.self.invariant

pub all_changes_back-requires-clause-room : goal.all_changes_back-requires-clause-room
all_changes_back-requires-clause-room c =
    let fits = subst (FitsView (items_of c.args.layout.now)) (sym (c.deref.ensures.value ∙ c.self.view_is)) c.requires.fits in
    omega (arith, c.requires.room, changes_back_few (items_of c.args.layout.now) c.deref.result.now fits)

pub returns-clause-events : goal.returns-clause-events
returns-clause-events c =
    c.all_changes_back.ensures.items
    ∙ ap (λ (states : List ControlState). c.args.out.now.items
    ++ changes_between (items_of c.args.layout.now) states (blank (items_of c.args.layout.now)))
    (c.deref.ensures.value ∙ c.self.view_is)
