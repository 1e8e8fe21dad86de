use Rattle.std.proofs.Common.{List, refl, sym, ◌∙◌, subst, arith}
use Rattle.hid_layout.specs.Controls.{items_of}
use Rattle.hid_snapshots.specs.declared.control_state.ControlState.{ControlState}
use Rattle.hid_snapshots.specs.ControlStates.{FitsView, FitControlStates, InView, blank}
use Rattle.hid_snapshots.proofs.SnapshotLemmas.{written_back}
use Rattle.hid_usages.specs.Taking.{NoFlagSet}
use Rattle.hid_usages.proofs.BackLemmas.{blank_view}
use Rattle.hid_usages.proofs.RoomLemmas.{names_stay}
use Rattle.hid_usages.proofs.view.View.reset.Goals as goal

pub invariant_of-self : goal.invariant_of-self
invariant_of-self c =
    let items = items_of c.args.layout.now in
    let is = written_back c.reset_states.new.states c.self.inside.states.items c.self.inside.states.len (omega arith) ∙ c.reset_states.ensures in
    let fits : FitsView items c.self.inside.states.items = subst (FitsView items) (sym c.self.view_is) c.requires in
    subst (λ (states : List ControlState). NoFlagSet states c.self.inside.named) (sym is)
    (names_stay items c.self.inside.states.items (blank items) c.self.inside.named c.self.inside.named fits (blank_view items) c.self.invariant refl)

pub returns-clause-fits : goal.returns-clause-fits
returns-clause-fits c =
    let is = written_back c.reset_states.new.states c.self.inside.states.items c.self.inside.states.len (omega arith) ∙ c.reset_states.ensures in
    subst (λ (states : List ControlState). FitControlStates InView (items_of c.args.layout.now) states) (sym is) (blank_view (items_of c.args.layout.now))
