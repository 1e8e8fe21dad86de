use Rattle.std.proofs.Common.{List, sym, ap, ◌∙◌, subst, arith}
use Rattle.hid_layout.specs.Controls.{items_of}
use Rattle.hid_snapshots.specs.declared.control_state.ControlState.{ControlState}
use Rattle.hid_snapshots.specs.ControlStates.{FitControlStates, InPart, InSnapshot}
use Rattle.hid_snapshots.specs.Parts.{shown_parts}
use Rattle.hid_snapshots.proofs.ShownLemmas.{shown_fits, shown_again}
use Rattle.hid_snapshots.proofs.SnapshotLemmas.{written_back}
use Rattle.hid_snapshots.proofs.snapshot.Snapshot.shown.Goals as goal

pub show_states-requires-clause-states : goal.show_states-requires-clause-states
show_states-requires-clause-states c =
    subst (λ (states : List ControlState). FitControlStates InSnapshot (items_of c.args.layout.now) states)
    (sym (c.deref.ensures.value ∙ c.self.view_is)) c.requires.fits

pub show_states-requires-clause-parts : goal.show_states-requires-clause-parts
show_states-requires-clause-parts c =
    subst (λ (states : List ControlState). FitControlStates InPart (items_of c.args.layout.now) states)
    (sym (c.deref_mut.ensures.value ∙ c.parts.view_is)) c.requires.room

pub returns-clause-shown : goal.returns-clause-shown
returns-clause-shown c =
    written_back c.show_states.new.parts c.parts.inside.states.items c.parts.inside.states.len (omega arith) ∙ c.show_states.ensures.shown
    ∙ ap (λ (xs : List ControlState). shown_parts
    (items_of c.args.layout.now) c.args.report xs c.deref_mut.result.now) (c.deref.ensures.value ∙ c.self.view_is)
    ∙ ap (shown_parts (items_of c.args.layout.now) c.args.report c.args.self.now)
    (c.deref_mut.ensures.value ∙ c.parts.view_is)

pub returns-clause-fits : goal.returns-clause-fits
returns-clause-fits c =
    let is =
    written_back c.show_states.new.parts c.parts.inside.states.items c.parts.inside.states.len (omega arith) ∙ c.show_states.ensures.shown
    ∙ ap (λ (xs : List ControlState). shown_parts
    (items_of c.args.layout.now) c.args.report xs c.deref_mut.result.now) (c.deref.ensures.value ∙ c.self.view_is)
    ∙ ap (shown_parts (items_of c.args.layout.now) c.args.report c.args.self.now)
    (c.deref_mut.ensures.value ∙ c.parts.view_is) in
    subst (λ (states : List ControlState). FitControlStates InPart (items_of c.args.layout.now) states) (sym is)
    (shown_fits c.args.layout.now c.args.report c.args.self.now c.args.parts.now c.show_states.ensures.layout c.requires.fits c.requires.room)

pub returns-clause-part : goal.returns-clause-part
returns-clause-part c =
    let is =
    written_back c.show_states.new.parts c.parts.inside.states.items c.parts.inside.states.len (omega arith) ∙ c.show_states.ensures.shown
    ∙ ap (λ (xs : List ControlState). shown_parts
    (items_of c.args.layout.now) c.args.report xs c.deref_mut.result.now) (c.deref.ensures.value ∙ c.self.view_is)
    ∙ ap (shown_parts (items_of c.args.layout.now) c.args.report c.args.self.now)
    (c.deref_mut.ensures.value ∙ c.parts.view_is) in
    is ∙ sym (shown_again (items_of c.args.layout.now) c.args.report c.args.self.now c.args.parts.now)
    ∙ ap (shown_parts (items_of c.args.layout.now) c.args.report c.args.self.now) (sym is)
