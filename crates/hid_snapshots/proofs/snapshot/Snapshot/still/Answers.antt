use Rattle.std.proofs.Common.{List, sym, ap, ◌∙◌, subst, arith}
use Rattle.hid_layout.specs.Controls.{items_of}
use Rattle.hid_snapshots.specs.declared.control_state.ControlState.{ControlState}
use Rattle.hid_snapshots.specs.ControlStates.{FitControlStates, InPart, InSnapshot}
use Rattle.hid_snapshots.specs.Parts.{still_parts}
use Rattle.hid_snapshots.proofs.ShownLemmas.{still_fits}
use Rattle.hid_snapshots.proofs.SnapshotLemmas.{written_back}
use Rattle.hid_snapshots.proofs.snapshot.Snapshot.still.Goals as goal

pub show_still-requires-clause-states : goal.show_still-requires-clause-states
show_still-requires-clause-states c =
    subst (λ (states : List ControlState). FitControlStates InSnapshot (items_of c.args.layout.now) states)
    (sym (c.deref.ensures.value ∙ c.self.view_is)) c.requires.fits

pub show_still-requires-clause-parts : goal.show_still-requires-clause-parts
show_still-requires-clause-parts c =
    subst (λ (states : List ControlState). FitControlStates InPart (items_of c.args.layout.now) states)
    (sym (c.deref_mut.ensures.value ∙ c.parts.view_is)) c.requires.room

pub returns-clause-still : goal.returns-clause-still
returns-clause-still c =
    written_back c.show_still.new.parts c.parts.inside.states.items c.parts.inside.states.len (omega arith) ∙ c.show_still.ensures.still
    ∙ ap (λ (xs : List ControlState). still_parts
    (items_of c.args.layout.now) c.args.report xs c.deref_mut.result.now) (c.deref.ensures.value ∙ c.self.view_is)
    ∙ ap (still_parts (items_of c.args.layout.now) c.args.report c.args.self.now)
    (c.deref_mut.ensures.value ∙ c.parts.view_is)

pub returns-clause-fits : goal.returns-clause-fits
returns-clause-fits c =
    let is =
    written_back c.show_still.new.parts c.parts.inside.states.items c.parts.inside.states.len (omega arith) ∙ c.show_still.ensures.still
    ∙ ap (λ (xs : List ControlState). still_parts
    (items_of c.args.layout.now) c.args.report xs c.deref_mut.result.now) (c.deref.ensures.value ∙ c.self.view_is)
    ∙ ap (still_parts (items_of c.args.layout.now) c.args.report c.args.self.now)
    (c.deref_mut.ensures.value ∙ c.parts.view_is) in
    subst (λ (states : List ControlState). FitControlStates InPart (items_of c.args.layout.now) states) (sym is)
    (still_fits c.args.layout.now c.args.report c.args.self.now c.args.parts.now c.show_still.ensures.layout c.requires.zeros c.requires.fits c.requires.room)
