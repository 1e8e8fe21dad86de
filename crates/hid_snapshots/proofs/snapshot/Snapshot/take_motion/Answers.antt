use Rattle.std.proofs.Common.{List, sym, ap, ◌∙◌, subst, arith}
use Rattle.hid_layout.specs.Controls.{items_of}
use Rattle.hid_snapshots.specs.declared.control_state.ControlState.{ControlState}
use Rattle.hid_snapshots.specs.ControlStates.{FitControlStates, InPart, InSnapshot}
use Rattle.hid_snapshots.specs.Parts.{shown_parts, without_part_motion}
use Rattle.hid_snapshots.proofs.ShownLemmas.{taken_fits}
use Rattle.hid_snapshots.proofs.SnapshotLemmas.{written_back}
use Rattle.hid_snapshots.proofs.snapshot.Snapshot.take_motion.Goals as goal

pub take_states-requires-clause-states : goal.take_states-requires-clause-states
take_states-requires-clause-states c =
    subst (λ (states : List ControlState). FitControlStates InSnapshot (items_of c.args.layout.now) states)
    (sym (c.deref_mut.ensures.value ∙ c.self.view_is)) c.requires.fits

pub take_states-requires-clause-parts : goal.take_states-requires-clause-parts
take_states-requires-clause-parts c =
    subst (λ (states : List ControlState). FitControlStates InPart (items_of c.args.layout.now) states)
    (sym (c.deref.ensures.value ∙ c.part.view_is)) c.requires.part_fits

pub take_states-requires-clause-part : goal.take_states-requires-clause-part
take_states-requires-clause-part c =
    let states = c.deref_mut.ensures.value ∙ c.self.view_is in
    let part = c.deref.ensures.value ∙ c.part.view_is in
    part ∙ c.requires.part
    ∙ ap (λ (xs : List ControlState). shown_parts (items_of c.args.layout.now) c.args.report xs c.args.part.now)
    (sym states)
    ∙ ap (shown_parts (items_of c.args.layout.now) c.args.report c.deref_mut.result.now) (sym part)

pub returns-clause-taken : goal.returns-clause-taken
returns-clause-taken c =
    written_back c.take_states.new.states c.self.inside.states.items c.self.inside.states.len (omega arith) ∙ c.take_states.ensures
    ∙ ap (λ (xs : List ControlState). without_part_motion
    (items_of c.args.layout.now) c.args.report xs c.deref.result.now) (c.deref_mut.ensures.value ∙ c.self.view_is)
    ∙ ap (without_part_motion (items_of c.args.layout.now) c.args.report c.args.self.now)
    (c.deref.ensures.value ∙ c.part.view_is)

pub returns-clause-fits : goal.returns-clause-fits
returns-clause-fits c =
    let is =
    written_back c.take_states.new.states c.self.inside.states.items c.self.inside.states.len (omega arith) ∙ c.take_states.ensures
    ∙ ap (λ (xs : List ControlState). without_part_motion
    (items_of c.args.layout.now) c.args.report xs c.deref.result.now) (c.deref_mut.ensures.value ∙ c.self.view_is)
    ∙ ap (without_part_motion (items_of c.args.layout.now) c.args.report c.args.self.now)
    (c.deref.ensures.value ∙ c.part.view_is) in
    subst (λ (states : List ControlState). FitControlStates InSnapshot (items_of c.args.layout.now) states) (sym is)
    (taken_fits
    (items_of c.args.layout.now) c.args.report c.args.self.now c.args.part.now c.requires.zeros c.requires.part c.requires.fits c.requires.part_fits)
