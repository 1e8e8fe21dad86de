use Rattle.std.proofs.Common.{List, sym, ◌∙◌, subst, arith}
use Rattle.hid_layout.specs.Controls.{items_of}
use Rattle.hid_snapshots.specs.declared.control_state.ControlState.{ControlState}
use Rattle.hid_snapshots.specs.ControlStates.{FitControlStates, InPart}
use Rattle.hid_snapshots.proofs.ShownLemmas.{blank_parts_fit}
use Rattle.hid_snapshots.proofs.SnapshotLemmas.{written_back}
use Rattle.hid_snapshots.proofs.shown.Shown.reset.Goals as goal

pub returns-clause-blank : goal.returns-clause-blank
returns-clause-blank c = written_back c.reset_parts.new.parts c.self.inside.states.items c.self.inside.states.len (omega arith) ∙ c.reset_parts.ensures.blank

pub returns-clause-fits : goal.returns-clause-fits
returns-clause-fits c =
    let is = written_back c.reset_parts.new.parts c.self.inside.states.items c.self.inside.states.len (omega arith) ∙ c.reset_parts.ensures.blank in
    subst (λ (states : List ControlState). FitControlStates InPart (items_of c.args.layout.now) states) (sym is)
    (blank_parts_fit c.args.layout.now c.reset_parts.ensures.layout)
