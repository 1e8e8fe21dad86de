use Rattle.std.proofs.Common.{◌∙◌, sym, ap}
use Rattle.hid_layout.specs.Controls.{controls_of_form, form_at, items_of}
use Rattle.hid_snapshots.specs.declared.control_state.ControlState.{ControlState}
use Rattle.hid_snapshots.specs.Parts.{shown_state}
use Rattle.hid_snapshots.proofs.ControlsLemmas.{pressed_shows}
use Rattle.hid_snapshots.proofs.parts.controls_for.Goals as goal

pub returns-in-Variable : goal.returns-in-Variable
returns-in-Variable c =
    c.in-Switches.is
    ∙ pressed_shows c.args.layout.now c.args.i c.item_at.result.now c.in-Switches.field-0 c.item_at.ensures.layout c.item_at.ensures.item c.in-Variable.is
    ∙ ap (λ (state : ControlState). shown_state
    (controls_of_form (form_at (items_of c.args.layout.now) c.args.i)) state)
    (sym c.in-Switches.is)
