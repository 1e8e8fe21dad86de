use Rattle.std.proofs.Common.{◌∙◌, ap, sym, Bool, cond}
use Rattle.hid_layout.specs.Controls.{items_of, form_at}
use Rattle.hid_snapshots.specs.declared.control_state.ControlState.TheVariants.{Absent}
use Rattle.hid_snapshots.specs.Parts.{is_of, item_at}
use Rattle.hid_snapshots.specs.Snapshots.{state_at}
use Rattle.hid_usages.specs.Dropping.{item_drop_events}
use Rattle.hid_usages.proofs.DropLemmas.{no_drops, none_told}
use Rattle.hid_usages.proofs.EventLemmas.{nothing_appended}
use Rattle.hid_usages.proofs.dropped_motion.item_drops.Goals as goal

pub returns-in-Switch : goal.returns-in-Switch
returns-in-Switch c =
    let items = items_of c.args.dropped.now.layout.now in
    let part = state_at c.args.dropped.now.shown.now c.args.item in
    let is = sym c.controls.ensures ∙ c.in-Elements.is in
    nothing_appended _ _ (no_drops c.args.item (form_at items c.args.item) (is_of c.args.dropped.now.report (item_at items c.args.item)) part _ _ _ _ is c.in-Switch.is c.requires.drops.part)

pub returns-else-is_of : goal.returns-else-is_of
returns-else-is_of c =
    let form = form_at (items_of c.args.dropped.now.layout.now) c.args.item in
    let part = state_at c.args.dropped.now.shown.now c.args.item in
    nothing_appended _ _
    (ap (λ (b : Bool). item_drop_events c.args.item form (cond b part Absent)) (sym c.is_of.ensures ∙ c.if-is_of.false)
    ∙ none_told c.args.item form)
