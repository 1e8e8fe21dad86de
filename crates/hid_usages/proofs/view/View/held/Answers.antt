use Rattle.std.proofs.Common.{◌≡◌, ◌∙◌, false, sym, ap, rules, arith}
use Rattle.hid_snapshots.specs.declared.control_state.ControlState.{ControlState}
use Rattle.hid_snapshots.specs.declared.control_state.ControlState.TheVariants.{Absent}
use Rattle.hid_snapshots.specs.Snapshots.{is_pressed}
use Rattle.hid_usages.proofs.ViewLemmas.{state_there}
use Rattle.hid_usages.proofs.view.View.held.Goals as goal

pub returns-in-Some-Switches : goal.returns-in-Some-Switches
returns-in-Some-Switches c =
    let there =
    state_there c.args.self.now c.deref.result.now c.args.control.item _ (c.deref.ensures.value ∙ c.self.view_is)
    (sym c.in-Some-Switches.field-0-is ∙ c.in-Some-Switches.ensures.lookup.4 (omega arith) Absent) in
    c.get_or_false.ensures ∙ ap (λ (x : ControlState). is_pressed x c.args.control.index) (sym there)

pub returns-in_default : goal.returns-in_default
returns-in_default c =
    let told = rw c.in_default.is at c.get.ensures.lookup in
    let there =
    state_there c.args.self.now c.deref.result.now c.args.control.item c.in_default.field-0.now
    (c.deref.ensures.value ∙ c.self.view_is) (told.4 (omega arith) Absent) in
    let none : false ≡ is_pressed c.in_default.field-0.now c.args.control.index = search rules in
    none ∙ ap (λ (x : ControlState). is_pressed x c.args.control.index) (sym there)

pub returns-in_default-2 : goal.returns-in_default-2
returns-in_default-2 c =
    let told = rw c.in_default.is at c.get.ensures.lookup in
    let there =
    state_there c.args.self.now c.deref.result.now c.args.control.item Absent
    (c.deref.ensures.value ∙ c.self.view_is) (told.4 (omega arith) Absent) in
    ap (λ (x : ControlState). is_pressed x c.args.control.index) (sym there)
