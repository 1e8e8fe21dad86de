use Rattle.std.proofs.Common.{◌≡◌, ◌∙◌, None, sym, ap, rules, arith}
use Rattle.hid_snapshots.specs.declared.control_state.ControlState.{ControlState}
use Rattle.hid_snapshots.specs.declared.control_state.ControlState.TheVariants.{Absent}
use Rattle.hid_snapshots.specs.Views.{value_in}
use Rattle.hid_usages.proofs.ViewLemmas.{state_there}
use Rattle.hid_usages.proofs.view.View.value.Goals as goal

pub returns-in-Some-Values : goal.returns-in-Some-Values
returns-in-Some-Values c =
    let there =
    state_there c.args.self.now c.deref.result.now c.args.control.item _ (c.deref.ensures.value ∙ c.self.view_is)
    (sym c.in-Some-Values.field-0-is ∙ c.in-Some-Values.ensures.lookup.4 (omega arith) Absent) in
    c.get_or_none.ensures ∙ ap (λ (x : ControlState). value_in x c.args.control.index) (sym there)

pub returns-in_default : goal.returns-in_default
returns-in_default c =
    let told = rw c.in_default.is at c.get.ensures.lookup in
    let there =
    state_there c.args.self.now c.deref.result.now c.args.control.item c.in_default.field-0.now
    (c.deref.ensures.value ∙ c.self.view_is) (told.4 (omega arith) Absent) in
    let none : None ≡ value_in c.in_default.field-0.now c.args.control.index = search rules in
    none ∙ ap (λ (x : ControlState). value_in x c.args.control.index) (sym there)

pub returns-in_default-2 : goal.returns-in_default-2
returns-in_default-2 c =
    let told = rw c.in_default.is at c.get.ensures.lookup in
    let there =
    state_there c.args.self.now c.deref.result.now c.args.control.item Absent
    (c.deref.ensures.value ∙ c.self.view_is) (told.4 (omega arith) Absent) in
    ap (λ (x : ControlState). value_in x c.args.control.index) (sym there)
