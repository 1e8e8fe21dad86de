use Rattle.std.proofs.Common.{◌≡◌, ◌∙◌, true, false, sym, rules}
use Rattle.hid_layout.specs.declared.control.ControlKind.TheVariants.{Switch, Value, NullValue, Relative}
use Rattle.hid_usages.specs.Bits.{are_bits}
use Rattle.hid_usages.proofs.PassingLemmas.{variable_bits, variable_by}
use Rattle.hid_usages.proofs.plan.variable_kind.Goals as goal

pub returns-then-are_bits : goal.returns-then-are_bits
returns-then-are_bits c =
    let on : are_bits c.args.item.now ≡ true = search rules in
    sym (variable_bits c.args.item.now c.requires.shape on)

pub returns-in-Switch : goal.returns-in-Switch
returns-in-Switch c =
    let off : are_bits c.args.item.now ≡ false = search rules in
    sym (variable_by c.args.item.now false Switch c.requires.shape off (sym c.element_kind.ensures ∙ c.in-Switch.is))

pub returns-in-Value : goal.returns-in-Value
returns-in-Value c =
    let off : are_bits c.args.item.now ≡ false = search rules in
    sym (variable_by c.args.item.now false Value c.requires.shape off (sym c.element_kind.ensures ∙ c.in-Value.is))

pub returns-in-NullValue : goal.returns-in-NullValue
returns-in-NullValue c =
    let off : are_bits c.args.item.now ≡ false = search rules in
    sym (variable_by c.args.item.now false NullValue c.requires.shape off (sym c.element_kind.ensures ∙ c.in-NullValue.is))

pub returns-in-Relative : goal.returns-in-Relative
returns-in-Relative c =
    let off : are_bits c.args.item.now ≡ false = search rules in
    sym (variable_by c.args.item.now false Relative c.requires.shape off (sym c.element_kind.ensures ∙ c.in-Relative.is))
