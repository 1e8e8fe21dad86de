use Rattle.std.proofs.Common.{w64, length, refl, ap, arith}
use Rattle.std.proofs.lemmas.Int.{to_z-of_z}
use Rattle.hid_layout.specs.Reports.{element_of}
use Rattle.hid_text.proofs.ValueLemmas.{element_lies}
use Rattle.hid_text.proofs.NamedLemmas.{named_value_printed}
use Rattle.hid_text.proofs.named_text.print_named_element.Goals as goal

pub element_value-number-requires-clause-element : goal.element_value-number-requires-clause-element
element_value-number-requires-clause-element c =
    let there = rw (c.element.ensures, c.if-is_none.false) at c.is_none.ensures in
    element_lies c.args.layout.now c.args.bytes.now c.args.i c.args.j _ c.items.ensures.layout c.requires.whole refl there

pub returns : goal.returns
returns c =
    let there = rw (c.element.ensures, c.if-is_none.false) at c.is_none.ensures in
    let same = to_z-of_z w64 c.element_value-number.result (omega (arith, c.element_value-number.type_inv)) in
    named_value_printed c.args.layout.now c.args.bytes.now c.args.i c.args.j c.items.result.now _ c.entries.result.now (element_of c.args.layout.now c.args.i c.args.j) _ _ _ _ _ c.items.ensures.items c.requires.item c.entries.ensures refl there
    c.element_value-number.ensures (rw same at c.usage_shown-usage.ensures) (rw same at c.print_named_value.ensures)

pub offset_bounds-items-i : goal.offset_bounds-items-i
offset_bounds-items-i c = record { fits = omega (arith, c.requires.item, ap length c.items.ensures.items, c.items.type_inv.1) }

pub bounds-items-i : goal.bounds-items-i
bounds-items-i c = omega (arith, c.requires.item, ap length c.items.ensures.items)
