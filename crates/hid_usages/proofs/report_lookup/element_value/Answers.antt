use Rattle.std.proofs.Common.{◌∙◌, ◌≡◌, Option, IfSome, to_z, of_z, w64, sym, subst, arith}
use Rattle.std.proofs.lemmas.Int.{to_z-of_z}
use Rattle.std.specs.Option.{IsSomeAnd}
use Rattle.hid_layout.specs.declared.main_item.Element.{Element}
use Rattle.hid_usages.specs.Reading.{element_number, IsInside}
use Rattle.hid_usages.proofs.PlaceLemmas.{bit_short}
use Rattle.hid_usages.proofs.report_lookup.element_value.Goals as goal

pub element_number-requires-clause-inside : goal.element_number-requires-clause-inside
element_number-requires-clause-inside g c = subst (λ (o : Option Element). IsSomeAnd o (λ element. IsInside c.args.layout.now c.args.bytes.now element)) (sym c.element.ensures ∙ c.in-Some.is) c.requires.element

-- an element begins in its report, which is short
pub element_number-requires-clause-short : goal.element_number-requires-clause-short
element_number-requires-clause-short g c = bit_short c.args.layout.now c.args.item c.args.j c.in-Some.element c.items.ensures.layout (sym c.element.ensures ∙ c.in-Some.is)

pub returns-in-Some : goal.returns-in-Some
returns-in-Some g c =
    let number : to_z w64 (of_z w64 c.element_number.result) ≡ c.element_number.result = to_z-of_z w64 c.element_number.result (omega (arith, c.element_number.type_inv)) in
    subst (λ (o : Option Element). IfSome o (λ element. to_z w64 (of_z w64 c.element_number.result) ≡ element_number c.args.layout.now c.args.bytes.now element)) (sym c.in-Some.is ∙ c.element.ensures) (number ∙ c.element_number.ensures)

pub returns-in-None : goal.returns-in-None
returns-in-None g c = absurd (subst (λ (o : Option Element). IsSomeAnd o (λ element. IsInside c.args.layout.now c.args.bytes.now element)) (sym c.element.ensures ∙ c.in-None.is) c.requires.element)
