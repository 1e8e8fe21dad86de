use Rattle.std.proofs.Common.{sym, ◌∙◌}
use Rattle.hid_usages.proofs.PlaceLemmas.{bit_short}
use Rattle.hidstack_session.proofs.element.element_at.Goals as goal

-- an element lies in its report, which is short
pub element_record-requires-clause-short : goal.element_record-requires-clause-short
element_record-requires-clause-short c =
    bit_short c.args.layout.now c.args.item c.args.j c.in-Some-element.element c.items.ensures.layout
    (sym c.element.ensures ∙ c.in-Some-element.is)
