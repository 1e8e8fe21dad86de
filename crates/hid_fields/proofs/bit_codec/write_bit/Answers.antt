use Rattle.std.proofs.Common.{◌∙◌}
use Rattle.std.specs.Int.{w8}
use Rattle.std.proofs.lemmas.Nat.Bits.{bit_at_set_same, bit_at_set_other, bit_at_clear_same, bit_at_clear_other}
use Rattle.hid_fields.proofs.FieldLemmas.{bit_of-set_same, bit_of-set_other}
use Rattle.hid_fields.proofs.bit_codec.write_bit.Goals as goal

pub returns-then-one-clause-bit : goal.returns-then-one-clause-bit
returns-then-one-clause-bit c =
    rw c.if-one.true (bit_of-set_same _ _ _ _ c.requires c.args.place.in_byte ∙ bit_at_set_same w8 _ _ c.args.place.in_byte)

pub returns-then-one-clause-others : goal.returns-then-one-clause-others
returns-then-one-clause-others c =
    bit_of-set_other _ _ _ _ c.requires c.args.place.in_byte (λ i _ ne. bit_at_set_other w8 _ _ c.args.place.in_byte i ne)

pub returns-else-one-clause-bit : goal.returns-else-one-clause-bit
returns-else-one-clause-bit c =
    rw c.if-one.false (bit_of-set_same _ _ _ _ c.requires c.args.place.in_byte ∙ bit_at_clear_same w8 _ _ c.args.place.in_byte)

pub returns-else-one-clause-others : goal.returns-else-one-clause-others
returns-else-one-clause-others c =
    bit_of-set_other _ _ _ _ c.requires c.args.place.in_byte (λ i lt ne. bit_at_clear_other w8 _ _ c.args.place.in_byte i lt ne)
