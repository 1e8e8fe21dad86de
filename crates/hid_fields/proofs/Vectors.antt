-- Worked values of the definitions (HID 1.11, 5.8, 5.10 and 8).
use Rattle.std.proofs.Common.{◌≡◌, [], ◌∷◌, refl, true, false, pos, neg_ℤ, lit<, arith}
use Rattle.std.proofs.lemmas.Int.{ints}
use Rattle.hid_fields.specs.declared.codec.TheConstants.{MAX_WIDTH}
use Rattle.hid_fields.specs.Field.{bit_of, pattern_of}
use Rattle.hid_fields.specs.Value.{value_of, pattern_for, IsLeastOutside}
use Rattle.hid_fields.specs.Word.{splice}
use Rattle.hid_fields.proofs.ValueLemmas.{value_of-low}

-- the widest field that is read or written, in bits
widest_field : MAX_WIDTH ≡ 32
widest_field = refl

-- the high half of the second byte, and the third byte above it
twelve_bits : pattern_of (0xBC ∷ 0x3A ∷ 0x12 ∷ []) 12 12 ≡ 0x123
twelve_bits = refl

-- 32 bits from the middle of a byte on touch five bytes
five_bytes : pattern_of (0xF0 ∷ 0xFF ∷ 0xFF ∷ 0xFF ∷ 0x0F ∷ []) 4 32 ≡ 0xFFFF_FFFF
five_bytes = refl

-- the lowest bit of the second byte
ninth_bit : bit_of (0xFE ∷ 0x01 ∷ []) 8 ≡ 1
ninth_bit = refl

-- five bits from bit 3 of FF cleared
upper_bits_cleared : splice 3 5 0 0xFF ≡ 0x07
upper_bits_cleared = refl

-- the least number of a byte in two's complement, and the same pattern without sign
least_of_a_byte : value_of 0x80 8 true ≡ neg_ℤ (pos 128)
least_of_a_byte = refl

unsigned_byte : value_of 0x80 8 false ≡ pos 128
unsigned_byte = refl

-- a motion of 73 to the left
leftwards : pattern_for (neg_ℤ (pos 73)) 8 ≡ 0xB7
leftwards = refl

-- the null of a hat switch: four bits, numbers 0 to 7
null_of_a_hat : IsLeastOutside 4 (pos 0) (pos 7) 0x8
null_of_a_hat = record {
  fits = lit< tt;
  outside = λ h. omega (arith, ints);
  least = λ lower h. (omega (arith, ints), omega (arith, ints));
}

-- of a byte from -127 to 127 the null is -128
null_of_a_motion : IsLeastOutside 8 (neg_ℤ (pos 127)) (pos 127) 0x80
null_of_a_motion = record {
  fits = lit< tt;
  outside = λ h. omega (arith, ints);
  least = λ lower h. rw (value_of-low lower 8 true h) (omega (arith, ints), omega (arith, ints));
}
