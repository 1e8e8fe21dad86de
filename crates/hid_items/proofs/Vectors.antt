-- Spellings worked out by hand (HID 1.11, 6.2.2.2, 6.2.2.3 and 5.8).
use Rattle.std.proofs.Common.{◌≡◌, refl, [], ◌∷◌}
use Rattle.std.specs.Prelude.{pos, neg_ℤ}
use Rattle.hid_items.specs.ItemEncoding.{IsItemEncoding, prefix_of, data_of, unsigned_of, signed_of}

-- Usage Page (Generic Desktop), End Collection without data, and a Report Count of two bytes
usage_page : IsItemEncoding (0x05 ∷ 0x01 ∷ [])
usage_page = refl

end_collection : IsItemEncoding (0xC0 ∷ [])
end_collection = refl

report_count : IsItemEncoding (0x96 ∷ 0x01 ∷ 0x01 ∷ [])
report_count = refl

-- size 3 means four bytes
logical_maximum : IsItemEncoding (0x27 ∷ 0xFF ∷ 0xFF ∷ 0x00 ∷ 0x00 ∷ [])
logical_maximum = refl

-- a long item with tag 10 and the data AA BB, and one without data
long_item : IsItemEncoding (0xFE ∷ 0x02 ∷ 0x10 ∷ 0xAA ∷ 0xBB ∷ [])
long_item = refl

empty_long_item : IsItemEncoding (0xFE ∷ 0x00 ∷ 0x10 ∷ [])
empty_long_item = refl

-- a Report Count is known by 94, whatever its size
prefix : prefix_of (0x96 ∷ 0x01 ∷ 0x01 ∷ []) ≡ 0x94
prefix = refl

-- the lowest byte comes first
unsigned : unsigned_of (data_of (0x96 ∷ 0x01 ∷ 0x02 ∷ [])) ≡ 0x201
unsigned = refl

-- 81 is 129 without sign, and -127 with one; without data both are 0
byte_unsigned : unsigned_of (data_of (0x15 ∷ 0x81 ∷ [])) ≡ 129
byte_unsigned = refl

byte_signed : signed_of (data_of (0x15 ∷ 0x81 ∷ [])) ≡ neg_ℤ (pos 127)
byte_signed = refl

no_data : signed_of (data_of (0x14 ∷ [])) ≡ pos 0
no_data = refl

-- two and four bytes of sign alone
word_signed : signed_of (data_of (0x16 ∷ 0x00 ∷ 0x80 ∷ [])) ≡ neg_ℤ (pos 0x8000)
word_signed = refl

long_signed : signed_of (data_of (0x17 ∷ 0xFF ∷ 0xFF ∷ 0xFF ∷ 0xFF ∷ [])) ≡ neg_ℤ (pos 1)
long_signed = refl
