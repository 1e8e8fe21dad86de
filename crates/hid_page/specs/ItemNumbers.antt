-- The numbers of items (HID 1.11, 6.2.2.2 and 6.2.2.7).
use Rattle.std.specs.Prelude.{ℕ, ℤ, pos, ◌-ℤ◌, nat_le, ◌==◌, ◌&&◌, List, if◌then◌else◌, Option, None, Some}
use Rattle.hid_report_descriptor.specs.Items.{EncodedItem}
use Rattle.hid_items.specs.ItemEncoding.{data_of, prefix_of, unsigned_of, signed_of}
use Rattle.hid_items.specs.declared.encoding.Item.{Item}
use Rattle.hid_drawing.specs.Items.{item_encoding_at}

-- the prefix of long items, and of a reserved short one
abbrev pub LONG : ℕ
LONG = 0xFC

-- the number of a short item; 0 of a long one
abbrev pub item_number : EncodedItem → ℕ
item_number item = if prefix_of item == LONG then 0 else unsigned_of (data_of item)

-- the number of a short item in two's complement; 0 of a long one
abbrev pub signed_number : EncodedItem → ℤ
signed_number item = if prefix_of item == LONG then pos 0 else signed_of (data_of item)

-- A unit's exponent: codes of four bits from 8 on are -8 to -1 (HID 1.11, 6.2.2.7), other numbers are as they are.
-- Example: 55 0E is -2
abbrev pub exponent_of : ℕ → ℤ → ℤ
exponent_of code number = if nat_le 8 code && nat_le code 15 then pos code -ℤ pos 16 else number

-- the number of the item at an optional place; 0 where there is none
abbrev pub item_number_at : List Item → Option ℕ → ℕ
item_number_at items None = 0
item_number_at items (Some k) = item_number (item_encoding_at items k)

-- the number of the item at an optional place in two's complement; 0 where there is none
abbrev pub signed_number_at : List Item → Option ℕ → ℤ
signed_number_at items None = pos 0
signed_number_at items (Some k) = signed_number (item_encoding_at items k)

-- the exponent of the Unit Exponent at an optional place; 0 where there is none
abbrev pub exponent_at : List Item → Option ℕ → ℤ
exponent_at items None = pos 0
exponent_at items (Some k) = exponent_of (item_number (item_encoding_at items k)) (signed_number (item_encoding_at items k))
