-- Numbers in the bytes of a capture.
use Rattle.std.specs.Prelude.{ℕ, List, drop, slice_index}
use Rattle.byteorder.specs.Endian.{little_number, big_number}
use Rattle.usb_capture.specs.declared.field.ByteOrder.{ByteOrder}
use Rattle.usb_capture.specs.declared.field.ByteOrder.TheVariants.{Little, Big}

-- the number that the first n bytes are
abbrev pub number : ByteOrder → ℕ → List ℕ → ℕ
number Little n bytes = little_number n bytes
number Big n bytes = big_number n bytes

-- The number of n bytes from the place `at` on. Example: of 01 02 03 04, two bytes from 1 on are 0302 if the lowest comes
-- first, else 0203
unfoldable pub field : ByteOrder → ℕ → ℕ → List ℕ → ℕ
field order at n bytes = number order n (drop at bytes)

-- the byte at the place `at`
abbrev pub byte : ℕ → List ℕ → ℕ
byte at bytes = slice_index bytes at
