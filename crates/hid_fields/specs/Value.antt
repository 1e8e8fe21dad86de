-- The number that a pattern stands for, and the null pattern (HID 1.11, 5.8 and 5.10).
use Rattle.std.specs.Prelude.{ℕ, ◌-◌, ◌^◌, ◌<◌, ◌==◌, ◌&&◌, Bool, true, false, if◌then◌else◌, ℤ, pos, negsuc, ◌-ℤ◌, ◌≤ℤ◌, ◌<ℤ◌, neg_ℤ}
use Rattle.std.specs.Int.{bit_at}

-- the value of a pattern is the pattern, less 2 to the width if it is signed and its top bit is 1 (5.8: two's
-- complement). Example: 80 hex in 8 bits, signed, is -128
abbrev pub value_of : ℕ → ℕ → Bool → ℤ
value_of pattern width signed =
    if signed && (bit_at pattern (width - 1) == 1)
    then pos pattern -ℤ pos (2 ^ width)
    else pos pattern

-- the pattern for a number is the number modulo 2 to the width: -1 is all ones, and each number below it is one pattern
-- less. Example: -73 in 8 bits is B7 hex
abbrev pub pattern_for : ℤ → ℕ → ℕ
pattern_for (pos n) width = n
pattern_for (negsuc n) width = 2 ^ width - 1 - n

-- A field is signed exactly where its Logical Minimum is negative (6.2.2.7).
abbrev pub is_negative : ℤ → Bool
is_negative (pos n) = false
is_negative (negsuc n) = true

-- Some pattern of the width stands for the number.
abbrev pub FitsField : ℤ → ℕ → Bool → Type 0
FitsField v width true = (neg_ℤ (pos (2 ^ (width - 1))) ≤ℤ v) × (v <ℤ pos (2 ^ (width - 1)))
FitsField v width false = (pos 0 ≤ℤ v) × (v <ℤ pos (2 ^ width))

-- some pattern of the width stands for the number, with or without sign. Example: 8 bits hold -128 to 255
abbrev pub FitsEitherSign : ℤ → ℕ → Type 0
FitsEitherSign v width = (neg_ℤ (pos (2 ^ (width - 1))) ≤ℤ v) × (v <ℤ pos (2 ^ width))

-- The number is from the Logical Minimum up to the Logical Maximum (6.2.2.7).
abbrev pub IsWithin : ℤ → ℤ → ℤ → Type 0
IsWithin min max v = (min ≤ℤ v) × (v ≤ℤ max)

-- The number is the least one from 0 up that is over the maximum.
abbrev pub IsFirstOver : ℤ → ℕ → Type 0
IsFirstOver max n = (max <ℤ pos n) × ((lower : ℕ) → lower < n → pos lower ≤ℤ max)

-- the null pattern is the least pattern whose number is out of the range (5.10; that it is the least one is our choice).
-- Example: 8 for the range 0 to 7 in four bits
pub record IsLeastOutside (width : ℕ) (min max : ℤ) (pattern : ℕ) : Type 0 where
  pub fits : pattern < 2 ^ width
  pub outside : ¬ IsWithin min max (value_of pattern width (is_negative min))
  pub least : (lower : ℕ) → lower < pattern
      → IsWithin min max (value_of lower width (is_negative min))
