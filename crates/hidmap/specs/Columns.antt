-- The columns of pictures in characters (our choice: docs/PICTURES.md).
use Rattle.std.specs.Prelude.{◌≡◌, ◌<◌, ◌^◌, ℕ, List}
use Rattle.std.specs.Str.Parse.{IsNumeral, digits_value, without_leading_plus}

-- what a text is as a decimal number
abbrev pub number_in : List ℕ → ℕ
number_in text = digits_value 10 (without_leading_plus text)

-- a text is a decimal number from 1 to 65,535
abbrev pub IsWidth : List ℕ → Type 0
IsWidth text = IsNumeral 10 (without_leading_plus text) × (0 < number_in text) × (number_in text < 2 ^ 16)

-- the columns that a text gives: such a number, or 80
abbrev pub AreColumns : List ℕ → ℕ → Type 0
AreColumns text columns = (IsWidth text → columns ≡ number_in text) × (¬ (IsWidth text) → columns ≡ 80)
