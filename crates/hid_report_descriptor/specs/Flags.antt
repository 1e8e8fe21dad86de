-- The flags of Input, Output and Feature items, by bit (HID 1.11, 6.2.2.5).
use Rattle.std.specs.Prelude.{ℕ, ◌/◌, ◌%◌, ◌^◌, Bool, ◌==◌}

-- bit 0 is Constant
abbrev pub CONSTANT : ℕ
CONSTANT = 0

-- bit 1 is Variable
abbrev pub VARIABLE : ℕ
VARIABLE = 1

-- bit 2 is Relative
abbrev pub RELATIVE : ℕ
RELATIVE = 2

-- bit 6 is Null State
abbrev pub NULL_STATE : ℕ
NULL_STATE = 6

-- the flags keep bits 0 to 8 of an item's data
abbrev pub FLAGS : ℕ
FLAGS = 2 ^ 9

-- bit `n` of the flags is 1
abbrev pub has_flag : ℕ → ℕ → Bool
has_flag n flags = ((flags / 2 ^ n) % 2) == 1
