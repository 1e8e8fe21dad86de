-- A field inside a word: what `put` does to the bytes that a field touches, taken as one number (our choice,
-- of the fast codec).
use Rattle.std.specs.Prelude.{ℕ, ◌+◌, ◌*◌, ◌/◌, ◌%◌, ◌^◌}

-- The word with the field of this width at bit `shift` replaced by the pattern: what is above the field, then the
-- pattern, then what is below. Example: FF with bits 3 to 7 cleared is 07
abbrev pub splice : ℕ → ℕ → ℕ → ℕ → ℕ
splice shift width pattern word =
    (word / 2 ^ (shift + width) * 2 ^ width + pattern) * 2 ^ shift + word % 2 ^ shift
