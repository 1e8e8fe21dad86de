-- The bits of a list of bytes, and the pattern of a field (HID 1.11, 5.8 and 8).
use Rattle.std.specs.Prelude.{ℕ, zero, suc, ◌+◌, ◌*◌, ◌/◌, ◌%◌, ◌^◌, ◌<◌, ◌≤◌, ◌⊎◌, List, slice_index}
use Rattle.std.specs.Int.{bit_at}

-- Bit n is bit n mod 8 of byte n div 8. Example: bit 8 of FE 01 is 1
abbrev pub bit_of : List ℕ → ℕ → ℕ
bit_of bytes n = bit_at (slice_index bytes (n / 8)) (n % 8)

-- the pattern of a field is the sum, for each k below its width, of bit at + k times 2 to the k. Example: bits 12 to 23
-- of BC 3A 12 are 123 hex
abbrev pub pattern_of : List ℕ → ℕ → ℕ → ℕ
pattern_of bytes at zero = 0
pattern_of bytes at (suc k) = pattern_of bytes at k + bit_of bytes (at + k) * 2 ^ k

-- bit n is outside of the field: before its first bit, or after its last. Example: bit 8 is outside of bits 3 to 7
abbrev pub IsOutside : ℕ → ℕ → ℕ → Type 0
IsOutside at width n = (n < at) ⊎ (at + width ≤ n)
