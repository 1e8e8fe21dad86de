-- Which bits of a report are those of the one before, whose bytes are kept (our choice).
use Rattle.std.specs.Prelude.{◌≡◌, ℕ, ◌+◌, ◌*◌, ◌/◌, ◌<◌, ◌≤◌, ◌⊎◌, List, length}
use Rattle.std.specs.Int.{bit_at}
use Rattle.hid_fields.specs.Field.{bit_of, pattern_of}
use Rattle.hid_usages.specs.declared.changed_bits.BitSpan.{BitSpan}

-- the bytes that are kept of a report of so many: whole words of eight, at least one more byte than the report has
abbrev pub kept_bytes : ℕ → ℕ
kept_bytes room = 8 * (room / 8) + 8

-- the bytes are those of the word, the first one lowest, if they are at most eight
abbrev pub IsOneWord : List ℕ → ℕ → Type 0
IsOneWord bytes word = length bytes ≤ 8 → word ≡ pattern_of bytes 0 (8 * length bytes)

-- the bit lies before the span, or after it
abbrev pub IsOutsideSpan : BitSpan → ℕ → Type 0
IsOutsideSpan span n = (n < span.first) ⊎ (span.end ≤ n)

-- outside of the span, the bits of the bytes are those of others
abbrev pub SameOutside : List ℕ → List ℕ → BitSpan → Type 0
SameOutside bytes others span = (n : ℕ) → n < 8 * length others → IsOutsideSpan span n → bit_of bytes n ≡ bit_of others n

-- the bits from one on, before an end, are those of others
abbrev pub SameFrom : List ℕ → List ℕ → ℕ → ℕ → Type 0
SameFrom bytes others from end = (n : ℕ) → from ≤ n → n < end → bit_of bytes n ≡ bit_of others n

-- the first bits of these bytes are those of others
abbrev pub HoldBits : List ℕ → List ℕ → Type 0
HoldBits bytes others = (n : ℕ) → n < 8 * length others → bit_of bytes n ≡ bit_of others n

-- The span grows by the bits of the word at an index that aren't the same in another word.
pub record Grows (span grown : BitSpan) (index old now : ℕ) : Type 0 where
  pub here : (b : ℕ) → b < 64 → IsOutsideSpan grown (64 * index + b) → bit_at old b ≡ bit_at now b
  pub before : (n : ℕ) → n < 64 * index → IsOutsideSpan grown n → IsOutsideSpan span n
  pub order : grown.first ≤ grown.end
  pub end : grown.end ≤ 64 * index + 64
