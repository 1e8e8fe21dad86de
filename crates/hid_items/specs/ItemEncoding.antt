-- What items a report descriptor is made of (HID 1.11, 6.2.2). An item is known by its encoding, the
-- bytes that it takes.
use Rattle.std.specs.Prelude.{◌≡◌, ℕ, ◌+◌, ◌-◌, ◌*◌, ◌%◌, ◌^◌, ◌<◌, List, [], ◌∷◌, ◌++◌, length, take, drop, All, ◌==◌, nat_lt, if◌then◌else◌, ℤ, pos, ◌-ℤ◌}
use Rattle.std.specs.Bool.{MatchBool}
use Rattle.std.specs.List.{flat_map}

-- the number of data bytes of a short item, by the low two bits of its first byte (6.2.2.2)
abbrev pub data_length : ℕ → ℕ
data_length first = if (first % 4) == 3 then 4 else first % 4

-- the bytes after the first one of a long item: n, a tag and n bytes (6.2.2.3)
abbrev pub IsLongRest : List ℕ → Type 0
IsLongRest (n ∷ tag ∷ bytes) = length bytes ≡ n
IsLongRest (n ∷ []) = ⊥
IsLongRest [] = ⊥

-- the bytes of one item: FE with a long item's length, tag and data, or another first byte with the 0, 1, 2 or 4 bytes
-- that its low two bits name. Example: 96 01 01, or FE 02 10 AA BB
abbrev pub IsItemEncoding : List ℕ → Type 0
IsItemEncoding [] = ⊥
IsItemEncoding (first ∷ rest) = MatchBool (first == 0xFE) (IsLongRest rest) (length rest ≡ data_length first)

-- The bytes are these items, one after another. Example: 05 01 C0 is 05 01, then C0
pub record AreItems (bytes : List ℕ) (items : List (List ℕ)) : Type 0 where
  pub joined : flat_map (λ item. item) items ≡ bytes
  pub encoded : All IsItemEncoding items

-- no item begins here, though some bytes are left
pub record IsCut (rest : List ℕ) : Type 0 where
  pub some : 0 < length rest
  pub none : (item more : List ℕ) → IsItemEncoding item → rest ≡ item ++ more → ⊥

-- The first `at` bytes are these items, and what follows them isn't empty and begins with no item: it is cut off.
-- Example: 05 is truncated at 0
pub record IsTruncatedAt (bytes : List ℕ) (at : ℕ) (items : List (List ℕ)) : Type 0 where
  pub within : at < length bytes
  pub items_before : AreItems (take at bytes) items
  pub cut : IsCut (drop at bytes)

-- the prefix of a short item: its first byte without the size
abbrev pub prefix_of : List ℕ → ℕ
prefix_of [] = 0
prefix_of (first ∷ rest) = first - first % 4

-- the data of a short item
abbrev pub data_of : List ℕ → List ℕ
data_of [] = []
data_of (first ∷ rest) = rest

-- a number by its bytes, the lowest first (5.8)
abbrev pub little_endian : List ℕ → ℕ
little_endian [] = 0
little_endian (byte ∷ bytes) = byte + 256 * little_endian bytes

-- the number that a bit pattern stands for in two's complement, among `patterns` patterns
abbrev pub two's_complement : ℕ → ℕ → ℤ
two's_complement patterns n = if nat_lt (2 * n) patterns then pos n else pos n -ℤ pos patterns

-- data read as a number without sign, the lowest byte first; no data is 0 (5.8). Example: 15 81 is 129
abbrev pub unsigned_of : List ℕ → ℕ
unsigned_of bytes = little_endian bytes

-- data read as a number in two's complement of its size; no data is 0 (5.8). Example: 15 81 is -127
abbrev pub signed_of : List ℕ → ℤ
signed_of bytes = two's_complement (256 ^ length bytes) (little_endian bytes)
