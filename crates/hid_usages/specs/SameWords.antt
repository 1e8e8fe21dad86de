-- Words of 64 bits that are the same in the bytes of two reports (our choice).
use Rattle.std.specs.Prelude.{◌≡◌, ℕ, ◌*◌, ◌<◌, ◌≤◌, List, Option, Some, None}
use Rattle.hid_fields.specs.Field.{pattern_of}

-- the words from one on, before an end, are those of others
abbrev pub AreSameWords : List ℕ → List ℕ → ℕ → ℕ → Type 0
AreSameWords bytes others from end = (k : ℕ) → from ≤ k → k < end → pattern_of bytes (64 * k) 64 ≡ pattern_of others (64 * k) 64

-- the words from one on are those of others, up to the one that is found, or up to an end
abbrev pub FindsUnlike : List ℕ → List ℕ → ℕ → ℕ → Option ℕ → Type 0
FindsUnlike bytes others from end None = AreSameWords bytes others from end
FindsUnlike bytes others from end (Some k) = AreSameWords bytes others from k
