-- What is read of a file before it is played (our choice: docs/RECORDINGS.md).
use Rattle.std.specs.Prelude.{◌≡◌, ◌⊎◌, ◌≤◌, ◌<◌, ◌+◌, ℕ, Bool, true, false, nat_lt, List, [], ◌∷◌, ◌++◌, length, Option, All}
use Rattle.std.specs.List.{flat_map}
use Rattle.std.specs.Io.KnownBytes.{Consumes, IsAtEnd}
use Rattle.hid_text.specs.Lines.{IsUnbroken}
use Rattle.hid_text.specs.Words.{words_of}
use Rattle.hidplay.specs.Other.{says_nothing}

-- A read adds the bytes that come next, 8,192 at most, and says whether there are some. None are there at the end alone.
abbrev pub ReadsPiece : Option (List ℕ) → Option (List ℕ) → List ℕ → List ℕ → Bool → Type 0
ReadsPiece left later before after more =
    (piece : List ℕ) × Consumes left later piece × (after ≡ before ++ piece) × (length piece ≤ 8192)
    × (more ≡ nat_lt 0 (length piece)) × (length piece ≡ 0 → IsAtEnd later)

-- Reads add the bytes that come next, up to the read with which there are so many in all, or to the end. None are added where there
-- are so many before.
abbrev pub ReadsUpTo : ℕ → Option (List ℕ) → Option (List ℕ) → List ℕ → List ℕ → Type 0
ReadsUpTo most left later before after =
    (added : List ℕ) × Consumes left later added × (after ≡ before ++ added)
    × ((most ≤ length after) ⊎ IsAtEnd later)
    × (most ≤ length before → added ≡ []) × (length before < most → length after < most + 8192)

-- a line with the line feed that ends it
abbrev pub with_end : List ℕ → List ℕ
with_end line = line ++ 10 ∷ []

-- a line says nothing
abbrev pub IsSilent : List ℕ → Type 0
IsSilent line = IsUnbroken line × (says_nothing (words_of line) ≡ true)

-- a text begins with a line that has its end and says something
abbrev pub BeginsBySaying : List ℕ → Type 0
BeginsBySaying text =
    (line : List ℕ) × (behind : List ℕ) × IsUnbroken line × (says_nothing (words_of line) ≡ false) × (text ≡ line ++ 10 ∷ behind)

-- the rest of a text after its first lines that say nothing: no line of it ends, or the first says something
abbrev pub IsAfterPassed : List ℕ → List ℕ → Type 0
IsAfterPassed text rest =
    (passed : List (List ℕ)) × All IsSilent passed × (text ≡ flat_map with_end passed ++ rest) × (IsUnbroken rest ⊎ BeginsBySaying rest)

-- a line that says something has its end in a text
abbrev pub SaysSomething : List ℕ → Type 0
SaysSomething text = (passed : List (List ℕ)) × (rest : List ℕ) × All IsSilent passed × (text ≡ flat_map with_end passed ++ rest) × BeginsBySaying rest

-- The bytes that come first are read, up to the read that brings the end of a line that says something, or the 1,048,576th byte, or
-- up to the end.
abbrev pub ReadsBeginning : Option (List ℕ) → Option (List ℕ) → List ℕ → Type 0
ReadsBeginning left later bytes =
    Consumes left later bytes × (length bytes < 1056768) × ((1048576 ≤ length bytes) ⊎ (IsAtEnd later ⊎ SaysSomething bytes))
