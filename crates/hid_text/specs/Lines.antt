-- Lines of bytes that come in pieces (our choice).
use Rattle.std.specs.Prelude.{◌≡◌, ◌==◌, ℕ, false, List, [], ◌∷◌, ◌++◌, All}
use Rattle.std.specs.Str.Lines.{lines}

-- no line ends in these bytes
abbrev pub IsUnbroken : List ℕ → Type 0
IsUnbroken bytes = All (λ b. (b == 10) ≡ false) bytes

-- The bytes of a line that has ended: the kept bytes, to which its last ones were added before; if nothing was kept, its
-- last bytes where they stand.
abbrev pub ended_line : List ℕ → List ℕ → List ℕ
ended_line [] last = last
ended_line (b ∷ kept) last = b ∷ kept

-- After the first bytes of a line, more bytes complete these lines, and leave the begin of a line that isn't complete,
-- whatever comes next.
abbrev pub GivesLines : List ℕ → List ℕ → List (List ℕ) → List ℕ → Type 0
GivesLines begun bytes ended left = (more : List ℕ) → lines (begun ++ (bytes ++ more)) ≡ ended ++ lines (left ++ more)
