-- What a writer holds after some of a text was written (our choice).
use Rattle.std.specs.Prelude.{◌≡◌, ℕ, List, ◌++◌, Option}
use Rattle.std.specs.Io.KnownBytes.{Appends}

-- the text begins with prefix
abbrev pub IsPrefix : List ℕ → List ℕ → Type 0
IsPrefix prefix text = (rest : List ℕ) × (text ≡ prefix ++ rest)

-- known bytes grew by a prefix of the text
abbrev pub AppendsPrefix : Option (List ℕ) → Option (List ℕ) → List ℕ → Type 0
AppendsPrefix old new text = (prefix : List ℕ) × IsPrefix prefix text × Appends old new prefix
