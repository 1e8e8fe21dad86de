-- The line of JSON that names a file (RFC 8259; the member: our choice, docs/RECORDINGS.md).
use Rattle.std.specs.Prelude.{ℕ, List, [], ◌∷◌, codes}
use Rattle.json.specs.Token.{Token, begin_object, end_object, key, string}

-- the name of a file as a JSON object. Example: {"file":"a.hid"}
abbrev pub file_tokens : List ℕ → List Token
file_tokens name = begin_object ∷ key (codes "file") ∷ string name ∷ end_object ∷ []
