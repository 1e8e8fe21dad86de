-- Texts between quotes, which are typed (our choice: docs/LAB.md).
use Rattle.std.specs.Prelude.{ℕ, ◌+◌, ◌-◌, ◌==◌, ◌&&◌, nat_lt, List, [], ◌∷◌, length, take, drop, slice_index, if◌then◌else◌, Option, None, Some, is_some}
use Rattle.std.specs.List.{prefix_len, suffix_len}
use Rattle.hid_text.specs.Words.{is_blank}
use Rattle.lab_lines.specs.Keys.{key_of}

-- what a byte stands for after a backslash: \n is Enter and \t Tab; any other byte is itself
abbrev pub escape_of : ℕ → ℕ
escape_of b = if b == 110 then 10 else if b == 116 then 9 else b

-- the first character of a text, and the text after it
abbrev pub next_typed : List ℕ → Option (ℕ × List ℕ)
next_typed [] = None
next_typed (b ∷ []) = Some (b, [])
next_typed (b ∷ c ∷ text) = if b == 92 then Some (escape_of c, text) else Some (b, c ∷ text)

-- the characters of a text. Example: a\"b is a quote between two letters
unfoldable pub characters_of : List ℕ → List ℕ
characters_of [] = []
characters_of (b ∷ []) = b ∷ []
characters_of (b ∷ c ∷ text) = if b == 92 then escape_of c ∷ characters_of text else b ∷ characters_of (c ∷ text)

-- a text from the first character on that no key types; none where each has a key
unfoldable pub untyped_rest : List ℕ → Option (List ℕ)
untyped_rest [] = None
untyped_rest (b ∷ []) = if is_some (key_of b) then None else Some (b ∷ [])
untyped_rest (b ∷ c ∷ text) =
    if b == 92 then (if is_some (key_of (escape_of c)) then untyped_rest text else Some (b ∷ c ∷ text))
    else if is_some (key_of b) then untyped_rest (c ∷ text) else Some (b ∷ c ∷ text)

-- a text without the blanks before and after it
abbrev pub trim : List ℕ → List ℕ
trim text =
    let front = drop (prefix_len is_blank text) text in take (length front - suffix_len is_blank front) front

-- how many bytes stand before the first quote that no backslash escapes; all of them where there is none
unfoldable pub quote_at : List ℕ → ℕ
quote_at [] = 0
quote_at (b ∷ []) = if b == 34 then 0 else 1
quote_at (b ∷ c ∷ text) = if b == 34 then 0 else if b == 92 then 2 + quote_at text else 1 + quote_at (c ∷ text)

-- what stands between quotes, and what stands after them: the text begins with one, and the next one that is not escaped closes
-- it. Example: "a" b is a, with b after it; "a\" has no end
abbrev pub text_in_quotes : List ℕ → Option (List ℕ × List ℕ)
text_in_quotes text =
    let inner = drop 1 text in
    if (slice_index text 0 == 34) && nat_lt (quote_at inner) (length inner)
    then Some (take (quote_at inner) inner, drop (quote_at inner + 1) inner) else None
