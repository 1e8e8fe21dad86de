-- Words that stand for themselves in a page, whatever their bytes are (HTML Living Standard, 13.1.2 and 13.1.4).
use Rattle.std.specs.Prelude.{ℕ, ◌==◌, Bool, not, ◌&&◌, ◌||◌, nat_le, List, [], ◌∷◌, if◌then◌else◌, codes}
use Rattle.std.specs.List.{flat_map}

-- ASCII that prints, from the space to the tilde
abbrev pub is_printed : ℕ → Bool
is_printed byte = nat_le 32 byte && nat_le byte 126

-- a byte, or `?` for one that isn't printed
abbrev pub printable_byte : ℕ → ℕ
printable_byte byte = if is_printed byte then byte else 63

-- a byte by its reference where it could end text, a tag or an attribute
abbrev pub escape_of : ℕ → List ℕ
escape_of byte =
    if byte == 38 then codes "&amp;"
    else if byte == 60 then codes "&lt;"
    else if byte == 62 then codes "&gt;"
    else if byte == 39 then codes "&#39;"
    else if byte == 34 then codes "&#34;"
    else printable_byte byte ∷ []

-- words with a reference for each byte that could end text, a tag or an attribute, and ? for one that isn't printed.
-- Example: < is &lt;
abbrev pub escaped_words : List ℕ → List ℕ
escaped_words words = flat_map escape_of words

-- the byte is printed, and is no angle bracket and no quote
abbrev pub is_inert : ℕ → Bool
is_inert byte = is_printed byte && not ((byte == 60) || ((byte == 62) || ((byte == 39) || (byte == 34))))
