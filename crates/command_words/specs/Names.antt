-- Characters of names as they are printed (our choice: docs/RECORDINGS.md).
use Rattle.std.specs.Prelude.{ℕ, zero, suc, ◌+◌, ◌-◌, ◌/◌, ◌%◌, Bool, true, List, [], ◌∷◌, ◌++◌, length, take, drop, replicate, ◌==◌, ◌&&◌, nat_le, if◌then◌else◌, codes, chars, encode_utf8}
use Rattle.std.specs.List.{flat_map, list_any}
use Rattle.std.specs.Fmt.{digit_glyph, digits}
use Rattle.std.specs.Str.Lossy.{utf8_valid_len, utf8_invalid_len}

-- The first and the last of each range of characters that aren't seen by themselves: controls (Cc), format characters (Cf), and the
-- ends of lines and paragraphs (Zl, Zp) (Unicode 15.1, 4.5).
abbrev pub unseen : List (ℕ × ℕ)
unseen =
    (0x00, 0x1F) ∷ (0x7F, 0x9F) ∷ (0xAD, 0xAD) ∷ (0x600, 0x605) ∷ (0x61C, 0x61C) ∷ (0x6DD, 0x6DD) ∷ (0x70F, 0x70F) ∷ (0x890, 0x891)
    ∷ (0x8E2, 0x8E2) ∷ (0x180E, 0x180E) ∷ (0x200B, 0x200F) ∷ (0x2028, 0x202E) ∷ (0x2060, 0x2064) ∷ (0x2066, 0x206F) ∷ (0xFEFF, 0xFEFF)
    ∷ (0xFFF9, 0xFFFB) ∷ (0x110BD, 0x110BD) ∷ (0x110CD, 0x110CD) ∷ (0x13430, 0x1343F) ∷ (0x1BCA0, 0x1BCA3) ∷ (0x1D173, 0x1D17A)
    ∷ (0xE0001, 0xE0001) ∷ (0xE0020, 0xE007F) ∷ []

-- a number is in a range
abbrev pub is_between : ℕ × ℕ → ℕ → Bool
is_between range n = nat_le range.0 n && nat_le n range.1

-- a character that isn't seen by itself is printed as its number
unfoldable pub is_escaped : ℕ → Bool
is_escaped character = list_any (λ range. is_between range character) unseen

-- the number of a byte: \x and two digits of upper-case hex
abbrev pub byte_text : ℕ → List ℕ
byte_text byte = codes "\\x" ++ digit_glyph true (byte / 16) ∷ digit_glyph true (byte % 16) ∷ []

-- the digits of a character that is escaped: upper-case hex, two at least. Example: 0A, and 202E
abbrev pub number_digits : ℕ → List ℕ
number_digits character = replicate (2 - length (digits 16 true character)) 48 ++ digits 16 true character

-- a character as it is printed
abbrev pub character_text : ℕ → List ℕ
character_text character = if is_escaped character then codes "\\x" ++ number_digits character else encode_utf8 character

-- a text as it is printed
abbrev pub name_text : List ℕ → List ℕ
name_text text = flat_map character_text (chars text)

-- bytes, each printed as its number
abbrev pub bytes_text : List ℕ → List ℕ
bytes_text bytes = flat_map byte_text bytes

-- bytes as they are printed, of so many invalid sequences: the longest front that is text, the sequence that is none, and what follows
unfoldable pub shown_within : ℕ → List ℕ → List ℕ
shown_within zero bytes = []
shown_within (suc more) bytes =
    let valid = utf8_valid_len bytes in
    let behind = drop valid bytes in
    let invalid = utf8_invalid_len behind in
    if length bytes == 0 then []
    else name_text (take valid bytes) ++ (bytes_text (take invalid behind) ++ shown_within more (drop (valid + invalid) bytes))

-- bytes as they are printed: text as a text, and each other byte as its number
unfoldable pub shown_bytes : List ℕ → List ℕ
shown_bytes bytes = shown_within (length bytes) bytes
