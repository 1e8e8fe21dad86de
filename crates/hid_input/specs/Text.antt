-- Which files are text, and the parts of a text (our choice: docs/INPUT-FORMS.md).
use Rattle.std.specs.Prelude.{ℕ, ◌==◌, ◌-◌, ◌+◌, ◌^◌, min, Bool, false, not, ◌&&◌, ◌||◌, nat_le, nat_eq, List, [], ◌∷◌, length, slice_index, take, drop, if◌then◌else◌, Option, None, Some, count_by, position}
use Rattle.std.specs.List.{list_all, slice_split, position_or_len, prefix_len, suffix_len, starts_with}
use Rattle.std.specs.Option.{option_map}
use Rattle.std.specs.Char.{is_ascii_whitespace}

-- a byte that text may have: any but control bytes, of which it may have white space, as tabs and the ends of lines and of pages
abbrev pub is_text_byte : ℕ → Bool
is_text_byte byte = is_ascii_whitespace byte || (nat_le 32 byte && not (byte == 127))

-- bytes are text if there are some, and no control byte is among them but white space. They need not be UTF-8
abbrev pub is_text : List ℕ → Bool
is_text bytes = not (length bytes == 0) && list_all is_text_byte bytes

-- the bytes begin with the byte order mark of UTF-8 (Unicode, 23.8)
abbrev pub has_mark : List ℕ → Bool
has_mark bytes =
    nat_le 3 (length bytes) && ((slice_index bytes 0 == 0xEF) && ((slice_index bytes 1 == 0xBB) && (slice_index bytes 2 == 0xBF)))

-- the bytes after a byte order mark, or all where there is none
abbrev pub without_mark : List ℕ → List ℕ
without_mark bytes = if has_mark bytes then drop 3 bytes else bytes

-- bytes begin with the byte order mark of UTF-16, in either order of bytes, and a character below 256 (Unicode, 23.8)
abbrev pub is_utf16 : List ℕ → Bool
is_utf16 bytes =
    nat_le 4 (length bytes)
    && (((slice_index bytes 0 == 0xFF) && ((slice_index bytes 1 == 0xFE) && (slice_index bytes 3 == 0)))
    || ((slice_index bytes 0 == 0xFE) && ((slice_index bytes 1 == 0xFF) && (slice_index bytes 2 == 0))))

-- a text without the white space before it
abbrev pub without_space : List ℕ → List ℕ
without_space text = drop (prefix_len is_ascii_whitespace text) text

-- a text without the white space at both of its ends
abbrev pub trimmed_text : List ℕ → List ℕ
trimmed_text text =
    take (length (without_space text) - suffix_len is_ascii_whitespace (without_space text)) (without_space text)

-- a line has white space alone
abbrev pub is_empty_line : List ℕ → Bool
is_empty_line line = list_all is_ascii_whitespace line

-- what stands after a part with which a text begins
abbrev pub behind_part : List ℕ → List ℕ → Option (List ℕ)
behind_part part text = if starts_with nat_eq text part then Some (drop (length part) text) else None

-- what stands before the first white space, and what stands from it on
abbrev pub before_space : List ℕ → List ℕ
before_space text = take (position_or_len is_ascii_whitespace text) text

abbrev pub from_space : List ℕ → List ℕ
from_space text = drop (position_or_len is_ascii_whitespace text) text

-- the first word of a text, up to white space
abbrev pub first_word : List ℕ → List ℕ
first_word text = before_space (without_space text)

-- what stands before the first such character, and what stands after it
abbrev pub split_at : ℕ → List ℕ → Option (List ℕ × List ℕ)
split_at wanted text = option_map (λ place. (take place text, drop (place + 1) text)) (position (λ byte. byte == wanted) text)

-- the end of a line
abbrev pub is_newline : ℕ → Bool
is_newline byte = byte == 10

-- the lines of a text
abbrev pub lines_of : List ℕ → List (List ℕ)
lines_of text = slice_split is_newline text

-- the parts of what stands after an end, if there is one
abbrev pub parts_below : (ℕ → Bool) → Option (List ℕ) → List (List ℕ)
parts_below is_end None = []
parts_below is_end (Some below) = slice_split is_end below

-- the number of the line at a place of a text, from 1 on
abbrev pub line_at : List ℕ → ℕ → ℕ
line_at text place = min (count_by is_newline (take place text) + 1) (2 ^ 64 - 1)
