-- Dumps of xxd, hexdump -C, od -t x1 and tshark (our choice: docs/INPUT-FORMS.md).
use Rattle.std.specs.Prelude.{ℕ, ◌==◌, ◌+◌, ◌-◌, ◌%◌, Bool, false, not, ◌&&◌, ◌||◌, nat_le, nat_lt, List, [], ◌∷◌, ◌++◌, length, slice_index, take, drop, if◌then◌else◌, Option, None, Some, codes}
use Rattle.std.specs.List.{list_all, zip}
use Rattle.std.specs.Option.{unwrap_or, option_or, option_and_then}
use Rattle.std.specs.Char.{is_ascii_whitespace}
use Rattle.hid_input.specs.declared.found.Shape.TheVariants.{Dump}
use Rattle.hid_input.specs.Answer.{Answer}
use Rattle.hid_input.specs.Spelled.{some_answer}
use Rattle.hid_input.specs.Text.{lines_of, is_empty_line, without_space, before_space, from_space, first_word, behind_part}
use Rattle.hid_input.specs.Words.{number_of, byte_of_pair}

-- a text without a byte at its end
abbrev pub without_last : ℕ → List ℕ → List ℕ
without_last byte text =
    if nat_le 1 (length text) && (slice_index text (length text - 1) == byte) then take (length text - 1) text else text

-- the digits of an offset: without 0x before and a colon at the end
abbrev pub offset_digits : List ℕ → List ℕ
offset_digits word = without_last 58 (unwrap_or (behind_part (codes "0x") word) word)

-- the first word is the offset 0: four zeros or more, or zeros with 0x in front or a colon at the end
abbrev pub is_zero : List ℕ → Bool
is_zero word =
    list_all (λ byte. byte == 48) (offset_digits word)
    && (nat_le 4 (length (offset_digits word)) || (nat_le 1 (length (offset_digits word)) && nat_lt (length (offset_digits word)) (length word)))

-- a text is a dump: its first word is an offset 0
abbrev pub is_dump : List ℕ → Bool
is_dump text = is_zero (first_word text)

-- the character that shows a byte: itself, or a full stop if it isn't printed
abbrev pub character_of : ℕ → ℕ
character_of byte = if nat_le 32 byte && nat_le byte 126 then byte else 46

-- characters show bytes, one each
abbrev pub are_shown : List ℕ → List ℕ → Bool
are_shown characters bytes = (length characters == length bytes) && list_all (λ pair. pair.0 == character_of pair.1) (zip characters bytes)

-- what stands between | | or > <
abbrev pub inside_bars : List ℕ → Option (List ℕ)
inside_bars text =
    if nat_le 2 (length text)
    && (((slice_index text 0 == 124) && (slice_index text (length text - 1) == 124))
    || ((slice_index text 0 == 62) && (slice_index text (length text - 1) == 60)))
    then Some (take (length text - 2) (drop 1 text)) else None

-- a text between bars, if there is one, shows bytes
abbrev pub is_barred : Bool → Option (List ℕ) → List ℕ → Bool
is_barred has_space None bytes = false
is_barred has_space (Some inside) bytes = has_space && are_shown inside bytes

-- the characters of bytes stand in bars after white space
abbrev pub shows_in_bars : List ℕ → List ℕ → Bool
shows_in_bars end bytes = is_barred (nat_lt (length (without_space end)) (length end)) (inside_bars (without_space end)) bytes

-- the end of a row shows the bytes before it: their characters stand there in bars, or after two blanks
abbrev pub shows : List ℕ → List ℕ → Bool
shows end bytes =
    shows_in_bars end bytes
    || (nat_le 2 (length end - length bytes)
    && (is_empty_line (take (length end - length bytes) end) && are_shown (drop (length end - length bytes) end) bytes))

-- a text begins with no white space
abbrev pub begins_word : List ℕ → Bool
begins_word text = nat_le 1 (length text) && not (is_ascii_whitespace (slice_index text 0))

-- what a row spells after some bytes, of which some stand in one word: pairs of hex digits between white space, up to the characters of
-- its bytes; without these each word is one pair
abbrev pub row_bytes : Bool → List ℕ → List ℕ → Option (List ℕ)
row_bytes has_long bytes [] = if has_long then None else Some bytes
row_bytes has_long bytes (high ∷ []) = if is_ascii_whitespace high then (if has_long then None else Some bytes) else None
row_bytes has_long bytes (high ∷ low ∷ rest) =
    if is_ascii_whitespace high then row_bytes has_long bytes (low ∷ rest)
    else elim (byte_of_pair (high ∷ low ∷ [])) [
      | None ↦ None
      | Some byte ↦
          if shows rest (bytes ++ byte ∷ []) then Some (bytes ++ byte ∷ [])
          else row_bytes (has_long || begins_word rest) (bytes ++ byte ∷ []) rest
    ]

-- a row with bytes stands after whole rows of this size, where there is one
abbrev pub is_whole : ℕ → ℕ → List ℕ → Bool
is_whole size count row = (count % size == 0) || is_empty_line row

-- the bytes of a line whose offset is the number of bytes before it; an empty line has none
abbrev pub offset_bytes : ℕ → ℕ → ℕ → List ℕ → Option (List ℕ)
offset_bytes base size count text =
    if length (before_space text) == 0 then Some []
    else elim (number_of base (offset_digits (before_space text))) [
      | None ↦ None
      | Some offset ↦ if (offset == count) && is_whole size count (from_space text) then row_bytes false [] (from_space text) else None
    ]

abbrev pub line_bytes : ℕ → ℕ → ℕ → List ℕ → Option (List ℕ)
line_bytes base size count line = offset_bytes base size count (without_space (without_last 13 line))

-- what lines spell after some bytes
abbrev pub rows_bytes : ℕ → ℕ → List ℕ → List (List ℕ) → Option (List ℕ)
rows_bytes base size bytes [] = Some bytes
rows_bytes base size bytes (line ∷ lines) =
    elim (line_bytes base size (length bytes) line) [
      | None ↦ None
      | Some row ↦ rows_bytes base size (bytes ++ row) lines
    ]

-- the bytes in the first base in which each line is read
abbrev pub based_bytes : List ℕ → ℕ → List (List ℕ) → Option (List ℕ)
based_bytes [] size lines = None
based_bytes (base ∷ bases) size lines = option_or (rows_bytes base size [] lines) (based_bytes bases size lines)

-- the bases in which an offset may be, by the first word, and how many bytes each row has but the last, where there are several: tools
-- write decimal and octal ones with seven digits
abbrev pub bases_of : List ℕ → List ℕ
bases_of word = if length word == 7 then 16 ∷ 10 ∷ 8 ∷ [] else 16 ∷ []

abbrev pub row_size : List ℕ → ℕ
row_size word = if length word == 7 then 16 else 1

-- the bytes of a dump. Example: 0000 05 01 is 05 01
abbrev pub dump_bytes : List ℕ → Option (List ℕ)
dump_bytes text = based_bytes (bases_of (first_word text)) (row_size (first_word text)) (lines_of text)

-- what is to be read of a text that is a dump
abbrev pub dump_answer : List ℕ → Option Answer
dump_answer text = option_and_then (some_answer Dump None) (dump_bytes text)
