-- Strings of escapes (our choice: docs/INPUT-FORMS.md).
use Rattle.std.specs.Prelude.{ℕ, ◌==◌, ◌-◌, ◌+◌, ◌*◌, ◌%◌, Bool, false, true, not, ◌&&◌, ◌||◌, nat_le, nat_lt, List, [], ◌∷◌, length, slice_index, take, drop, if◌then◌else◌, option_to_list, Option, None, Some, codes}
use Rattle.std.specs.List.{list_any, suffix_len}
use Rattle.std.specs.Str.{bytes_eq}
use Rattle.std.specs.Char.{digit_value, is_ascii_hexdigit, is_ascii_whitespace}
use Rattle.std.specs.Option.{option_map}
use Rattle.hid_input.specs.declared.found.Shape.TheVariants.{Escapes}
use Rattle.hid_input.specs.declared.strings.Quote.{Quote}
use Rattle.hid_input.specs.declared.strings.Quote.TheVariants.{Text, Bytes, Shell, Double, Bare}
use Rattle.hid_input.specs.declared.strings.Spot.{Spot}
use Rattle.hid_input.specs.declared.strings.Spot.TheVariants.{Inside, Behind, First, Backslash, Hex, Digit, Closed, Between, Prefix, Tail}
use Rattle.hid_input.specs.declared.strings.TheConstants.{COMMANDS}
use Rattle.hid_input.specs.Answer.{Answer}
use Rattle.hid_input.specs.Head.{is_head, is_tail_byte}
use Rattle.hid_input.specs.Spelled.{some_answer}
use Rattle.hid_input.specs.Text.{line_at, without_space, trimmed_text, before_space, from_space, is_empty_line}
use Rattle.hid_input.specs.Words.{both}

-- the byte of an escape of one letter, as C and Python have it: \t, \n, \r, \\, \" and \'
abbrev pub letter_byte : ℕ → Option ℕ
letter_byte letter =
    if letter == 116 then Some 9
    else (if letter == 110 then Some 10
    else (if letter == 114 then Some 13
    else (if (letter == 92) || ((letter == 34) || (letter == 39)) then Some letter else None)))

-- the value of a hex digit
abbrev pub hex_digit : ℕ → Option ℕ
hex_digit byte = if nat_lt (digit_value byte) 16 then Some (digit_value byte) else None

abbrev pub is_quotation : ℕ → Bool
is_quotation byte = (byte == 34) || (byte == 39)

-- a character closes what encloses escapes
abbrev pub is_mark_of : Quote → ℕ → Bool
is_mark_of (Text mark) byte = byte == mark
is_mark_of (Bytes mark) byte = byte == mark
is_mark_of (Shell mark) byte = byte == mark
is_mark_of quote byte = false

-- strings of bytes have characters that stand for themselves, and strings of text escapes alone, since languages read $ in it
abbrev pub has_characters : Quote → Bool
has_characters (Bytes mark) = true
has_characters quote = false

-- strings have escapes of one letter, and a shell's word has none
abbrev pub is_string : Quote → Bool
is_string (Text mark) = true
is_string (Bytes mark) = true
is_string quote = false

abbrev pub is_double : Quote → Bool
is_double Double = true
is_double quote = false

abbrev pub is_bare : Quote → Bool
is_bare Bare = true
is_bare quote = false

-- the next spot, without a byte
abbrev pub goes_on : Spot → Option (Spot × Option ℕ)
goes_on spot = Some (spot, None)

-- the next spot after a character in a string, and the byte that it is
abbrev pub inside_after : Quote → ℕ → Option (Spot × Option ℕ)
inside_after quote byte =
    if is_mark_of quote byte then goes_on Closed
    else (if byte == 92 then goes_on (if is_double quote then First else Backslash quote)
    else (if has_characters quote && (nat_le 32 byte && nat_le byte 126) then Some (Inside quote, Some byte)
    else (if is_bare quote && is_ascii_whitespace byte then goes_on Tail else None)))

-- the next spot after a backslash and a character, and the byte of an escape of one letter
abbrev pub escape_after : Quote → ℕ → Option (Spot × Option ℕ)
escape_after quote byte =
    if byte == 120 then goes_on (Hex quote)
    else (if is_string quote then option_map (λ one. (Inside quote, Some one)) (letter_byte byte) else None)

-- the next spot after a character outside of strings: white space, another string, or what ends the statement
abbrev pub outside_after : Spot → ℕ → Option (Spot × Option ℕ)
outside_after Closed byte = if is_ascii_whitespace byte then goes_on Between else (if is_tail_byte byte then goes_on Tail else None)
outside_after Between byte =
    if is_ascii_whitespace byte then goes_on Between
    else (if is_quotation byte then goes_on (Inside (Text byte))
    else (if byte == 98 then goes_on Prefix else (if is_tail_byte byte then goes_on Tail else None)))
outside_after Prefix byte = if is_quotation byte then goes_on (Inside (Bytes byte)) else None
outside_after Tail byte = if is_tail_byte byte then goes_on Tail else None
outside_after spot byte = None

-- C reads more digits of an escape of text than two (C11, 6.4.4.4), so that none may follow
abbrev pub behind_after : Quote → ℕ → Option (Spot × Option ℕ)
behind_after (Text mark) byte = if is_ascii_hexdigit byte then None else inside_after (Text mark) byte
behind_after quote byte = inside_after quote byte

-- the next spot after a character, and the byte that ends with it, if strings go on so. Example: \x05 ends with the byte 05
abbrev pub spot_after : Spot → ℕ → Option (Spot × Option ℕ)
spot_after (Inside quote) byte = inside_after quote byte
spot_after (Behind quote) byte = behind_after quote byte
spot_after First byte = if byte == 92 then goes_on (Backslash Double) else None
spot_after (Backslash quote) byte = escape_after quote byte
spot_after (Hex quote) byte = option_map (λ high. (Digit quote high, None)) (hex_digit byte)
spot_after (Digit quote high) byte = option_map (λ low. (Behind quote, Some (high % 16 * 16 + low))) (hex_digit byte)
spot_after spot byte = outside_after spot byte

-- strings may end there
abbrev pub is_end : Spot → Bool
is_end (Behind Double) = true
is_end (Behind Bare) = true
is_end Closed = true
is_end Between = true
is_end Tail = true
is_end spot = false

-- the bytes of strings up to the end of a text, from a spot on
abbrev pub escapes_from : Spot → List ℕ → Option (List ℕ)
escapes_from spot [] = if is_end spot then Some [] else None
escapes_from spot (byte ∷ text) =
    elim (spot_after spot byte) [
      | None ↦ None
      | Some next ↦ both (Some (option_to_list next.1)) (escapes_from next.0 text)
    ]

-- a command of a shell that writes the bytes of escapes
abbrev pub is_command : List ℕ → Bool
is_command text = list_any (λ name. bytes_eq name.now (trimmed_text text)) COMMANDS

-- the character so many before the end of a text, or a blank
abbrev pub character_back : List ℕ → ℕ → ℕ
character_back text count = if nat_lt count (length text) then slice_index text (length text - 1 - count) else 32

-- what encloses the first escape after a text, and what stands before that
abbrev pub quote_of : List ℕ → Option (Quote × List ℕ)
quote_of text =
    if is_quotation (character_back text 0)
    then (if character_back text 1 == 98 then Some (Bytes (character_back text 0), take (length text - 2) text)
    else (if is_command (take (length text - 1) text) then Some (Shell (character_back text 0), [])
    else Some (Text (character_back text 0), take (length text - 1) text)))
    else (if is_command text then Some (Double, []) else (if is_empty_line text then Some (Bare, []) else None))

-- the strings of a text, and what a shell has after its word
abbrev pub is_shell : Quote → Bool
is_shell (Shell mark) = true
is_shell Double = true
is_shell quote = false

abbrev pub body_of : Quote → List ℕ → List ℕ
body_of quote text = if is_shell quote then before_space text else text

abbrev pub behind_body : Quote → List ℕ → List ℕ
behind_body quote text = if is_shell quote then from_space text else []

-- the last line of a text that has other characters than white space
abbrev pub last_line : List ℕ → ℕ
last_line text = line_at text (length (take (length text - suffix_len is_ascii_whitespace text) text))

-- a text is one word of a shell that names a file: it has no white space, and none of > ; | &
abbrev pub ends_word : ℕ → Bool
ends_word byte = is_ascii_whitespace byte || ((byte == 62) || ((byte == 59) || ((byte == 124) || (byte == 38))))

abbrev pub is_file : List ℕ → Bool
is_file text = not (length text == 0) && not (list_any ends_word text)

-- a shell writes to a file what stands before a text: > FILE in the same line, or nothing
abbrev pub redirects : ℕ → List ℕ → Bool
redirects line [] = true
redirects line (first ∷ file) = (first == 62) && ((line == 1) && is_file (without_space file))

abbrev pub is_redirect : List ℕ → Bool
is_redirect text = redirects (last_line text) (trimmed_text text)

-- a head has one of ] * ( [, as an array of C, or strings in brackets of Python
abbrev pub is_array : List ℕ → Bool
is_array head = list_any (λ byte. (byte == 93) || ((byte == 42) || ((byte == 40) || (byte == 91)))) head

-- a language takes strings of several lines after a head for one, where the last character isn't of a string; strings without a head
-- are those of no language
abbrev pub joins_lines : List ℕ → List ℕ → Bool
joins_lines head text = if is_array head then is_tail_byte (character_back (trimmed_text text) 0) else is_empty_line head

-- nothing beside strings from a place on, before this many bytes and after a shell's word, changes them
abbrev pub stands_alone : List ℕ → ℕ → List ℕ → List ℕ → ℕ → Bool
stands_alone text place head behind count =
    ((line_at text place == last_line text) || joins_lines head text) && (is_head count head && is_redirect behind)

-- the descriptor in the strings of a text, whose first backslash stands at a place
abbrev pub strings_by : List ℕ → ℕ → Option (Quote × List ℕ) → Option Answer
strings_by text place None = None
strings_by text place (Some found) =
    elim (escapes_from (Inside found.0) (body_of found.0 (drop place text))) [
      | None ↦ None
      | Some bytes ↦
          if stands_alone text place found.1 (behind_body found.0 (drop place text)) (length bytes)
          then some_answer Escapes (Some (line_at text place, last_line text)) bytes else None
    ]

-- the descriptor in the strings of a text, whose first backslash stands at a place, by what encloses it
abbrev pub strings_answer : List ℕ → ℕ → Option Answer
strings_answer text place = strings_by text place (quote_of (take place text))
