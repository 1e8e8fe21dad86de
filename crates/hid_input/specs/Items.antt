-- The items of a report descriptor as lsusb -v prints them (our choice: docs/INPUT-FORMS.md).
use Rattle.std.specs.Prelude.{ℕ, ◌==◌, Bool, false, not, ◌&&◌, ◌||◌, nat_le, nat_eq, bit_or, map, List, [], ◌∷◌, length, if◌then◌else◌, Option, None, Some, codes}
use Rattle.std.specs.List.{list_any, list_all, find, slice_split, starts_with}
use Rattle.std.specs.Option.{option_map, option_and_then}
use Rattle.std.specs.Str.{bytes_eq}
use Rattle.std.specs.Char.{is_ascii_digit, is_ascii_hexdigit, is_ascii_whitespace}
use Rattle.hid_input.specs.declared.items.TheConstants.{NAMES}
use Rattle.hid_input.specs.declared.words.Reading.TheVariants.{Elements}
use Rattle.hid_input.specs.declared.words.Parting.TheVariants.{Space}
use Rattle.hid_input.specs.Text.{trimmed_text, without_space, behind_part, split_at}
use Rattle.hid_input.specs.Words.{number_of, text_bytes}

-- the prefix beside a name in a table
unfoldable pub prefix_in : List (List ℕ × ℕ) → List ℕ → Option ℕ
prefix_in table name = option_map (λ row. row.1) (find (λ row. bytes_eq row.0 name) table)

-- the prefix of the items with a name, by the table NAMES
unfoldable pub prefix_of : List ℕ → Option ℕ
prefix_of name = prefix_in (map (λ row. (row.0.now, row.1)) NAMES) name

-- the words of an item's data, of text as: data= [ 0x02 ] 2
unfoldable pub data_words : List ℕ → Option (List ℕ)
data_words text =
    if bytes_eq text (codes " data=none") then Some []
    else option_and_then (λ inside. option_map (λ parts. parts.0) (split_at 93 inside)) (behind_part (codes " data= [") text)

-- the prefix of an item and the words of its data, of text as: Main  ): Input, data= [ 0x02 ] 2
unfoldable pub item_parts : List ℕ → Option (ℕ × List ℕ)
item_parts item =
    option_and_then (λ named. option_and_then (λ prefix. option_map (λ words. (prefix, words)) (data_words named.1)) (prefix_of named.0)) (split_at 44 item)

-- the code of the size of an item's data (HID 1.11, 6.2.2.2)
abbrev pub size_code : ℕ → Option ℕ
size_code size = if nat_le size 2 then Some size else (if size == 4 then Some 3 else None)

-- the bytes of an item: its prefix with the code of the size of its data, and the data
abbrev pub item_bytes : List ℕ → Option (List ℕ)
item_bytes item =
    option_and_then (λ parts. option_and_then (λ bytes. option_map (λ code. bit_or parts.0 code ∷ bytes) (size_code (length bytes)))
    (text_bytes Elements Space parts.1)) (item_parts item)

-- the bytes of an item, if there is one
abbrev pub bytes_of_item : Option (List ℕ) → Option (List ℕ)
bytes_of_item None = Some []
bytes_of_item (Some item) = item_bytes item

-- the bytes of a line: those of the item in it, or none
abbrev pub item_line_bytes : List ℕ → Option (List ℕ)
item_line_bytes line = bytes_of_item (behind_part (codes "Item(") (trimmed_text line))

-- the length in Report Descriptor: (length is 50)
abbrev pub length_in : List ℕ → Option ℕ
length_in line =
    option_and_then (λ behind. option_and_then (λ parts. number_of 10 parts.0) (split_at 41 behind))
    (behind_part (codes "Report Descriptor: (length is ") (trimmed_text line))

-- lsusb says that it couldn't read a report descriptor
abbrev pub is_unavailable : List ℕ → Bool
is_unavailable line = bytes_eq (trimmed_text line) (codes "** UNAVAILABLE **")

-- a word is as long as a descriptor in hex, which has seven bytes at least
abbrev pub is_long_hex : List ℕ → Bool
is_long_hex word = nat_le 14 (length word) && list_all is_ascii_hexdigit word

abbrev pub has_long_hex : List ℕ → Bool
has_long_hex line = list_any is_long_hex (slice_split is_ascii_whitespace line)

-- a character of code or of a table, one of { \ = " ' < | %
abbrev pub is_code : ℕ → Bool
is_code byte = (byte == 123) || ((byte == 92) || ((byte == 61) || ((byte == 34) || ((byte == 39) || ((byte == 60) || ((byte == 124) || (byte == 37)))))))

abbrev pub begins_digit : List ℕ → Bool
begins_digit [] = false
begins_digit (first ∷ text) = nat_le 48 first && nat_le first 57

-- a line is one that lsusb may print: of an item; or it begins with no digit, and has no character of code and no long word of hex
abbrev pub is_lsusb : List ℕ → Bool
is_lsusb line =
    starts_with nat_eq (trimmed_text line) (codes "Item(")
    || (not (begins_digit (without_space line)) && (not (list_any is_code line) && not (has_long_hex line)))
