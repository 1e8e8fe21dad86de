-- What may stand before a list or strings, and after them (our choice: docs/INPUT-FORMS.md).
use Rattle.std.specs.Prelude.{ℕ, ◌==◌, ◌+◌, ◌-◌, ◌*◌, ◌%◌, ◌^◌, min, Bool, true, false, not, ◌&&◌, ◌||◌, nat_le, nat_eq, List, [], ◌∷◌, length, slice_index, take, drop, if◌then◌else◌, Option, None, Some, codes, position}
use Rattle.std.specs.List.{list_all, list_any, slice_split, starts_with}
use Rattle.std.specs.Option.{option_map}
use Rattle.std.specs.Str.{bytes_eq}
use Rattle.std.specs.Char.{is_ascii_alphanumeric, is_ascii_alphabetic, is_ascii_digit, is_ascii_whitespace}
use Rattle.hid_input.specs.declared.head.Part.{Part}
use Rattle.hid_input.specs.declared.head.Part.TheVariants.{Mark, Name, Open, Number, Closed}
use Rattle.hid_input.specs.declared.head.TheConstants.{TYPES}
use Rattle.hid_input.specs.Text.{trimmed_text, split_at, is_empty_line}
use Rattle.hid_input.specs.Words.{number_of}

-- a word is one of languages that changes no bytes after it, or none
abbrev pub is_type : List ℕ → Bool
is_type word = (length word == 0) || list_any (λ name. bytes_eq name.now word) TYPES

-- white space, or one of { [ ( ]
abbrev pub parts_types : ℕ → Bool
parts_types byte = is_ascii_whitespace byte || ((byte == 123) || ((byte == 91) || ((byte == 40) || (byte == 93))))

-- a text has nothing but such words; or & alone, as a slice of Rust has
abbrev pub are_types : List ℕ → Bool
are_types text = list_all is_type (slice_split parts_types text) || bytes_eq (trimmed_text text) (codes "&")

abbrev pub is_digit : ℕ → Bool
is_digit byte = nat_le 48 byte && nat_le byte 57

-- what stands last in a declaration after a number of elements, which ends with ] and isn't less than that of the bytes
abbrev pub after_number : ℕ → ℕ → ℕ → Option Part
after_number least number byte =
    if is_digit byte then Some (Number (min (min (number * 10) (2 ^ 64 - 1) + byte % 16) (2 ^ 64 - 1)))
    else (if (byte == 93) && nat_le least number then Some Closed else None)

-- a name has digits too, and they begin a number of elements
abbrev pub after_digit : Part → ℕ → Option Part
after_digit Name digit = Some Name
after_digit Open digit = Some (Number digit)
after_digit part digit = None

abbrev pub is_name : Part → Bool
is_name Name = true
is_name part = false

-- a bracket [ after a name or after ] has a number of elements
abbrev pub after_bracket : Part → Part
after_bracket Name = Open
after_bracket Closed = Open
after_bracket part = Mark

-- a blank may stand before a number of elements
abbrev pub after_blank : Part → Part
after_blank Open = Open
after_blank part = Mark

-- a letter, _, or a character that isn't of ASCII
abbrev pub is_letter : ℕ → Bool
is_letter byte = is_ascii_alphabetic byte || ((byte == 95) || nat_le 128 byte)

-- one of < > { : & * " '
abbrev pub is_mark : ℕ → Bool
is_mark byte =
    (byte == 60) || ((byte == 62) || ((byte == 123) || ((byte == 58) || ((byte == 38) || ((byte == 42) || ((byte == 34) || (byte == 39)))))))

-- what stands last after another part and a character
abbrev pub after_other : Part → ℕ → Option Part
after_other part byte =
    if is_digit byte then after_digit part (byte % 16)
    else (if byte == 93 then Some Closed
    else (if byte == 91 then Some (after_bracket part)
    else (if byte == 59 then Some Open
    else (if is_mark byte then Some Mark
    else (if is_ascii_whitespace byte then Some (after_blank part)
    else (if is_letter byte then Some Name else None))))))

-- what stands last after one more character, if a declaration goes on so
abbrev pub part_after : ℕ → Part → ℕ → Option Part
part_after least (Number number) byte = after_number least number byte
part_after least part byte = after_other part byte

-- the number of names of a declaration that goes on with a text, if it does
abbrev pub names_from : ℕ → Part → ℕ → List ℕ → Option ℕ
names_from least part count [] = Some count
names_from least part count (byte ∷ text) =
    elim (part_after least part byte) [
      | None ↦ None
      | Some next ↦ names_from least next (if is_name next && not (is_name part) then min (count + 1) 255 else count) text
    ]

-- at most six, fewer than a descriptor has bytes
abbrev pub are_few : Option ℕ → Bool
are_few None = false
are_few (Some count) = nat_le count 6

abbrev pub is_declaration : ℕ → List ℕ → Bool
is_declaration least text = are_few (names_from least Mark 0 text)

-- the last character of a declaration before a sign: of a name, or one of ] " '; a colon before =
abbrev pub ends_declared : ℕ → ℕ → Bool
ends_declared sign last =
    if last == 58 then sign == 61
    else is_ascii_alphanumeric last || (nat_le 128 last || ((last == 95) || ((last == 93) || ((last == 34) || (last == 39)))))

abbrev pub is_declared : ℕ → List ℕ → Bool
is_declared sign text =
    not (length (trimmed_text text) == 0) && ends_declared sign (slice_index (trimmed_text text) (length (trimmed_text text) - 1))

-- where the last sign stands, = or :, in a text that stands at a place
abbrev pub is_sign : ℕ → Bool
is_sign byte = (byte == 61) || (byte == 58)

abbrev pub last_from : (ℕ → Bool) → Option ℕ → ℕ → List ℕ → Option ℕ
last_from is found at [] = found
last_from is found at (byte ∷ text) = last_from is (if is byte then Some at else found) (at + 1) text

abbrev pub last_place : (ℕ → Bool) → List ℕ → Option ℕ
last_place is text = last_from is None 0 text

-- what stands before this many bytes changes nothing of them: words alone; or a declaration, a sign and words
abbrev pub is_head_at : ℕ → List ℕ → Option ℕ → Bool
is_head_at count text None = are_types text
is_head_at count text (Some place) =
    is_declaration count (take place text) && (is_declared (slice_index text place) (take place text) && are_types (drop (place + 1) text))

-- a text may stand before this many bytes
abbrev pub is_head : ℕ → List ℕ → Bool
is_head count text = is_head_at count text (last_place is_sign text)

-- white space, or one of ) ] } > ; ,
abbrev pub is_tail_byte : ℕ → Bool
is_tail_byte byte =
    is_ascii_whitespace byte || ((byte == 41) || ((byte == 93) || ((byte == 125) || ((byte == 62) || ((byte == 59) || (byte == 44))))))

-- a number is this one
abbrev pub is_count : ℕ → Option ℕ → Bool
is_count count None = false
is_count count (Some number) = number == count

-- a text declares a number, that of the bytes. Example: unsigned int d_len = 50;
abbrev pub is_value : ℕ → Option (List ℕ × List ℕ) → Bool
is_value count None = false
is_value count (Some parts) = is_count count (number_of 10 (trimmed_text parts.0)) && is_empty_line parts.1

abbrev pub is_length_by : ℕ → Option (List ℕ × List ℕ) → Bool
is_length_by count None = false
is_length_by count (Some parts) = is_declaration 0 parts.0 && (is_declared 61 parts.0 && is_value count (split_at 59 parts.1))

abbrev pub is_length : ℕ → List ℕ → Bool
is_length count text = starts_with nat_eq text (codes "unsigned int ") && is_length_by count (split_at 61 text)

-- what stands after this many bytes changes nothing of them
abbrev pub is_tail_at : ℕ → List ℕ → Option ℕ → Bool
is_tail_at count text None = true
is_tail_at count text (Some place) = is_length count (drop place text)

-- a text may stand after this many bytes
abbrev pub is_tail : ℕ → List ℕ → Bool
is_tail count text = is_tail_at count text (position (λ byte. not (is_tail_byte byte)) text)
