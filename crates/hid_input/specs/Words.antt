-- Words of digits, and the bytes that they spell (our choice: docs/INPUT-FORMS.md).
use Rattle.std.specs.Prelude.{◌≡◌, ℕ, ◌==◌, ◌-◌, ◌+◌, ◌*◌, ◌^◌, min, Bool, false, true, not, ◌&&◌, ◌||◌, nat_le, nat_lt, List, [], ◌∷◌, ◌++◌, length, slice_index, take, drop, if◌then◌else◌, Option, None, Some}
use Rattle.std.specs.List.{filter, slice_split, list_all}
use Rattle.std.specs.Option.{option_map, option_and_then}
use Rattle.std.specs.Char.{digit_value, is_ascii_digit, is_ascii_whitespace}
use Rattle.std.specs.Str.Parse.{digits_value}
use Rattle.hid_input.specs.declared.words.Reading.{Reading}
use Rattle.hid_input.specs.declared.words.Reading.TheVariants.{Pairs, Runs, Joined, Elements}
use Rattle.hid_input.specs.declared.words.Parting.{Parting}
use Rattle.hid_input.specs.declared.words.Parting.TheVariants.{Space, Commas}

-- a digit in this base, which is from 2 to 36
abbrev pub is_digit_of : ℕ → ℕ → Bool
is_digit_of base byte = nat_le 2 base && (nat_le base 36 && nat_lt (digit_value byte) base)

-- the number that digits spell, or the greatest of 64 bits where it is over that
unfoldable pub number_of : ℕ → List ℕ → Option ℕ
number_of base word =
    if nat_le 1 (length word) && list_all (is_digit_of base) word
    then Some (min (digits_value base word) (2 ^ 64 - 1)) else None

-- a number that is a byte
abbrev pub as_byte : ℕ → Option ℕ
as_byte number = if nat_le number 255 then Some number else None

-- the byte that digits spell
abbrev pub byte_in_base : ℕ → List ℕ → Option ℕ
byte_in_base base word = option_and_then as_byte (number_of base word)

-- the byte that two hex digits spell
abbrev pub byte_of_pair : List ℕ → Option ℕ
byte_of_pair (high ∷ low ∷ []) =
    if nat_lt (digit_value high) 16 && nat_lt (digit_value low) 16
    then Some (digit_value high * 16 + digit_value low) else None
byte_of_pair _ = None

-- a word has 0x in front
abbrev pub begins_hex : List ℕ → Bool
begins_hex word = nat_le 2 (length word) && ((slice_index word 0 == 48) && ((slice_index word 1 == 120) || (slice_index word 1 == 88)))

-- a word has h at its end, and a digit in front or three characters
abbrev pub ends_hex : List ℕ → Bool
ends_hex word =
    nat_le 2 (length word)
    && (((slice_index word (length word - 1) == 104) || (slice_index word (length word - 1) == 72))
    && ((length word == 3) || is_ascii_digit (slice_index word 0)))

-- the byte of one or two hex digits
unfoldable pub hex_byte : List ℕ → Option ℕ
hex_byte digits = if nat_le (length digits) 2 then byte_in_base 16 digits else None

-- the byte of an element of a list: in hex by 0x or h, else in decimal, without zeros in front. Example: 0xA1, 0A1h and 161 are A1
abbrev pub element_byte : List ℕ → Option ℕ
element_byte word =
    if begins_hex word then hex_byte (drop 2 word)
    else (if ends_hex word then byte_in_base 16 (take (length word - 1) word)
    else (if nat_le 2 (length word) && (slice_index word 0 == 48) then None else byte_in_base 10 word))

-- the bytes of both, one after the other, if both have some
abbrev pub both : Option (List ℕ) → Option (List ℕ) → Option (List ℕ)
both None more = None
both (Some here) None = None
both (Some here) (Some more) = Some (here ++ more)

-- one byte alone
abbrev pub single_byte : Option ℕ → Option (List ℕ)
single_byte byte = option_map (λ one. one ∷ []) byte

-- a colon or a hyphen
abbrev pub is_joint : ℕ → Bool
is_joint byte = (byte == 58) || (byte == 45)

-- a text without such a joint before it, if those may join bytes
abbrev pub after_joint : Bool → List ℕ → List ℕ
after_joint is_joined [] = []
after_joint is_joined (joint ∷ more) = if is_joined && is_joint joint then more else joint ∷ more

-- the bytes of a run of hex digits, two for each byte, perhaps with a joint after it. Example: 0501 and 05:01 are 05 01
abbrev pub run_bytes : Bool → List ℕ → Option (List ℕ)
run_bytes is_joined [] = Some []
run_bytes is_joined (digit ∷ []) = None
run_bytes is_joined (high ∷ low ∷ []) = single_byte (byte_of_pair (high ∷ low ∷ []))
run_bytes is_joined (high ∷ low ∷ joint ∷ more) =
    both (single_byte (byte_of_pair (high ∷ low ∷ [])))
    (if is_joined && is_joint joint then run_bytes is_joined more else run_bytes is_joined (joint ∷ more))

-- the bytes of a word in a reading
abbrev pub word_bytes : Reading → List ℕ → Option (List ℕ)
word_bytes Pairs word = single_byte (byte_of_pair word)
word_bytes Runs word = run_bytes false word
word_bytes Joined word = run_bytes true word
word_bytes Elements word = single_byte (element_byte word)

-- what parts words: white space; or white space and commas
abbrev pub is_separator : Parting → ℕ → Bool
is_separator Space byte = is_ascii_whitespace byte
is_separator Commas byte = is_ascii_whitespace byte || (byte == 44)

abbrev pub is_no_separator : Parting → ℕ → Bool
is_no_separator parting byte = not (is_separator parting byte)

-- the words of a text: what stands between separators, if anything does
abbrev pub words_of : Parting → List ℕ → List (List ℕ)
words_of parting text = filter (λ word. not (length word == 0)) (slice_split (is_separator parting) text)

-- the bytes of all words, one after the other, if each has some
abbrev pub all_bytes : (List ℕ → Option (List ℕ)) → List (List ℕ) → Option (List ℕ)
all_bytes bytes_of [] = Some []
all_bytes bytes_of (word ∷ words) = both (bytes_of word) (all_bytes bytes_of words)

-- the bytes of the words of a text
abbrev pub text_bytes : Reading → Parting → List ℕ → Option (List ℕ)
text_bytes reading parting text = all_bytes (word_bytes reading) (words_of parting text)

-- bytes are added to others, if there are some
abbrev pub IsAdded : List ℕ → Option (List ℕ) → Bool → List ℕ → Type 0
IsAdded before more is_read after = both (Some before) more ≡ (if is_read then Some after else None)

-- words begin with a first one, before those of the rest of the text, or there are none
abbrev pub Parts : Parting → List (List ℕ) → Option (List ℕ × List ℕ) → Type 0
Parts parting words None = words ≡ []
Parts parting words (Some found) = words ≡ found.0 ∷ words_of parting found.1
