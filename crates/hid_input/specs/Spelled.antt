-- Text of bytes and separators alone (our choice: docs/INPUT-FORMS.md).
use Rattle.std.specs.Prelude.{ℕ, ◌==◌, Bool, not, ◌&&◌, ◌||◌, List, [], ◌∷◌, length, if◌then◌else◌, Option, None, Some, false}
use Rattle.std.specs.List.{list_any}
use Rattle.std.specs.Option.{option_or}
use Rattle.std.specs.Char.{is_ascii_whitespace}
use Rattle.hid_input.specs.declared.found.Shape.{Shape}
use Rattle.hid_input.specs.declared.words.Reading.{Reading}
use Rattle.hid_input.specs.declared.words.Reading.TheVariants.{Pairs, Joined, Elements}
use Rattle.hid_input.specs.declared.words.Parting.TheVariants.{Commas}
use Rattle.hid_input.specs.Answer.{Answer}
use Rattle.hid_input.specs.Words.{text_bytes, words_of}

-- a character of a word
abbrev pub is_part : ℕ → Bool
is_part byte = not (byte == 44) && not (is_ascii_whitespace byte)

-- a comma comes without a word since the last one, or a word without a comma since the last one: after a character of a word, or not; and
-- with a word since the last comma, or not
abbrev pub is_loose_from : Bool → Bool → List ℕ → Bool
is_loose_from is_word has_word [] = false
is_loose_from is_word has_word (byte ∷ text) =
    ((byte == 44) && not has_word)
    || ((is_part byte && (has_word && not is_word)) || is_loose_from (is_part byte) (not (byte == 44) && (has_word || is_part byte)) text)

-- a text with commas doesn't have one between each two words. Its last word may have one after it
abbrev pub has_comma : List ℕ → Bool
has_comma text = list_any (λ byte. byte == 44) text

abbrev pub is_loose : List ℕ → Bool
is_loose text = has_comma text && is_loose_from false false text

-- how words of hex spell bytes: each one byte, if the first does
abbrev pub reading_of : List (List ℕ) → Reading
reading_of [] = Joined
reading_of (word ∷ words) = if length word == 2 then Pairs else Joined

abbrev pub hex_reading : List ℕ → Reading
hex_reading text = reading_of (words_of Commas text)

-- the bytes of a text of bytes and separators alone, each word in the same reading.
-- Example: 05 01, 0501, 05:01 and 0x5, 1 are 05 01
abbrev pub spelled_bytes : List ℕ → Option (List ℕ)
spelled_bytes text =
    if is_loose text then None
    else option_or (text_bytes (hex_reading text) Commas text) (text_bytes Elements Commas text)

-- bytes in a shape, from lines, if there are some
abbrev pub some_answer : Shape → Option (ℕ × ℕ) → List ℕ → Option Answer
some_answer shape lines [] = None
some_answer shape lines (first ∷ more) = Some (shape, (first ∷ more, lines))
