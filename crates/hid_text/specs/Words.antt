-- The words of a line, and the bytes that words of hex encode (our choice: the script language of docs/SCRIPT.md).
use Rattle.std.specs.Prelude.{◌≡◌, ℕ, ◌≤◌, ◌+◌, ◌*◌, ◌/◌, ◌==◌, Bool, not, ◌||◌, List, [], ◌∷◌, length, drop, filter, sum_by, if◌then◌else◌, Option, None, Some, Result, MatchResult, is_ok}
use Rattle.std.specs.List.{slice_split, list_all, flat_map, position_or_len}
use Rattle.std.specs.Result.{result_unwrap_or}
use Rattle.std.specs.Str.{bytes_eq}
use Rattle.arrayvec.specs.ArrayVec.{ArrayVec}
use Rattle.hex.specs.Hex.{decode_of, hex_digit_value}
use Rattle.hid_text.specs.declared.fault.LineFault.{LineFault}
use Rattle.hid_text.specs.declared.fault.LineFault.TheVariants.{BadHex}

-- bytes without a blank
abbrev pub Word : Type 0
Word = List ℕ

-- a space or a tab
abbrev pub is_blank : ℕ → Bool
is_blank b = b == 32 || b == 9

-- the byte is neither a space nor a tab
abbrev pub is_no_blank : ℕ → Bool
is_no_blank b = not (is_blank b)

-- the words of a line: what stands between spaces and tabs, if anything does
abbrev pub words_of : List ℕ → List Word
words_of line = filter (λ word. not (length word == 0)) (slice_split is_blank line)

-- what stands after the first word of a text
abbrev pub after_word : List ℕ → List ℕ
after_word text =
    let word = drop (position_or_len is_no_blank text) text in drop (position_or_len is_blank word) word

-- words begin with a first one, before others, or there are none
abbrev pub Parts : List Word → Option (Word × List Word) → Type 0
Parts words None = words ≡ []
Parts words (Some found) = words ≡ found.0 ∷ found.1

-- words begin with two, before others, or there are fewer
abbrev pub TwoParts : List Word → Option (Word × Word × List Word) → Type 0
TwoParts words None = length words ≤ 1
TwoParts words (Some found) = words ≡ found.0 ∷ found.1 ∷ found.2

-- two words, where there are no others
unfoldable pub two_words : List Word → Option (Word × Word)
two_words (first ∷ second ∷ []) = Some (first, second)
two_words _ = None

-- three words, if there are exactly three
unfoldable pub three_words : List Word → Option (Word × Word × Word)
three_words (first ∷ second ∷ third ∷ []) = Some (first, second, third)
three_words _ = None

-- what a table has under a word
abbrev pub look_up : {X : Type 0} → List (Word × X) → Word → Option X
look_up [] word = None
look_up (entry ∷ more) word = if bytes_eq word entry.0 then Some entry.1 else look_up more word

-- the bytes that words of hex encode, joined: each word is pairs of digits, of either case. Example: 0a Ff10 is 0A FF 10
unfoldable pub hex_of : List Word → Option (List ℕ)
hex_of words =
    if list_all (λ word. is_ok (decode_of word)) words
    then Some (flat_map (λ word. result_unwrap_or (decode_of word) []) words) else None

-- the byte of the values of two digits, where both are digits
abbrev pub byte_from : Option ℕ → Option ℕ → Option ℕ
byte_from (Some high) (Some low) = Some (high * 16 + low)
byte_from (Some high) None = None
byte_from None low = None

-- the byte that two hex digits encode, of either case
abbrev pub pair_of : ℕ → ℕ → Option ℕ
pair_of high low = byte_from (hex_digit_value high) (hex_digit_value low)

-- How many bytes words of hex encode, one for two digits, whatever the digits are: over 256 are no line of a report that
-- is set. Example: 513 digits and a bad one is X1
abbrev pub byte_count : List Word → ℕ
byte_count words = sum_by (λ word. length word / 2) words

-- what was read is what the words encode
abbrev pub GivesHex : Result (ArrayVec ℕ) LineFault → Option (List ℕ) → Type 0
GivesHex result encoded =
    MatchResult result (λ bytes. encoded ≡ Some bytes.items) (λ cause. (cause ≡ BadHex) × (encoded ≡ None))
