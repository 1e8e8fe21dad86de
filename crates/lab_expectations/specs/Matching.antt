-- Which lines are those that are expected (our choice: docs/LAB.md).
use Rattle.std.specs.Prelude.{ℕ, Bool, true, false, ◌&&◌, ◌||◌, List, [], ◌∷◌, Option, None, Some, if◌then◌else◌, codes}
use Rattle.std.specs.Str.{bytes_eq}
use Rattle.hid_report_descriptor.specs.declared.usage.Usage.{Usage}
use Rattle.hid_text.specs.Words.{Word, words_of}
use Rattle.hid_text.specs.Numbers.{usage_of_word}
use Rattle.lab_lines.specs.Names.{names}
use Rattle.lab_lines.specs.ControlNames.{same_usage}

-- a word says a usage: by its numbers, or by a name of it
abbrev pub says_usage : Word → Usage → Option Usage → Bool
says_usage expected usage (Some other) = same_usage usage other
says_usage expected usage None = names usage expected

-- a word that was printed is a usage that another word says
abbrev pub is_usage_of : Word → Option Usage → Bool
is_usage_of expected None = false
is_usage_of expected (Some usage) = says_usage expected usage (usage_of_word expected)

-- A word that was printed is the one that is expected: any where * is expected; the same; or a usage that is written otherwise
-- or by its name. Example: 07:04 is 7:4 and Keyboard_A
unfoldable pub is_word : Word → Word → Bool
is_word expected word =
    bytes_eq expected (codes "*") || bytes_eq expected word || is_usage_of expected (usage_of_word word)

-- each word is the expected one, and there are as many
abbrev pub are_words : List Word → List Word → Bool
are_words [] [] = true
are_words [] (word ∷ more) = false
are_words (expected ∷ others) [] = false
are_words (expected ∷ others) (word ∷ more) = is_word expected word && are_words others more

-- a line that was printed is the one that is expected, word by word. Example: 1 down * is 1 down 07:04
unfoldable pub matches : List ℕ → List ℕ → Bool
matches expected line = are_words (words_of expected) (words_of line)

-- a line is one of an Output report, by its words. Example: 1 output 0 02
abbrev pub is_output : List Word → Bool
is_output (device ∷ word ∷ more) = bytes_eq word (codes "output")
is_output (device ∷ []) = false
is_output [] = false

-- the word of an event, before its usage
abbrev pub is_event : Word → Bool
is_event word =
    bytes_eq word (codes "down") || bytes_eq word (codes "up") || bytes_eq word (codes "value")
    || bytes_eq word (codes "null") || bytes_eq word (codes "motion") || bytes_eq word (codes "dropped")

-- The word of an expected line in which the usage of an event stands: the third one, after the word of the event. Example: of
-- 1 down Keyboard_A it is Keyboard_A
unfoldable pub usage_place : List Word → Option Word
usage_place (device ∷ event ∷ usage ∷ more) = if is_event event then Some usage else None
usage_place (device ∷ event ∷ []) = None
usage_place (device ∷ []) = None
usage_place [] = None
