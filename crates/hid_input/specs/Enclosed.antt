-- A list in brackets (our choice: docs/INPUT-FORMS.md).
use Rattle.std.specs.Prelude.{ℕ, ◌==◌, ◌+◌, ◌&&◌, ◌||◌, Bool, slice_index, List, length, take, drop, if◌then◌else◌, Option, None, Some, position}
use Rattle.std.specs.Option.{option_and_then}
use Rattle.hid_input.specs.declared.found.Shape.TheVariants.{List as InList}
use Rattle.hid_input.specs.Answer.{Answer}
use Rattle.hid_input.specs.Head.{last_place, is_head, is_tail}
use Rattle.hid_input.specs.Spelled.{spelled_bytes, some_answer}
use Rattle.hid_input.specs.Text.{line_at}

-- a bracket that opens, one that closes, and the two that belong together
abbrev pub opens : ℕ → Bool
opens byte = (byte == 123) || ((byte == 91) || ((byte == 40) || (byte == 60)))

abbrev pub closes : ℕ → Bool
closes byte = (byte == 125) || ((byte == 93) || ((byte == 41) || (byte == 62)))

abbrev pub are_brackets : ℕ → ℕ → Bool
are_brackets opening closing =
    if opening == 123 then closing == 125
    else (if opening == 91 then closing == 93 else (if opening == 40 then closing == 41 else closing == 62))

-- the list between two places of a text, with these bytes
abbrev pub list_of : List ℕ → ℕ → ℕ → Option (List ℕ) → Option Answer
list_of text from to None = None
list_of text from to (Some bytes) =
    if is_head (length bytes) (take from text) && is_tail (length bytes) (drop (to + 1) text)
    then some_answer InList (Some (line_at text from, line_at text to)) bytes else None

-- the list after a bracket at a place of a text, up to the bracket that closes after this many characters
abbrev pub list_to : List ℕ → ℕ → Option ℕ → Option Answer
list_to text from None = None
list_to text from (Some size) =
    if are_brackets (slice_index text from) (slice_index text (from + 1 + size))
    then list_of text from (from + 1 + size) (spelled_bytes (take size (drop (from + 1) text))) else None

abbrev pub list_at : List ℕ → Option ℕ → Option Answer
list_at text None = None
list_at text (Some from) = list_to text from (position closes (drop (from + 1) text))

-- the descriptor in the list of a text: from its last bracket that opens up to the first one after it that closes
abbrev pub list_answer : List ℕ → Option Answer
list_answer text = list_at text (last_place opens text)
