-- What comes of an expectation (our choice: docs/LAB.md).
use Rattle.std.specs.Prelude.{◌≡◌, ◌≤◌, ◌-◌, ℕ, ◌==◌, Bool, List, [], ◌∷◌, length, min, drop, slice_index, Option, None, Some, is_none, true, false, if◌then◌else◌}
use Rattle.std.specs.List.{slice_split}
use Rattle.lab_expectations.specs.declared.looking.Found.{Found}
use Rattle.lab_expectations.specs.declared.looking.Found.TheVariants as found
use Rattle.lab_expectations.specs.declared.transcript.Transcript.{Transcript}
use Rattle.lab_expectations.specs.declared.transcript.Expectation.{Expectation}
use Rattle.lab_expectations.specs.declared.transcript.Expectation.TheVariants as answer
use Rattle.hid_text.specs.Words.{words_of}
use Rattle.lab_expectations.specs.Matching.{is_output, matches}

-- what ends a line
abbrev pub is_line_feed : ℕ → Bool
is_line_feed b = b == 10

-- the lines of a text, each up to its line feed, and what stands after the last line feed
abbrev pub parts_of : List ℕ → List (List ℕ)
parts_of text = slice_split is_line_feed text

-- a line that may be expected, and needn't, has a + before it
abbrev pub is_optional : List ℕ → Bool
is_optional line = slice_index line 0 == 43

-- a line without that +
abbrev pub plain : List ℕ → List ℕ
plain line = if is_optional line then drop 1 line else line

-- The expected line was printed, and these are left; another line was printed; or nothing was that has to be expected.
pub data Outcome : Type 0 where
  Met : List (List ℕ) → Outcome
  Other : List ℕ → Outcome
  Nothing : Outcome

-- A line that is expected is the first one that isn't passed over; those that may be expected, and aren't the expected line,
-- are. What stands after the last line feed is no line.
unfoldable pub outcome : List ℕ → List (List ℕ) → Outcome
outcome expected [] = Nothing
outcome expected (last ∷ []) = Nothing
outcome expected (line ∷ next ∷ more) =
    if matches expected (plain line) then Met (next ∷ more)
    else if is_optional line then outcome expected (next ∷ more) else Other line

-- the first line that has to be expected, if there is one
unfoldable pub first_required : List (List ℕ) → Option (List ℕ)
first_required [] = None
first_required (last ∷ []) = None
first_required (line ∷ next ∷ more) = if is_optional line then first_required (next ∷ more) else Some line

-- the first line, if there is one, without its +. What stands after the last line feed is no line.
abbrev pub first_line : List (List ℕ) → Option (List ℕ)
first_line [] = None
first_line (last ∷ []) = None
first_line (line ∷ next ∷ more) = Some (plain line)

-- The last line, if there is one, without its +; before them came another, or none. What stands after the last line feed is no line.
unfoldable pub last_line : Option (List ℕ) → List (List ℕ) → Option (List ℕ)
last_line before [] = before
last_line before (last ∷ []) = before
last_line before (line ∷ next ∷ more) = last_line (Some (plain line)) (next ∷ more)

-- what was found stands for an outcome
abbrev pub found_of : Found → Outcome
found_of (found.Met rest) = Met (parts_of rest.now)
found_of (found.Other line) = Other line.now
found_of found.Nothing = Nothing

-- what is left after the expected line is the end of the text
abbrev pub EndsThere : Found → List ℕ → Type 0
EndsThere (found.Met rest) text = (length rest.now ≤ length text) × (rest.now ≡ drop (length text - length rest.now) text)
EndsThere (found.Other line) text = Unit {0}
EndsThere found.Nothing text = Unit {0}

-- the text of the lines that wait
abbrev pub waits : Transcript → List ℕ
waits transcript = drop (min transcript.from (length transcript.text.items)) transcript.text.items

-- the expected line was printed
abbrev pub is_met : Outcome → Bool
is_met (Met left) = true
is_met (Other line) = false
is_met Nothing = false

-- The answer to an expectation: its line came, another line came in its place, or none came; or too much was printed.
pub data Answer : Type 0 where
  Came : Answer
  Instead : List ℕ → Answer
  NoLine : Answer
  TooMuch : Answer

-- what an answer stands for
abbrev pub answer_of : Expectation → Answer
answer_of answer.Met = Came
answer_of (answer.Other line) = Instead line.now
answer_of answer.Nothing = NoLine
answer_of answer.TooMuch = TooMuch

-- the answer to an outcome
abbrev pub answer_to : Outcome → Answer
answer_to (Met left) = Came
answer_to (Other line) = Instead line
answer_to Nothing = NoLine

-- the answer to an expectation of a line
abbrev pub answer_at : Transcript → List ℕ → Answer
answer_at transcript expected =
    if transcript.is_cut then TooMuch else answer_to (outcome expected (parts_of (waits transcript)))

-- the answer by the line that came, if one did
abbrev pub answer_by_line : Option (List ℕ) → Answer
answer_by_line None = NoLine
answer_by_line (Some line) = Instead line

-- The answer to an expectation that isn't met. In place of an Output report the first line came, also one that needn't be expected.
-- Example: 1 output 0 04, where 1 output 0 02 is expected
abbrev pub answer_unmet : Transcript → List ℕ → Answer
answer_unmet transcript expected =
    if is_output (words_of expected)
    then (if transcript.is_cut then TooMuch else answer_by_line (first_line (parts_of (waits transcript))))
    else answer_at transcript expected

-- the answer where no line is expected
abbrev pub answer_none : Option (List ℕ) → Answer
answer_none None = Came
answer_none (Some line) = Instead line

-- a line is the one that is expected: it is the first one that isn't passed over, and not too much was printed
abbrev pub is_expected_at : Transcript → List ℕ → Bool
is_expected_at transcript expected =
    if transcript.is_cut then false else is_met (outcome expected (parts_of (waits transcript)))

-- no line has to be expected, and not too much was printed
abbrev pub is_none_at : Transcript → Bool
is_none_at transcript =
    if transcript.is_cut then false else is_none (first_required (parts_of (waits transcript)))
