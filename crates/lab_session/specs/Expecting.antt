-- What an expectation of the bench takes, and what it keeps of the line that came in its place (our choice: docs/LAB.md).
use Rattle.std.specs.Prelude.{◌≡◌, ℕ, true, false, List, [], ◌++◌, if◌then◌else◌, Result, Ok, Err, codes}
use Rattle.lab_expectations.specs.declared.transcript.Transcript.{Transcript}
use Rattle.lab_expectations.specs.Expectations.{Answer, Came, Instead, NoLine, TooMuch, Met, answer_none, answer_unmet, first_required, is_expected_at, is_none_at, outcome, parts_of, waits}
use Rattle.hid_text.specs.Words.{words_of}
use Rattle.lab_lines.specs.LabLines.{Said, Refusal}
use Rattle.lab_lines.specs.LabLines as lab
use Rattle.lab_lines.specs.declared.lab_line.LabLine.{LabLine}
use Rattle.lab_lines.specs.declared.lab_line.LabLine.TheVariants as said
use Rattle.lab_session.specs.declared.fault.LabCause.{LabCause}
use Rattle.lab_session.specs.declared.fault.LabCause.TheVariants.{Unmet}

-- the answer where no line is expected
abbrev pub answer_to_none : Transcript → Answer
answer_to_none transcript =
    if transcript.is_cut then TooMuch else answer_none (first_required (parts_of (waits transcript)))

-- the words of what came
abbrev pub came_words : Answer → List ℕ
came_words Came = []
came_words (Instead line) = line
came_words NoLine = codes "nothing"
came_words TooMuch = codes "over 1 MiB since the last expect"

-- An expectation is met, and takes the line; or it isn't, and the lines that wait stay. What came is kept, unless memory ran out.
abbrev pub Expects : List ℕ → Transcript → Transcript → List ℕ → Result (Unit {0}) LabCause → Type 0
Expects expected old new came (Ok _) =
    (is_expected_at old expected ≡ true) × (outcome expected (parts_of (waits old)) ≡ Met (parts_of (waits new)))
Expects expected old new came (Err cause) =
    (is_expected_at old expected ≡ false) × (new ≡ old) × (cause ≡ Unmet → came ≡ came_words (answer_unmet old expected))

-- All that was printed has been expected, and nothing waits; or a line waits that has to be expected.
abbrev pub ExpectsNone : Transcript → Transcript → List ℕ → Result (Unit {0}) LabCause → Type 0
ExpectsNone old new came (Ok _) = (is_none_at old ≡ true) × (waits new ≡ [])
ExpectsNone old new came (Err cause) =
    (is_none_at old ≡ false) × (new ≡ old) × (cause ≡ Unmet → came ≡ came_words (answer_to_none old))

-- Lines wait after those that waited, unless too much was printed since the last expectation.
abbrev pub Keeps : Transcript → Transcript → List ℕ → Type 0
Keeps old new text = new.is_cut ≡ false → (waits new ≡ waits old ++ text) × (old.is_cut ≡ false)

-- nothing waits, and all that is printed from here on does
abbrev pub IsForgotten : Transcript → Type 0
IsForgotten new = (waits new ≡ []) × (new.is_cut ≡ false)

-- what comes of a line that expects something: it is met, or it isn't
abbrev pub LineExpects : LabLine → Transcript → Transcript → List ℕ → Result (Unit {0}) LabCause → Type 0
LineExpects (said.Expect expected) old new came result = Expects expected.now old new came result
LineExpects said.ExpectNone old new came result = ExpectsNone old new came result
LineExpects said.ExpectAny old new came result = (result ≡ Ok tt) × IsForgotten new
LineExpects _ old new came result = Unit {0}

-- what comes of a line, by what it says, if it expects something: it is met, or it isn't
abbrev pub SaidExpects : Said → Transcript → Transcript → List ℕ → Result (Unit {0}) LabCause → Type 0
SaidExpects (lab.Expect words) old new came result =
    (expected : List ℕ) × (words_of expected ≡ words) × Expects expected old new came result
SaidExpects lab.ExpectNone old new came result = ExpectsNone old new came result
SaidExpects lab.ExpectAny old new came result = (result ≡ Ok tt) × IsForgotten new
SaidExpects _ old new came result = Unit {0}

-- what comes of a line, by what is read in it, if it expects something; one that can't be read expects nothing
abbrev pub ReadExpects : Result Said Refusal → Transcript → Transcript → List ℕ → Result (Unit {0}) LabCause → Type 0
ReadExpects (Ok said) old new came result = SaidExpects said old new came result
ReadExpects (Err refusal) old new came result = Unit {0}
