-- What a player gathered of a line before it is written: for proofs (our choice).
use Rattle.std.specs.Prelude.{⊤, ◌≡◌, ◌≢◌, ◌⊎◌, ℕ, List, [], ◌++◌, Option, Result, Ok, Err}
use Rattle.std.specs.Io.KnownBytes.{Appends}
use Rattle.hid_text.specs.Output.{IsPrefix}
use Rattle.hid_recording.specs.declared.fault.Cause.{Cause}
use Rattle.hid_recording.specs.declared.fault.Cause.TheVariants.{Refused, LineTooLong, Read, Write, Memory, TooManyReads, Unended}
use Rattle.hid_recording.specs.Pieces.{IsWholeLines}
use Rattle.hid_recording.specs.Session.{Session, Outcome, success, failure}
use Rattle.hid_recording.specs.LineOutput.{LineGives}

-- why nothing was gathered: out of memory, or the refusal that ends a strict run
abbrev pub EndsIn : (Outcome → Type 0) → Cause → Type 0
EndsIn Tells Memory = ⊤
EndsIn Tells (Refused refusal) = Tells (failure (Refused refusal))
EndsIn Tells LineTooLong = ⊥
EndsIn Tells Read = ⊥
EndsIn Tells Write = ⊥
EndsIn Tells TooManyReads = ⊥
EndsIn Tells Unended = ⊥

-- a player gathered the output of a line, or the cause for which the line ends the run
abbrev pub Gathers : (Outcome → Type 0) → Result (Unit {0}) Cause → List ℕ → Session → Type 0
Gathers Tells (Ok _) text next = Tells (success text next)
Gathers Tells (Err cause) text next = EndsIn Tells cause

-- what was written of an output that isn't made to its end: nothing, or a prefix of its text
abbrev pub IsPartOf : (Outcome → Type 0) → List ℕ → Type 0
IsPartOf Tells part =
    (part ≡ []) ⊎ ((text : List ℕ) × (next : Session) × Tells (success text next) × IsPrefix part text)

-- Why an output isn't made to its end, and what was written: whole lines if memory ran out, a prefix of a text that isn't empty
-- if the writer failed, and nothing of a strict run's refusal.
abbrev pub StopsIn : Option (List ℕ) → Option (List ℕ) → (Outcome → Type 0) → Cause → Type 0
StopsIn old new Tells Memory =
    (part : List ℕ) × Appends old new part × IsPartOf Tells part × IsWholeLines part
StopsIn old new Tells (Refused refusal) = (new ≡ old) × Tells (failure (Refused refusal))
StopsIn old new Tells Write =
    (part : List ℕ) × (text : List ℕ) × (next : Session)
    × Appends old new part × Tells (success text next) × IsPrefix part text × (text ≢ [])
StopsIn old new Tells LineTooLong = ⊥
StopsIn old new Tells Read = ⊥
StopsIn old new Tells TooManyReads = ⊥
StopsIn old new Tells Unended = ⊥

-- A player wrote some of the output of a line and gathered the rest, or the line ends the run.
abbrev pub Outputs : Option (List ℕ) → Option (List ℕ) → (Outcome → Type 0) → Result (Unit {0}) Cause → List ℕ → Session → Type 0
Outputs old new Tells (Ok _) text next =
    (written : List ℕ) × Appends old new written × Tells (success (written ++ text) next)
Outputs old new Tells (Err cause) text next = StopsIn old new Tells cause

-- a line has some output, which the writer may refuse
abbrev pub LineWrites : Session → List ℕ → Type 0
LineWrites session line =
    (text : List ℕ) × (next : Session) × LineGives session line (success text next) × (text ≢ [])

-- A cause with which a line can end a run: none of the reader's, and the writer's only if the line has some output.
abbrev pub IsCauseOfLine : Session → List ℕ → Cause → Type 0
IsCauseOfLine session line (Refused refusal) = ⊤
IsCauseOfLine session line LineTooLong = ⊤
IsCauseOfLine session line Read = ⊥
IsCauseOfLine session line Write = LineWrites session line
IsCauseOfLine session line Memory = ⊤
IsCauseOfLine session line TooManyReads = ⊥
IsCauseOfLine session line Unended = ⊥
