-- What a run of a script wrote and answered (our choice: docs/SCRIPT.md).
use Rattle.std.specs.Prelude.{◌≡◌, ℕ, ◌+◌, List, [], ◌∷◌, ◌++◌, length, Result, Ok, Err, Option, IfSome}
use Rattle.std.specs.Str.Lines.{lines}
use Rattle.std.specs.Io.KnownBytes.{Appends}
use Rattle.hid_text.specs.Output.{IsPrefix}
use Rattle.hid_script.specs.declared.fault.Cause.{Cause}
use Rattle.hid_script.specs.declared.fault.Cause.TheVariants.{Syntax, LineTooLong, BadHex, Step, Read, Write, Memory, TooManyReads, NoLayout}
use Rattle.hid_script.specs.declared.options.Options.{Options}
use Rattle.hid_script.specs.declared.fault.ScriptFault.{ScriptFault}
use Rattle.hid_script.specs.declared.summary.Summary.{Summary}
use Rattle.hid_script.specs.Session.{Session, Outcome, success, at_first}
use Rattle.hid_script.specs.LineOutput.{LinePrints, LineBegins}

-- How a run ends early: its line is refused; memory ran out in it; the writer cut its text off; or it wasn't run
-- at all.
pub data Ending : Type 0 where
  RefusedLine : Ending
  OutOfMemory : Ending
  PartlyWritten : Ending
  NotRun : Ending

-- the way in which a cause ends a run
unfoldable pub ending_of : Cause → Ending
ending_of Syntax = RefusedLine
ending_of LineTooLong = RefusedLine
ending_of BadHex = RefusedLine
ending_of (Step fault) = RefusedLine
ending_of NoLayout = RefusedLine
ending_of Memory = OutOfMemory
ending_of Write = PartlyWritten
ending_of Read = NotRun
ending_of TooManyReads = NotRun

-- What was written of the line at which the run ended: its text up to its refusal; the text of its first times; a prefix
-- of that; or nothing.
abbrev pub EndsAs : Ending → (Outcome → Type 0) → (List ℕ → Type 0) → List ℕ → Cause → Type 0
EndsAs RefusedLine Tells Begun written cause = Tells (record { text = written; end = Err cause })
EndsAs OutOfMemory Tells Begun written cause = Begun written
EndsAs PartlyWritten Tells Begun written cause = (text : List ℕ) × Begun text × IsPrefix written text
EndsAs NotRun Tells Begun written cause = written ≡ []

-- what is written of the line at which a run ended, by the cause
abbrev pub Ends : (Outcome → Type 0) → (List ℕ → Type 0) → List ℕ → Cause → Type 0
Ends Tells Begun written cause = EndsAs (ending_of cause) Tells Begun written cause

-- the outcome of the first of these lines
abbrev pub FirstPrints : Session → List (List ℕ) → Outcome → Type 0
FirstPrints session [] o = ⊥
FirstPrints session (line ∷ more) o = LinePrints session line o

-- what may be printed of the first of these lines when a run ends in it; nothing where there is none
abbrev pub FirstBegins : Session → List (List ℕ) → List ℕ → Type 0
FirstBegins session [] text = text ≡ []
FirstBegins session (line ∷ more) text = LineBegins session line text

-- all lines of a list are accepted, one after the other, and their texts, joined, are this text
abbrev pub AllPrint : Session → List (List ℕ) → List ℕ → Session → Type 0
AllPrint session [] text last = (text ≡ []) × (last ≡ session)
AllPrint session (line ∷ more) text last =
    (first : List ℕ) × (next : Session) × (rest : List ℕ)
    × LinePrints session line (success first next)
    × AllPrint next more rest last
    × (text ≡ first ++ rest)

-- All lines of a script were run. The summary counts them, with this many lines before them, and the events that were
-- delivered.
pub record Finishes (session : Session) (script : List (List ℕ)) (before : ℕ) (written : List ℕ)
    (summary : Summary) : Type 0 where
  pub last : Session
  pub all : AllPrint session script written last
  pub lines : summary.lines ≡ before + length script
  pub events : summary.events ≡ last.events

-- A run ended at the line after the first ones: the whole text of the first lines was written, and what the end leaves
-- of the text of that line.
pub record Stops (session : Session) (script : List (List ℕ)) (before : ℕ) (written : List ℕ)
    (fault : ScriptFault) : Type 0 where
  pub first : List (List ℕ)
  pub others : List (List ℕ)
  pub split : script ≡ first ++ others
  pub line : fault.line ≡ before + length first + 1
  pub text : List ℕ
  pub now : Session
  pub all : AllPrint session first text now
  pub part : List ℕ
  pub ends : Ends (FirstPrints now others) (FirstBegins now others) part fault.cause
  pub whole : written ≡ text ++ part

-- what a run of these lines wrote and answered
abbrev pub RunsTo : Session → List (List ℕ) → ℕ → List ℕ → Result Summary ScriptFault → Type 0
RunsTo session script before written (Ok summary) = Finishes session script before written summary
RunsTo session script before written (Err fault) = Stops session script before written fault

-- the line at which a run ended, or the one after the last if all were run
abbrev pub line_of : Result Summary ScriptFault → ℕ
line_of (Ok summary) = summary.lines + 1
line_of (Err fault) = fault.line

-- the writer's bytes grew by what a run of the reader's bytes writes, if the bytes of both are known
abbrev pub AppendsScript : Options → Option (List ℕ) → Option (List ℕ) → Option (List ℕ)
    → Result Summary ScriptFault → Type 0
AppendsScript options reader old new result =
    IfSome reader (λ script. (written : List ℕ)
    × Appends old new written × RunsTo (at_first options) (lines script) 0 written result)
