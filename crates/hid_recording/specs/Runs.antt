-- What a run of a recording wrote and answered (our choice: docs/RECORDINGS.md).
use Rattle.std.specs.Prelude.{◌≡◌, ◌⊎◌, ℕ, ◌+◌, ◌-◌, true, List, [], ◌∷◌, ◌++◌, length, Result, Ok, Err, Option, None, is_some, IfSome}
use Rattle.std.specs.Str.Lines.{lines}
use Rattle.std.specs.Io.KnownBytes.{Appends}
use Rattle.hid_text.specs.Output.{IsPrefix}
use Rattle.hid_recording.specs.declared.fault.Cause.{Cause}
use Rattle.hid_recording.specs.declared.fault.Cause.TheVariants.{Refused, LineTooLong, Read, Write, Memory, TooManyReads, Unended}
use Rattle.hid_recording.specs.declared.counted.Counted.TheVariants.{Lines}
use Rattle.hid_recording.specs.declared.options.Options.{Options}
use Rattle.hid_recording.specs.declared.fault.RecordingFault.{RecordingFault}
use Rattle.hid_recording.specs.declared.summary.Summary.{Summary}
use Rattle.hid_recording.specs.Pieces.{IsWholeLines}
use Rattle.hid_recording.specs.Player.{summary_of}
use Rattle.hid_recording.specs.Session.{Session, Outcome, success, at_first}
use Rattle.hid_recording.specs.LineOutput.{LineGives, LineBegins}

-- How a run ends early at a line: it is refused; memory ran out in it; the writer cut its text off; it wasn't run
-- at all; or no line ends so.
pub data Ending : Type 0 where
  RefusedLine : Ending
  OutOfMemory : Ending
  PartlyWritten : Ending
  NotRun : Ending
  Never : Ending

-- the way in which a cause ends a run
unfoldable pub ending_of : Cause → Ending
ending_of (Refused refusal) = RefusedLine
ending_of LineTooLong = RefusedLine
ending_of Memory = OutOfMemory
ending_of Write = PartlyWritten
ending_of Read = NotRun
ending_of TooManyReads = NotRun
ending_of Unended = Never

-- What was written of the line at which the run ended: its text up to its refusal; whole lines at the beginning of its text; a
-- prefix of that; or nothing.
abbrev pub EndsAs : Ending → (Outcome → Type 0) → (List ℕ → Type 0) → List ℕ → Cause → Type 0
EndsAs RefusedLine Tells Begun written cause = Tells (record { text = written; end = Err cause })
EndsAs OutOfMemory Tells Begun written cause =
    (text : List ℕ) × Begun text × IsPrefix written text × IsWholeLines written
EndsAs PartlyWritten Tells Begun written cause = (text : List ℕ) × Begun text × IsPrefix written text
EndsAs NotRun Tells Begun written cause = written ≡ []
EndsAs Never Tells Begun written cause = ⊥

-- what is written of the line at which a run ended, by the cause
abbrev pub Ends : (Outcome → Type 0) → (List ℕ → Type 0) → List ℕ → Cause → Type 0
Ends Tells Begun written cause = EndsAs (ending_of cause) Tells Begun written cause

-- the outcome of the first of these lines
abbrev pub FirstGives : Session → List (List ℕ) → Outcome → Type 0
FirstGives session [] o = ⊥
FirstGives session (line ∷ more) o = LineGives session line o

-- what may be printed of the first of these lines when a run ends in it; nothing where there is none
abbrev pub FirstBegins : Session → List (List ℕ) → List ℕ → Type 0
FirstBegins session [] text = text ≡ []
FirstBegins session (line ∷ more) text = LineBegins session line text

-- all lines of a list are accepted, one after the other, and their texts, joined, are this text
abbrev pub AllGive : Session → List (List ℕ) → List ℕ → Session → Type 0
AllGive session [] text last = (text ≡ []) × (last ≡ session)
AllGive session (line ∷ more) text last =
    (first : List ℕ) × (next : Session) × (rest : List ℕ)
    × LineGives session line (success first next)
    × AllGive next more rest last
    × (text ≡ first ++ rest)

-- All these lines were run, and no dump is open after them. `before` lines came before them. The counts are those of
-- the session after them.
pub record Finishes (session : Session) (recording : List (List ℕ)) (before : ℕ) (written : List ℕ)
    (summary : Summary) : Type 0 where
  pub last : Session
  pub all : AllGive session recording written last
  pub closed : last.gathered.content ≡ None
  pub lines : summary.lines ≡ before + length recording
  pub counts : summary ≡ summary_of last summary.lines

-- what was played before the line at which a run ended
abbrev pub PlayedTo : Session → RecordingFault → Type 0
PlayedTo session fault = fault.played ≡ summary_of session (fault.line - 1)

-- The run ended at the line after the first ones: the whole text of those was written, and what the end leaves of that
-- line's.
pub record Stops (session : Session) (recording : List (List ℕ)) (before : ℕ) (written : List ℕ)
    (fault : RecordingFault) : Type 0 where
  pub first : List (List ℕ)
  pub others : List (List ℕ)
  pub split : recording ≡ first ++ others
  pub line : fault.line ≡ before + length first + 1
  pub text : List ℕ
  pub now : Session
  pub all : AllGive session first text now
  pub played : PlayedTo now fault
  pub part : List ℕ
  pub ends : Ends (FirstGives now others) (FirstBegins now others) part fault.cause
  pub whole : written ≡ text ++ part

-- All these lines were run, and a dump is open after them: the recording broke off in it.
pub record BreaksOff (session : Session) (recording : List (List ℕ)) (before : ℕ) (written : List ℕ)
    (fault : RecordingFault) : Type 0 where
  pub last : Session
  pub all : AllGive session recording written last
  pub unended : is_some last.gathered.content ≡ true
  pub line : fault.line ≡ before + length recording + 1
  pub played : PlayedTo last fault
  pub cause : fault.cause ≡ Unended

-- what a run of these lines wrote and answered
abbrev pub RunsTo : Session → List (List ℕ) → ℕ → List ℕ → Result Summary RecordingFault → Type 0
RunsTo session recording before written (Ok summary) = Finishes session recording before written summary
RunsTo session recording before written (Err fault) =
    Stops session recording before written fault ⊎ BreaksOff session recording before written fault

-- the line at which a run ended: after the last one, where all were run
abbrev pub line_of : Result Summary RecordingFault → ℕ
line_of (Ok summary) = summary.lines + 1
line_of (Err fault) = fault.line

-- what was played when a run ended
abbrev pub summary_until : Result Summary RecordingFault → Summary
summary_until (Ok summary) = summary
summary_until (Err fault) = fault.played

-- the writer's bytes grew by what a run of the reader's bytes writes, if the bytes of both are known
abbrev pub AppendsRecording : Options → Option (List ℕ) → Option (List ℕ) → Option (List ℕ)
    → Result Summary RecordingFault → Type 0
AppendsRecording options reader old new result =
    IfSome reader (λ recording. (written : List ℕ)
    × Appends old new written × RunsTo (at_first options Lines) (lines recording) 0 written result)
