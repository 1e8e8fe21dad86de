-- A recording of which some bytes have come: for proofs (our choice).
use Rattle.std.specs.Prelude.{◌≡◌, ℕ, ◌+◌, true, List, [], ◌++◌, length, IfSome, Option, None, is_some, Result, Ok, Err}
use Rattle.std.specs.Str.Lines.{lines}
use Rattle.std.specs.Io.KnownBytes.{Appends}
use Rattle.hid_text.specs.Lines.{GivesLines}
use Rattle.hid_recording.specs.declared.fault.Cause.{Cause}
use Rattle.hid_recording.specs.declared.fault.Cause.TheVariants.{Unended}
use Rattle.hid_recording.specs.declared.fault.RecordingFault.{RecordingFault}
use Rattle.hid_recording.specs.declared.summary.Summary.{Summary}
use Rattle.hid_recording.specs.Session.{Session, Outcome, success}
use Rattle.hid_recording.specs.Player.{summary_of}
use Rattle.hid_recording.specs.Runs.{AllGive, Ends, PlayedTo, RunsTo}

-- what was written of a line: all of its outcome, or what its end leaves of that
abbrev pub Writes : (Outcome → Type 0) → (List ℕ → Type 0) → List ℕ → Result (Unit {0}) Cause → Session → Type 0
Writes Tells Begun written (Ok _) next = Tells (success written next)
Writes Tells Begun written (Err cause) next = Ends Tells Begun written cause

-- known bytes grew by what was written of a line
abbrev pub AppendsOutput : Option (List ℕ) → Option (List ℕ) → (Outcome → Type 0) → (List ℕ → Type 0)
    → Result (Unit {0}) Cause → Session → Type 0
AppendsOutput old new Tells Begun result next =
    (written : List ℕ) × Appends old new written × Writes Tells Begun written result next

-- the session, the line that has begun, and how many lines came before it
pub record Place : Type 0 where
  pub session : Session
  pub begun : List ℕ
  pub lines : ℕ

-- the lines from here on, where more comes
abbrev pub lines_at : Place → List ℕ → List (List ℕ)
lines_at place more = lines (place.begun ++ more)

-- Some bytes came and a text was written: lines ended in them, whatever comes then, and the text is theirs.
pub record Advances (old : Place) (bytes written : List ℕ) (new : Place) : Type 0 where
  pub ended : List (List ℕ)
  pub all : AllGive old.session ended written new.session
  pub count : new.lines ≡ old.lines + length ended
  pub split : GivesLines old.begun bytes ended new.begun

-- what a run from this place on wrote and answered, where more comes
abbrev pub RunsFrom : Place → List ℕ → List ℕ → Result Summary RecordingFault → Type 0
RunsFrom place more written result = RunsTo place.session (lines_at place more) place.lines written result

-- the bytes were taken, or ended the run, whatever comes then
abbrev pub Takes : Place → List ℕ → List ℕ → Result (Unit {0}) RecordingFault → Place → Type 0
Takes old bytes written (Ok _) new = Advances old bytes written new
Takes old bytes written (Err fault) new = (more : List ℕ) → RunsFrom old (bytes ++ more) written (Err fault)

-- known bytes grew by what was written once these bytes were taken
abbrev pub AppendsTaken : Option (List ℕ) → Option (List ℕ) → Place → List ℕ
    → Result (Unit {0}) RecordingFault → Place → Type 0
AppendsTaken before after old bytes result new =
    (written : List ℕ) × Appends before after written × Takes old bytes written result new

-- what a run gives that ends after n lines; a dump that is open there is a fault
abbrev pub EndsAt : Session → ℕ → Result Summary RecordingFault → Type 0
EndsAt session lines' (Ok summary) =
    (session.gathered.content ≡ None) × (summary.lines ≡ lines') × (summary ≡ summary_of session summary.lines)
EndsAt session lines' (Err fault) =
    (is_some session.gathered.content ≡ true) × (fault.cause ≡ Unended) × (fault.line ≡ lines' + 1)
    × PlayedTo session fault

-- known bytes grew by what was written to the end of a recording that ended here
abbrev pub AppendsRun : Option (List ℕ) → Option (List ℕ) → Place → Result Summary RecordingFault → Type 0
AppendsRun old new place result = (written : List ℕ) × Appends old new written × RunsFrom place [] written result

-- The writer's bytes grew by what a run of the reader's bytes writes from a place on, if the bytes of both are known.
abbrev pub AppendsFrom : Place → Option (List ℕ) → Option (List ℕ) → Option (List ℕ)
    → Result Summary RecordingFault → Type 0
AppendsFrom place reader old new result =
    IfSome reader (λ more. (written : List ℕ) × Appends old new written × RunsFrom place more written result)
