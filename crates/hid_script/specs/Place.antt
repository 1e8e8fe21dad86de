-- A script of which some bytes have come: for proofs (our choice).
use Rattle.std.specs.Prelude.{◌≡◌, ◌⊎◌, ℕ, ◌+◌, List, [], ◌++◌, length, IfSome, Option, Result, Ok, Err}
use Rattle.std.specs.Str.Lines.{lines}
use Rattle.std.specs.Io.KnownBytes.{Appends}
use Rattle.hid_text.specs.Lines.{GivesLines}
use Rattle.hid_text.specs.Output.{IsPrefix}
use Rattle.hid_script.specs.declared.fault.Cause.{Cause}
use Rattle.hid_script.specs.declared.fault.ScriptFault.{ScriptFault}
use Rattle.hid_script.specs.declared.summary.Summary.{Summary}
use Rattle.hid_script.specs.Session.{Session, Outcome, success}
use Rattle.hid_script.specs.Runs.{Ending, RefusedLine, OutOfMemory, PartlyWritten, NotRun, ending_of, AllPrint, Ends, RunsTo}

-- what was written of a line: all of its outcome, or what its end leaves of that
abbrev pub Writes : (Outcome → Type 0) → (List ℕ → Type 0) → List ℕ → Result (Unit {0}) Cause → Session → Type 0
Writes Tells Begun written (Ok _) next = Tells (success written next)
Writes Tells Begun written (Err cause) next = Ends Tells Begun written cause

-- known bytes grew by what was written of a line
abbrev pub AppendsOutput : Option (List ℕ) → Option (List ℕ) → (Outcome → Type 0) → (List ℕ → Type 0)
    → Result (Unit {0}) Cause → Session → Type 0
AppendsOutput old new Tells Begun result next =
    (written : List ℕ) × Appends old new written × Writes Tells Begun written result next

-- what was written of a part that is reported once: nothing, or all
abbrev pub IsBegun : (Outcome → Type 0) → List ℕ → Type 0
IsBegun Tells text = (text ≡ []) ⊎ ((next : Session) × Tells (success text next))

-- what its end leaves of a part that is reported once; a read that failed doesn't end one
abbrev pub OnceEndsAs : Ending → (Outcome → Type 0) → List ℕ → Cause → Type 0
OnceEndsAs RefusedLine Tells written cause = Tells (record { text = written; end = Err cause })
OnceEndsAs OutOfMemory Tells written cause = IsBegun Tells written
OnceEndsAs PartlyWritten Tells written cause = (text : List ℕ) × IsBegun Tells text × IsPrefix written text
OnceEndsAs NotRun Tells written cause = ⊥

-- the end of a part, without what it gave
abbrev pub end_of : {A : Type 0} → Result A Cause → Result (Unit {0}) Cause
end_of (Ok _) = Ok tt
end_of (Err cause) = Err cause

-- what was written of a part that is reported once
abbrev pub WritesOnce : (Outcome → Type 0) → List ℕ → Result (Unit {0}) Cause → Session → Type 0
WritesOnce Tells written (Ok _) next = Tells (success written next)
WritesOnce Tells written (Err cause) next = OnceEndsAs (ending_of cause) Tells written cause

-- known bytes grew by what was written of a part that is reported once
abbrev pub AppendsOnce : Option (List ℕ) → Option (List ℕ) → (Outcome → Type 0)
    → Result (Unit {0}) Cause → Session → Type 0
AppendsOnce old new Tells result next =
    (written : List ℕ) × Appends old new written × WritesOnce Tells written result next

-- the session, the line that has begun, and how many lines came before it
pub record Place : Type 0 where
  pub session : Session
  pub begun : List ℕ
  pub lines : ℕ

-- the lines from here on, where more comes
abbrev pub lines_at : Place → List ℕ → List (List ℕ)
lines_at place more = lines (place.begun ++ more)

-- Some bytes came and a text was written: lines ended in them, whatever comes then, and the text is theirs.
pub record Advances (old : Place) (bytes written : List ℕ) (new : Place) : Type 0 where
  pub ended : List (List ℕ)
  pub all : AllPrint old.session ended written new.session
  pub count : new.lines ≡ old.lines + length ended
  pub split : GivesLines old.begun bytes ended new.begun

-- what a run from a place on wrote and answered, where more bytes come
abbrev pub RunsFrom : Place → List ℕ → List ℕ → Result Summary ScriptFault → Type 0
RunsFrom place more written result = RunsTo place.session (lines_at place more) place.lines written result

-- some bytes were taken, or ended the run, whatever bytes follow
abbrev pub Takes : Place → List ℕ → List ℕ → Result (Unit {0}) ScriptFault → Place → Type 0
Takes old bytes written (Ok _) new = Advances old bytes written new
Takes old bytes written (Err fault) new = (more : List ℕ) → RunsFrom old (bytes ++ more) written (Err fault)

-- known bytes grew by what was written once these bytes were taken
abbrev pub AppendsTaken : Option (List ℕ) → Option (List ℕ) → Place → List ℕ
    → Result (Unit {0}) ScriptFault → Place → Type 0
AppendsTaken before after old bytes result new =
    (written : List ℕ) × Appends before after written × Takes old bytes written result new

-- known bytes grew by what was written from a place to the end of a script that ended there
abbrev pub AppendsRun : Option (List ℕ) → Option (List ℕ) → Place → Result Summary ScriptFault → Type 0
AppendsRun old new place result = (written : List ℕ) × Appends old new written × RunsFrom place [] written result

-- The writer's bytes grew by what a run of the reader's bytes writes from a place on, if the bytes of both are known.
abbrev pub AppendsFrom : Place → Option (List ℕ) → Option (List ℕ) → Option (List ℕ)
    → Result Summary ScriptFault → Type 0
AppendsFrom place reader old new result =
    IfSome reader (λ more. (written : List ℕ) × Appends old new written × RunsFrom place more written result)
