-- What a capture or a live device says to a player, and what is printed of it (our choice: docs/RECORDINGS.md).
use Rattle.std.specs.Prelude.{◌≡◌, ◌⊎◌, ℕ, List, [], ◌∷◌, ◌++◌, Option, Result, Ok, Err}
use Rattle.std.specs.Io.KnownBytes.{Appends}
use Rattle.hid_text.specs.Output.{IsPrefix}
use Rattle.hid_recording.specs.declared.act.Act as declared
use Rattle.hid_recording.specs.declared.act.Act.TheVariants as variants
use Rattle.hid_recording.specs.declared.fault.Cause.{Cause}
use Rattle.hid_recording.specs.declared.fault.Cause.TheVariants as causes
use Rattle.hid_recording.specs.declared.fault.Refusal as refusals
use Rattle.hid_recording.specs.Pieces.{IsWholeLines}
use Rattle.hid_recording.specs.Session.{Session, Outcome, success, failure}
use Rattle.hid_recording.specs.LineOutput.{DescriptionGives, report_outcome, outcome_of_refusal, outcome_of_release}

-- What a frame says: a report descriptor of a numbered device, a report of one, why the frame is refused, or that a device is
-- gone.
pub data Act : Type 0 where
  Descriptor : ℕ → List ℕ → Act
  Report : ℕ → List ℕ → Act
  RefusedFrame : refusals.Refusal → Act
  Disconnection : ℕ → Act

-- an act of the program, with its bytes as a list
abbrev pub act_of : declared.Act → Act
act_of (variants.Descriptor device bytes) = Descriptor device.number bytes.now
act_of (variants.Report device bytes) = Report device.number bytes.now
act_of (variants.RefusedFrame refusal) = RefusedFrame refusal
act_of (variants.Disconnection device) = Disconnection device.number

-- ---- acts

-- what comes next is of this device, at this time
abbrev pub turned_to : Session → ℕ → List ℕ → Session
turned_to session device time = record session { current = device; time = time }

-- the outcome of an act at a time
abbrev pub ActGives : List ℕ → Session → Act → Outcome → Type 0
ActGives time session (Descriptor device bytes) o = DescriptionGives bytes (turned_to session device time) o
ActGives time session (Report device bytes) o = o ≡ report_outcome time bytes (turned_to session device time)
ActGives time session (RefusedFrame refusal) o = o ≡ outcome_of_refusal session refusal
ActGives time session (Disconnection device) o = o ≡ outcome_of_release (turned_to session device time) device

-- acts at a time, one after the other, and their texts, joined, are this text
abbrev pub ActsGive : List ℕ → Session → List Act → List ℕ → Session → Type 0
ActsGive time session [] text last = (text ≡ []) × (last ≡ session)
ActsGive time session (act ∷ more) text last =
    (first : List ℕ) × (next : Session) × (rest : List ℕ)
    × ActGives time session act (success first next)
    × ActsGive time next more rest last
    × (text ≡ first ++ rest)

-- the outcome of the first of these acts
abbrev pub FirstActGives : List ℕ → Session → List Act → Outcome → Type 0
FirstActGives time session [] o = ⊥
FirstActGives time session (act ∷ more) o = ActGives time session act o

-- a prefix of the text of the first of these acts, or nothing
abbrev pub IsPartOfFirst : List ℕ → Session → List Act → List ℕ → Type 0
IsPartOfFirst time session acts part =
    (part ≡ []) ⊎ ((text : List ℕ) × (next : Session)
    × FirstActGives time session acts (success text next) × IsPrefix part text)

-- What is written of the first of these acts, where a run ended in it: nothing of a refusal, whole lines if memory ran out, or
-- what the writer took.
abbrev pub FirstActEnds : List ℕ → Session → List Act → List ℕ → Cause → Type 0
FirstActEnds time session acts part (causes.Refused refusal) =
    (part ≡ []) × FirstActGives time session acts (failure (causes.Refused refusal))
FirstActEnds time session acts part causes.Memory = IsPartOfFirst time session acts part × IsWholeLines part
FirstActEnds time session acts part causes.Write = IsPartOfFirst time session acts part
FirstActEnds time session acts part causes.LineTooLong = ⊥
FirstActEnds time session acts part causes.Read = ⊥
FirstActEnds time session acts part causes.TooManyReads = ⊥
FirstActEnds time session acts part causes.Unended = ⊥

-- A run ended in one of these acts: the whole text of those before it was written, and what the end leaves of that one's.
pub record ActsEnd (time : List ℕ) (session : Session) (acts : List Act) (written : List ℕ) (cause : Cause) : Type 0 where
  pub first : List Act
  pub others : List Act
  pub split : acts ≡ first ++ others
  pub text : List ℕ
  pub now : Session
  pub told : ActsGive time session first text now
  pub part : List ℕ
  pub ends : FirstActEnds time now others part cause
  pub whole : written ≡ text ++ part

-- what was written of acts: all of their text, or what their end leaves of it
abbrev pub WritesActs : List ℕ → Session → List Act → List ℕ → Result (Unit {0}) Cause → Session → Type 0
WritesActs time session acts written (Ok _) next = ActsGive time session acts written next
WritesActs time session acts written (Err cause) next = ActsEnd time session acts written cause

-- known bytes grew by what was written of acts
abbrev pub AppendsActs : Option (List ℕ) → Option (List ℕ) → List ℕ → Session → List Act → Result (Unit {0}) Cause
    → Session → Type 0
AppendsActs old new time session acts result next =
    (written : List ℕ) × Appends old new written × WritesActs time session acts written result next
