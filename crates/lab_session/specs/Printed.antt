-- How the text of a part is printed (our choice: docs/LAB.md).
use Rattle.std.specs.Prelude.{◌≡◌, ◌||◌, ℕ, Bool, false, List, [], Option, Result, Ok, Err}
use Rattle.std.specs.Io.KnownBytes.{Appends}
use Rattle.hid_text.specs.Output.{AppendsPrefix}
use Rattle.hid_script.specs.declared.fault.Cause.{Cause}
use Rattle.hid_script.specs.declared.fault.Cause.TheVariants.{Memory, Write}
use Rattle.lab_session.specs.declared.options.LabOptions.{LabOptions}

-- lines are printed otherwise than the interpreter prints them
abbrev pub is_styled : LabOptions → Bool
is_styled options = options.names || options.places || options.json

-- lines are printed as the interpreter of scripts prints them without its trace, and polls aren't counted
pub record IsPlain (options : LabOptions) : Type 0 where
  pub style : is_styled options ≡ false
  pub trace : options.trace ≡ false
  pub summary : options.summary ≡ false

-- what was written of a text: all of it; nothing where memory ran out; or what the writer took of it
abbrev pub WritesText : Option (List ℕ) → Option (List ℕ) → List ℕ → Result (Unit {0}) Cause → Type 0
WritesText old new text (Ok _) = Appends old new text
WritesText old new text (Err Memory) = Appends old new []
WritesText old new text (Err Write) = AppendsPrefix old new text
WritesText old new text (Err _) = ⊥

-- how a part ends once its text is printed: as it ended, unless its text wasn't printed whole
abbrev pub end_after : Result (Unit {0}) Cause → Result (Unit {0}) Cause → Result (Unit {0}) Cause
end_after (Ok _) part = part
end_after (Err cause) part = Err cause

-- What was written of a part whose text was kept first. Where there was no room to keep it, nothing is.
abbrev pub PrintsPart : Option (List ℕ) → Option (List ℕ) → List ℕ → Result (Unit {0}) Cause → Result (Unit {0}) Cause
    → Type 0
PrintsPart old new text (Err Write) result = Appends old new [] × (result ≡ Err Memory)
PrintsPart old new text part result =
    (printed : Result (Unit {0}) Cause) × WritesText old new text printed × (result ≡ end_after printed part)

-- why a part ended early whose text was kept first
abbrev pub kept_cause : Cause → Cause
kept_cause Write = Memory
kept_cause cause = cause
