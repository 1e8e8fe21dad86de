-- A text that is written in pieces as it is made: for proofs (our choice).
use Rattle.std.specs.Prelude.{◌≡◌, ◌≢◌, ◌⊎◌, List, [], ◌∷◌, ◌++◌, ℕ, Option, Result, Ok, Err}
use Rattle.std.specs.Io.KnownBytes.{Appends}
use Rattle.hid_text.specs.Output.{IsPrefix}
use Rattle.hid_recording.specs.declared.fault.Cause.{Cause}
use Rattle.hid_recording.specs.declared.fault.Cause.TheVariants as causes
use Rattle.hid_recording.specs.declared.fault.TextFault.{TextFault}
use Rattle.hid_recording.specs.declared.fault.TextFault.TheVariants.{Memory, Write}

-- whole lines of output, or nothing
abbrev pub IsWholeLines : List ℕ → Type 0
IsWholeLines text = (text ≡ []) ⊎ ((before : List ℕ) × (text ≡ before ++ 10 ∷ []))

-- Bytes were added to a text, of which whole lines may have been written: those, and what is left, are the text with the bytes.
pub record Carries (old new : Option (List ℕ)) (text added left : List ℕ) : Type 0 where
  pub written : List ℕ
  pub grew : Appends old new written
  pub lines : IsWholeLines written
  pub all : written ++ left ≡ text ++ added

-- What was written of a text where it was cut off: whole lines if memory ran out, a prefix if the writer failed, which no empty
-- text lets it.
abbrev pub CutsOff : Option (List ℕ) → Option (List ℕ) → List ℕ → TextFault → Type 0
CutsOff old new text Memory =
    (written : List ℕ) × Appends old new written × IsPrefix written text × IsWholeLines written
CutsOff old new text Write =
    (written : List ℕ) × Appends old new written × IsPrefix written text × (text ≢ [])

-- bytes were added to a text that is written in pieces, or it was cut off
abbrev pub Flows : {X : Type 0} → Option (List ℕ) → Option (List ℕ) → List ℕ → List ℕ → Result X TextFault → List ℕ → Type 0
Flows old new text added (Ok _) left = Carries old new text added left
Flows old new text added (Err fault) left = CutsOff old new (text ++ added) fault

-- why a run ends where its text is cut off
abbrev pub cause_of : TextFault → Cause
cause_of Memory = causes.Memory
cause_of Write = causes.Write
