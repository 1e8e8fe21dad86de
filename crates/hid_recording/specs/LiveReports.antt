-- The reports of a live device, one of each read (our choice: docs/RECORDINGS.md).
use Rattle.std.specs.Prelude.{⊤, ◌≡◌, ℕ, ◌≤◌, List, [], ◌∷◌, take, Option, None, Some}
use Rattle.hid_recording.specs.declared.live.Received.{Received}
use Rattle.hid_recording.specs.declared.live.Received.TheVariants.{Report, Gone, Failed}

-- a report: when it was read, and its bytes
pub record TimedReport : Type 0 where
  pub time : ℕ
  pub bytes : List ℕ

-- a report of these bytes at a time
abbrev pub timed_report : ℕ → List ℕ → TimedReport
timed_report time bytes = record { time = time; bytes = bytes }

-- a report lies in a buffer of this length
abbrev pub IsWithin : Received → ℕ → Type 0
IsWithin (Report n time) room = n ≤ room
IsWithin (Gone time) room = ⊤
IsWithin Failed room = ⊤

-- of known reports the first one came, with its bytes at the front of the buffer; or none is left; or none came
abbrev pub Receives : Option (List TimedReport) → Option (List TimedReport) → Received → List ℕ → Type 0
Receives None new received buffer = ⊤
Receives (Some sent) None received buffer = ⊥
Receives (Some sent) (Some left) (Report n time) buffer = sent ≡ timed_report time (take n buffer) ∷ left
Receives (Some sent) (Some left) (Gone time) buffer = sent ≡ []
Receives (Some sent) (Some left) Failed buffer = left ≡ sent
