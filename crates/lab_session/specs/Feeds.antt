-- Bytes that come, and the lines that are carried out of them (our choice: docs/LAB.md).
use Rattle.std.specs.Prelude.{◌≡◌, ◌⊎◌, ◌+◌, ◌-◌, ◌^◌, ◌<◌, ℕ, Bool, true, false, List, [], ◌∷◌, ◌++◌, length, min, Option, Result, Ok, Err}
use Rattle.std.specs.Io.KnownBytes.{Consumes, IsAtEnd}
use Rattle.std.specs.Str.Lines.{lines}
use Rattle.hid_text.specs.Lines.{IsUnbroken}
use Rattle.hid_script.specs.declared.fault.Cause.{Cause}
use Rattle.hid_script.specs.declared.fault.Cause.TheVariants as causes
use Rattle.lab_lines.specs.LabLines.{Said}
use Rattle.lab_lines.specs.LabLines as lab
use Rattle.lab_session.specs.declared.fault.LabCause.TheVariants.{Script}
use Rattle.lab_session.specs.declared.need.Need.{Need}
use Rattle.lab_session.specs.declared.need.Need.TheVariants as needs
use Rattle.lab_session.specs.declared.runs.LabFault.{LabFault}

-- Bytes that were to come stand after what a room had; where no more may come none did, and none is left.
abbrev pub Feeds : Option (List ℕ) → Option (List ℕ) → List ℕ → List ℕ → Bool → Type 0
Feeds before after old new more =
    (given : List ℕ) × Consumes before after given × (new ≡ old ++ given)
    × (more ≡ false → (given ≡ []) × IsAtEnd after)

-- The first line of some bytes was taken, whatever comes after them, and other bytes are left; or no line ends in them, and none was
-- taken.
abbrev pub TakesWholeLine : List ℕ → List ℕ → List ℕ → Bool → Type 0
TakesWholeLine bytes line left true = (more : List ℕ) → lines (bytes ++ more) ≡ line ∷ lines (left ++ more)
TakesWholeLine bytes line left false = IsUnbroken bytes × (line ≡ []) × (left ≡ bytes)

-- The first line of some bytes was taken, after which no others come, and other bytes are left; or they have no line.
abbrev pub TakesLine : List ℕ → List ℕ → List ℕ → Bool → Type 0
TakesLine bytes line left true = lines bytes ≡ line ∷ lines left
TakesLine bytes line left false = lines bytes ≡ []

-- a cause that no line has: memory, the reader or the writer
abbrev pub IsOutside : Cause → Type 0
IsOutside causes.Memory = Unit {0}
IsOutside causes.Write = Unit {0}
IsOutside causes.Read = Unit {0}
IsOutside causes.TooManyReads = Unit {0}
IsOutside _ = ⊥

-- A read ended the run before the next line of these bytes, with so many lines before it: that line is too long, or memory, the
-- reader or the writer ended it.
abbrev pub EndsReading : List ℕ → ℕ → LabFault → Type 0
EndsReading rest count fault =
    (fault.line ≡ count + 1) × (cause : Cause) × (fault.cause ≡ Script cause)
    × (IsOutside cause ⊎ ((cause ≡ causes.LineTooLong) × (16385 < length rest)))

-- Over 16,385 bytes of the next line came, and not its end: of these bytes, and of those that were to come.
abbrev pub BeginsTooLong : List ℕ → Option (List ℕ) → Type 0
BeginsTooLong rest before =
    (read : List ℕ) × (after : Option (List ℕ)) × Consumes before after read × IsUnbroken (rest ++ read)
    × (16385 < length (rest ++ read))

-- No line was taken of these bytes and of those that were to come, with so many lines before them: the next one is too long, or
-- memory, the reader or the writer ended it.
abbrev pub EndsTaking : List ℕ → Option (List ℕ) → ℕ → LabFault → Type 0
EndsTaking rest before count fault =
    (fault.line ≡ count + 1) × (cause : Cause) × (fault.cause ≡ Script cause)
    × (IsOutside cause ⊎ ((cause ≡ causes.LineTooLong) × BeginsTooLong rest before))

-- how many lines were taken, with one more where there was one; the count stops before the greatest number
abbrev pub lines_after : ℕ → Result Bool LabFault → ℕ
lines_after count (Ok true) = min (count + 1) (2 ^ 64 - 2)
lines_after count (Ok false) = count
lines_after count (Err fault) = count

-- the line that needs this
abbrev pub need_said : Need → Said
need_said (needs.Repeat count) = lab.Repeat count
need_said needs.End = lab.End
need_said (needs.Include name) = lab.Include name.items
need_said (needs.Device start boot name) = lab.DeviceFile start boot name.items
