-- Reports written: which report has a kind and an ID, and a number in its bytes (HID 1.11, 5.6 and 5.8).
use Rattle.std.specs.Prelude.{◌≡◌, ℕ, ◌<◌, ◌≤◌, ◌==◌, ◌&&◌, ◌⊎◌, Bool, List, length, Result, Ok, Err, ℤ}
use Rattle.hid_fields.specs.Field.{bit_of, IsOutside}
use Rattle.hid_fields.specs.Value.{FitsField}
use Rattle.hid_report_descriptor.specs.declared.report.Report.{Report}
use Rattle.hid_report_descriptor.specs.Kinds.{rank}
use Rattle.hid_snapshots.specs.declared.fault.ReportFault.TheVariants.{Short, UnknownReport}
use Rattle.hidstack_session.specs.declared.element.HidElement.{HidElement}
use Rattle.hidstack_session.specs.declared.writing.PutFault.{PutFault}
use Rattle.hidstack_session.specs.declared.writing.PutFault.TheVariants.{Refused, OutOfRange}
use Rattle.hidstack_session.specs.Elements.{HoldsNumber, IsNamed, LiesIn, is_signed}

-- a report of this kind, 0 Input, 1 Output, 2 Feature, and this ID
abbrev pub is_report_named : ℕ → ℕ → Report → Bool
is_report_named kind id report = (rank report.kind == kind) && (report.id == id)

-- an element lies in the bytes of a report, and after the Report ID where it has one
abbrev pub LiesInData : HidElement → List ℕ → Type 0
LiesInData element bytes = LiesIn element bytes × ((element.report ≡ 0) ⊎ (8 ≤ element.bit))

-- the element has a pattern for the number
abbrev pub HasPattern : HidElement → ℤ → Type 0
HasPattern element value = FitsField value element.width (is_signed element)

-- The number is written: read again it is the same, and all bits outside of the element are as before. Else why it isn't,
-- and the bytes stay. Example: -127 at bit 16 of 05 7F 00 makes it 05 7F 81
abbrev pub PutsNumber : HidElement → ℤ → List ℕ → Result (Unit {0}) PutFault → List ℕ → Type 0
PutsNumber element value bytes (Ok put) bytes' =
    LiesInData element bytes × IsNamed element bytes
    × HoldsNumber element bytes' (Ok value) × (length bytes' ≡ length bytes)
    × ((n : ℕ) → IsOutside element.bit element.width n → bit_of bytes' n ≡ bit_of bytes n)
PutsNumber element value bytes (Err (Refused Short)) bytes' = (LiesInData element bytes → ⊥) × (bytes' ≡ bytes)
PutsNumber element value bytes (Err (Refused UnknownReport)) bytes' =
    LiesInData element bytes × (IsNamed element bytes → ⊥) × (bytes' ≡ bytes)
PutsNumber element value bytes (Err OutOfRange) bytes' =
    LiesInData element bytes × IsNamed element bytes × (HasPattern element value → ⊥) × (bytes' ≡ bytes)
