-- The lines of Output reports that take effect (our choice: docs/LAB.md; USB HID 1.11, 7.2.2).
use Rattle.std.specs.Prelude.{◌≡◌, ℕ, nat_lt, List, [], ◌∷◌, ◌++◌, drop, codes, if◌then◌else◌, Option, None, Some, slice_get}
use Rattle.std.specs.Fmt.{decimal}
use Rattle.hid_report_descriptor.specs.declared.report.ReportKind.TheVariants.{Output}
use Rattle.hid_requests.specs.declared.request.Request.{Request}
use Rattle.hid_requests.specs.declared.request.Request.TheVariants.{SetReport}
use Rattle.hid_notation.specs.Text.{bytes_text}
use Rattle.hid_text.specs.declared.line.Line.{Line}
use Rattle.hid_text.specs.declared.line.Line.TheVariants.{Begin}
use Rattle.hid_text.specs.declared.short.ShortLine.{ShortLine}
use Rattle.hid_text.specs.declared.short.ShortLine.TheVariants as short
use Rattle.lab_session.specs.declared.outputs.Outputs.{Outputs}
use Rattle.lab_session.specs.declared.outputs.PendingOutput.{PendingOutput}

-- an Output report that a request is to set: its ID, 0 where it has none, and its bytes, the ID first where it has one
pub record SetOutput : Type 0 where
  pub id : ℕ
  pub bytes : List ℕ

-- the Output report that a request is to set, if it is one that sets one
abbrev pub output_set_by : Request → Option SetOutput
output_set_by (SetReport Output id bytes) = Some (record { id = id; bytes = bytes.items })
output_set_by request = None

-- the Output report that a request is to set, as it is kept
abbrev pub output_of_pending : Option PendingOutput → Option SetOutput
output_of_pending (Some pending) = Some (record { id = pending.id; bytes = pending.bytes.items })
output_of_pending None = None

-- what is kept at a place, if there is such a place
abbrev pub output_at_place : Option (Option PendingOutput) → Option SetOutput
output_at_place (Some pending) = output_of_pending pending
output_at_place None = None

-- the Output report that the request of this device is to set that began last, if it is one that sets one
abbrev pub awaited_at : Outputs → ℕ → Option SetOutput
awaited_at outputs dev = output_at_place (slice_get outputs.pending dev)

-- a short line tries nothing of a device of which an Output report is awaited
abbrev pub SetsNoOutput : Outputs → ShortLine → Type 0
SetsNoOutput outputs (short.Control dev fate count) = awaited_at outputs dev ≡ None
SetsNoOutput outputs said = Unit {0}

-- a line begins a request of this device
abbrev pub BeginsRequestOf : Line → ℕ → Type 0
BeginsRequestOf line dev = (request : Request) × (line ≡ Begin dev request)

-- the bytes after the ID byte, where reports have IDs
abbrev pub after_id : ℕ → List ℕ → List ℕ
after_id id bytes = if nat_lt 0 id then drop 1 bytes else bytes

-- the line of an Output report: D output ID HEX. Example: 1 output 0 02
abbrev pub output_text : ℕ → ℕ → List ℕ → List ℕ
output_text dev id bytes = decimal dev ++ codes " output " ++ decimal id ++ bytes_text (after_id id bytes) ++ 10 ∷ []

-- a text is the line of the Output report that is awaited of this device
abbrev pub IsAwaited : Option SetOutput → ℕ → List ℕ → Type 0
IsAwaited None dev text = ⊥
IsAwaited (Some output) dev text = text ≡ output_text dev output.id output.bytes
