-- Output reports that a program asks an interface to take, as LEDs (HID 1.11, 7.2.2; our choice: docs/USBIP.md).
use Rattle.std.specs.Prelude.{◌≡◌, ℕ, ◌+◌, Bool, false, if◌then◌else◌, List, [], ◌∷◌, slice_get, Option, Some, None, Result}
use Rattle.std.specs.List.{list_any}
use Rattle.hid_report_descriptor.specs.declared.report.ReportKind.TheVariants.{Output}
use Rattle.hid_layout.specs.Layout.{Contents}
use Rattle.hid_driver.specs.declared.ask.Ask.{Ask}
use Rattle.hid_driver.specs.declared.ask.Ask.TheVariants.{GetReport, SetReport, Idle}
use Rattle.hid_driver.specs.declared.fault.DriverFault.{DriverFault}
use Rattle.hid_driver.specs.declared.interface.Interface.{Interface}
use Rattle.hid_driver.specs.Asking.{is_report}
use Rattle.hid_driver.specs.Driver.{DriverValue, ask_answer, ask_outcome, driver_after_ask}
use Rattle.hid_driver.specs.Interfaces.{pipe_of}
use Rattle.hid_driver.specs.Pipe.{PipeState}
use Rattle.usbip_session.specs.Session.{SessionState}

-- the first of these bytes, or 0
abbrev pub first_or_zero : List ℕ → ℕ
first_or_zero [] = 0
first_or_zero (byte ∷ bytes) = byte

-- the ID of an Output report with these bytes: the first one, where reports have one (5.6)
abbrev pub output_id : Contents → List ℕ → ℕ
output_id layout bytes = if layout.numbered then first_or_zero bytes else 0

-- the ID, by what the reports of an interface come out of
abbrev pub output_id_of_pipe : Option PipeState → List ℕ → ℕ
output_id_of_pipe None bytes = 0
output_id_of_pipe (Some pipe) bytes = output_id pipe.receiving.layout bytes

-- the ID of an Output report of an interface
abbrev pub output_id_of : Interface → List ℕ → ℕ
output_id_of interface bytes = output_id_of_pipe (pipe_of interface.reading) bytes

-- the ID, of an interface that may be there
abbrev pub output_id_if : Option Interface → List ℕ → ℕ
output_id_if None bytes = 0
output_id_if (Some interface) bytes = output_id_of interface bytes

-- The ID of an Output report of the interface at this place; 0 where none is there.
abbrev pub output_id_at : DriverValue → ℕ → List ℕ → ℕ
output_id_at driver place bytes = output_id_if (slice_get driver.interfaces place) bytes

-- a layout has an Output report with these bytes, by its ID
abbrev pub has_output_in : Contents → List ℕ → Bool
has_output_in layout bytes = list_any (is_report Output (output_id layout bytes)) layout.reports

-- what the reports of an interface come out of has such an Output report
abbrev pub has_output_of : List ℕ → Option PipeState → Bool
has_output_of bytes None = false
has_output_of bytes (Some pipe) = has_output_in pipe.receiving.layout bytes

-- an interface has an Output report with these bytes
abbrev pub has_output : List ℕ → Interface → Bool
has_output bytes interface = has_output_of bytes (pipe_of interface.reading)

-- the first of these interfaces with such an Output report, where the first one stands at `place`; none: 0
abbrev pub first_from : ℕ → List ℕ → List Interface → ℕ
first_from place bytes [] = 0
first_from place bytes (interface ∷ rest) = if has_output bytes interface then place else first_from (place + 1) bytes rest

-- The place of the first interface that has an Output report with these bytes; 0 where none has.
abbrev pub first_with_output : List Interface → List ℕ → ℕ
first_with_output interfaces bytes = first_from 0 bytes interfaces

-- The interface that is asked: the one that is named, else the first that has such a report.
abbrev pub place_of : Option ℕ → DriverValue → List ℕ → ℕ
place_of None driver bytes = first_with_output driver.interfaces bytes
place_of (Some place) driver bytes = place

-- to take an Output report with this ID and these bytes
abbrev pub IsOutput : ℕ → List ℕ → Ask → Type 0
IsOutput id bytes (SetReport kind asked given) = (kind ≡ Output) × (asked ≡ id) × (given.now ≡ bytes)
IsOutput id bytes (GetReport kind asked) = ⊥
IsOutput id bytes (Idle asked time) = ⊥

-- What asking the interface at a place returns and leaves: that of the driver's ask to take the report.
pub record Asks (place : ℕ) (bytes : List ℕ) (before : SessionState) (result : Result (Unit {0}) DriverFault)
    (after : SessionState) : Type 0 where
  pub ask : Ask
  pub output : IsOutput (output_id_at before.import.driver place bytes) bytes ask
  pub answer : result ≡ ask_outcome (ask_answer before.import.driver place ask)
  pub left : after ≡ record before {
    import = record before.import { driver = driver_after_ask before.import.driver place ask };
  }
