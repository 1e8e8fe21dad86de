-- What lines ask for that the bench doesn't have, and why lines can't be read (our choice: docs/LAB.md).
use Rattle.std.specs.Prelude.{Option, None, Some}
use Rattle.hid_script.specs.declared.fault.Cause.{Cause}
use Rattle.hid_script.specs.declared.fault.Cause.TheVariants.{Syntax, LineTooLong}
use Rattle.lab_lines.specs.LabLines.{Said, Refusal, TooLong, Wrong}
use Rattle.lab_lines.specs.LabLines as lab
use Rattle.lab_session.specs.declared.asked.Asked.{Asked}
use Rattle.lab_session.specs.declared.asked.Asked.TheVariants as asks

-- the line that asks for this
abbrev pub asked_said : Asked → Said
asked_said (asks.Repeat count) = lab.Repeat count
asked_said asks.End = lab.End
asked_said (asks.Include name) = lab.Include name.now
asked_said (asks.Device start boot name) = lab.DeviceFile start boot name.now

-- `repeat`, `end`, `include` and a descriptor in a file ask for other lines, or for a file; no other line does
abbrev pub asked_by : Said → Option Said
asked_by (lab.Repeat count) = Some (lab.Repeat count)
asked_by lab.End = Some lab.End
asked_by (lab.Include name) = Some (lab.Include name)
asked_by (lab.DeviceFile start boot name) = Some (lab.DeviceFile start boot name)
asked_by _ = None

-- the cause of a line that can't be read: X2 where it is too long, else X1
abbrev pub cause_by : Refusal → Cause
cause_by TooLong = LineTooLong
cause_by (Wrong word expected) = Syntax
