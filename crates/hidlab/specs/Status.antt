-- The exit status of a run that ended early (our choice: docs/LAB.md).
use Rattle.std.specs.Prelude.{ℕ}
use Rattle.hid_script.specs.declared.fault.Cause.{Cause}
use Rattle.hid_script.specs.declared.fault.Cause.TheVariants.{Syntax, LineTooLong, BadHex, Step, Read, Write, Memory, TooManyReads, NoLayout}
use Rattle.lab_session.specs.declared.fault.LabCause.{LabCause}
use Rattle.lab_session.specs.declared.fault.LabCause.TheVariants.{Script, Unpaired, TooDeep, Unsettled, Unmet, Unreadable, NoDescriptor}

-- the exit status of a cause that a script has too: 1 if a line is refused, 3 if memory, the reader or the writer failed
abbrev pub status_of_script : Cause → ℕ
status_of_script Syntax = 1
status_of_script LineTooLong = 1
status_of_script BadHex = 1
status_of_script (Step fault) = 1
status_of_script NoLayout = 1
status_of_script Read = 3
status_of_script Write = 3
status_of_script Memory = 3
status_of_script TooManyReads = 3

-- the exit status of a run that ended early: that of a script; 3 also where a file can't be read, and 4 where what is expected
-- wasn't printed
abbrev pub status_of : LabCause → ℕ
status_of (Script cause) = status_of_script cause
status_of Unpaired = 1
status_of TooDeep = 1
status_of Unsettled = 1
status_of NoDescriptor = 1
status_of Unreadable = 3
status_of Unmet = 4
