-- The exit status of a run that ended early (our choice: docs/SCRIPT.md).
use Rattle.std.specs.Prelude.{ℕ}
use Rattle.hid_script.specs.declared.fault.Cause.{Cause}
use Rattle.hid_script.specs.declared.fault.Cause.TheVariants.{Syntax, LineTooLong, BadHex, Step, Read, Write, Memory, TooManyReads, NoLayout}

-- the exit status of a run that ended early: 1 if a line of the script is refused, 3 if memory, the reader or the writer
-- failed
abbrev pub status_of : Cause → ℕ
status_of Syntax = 1
status_of LineTooLong = 1
status_of BadHex = 1
status_of (Step fault) = 1
status_of NoLayout = 1
status_of Read = 3
status_of Write = 3
status_of Memory = 3
status_of TooManyReads = 3
