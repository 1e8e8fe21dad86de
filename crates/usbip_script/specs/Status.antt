-- The exit status of serving that ended early (our choice: docs/USBIP.md).
use Rattle.std.specs.Prelude.{ℕ}
use Rattle.usbip_script.specs.declared.fault.LineCause.{LineCause}
use Rattle.usbip_script.specs.declared.fault.LineCause.TheVariants.{Text, NoDevice, Change, Device, TooManyDevices, NotServed, TooLong, Unmet}
use Rattle.usbip_script.specs.declared.fault.ServeFault.{ServeFault}
use Rattle.usbip_script.specs.declared.fault.ServeFault.TheVariants.{Line, Message, NoDevices, HalfMessage, Script, Memory, Input, Output, Full, Told, Clock}
use Rattle.usbip_script.specs.declared.fault.ServeFault.TheVariants as faults

-- the exit status of a line that is refused: 1, and 4 if it is an expectation that isn't met
abbrev pub status_of_line : LineCause → ℕ
status_of_line (Text fault) = 1
status_of_line NoDevice = 1
status_of_line (Change fault) = 1
status_of_line (Device fault) = 1
status_of_line TooManyDevices = 1
status_of_line NotServed = 1
status_of_line TooLong = 1
status_of_line Unmet = 4

-- The exit status of what ended serving early: 1 if the script or what the host sent is refused, 3 if a file, a stream, the clock or
-- memory failed, 4 if what is expected wasn't set, or no host came.
abbrev pub status_of : ServeFault → ℕ
status_of (Line number cause) = status_of_line cause
status_of (Message fault) = 1
status_of NoDevices = 1
status_of HalfMessage = 1
status_of Script = 3
status_of Memory = 3
status_of Input = 3
status_of Output = 3
status_of Full = 3
status_of Told = 3
status_of Clock = 3
status_of faults.TooLong = 1
status_of faults.NoHost = 4
