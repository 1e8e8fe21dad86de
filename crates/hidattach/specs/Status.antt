-- The exit status of a session (our choice: docs/USBIP.md).
use Rattle.std.specs.Prelude.{ℕ}
use Rattle.hid_driver.specs.declared.fault.DriverFault.{DriverFault}
use Rattle.hid_driver.specs.declared.fault.DriverFault.TheVariants as drivers
use Rattle.usbip_import.specs.declared.fault.ImportFault.{ImportFault}
use Rattle.usbip_import.specs.declared.fault.ImportFault.TheVariants as imports
use Rattle.usbip_session.specs.declared.end.End.{End}
use Rattle.usbip_session.specs.declared.end.End.TheVariants.{Closed, Import, Device, Early, Late, Unread, Connection, Output, Requests, Stopped}

-- the exit status of what ended an import: 3 if memory ran out, else 1
abbrev pub import_status : ImportFault → ℕ
import_status imports.Memory = 3
import_status _ = 1

-- the exit status of why a device can't be read: 3 if memory ran out, else 1
abbrev pub driver_status : DriverFault → ℕ
driver_status drivers.Memory = 3
driver_status _ = 1

-- The exit status of a session: 0 if the server closed the connection between two messages, 1 if the server, its device or its
-- answer is refused, or the end comes too early or too late, 3 if a file, the connection or memory failed.
abbrev pub exit_of : End → ℕ
exit_of Closed = 0
exit_of (Import fault) = import_status fault
exit_of (Device fault) = driver_status fault
exit_of Early = 1
exit_of Late = 1
exit_of Unread = 1
exit_of Stopped = 1
exit_of Connection = 3
exit_of Output = 3
exit_of Requests = 3
