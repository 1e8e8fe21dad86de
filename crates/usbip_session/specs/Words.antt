-- The words for each refusal (our choice: docs/USBIP.md).
use Rattle.std.specs.Prelude.{ℕ, List, codes}
use Rattle.hid_interfaces.specs.declared.fault.InterfaceFault.{InterfaceFault}
use Rattle.hid_interfaces.specs.declared.fault.InterfaceFault.TheVariants as interfaces
use Rattle.hid_driver.specs.declared.fault.DriverFault.{DriverFault}
use Rattle.hid_driver.specs.declared.fault.DriverFault.TheVariants as drivers
use Rattle.hid_driver.specs.declared.fault.InterfaceCause.{InterfaceCause}
use Rattle.hid_driver.specs.declared.fault.InterfaceCause.TheVariants as causes
use Rattle.hid_notation.specs.Causes.{layout_words}
use Rattle.usbip.specs.declared.fault.UsbipFault.{UsbipFault}
use Rattle.usbip.specs.declared.fault.UsbipFault.TheVariants as messages
use Rattle.usbip_import.specs.declared.fault.ImportFault.{ImportFault}
use Rattle.usbip_import.specs.declared.fault.ImportFault.TheVariants.{Message, Refused, Busy, NoDevice, UnknownNumber, TooLong, Gone, Memory}

-- why bytes are no message: N1 to N5
abbrev pub message_words : UsbipFault → List ℕ
message_words messages.BadVersion = codes "another version of USB/IP than 1.1.1"
message_words messages.UnknownOperation = codes "an unknown operation"
message_words messages.UnknownCommand = codes "an unknown command"
message_words messages.BadDirection = codes "no direction of a submit"
message_words messages.TooLong = codes "a submit of over 65535 bytes"

-- why an import ends
abbrev pub import_words : ImportFault → List ℕ
import_words (Message fault) = message_words fault
import_words Refused = codes "the server refused the device"
import_words Busy = codes "somebody else has the device"
import_words NoDevice = codes "the server has no such device"
import_words UnknownNumber = codes "an answer to no submit that is in flight"
import_words TooLong = codes "an answer with more bytes than were asked for"
import_words Gone = codes "the device is gone"
import_words Memory = codes "out of memory"

-- what is wrong with the descriptors of an interface
abbrev pub interface_words : InterfaceFault → List ℕ
interface_words interfaces.SharedNumber = codes "another interface has its number"
interface_words interfaces.NoReportDescriptor = codes "it names no report descriptor"
interface_words interfaces.NoEndpoint = codes "it has no interrupt-IN endpoint"
interface_words interfaces.PacketSize = codes "packets of 0 bytes, or of over 1024"
interface_words interfaces.SharedEndpoint = codes "another interface has its endpoint"

-- why an interface can't be read
abbrev pub cause_words : InterfaceCause → List ℕ
cause_words (causes.Descriptors fault) = interface_words fault
cause_words causes.ReportLength = codes "a report descriptor of another length than was said"
cause_words (causes.Layout fault) = layout_words fault.cause
cause_words causes.Stalled = codes "the device refused to give its report descriptor"
cause_words causes.Failed = codes "the transfer of its report descriptor failed"

-- why a driver refuses a device or a call
abbrev pub driver_words : DriverFault → List ℕ
driver_words drivers.NoRequest = codes "nothing was asked"
driver_words drivers.Memory = codes "out of memory"
driver_words drivers.NoInterface = codes "there is no such interface"
driver_words drivers.NotRead = codes "the interface isn't read"
driver_words drivers.Busy = codes "another request is made"
driver_words drivers.NoReport = codes "the interface has no such report"
driver_words drivers.TooLong = codes "more bytes than the report has"
driver_words drivers.Stalled = codes "the device refused the request"
driver_words drivers.Failed = codes "the transfer failed"
driver_words (drivers.Device fault) = codes "the device descriptor can't be read"
driver_words (drivers.Configuration fault) = codes "the configuration can't be read"
driver_words (drivers.Report fault) = codes "bytes that are no Input report"
driver_words drivers.LongTransfer = codes "more bytes than the report has, by a packet"
driver_words drivers.BootProtocol = codes "the interface may send boot reports"
driver_words drivers.NoBootProtocol = codes "the interface has no boot protocol"
driver_words drivers.WrongId = codes "the bytes don't begin with the Report ID"
