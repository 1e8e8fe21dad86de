-- The words for each message of a host that is refused (our choice: docs/USBIP.md).
use Rattle.std.specs.Prelude.{ℕ, List, codes}
use Rattle.usbip.specs.declared.fault.UsbipFault.{UsbipFault}
use Rattle.usbip.specs.declared.fault.UsbipFault.TheVariants.{BadVersion, UnknownOperation, UnknownCommand, BadDirection, TooLong}
use Rattle.usbip_export.specs.declared.fault.ExportFault.{ExportFault}
use Rattle.usbip_export.specs.declared.fault.ExportFault.TheVariants.{Message, OtherDevice}

-- why bytes are no message: N1 to N5
abbrev pub message_words : UsbipFault → List ℕ
message_words BadVersion = codes "another version of USB/IP than 1.1.1"
message_words UnknownOperation = codes "an unknown operation"
message_words UnknownCommand = codes "an unknown command"
message_words BadDirection = codes "no direction of a submit"
message_words TooLong = codes "a submit of over 65535 bytes"

-- why a message of a host is refused: N1 to N6
abbrev pub export_words : ExportFault → List ℕ
export_words (Message fault) = message_words fault
export_words OtherDevice = codes "a command for another device than the host has"
