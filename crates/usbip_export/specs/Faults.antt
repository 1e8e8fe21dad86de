-- Why a connection to exported devices ends (USB/IP): the faults of messages, N1 to N5, and one more.
use Rattle.std.specs.Prelude.{ℕ, List, codes}
use Rattle.usbip.specs.Faults.{usbip_fault_code}
use Rattle.usbip_export.specs.declared.fault.ExportFault.{ExportFault}
use Rattle.usbip_export.specs.declared.fault.ExportFault.TheVariants.{Message, OtherDevice}

-- the code of a fault, as it is printed: N1 to N6
abbrev pub export_fault_code : ExportFault → List ℕ
export_fault_code (Message fault) = usbip_fault_code fault
export_fault_code OtherDevice = codes "N6"
