-- How the faults of an import are printed: by their codes.
use Rattle.std.specs.Prelude.{ℕ, List, codes}
use Rattle.usbip.specs.Faults.{usbip_fault_code}
use Rattle.usbip_import.specs.declared.fault.ImportFault.{ImportFault}
use Rattle.usbip_import.specs.declared.fault.ImportFault.TheVariants.{Message, Refused, Busy, NoDevice, UnknownNumber, TooLong, Gone, Memory}

-- the code of a fault, as it is printed: A1 to A7, or that of a message
abbrev pub import_fault_text : ImportFault → List ℕ
import_fault_text (Message fault) = usbip_fault_code fault
import_fault_text Refused = codes "A1"
import_fault_text Busy = codes "A2"
import_fault_text NoDevice = codes "A3"
import_fault_text UnknownNumber = codes "A4"
import_fault_text TooLong = codes "A5"
import_fault_text Gone = codes "A6"
import_fault_text Memory = codes "A7"
