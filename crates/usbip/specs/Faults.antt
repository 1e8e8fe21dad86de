-- Why bytes are no message of USB/IP: five faults, of which the first that stands counts.
use Rattle.std.specs.Prelude.{◌≡◌, ◌≢◌, ℕ, ◌<◌, List, codes}
use Rattle.usbip.specs.declared.message.TheConstants.{MAX_DATA}
use Rattle.usbip.specs.declared.fault.UsbipFault.{UsbipFault}
use Rattle.usbip.specs.declared.fault.UsbipFault.TheVariants.{BadVersion, UnknownOperation, UnknownCommand, BadDirection, TooLong}
use Rattle.usbip.specs.declared.operation.TheConstants.{VERSION}
use Rattle.usbip.specs.Messages.{word_at}
use Rattle.usbip.specs.Operations.{half_at}

-- the code of a fault, as it is printed: N1 to N5
abbrev pub usbip_fault_code : UsbipFault → List ℕ
usbip_fault_code BadVersion = codes "N1"
usbip_fault_code UnknownOperation = codes "N2"
usbip_fault_code UnknownCommand = codes "N3"
usbip_fault_code BadDirection = codes "N4"
usbip_fault_code TooLong = codes "N5"

-- the direction is neither 0 nor 1
abbrev pub HasNoDirection : List ℕ → Type 0
HasNoDirection header = (word_at header 12 ≢ 0) × (word_at header 12 ≢ 1)

-- Why the header is none of a command: each cause is said without the order of the code.
abbrev pub IsCommandFault : UsbipFault → List ℕ → Type 0
IsCommandFault UnknownCommand header = (word_at header 0 ≢ 1) × (word_at header 0 ≢ 2)
IsCommandFault BadDirection header = (word_at header 0 ≡ 1) × HasNoDirection header
IsCommandFault TooLong header =
    (word_at header 0 ≡ 1) × (word_at header 12 ≡ 0) × (MAX_DATA < word_at header 24)
IsCommandFault BadVersion header = ⊥
IsCommandFault UnknownOperation header = ⊥

-- why the header is none of a reply
abbrev pub IsReplyFault : UsbipFault → List ℕ → Type 0
IsReplyFault UnknownCommand header = (word_at header 0 ≢ 3) × (word_at header 0 ≢ 4)
IsReplyFault BadVersion header = ⊥
IsReplyFault UnknownOperation header = ⊥
IsReplyFault BadDirection header = ⊥
IsReplyFault TooLong header = ⊥

-- why the head is none of a request for an operation
abbrev pub IsOperationFault : UsbipFault → List ℕ → Type 0
IsOperationFault BadVersion head = half_at head 0 ≢ VERSION
IsOperationFault UnknownOperation head =
    (half_at head 0 ≡ VERSION) × (half_at head 2 ≢ 0x8005) × (half_at head 2 ≢ 0x8003)
IsOperationFault UnknownCommand head = ⊥
IsOperationFault BadDirection head = ⊥
IsOperationFault TooLong head = ⊥
