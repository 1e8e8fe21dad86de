-- What goes between a host and a server before a device is imported (USB/IP, as Linux speaks it).
use Rattle.std.specs.Prelude.{◌≡◌, ℕ, ◌+◌, List, [], ◌∷◌, ◌++◌, slice_index}
use Rattle.std.specs.Int.{w16, w32, to_be_bytes, from_be_bytes}
use Rattle.usbip.specs.declared.operation.TheConstants.{VERSION}
use Rattle.usbip.specs.declared.operation.Operation.{Operation}
use Rattle.usbip.specs.declared.operation.Operation.TheVariants.{DeviceList, Import}
use Rattle.usbip.specs.declared.operation.OperationStatus.{OperationStatus}
use Rattle.usbip.specs.declared.operation.OperationStatus.TheVariants.{Success, Failed, Busy, NoDevice}
use Rattle.usbip.specs.declared.operation.Speed.{Speed}
use Rattle.usbip.specs.declared.operation.Speed.TheVariants.{Low, Full, High}
use Rattle.usbip.specs.declared.operation.DeviceDescription.{DeviceDescription}

-- the word of two bytes at an offset, its highest byte first
abbrev pub half_at : List ℕ → ℕ → ℕ
half_at bytes at = from_be_bytes w16 (slice_index bytes at ∷ slice_index bytes (at + 1) ∷ [])

-- the codes of the requests: OP_REQ_DEVLIST and OP_REQ_IMPORT
abbrev pub operation_code : Operation → ℕ
operation_code DeviceList = 0x8005
operation_code Import = 0x8003

-- the codes of the replies: OP_REP_DEVLIST and OP_REP_IMPORT
abbrev pub reply_code : Operation → ℕ
reply_code DeviceList = 0x0005
reply_code Import = 0x0003

-- the words of the statuses of an operation
abbrev pub operation_status_word : OperationStatus → ℕ
operation_status_word Success = 0
operation_status_word Failed = 1
operation_status_word Busy = 2
operation_status_word NoDevice = 4

-- The head of an operation: version, code and status. Example: 01 11 80 05 00 00 00 00 asks for the list of devices
abbrev pub head_bytes : ℕ → ℕ → List ℕ
head_bytes code status = to_be_bytes w16 VERSION ++ to_be_bytes w16 code ++ to_be_bytes w32 status

-- the head of a request for an operation
abbrev pub operation_bytes : Operation → List ℕ
operation_bytes operation = head_bytes (operation_code operation) 0

-- What stands at which offset of a request for an operation. The status at 4 isn't looked at.
pub record IsOperation (head : List ℕ) (operation : Operation) : Type 0 where
  pub version : half_at head 0 ≡ VERSION
  pub code : half_at head 2 ≡ operation_code operation

-- the words of the speeds
abbrev pub speed_word : Speed → ℕ
speed_word Low = 1
speed_word Full = 2
speed_word High = 3

-- what is described of a device after its path and its bus ID
abbrev pub number_bytes : DeviceDescription → List ℕ
number_bytes d =
    to_be_bytes w32 d.bus ++ to_be_bytes w32 d.number ++ to_be_bytes w32 (speed_word d.speed)
    ++ to_be_bytes w16 d.vendor ++ to_be_bytes w16 d.product ++ to_be_bytes w16 d.release
    ++ d.class ∷ d.subclass ∷ d.protocol ∷ d.configuration ∷ d.configurations ∷ d.interfaces ∷ []

-- The 312 bytes of a device: its path, its bus ID, and its numbers. Example: the speed stands at 296
abbrev pub description_bytes : DeviceDescription → List ℕ
description_bytes d = d.path ++ d.bus_id ++ number_bytes d
