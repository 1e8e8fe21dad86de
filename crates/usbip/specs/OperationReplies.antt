-- What a server answers before a device is imported, as a host reads it (USB/IP, as Linux speaks it).
use Rattle.std.specs.Prelude.{◌≡◌, ◌≢◌, ℕ, ◌==◌, if◌then◌else◌, List, [], ◌∷◌, slice_index}
use Rattle.std.specs.Int.{w32, from_be_bytes}
use Rattle.usbip.specs.declared.fault.UsbipFault.{UsbipFault}
use Rattle.usbip.specs.declared.fault.UsbipFault.TheVariants.{BadVersion, UnknownOperation, UnknownCommand, BadDirection, TooLong}
use Rattle.usbip.specs.declared.operation.TheConstants.{VERSION}
use Rattle.usbip.specs.declared.operation.Operation.{Operation}
use Rattle.usbip.specs.declared.operation.OperationStatus.{OperationStatus}
use Rattle.usbip.specs.declared.operation.OperationStatus.TheVariants.{Success, Failed, Busy, NoDevice}
use Rattle.usbip.specs.Messages.{word_at}
use Rattle.usbip.specs.Operations.{half_at, reply_code}

-- the status of an operation by its word: one without a name of its own is a failure
abbrev pub operation_status_of : ℕ → OperationStatus
operation_status_of word =
    if word == 0 then Success else if word == 2 then Busy else if word == 4 then NoDevice else Failed

-- What stands at which offset of the head of a reply to an operation.
pub record IsOperationReply (head : List ℕ) (operation : Operation) (status : OperationStatus) : Type 0 where
  pub version : half_at head 0 ≡ VERSION
  pub code : half_at head 2 ≡ reply_code operation
  pub ended : operation_status_of (word_at head 4) ≡ status

-- why the head is none of a reply to this operation
abbrev pub IsOperationReplyFault : UsbipFault → List ℕ → Operation → Type 0
IsOperationReplyFault BadVersion head operation = half_at head 0 ≢ VERSION
IsOperationReplyFault UnknownOperation head operation =
    (half_at head 0 ≡ VERSION) × (half_at head 2 ≢ reply_code operation)
IsOperationReplyFault UnknownCommand head operation = ⊥
IsOperationReplyFault BadDirection head operation = ⊥
IsOperationReplyFault TooLong head operation = ⊥

-- The number in commands of the device that 312 bytes describe: that of its bus, whose low half stands at 290, times 65,536,
-- and its own, whose low half stands at 294. Example: bus 1, device 2 is 0x10002
abbrev pub device_number : List ℕ → ℕ
device_number description =
    from_be_bytes w32 (slice_index description 290 ∷ slice_index description 291 ∷ slice_index description 294
    ∷ slice_index description 295 ∷ [])
