-- Worked messages, as a real kernel sends and takes them: each is written by hand from its log, and a wrong one fails the check.
use Rattle.std.proofs.Common.{◌≡◌, ℕ, [], ◌∷◌, ◌++◌, refl, replicate, lit≤}
use Rattle.usbip.specs.declared.message.Direction.TheVariants.{In}
use Rattle.usbip.specs.declared.message.Status.TheVariants.{Success, Stalled, Unlinked, Overflow}
use Rattle.usbip.specs.declared.message.Command.TheVariants as commands
use Rattle.usbip.specs.declared.message.Reply.TheVariants as replies
use Rattle.usbip.specs.declared.operation.Operation.TheVariants.{DeviceList, Import}
use Rattle.usbip.specs.declared.operation.OperationStatus.TheVariants as ends
use Rattle.usbip.specs.declared.fault.UsbipFault.TheVariants.{TooLong}
use Rattle.usbip.specs.declared.pending.PendingSubmit.{PendingSubmit}
use Rattle.usbip.specs.Messages.{IsSubmit, command_bytes, reply_bytes, status_of, status_word}
use Rattle.usbip.specs.Operations.{head_bytes, operation_bytes, operation_status_word, reply_code}
use Rattle.usbip.specs.Faults.{usbip_fault_code}
use Rattle.usbip.specs.Pending.{without}

-- the first submit for a report of device 1-2, of 8 bytes: its start_frame is FF FF FF FF, which isn't looked at
first_poll : IsSubmit
    (0x00 ∷ 0x00 ∷ 0x00 ∷ 0x01 ∷ 0x00 ∷ 0x00 ∷ 0x00 ∷ 0x0C ∷ 0x00 ∷ 0x01 ∷ 0x00 ∷ 0x02 ∷ 0x00 ∷ 0x00 ∷ 0x00 ∷ 0x01
    ∷ 0x00 ∷ 0x00 ∷ 0x00 ∷ 0x01 ∷ 0x00 ∷ 0x00 ∷ 0x02 ∷ 0x00 ∷ 0x00 ∷ 0x00 ∷ 0x00 ∷ 0x08 ∷ 0xFF ∷ 0xFF ∷ 0xFF ∷ 0xFF
    ∷ 0x00 ∷ 0x00 ∷ 0x00 ∷ 0x00 ∷ 0x00 ∷ 0x00 ∷ 0x00 ∷ 0x08 ∷ 0x00 ∷ 0x00 ∷ 0x00 ∷ 0x00 ∷ 0x00 ∷ 0x00 ∷ 0x00 ∷ 0x00 ∷ [])
    (record { seqnum = 12; device = 0x10002; direction = In; endpoint = 1; flags = 0x200; length = 8; interval = 8; setup = replicate 8 0 })
first_poll = record {
  command = refl;
  seqnum = refl;
  device = refl;
  direction = refl;
  endpoint = refl;
  flags = refl;
  room = refl;
  interval = refl;
  setup = refl;
  short = lit≤ tt;
}

-- the kernel takes submit 12 back
taken_back : command_bytes (commands.Unlink (record { seqnum = 13; device = 0x10002; submit = 12 }))
    ≡ 0x00 ∷ 0x00 ∷ 0x00 ∷ 0x02 ∷ 0x00 ∷ 0x00 ∷ 0x00 ∷ 0x0D ∷ 0x00 ∷ 0x01 ∷ 0x00 ∷ 0x02 ∷ 0x00 ∷ 0x00 ∷ 0x00 ∷ 0x00
    ∷ 0x00 ∷ 0x00 ∷ 0x00 ∷ 0x00 ∷ 0x00 ∷ 0x00 ∷ 0x00 ∷ 0x0C ∷ replicate 24 0
taken_back = refl

-- STALL to submit 3, a request for a device qualifier
refused_qualifier : reply_bytes (replies.Submit (record { seqnum = 3; status = Stalled; length = 0 }))
    ≡ 0x00 ∷ 0x00 ∷ 0x00 ∷ 0x03 ∷ 0x00 ∷ 0x00 ∷ 0x00 ∷ 0x03 ∷ replicate 12 0 ++ 0xFF ∷ 0xFF ∷ 0xFF ∷ 0xE0 ∷ replicate 24 0
refused_qualifier = refl

-- 18 bytes answer submit 1
described : reply_bytes (replies.Submit (record { seqnum = 1; status = Success; length = 18 }))
    ≡ 0x00 ∷ 0x00 ∷ 0x00 ∷ 0x03 ∷ 0x00 ∷ 0x00 ∷ 0x00 ∷ 0x01 ∷ replicate 16 0 ++ 0x00 ∷ 0x00 ∷ 0x00 ∷ 0x12 ∷ replicate 20 0
described = refl

-- -104 and -75, in two's complement
unlinked_word : status_word Unlinked ≡ 0xFFFFFF98
unlinked_word = refl

overflow_word : status_word Overflow ≡ 0xFFFFFFB5
overflow_word = refl

overflow_again : status_of 0xFFFFFFB5 ≡ Overflow
overflow_again = refl

list_of_devices : operation_bytes DeviceList ≡ 0x01 ∷ 0x11 ∷ 0x80 ∷ 0x05 ∷ 0x00 ∷ 0x00 ∷ 0x00 ∷ 0x00 ∷ []
list_of_devices = refl

-- a device that somebody else has
busy_device : head_bytes (reply_code Import) (operation_status_word ends.Busy) ≡ 0x01 ∷ 0x11 ∷ 0x00 ∷ 0x03 ∷ 0x00 ∷ 0x00 ∷ 0x00 ∷ 0x02 ∷ []
busy_device = refl

-- of two submits of one number the older one is taken back
waits : ℕ → ℕ → PendingSubmit
waits n room = record { seqnum = n; length = room }

oldest_goes : without 7 (waits 5 8 ∷ waits 7 8 ∷ waits 7 64 ∷ []) ≡ waits 5 8 ∷ waits 7 64 ∷ []
unfolding waits
oldest_goes = refl

-- "N5" in ASCII
too_long_code : usbip_fault_code TooLong ≡ 0x4E ∷ 0x35 ∷ []
too_long_code = refl
