-- A control transfer with memory of any length (USB 2.0, 8.5.3 and 9.3.5; the refusals of lengths: our choice).
use Rattle.std.specs.Prelude.{◌≡◌, ℕ, ◌<◌, ◌≤◌, true, false, List, length, take, Result, Ok, Err}
use Rattle.usb_control.specs.declared.setup.Setup.{Setup}
use Rattle.usb_control.specs.SetupBytes.{reads}
use Rattle.hid_device.specs.Core.{CoreState}
use Rattle.hid_device.specs.RequestTable.{core_table}
use Rattle.hid_gadget.specs.declared.outcomes.Control.TheVariants.{Done, Stalled}
use Rattle.hid_gadget.specs.WholeTransfers.{after_transfer, control_result, room_after_transfer}
use Rattle.hidstack_device.specs.declared.transfer.TransferFault.{TransferFault}
use Rattle.hidstack_device.specs.declared.transfer.TransferFault.TheVariants as faults

-- a read has room for wLength bytes, all that it may answer, and a write has wLength bytes, all that it sends
abbrev pub HasLengths : Setup → List ℕ → List ℕ → Type 0
HasLengths setup written answer =
    (reads setup ≡ true → setup.length ≤ length answer) × (reads setup ≡ false → setup.length ≤ length written)

-- a transfer of these data is done, and its answer stands at the front of the room; or it is refused by STALL, and the
-- room stays
abbrev pub EndsGadget : CoreState → Setup → List ℕ → List ℕ → Result ℕ TransferFault → CoreState → List ℕ → Type 0
EndsGadget core setup written answer (Ok count) core' answer' =
    (control_result core_table core setup ≡ Done count) × (core' ≡ after_transfer core_table core setup written)
    × (answer' ≡ room_after_transfer core_table core setup answer)
EndsGadget core setup written answer (Err faults.Stalled) core' answer' =
    (control_result core_table core setup ≡ Stalled) × (core' ≡ after_transfer core_table core setup written)
    × (answer' ≡ answer)
EndsGadget core setup written answer (Err faults.NoRoom) core' answer' = ⊥
EndsGadget core setup written answer (Err faults.Short) core' answer' = ⊥

-- the bytes that a request sends of those that there are: of a write the first wLength, and of a read none count
abbrev pub bytes_sent : Setup → List ℕ → List ℕ
bytes_sent setup written = take setup.length written

-- A control transfer with a caller's memory: it is refused where a read has room for fewer than wLength bytes, or a write has
-- fewer, and then nothing changes; else it ends as the gadget's definitions say, with the first wLength bytes of what is
-- sent. Example: a read of 64 bytes with room for 63 is refused
abbrev pub Transfers : CoreState → Setup → List ℕ → List ℕ → Result ℕ TransferFault → CoreState → List ℕ → Type 0
Transfers core setup written answer (Ok count) core' answer' =
    HasLengths setup written answer × EndsGadget core setup (bytes_sent setup written) answer (Ok count) core' answer'
Transfers core setup written answer (Err faults.Stalled) core' answer' =
    HasLengths setup written answer × EndsGadget core setup (bytes_sent setup written) answer (Err faults.Stalled) core' answer'
Transfers core setup written answer (Err faults.NoRoom) core' answer' =
    (reads setup ≡ true) × (length answer < setup.length) × (core' ≡ core) × (answer' ≡ answer)
Transfers core setup written answer (Err faults.Short) core' answer' =
    (reads setup ≡ false) × (length written < setup.length) × (core' ≡ core) × (answer' ≡ answer)
