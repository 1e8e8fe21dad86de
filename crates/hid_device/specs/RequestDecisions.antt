-- What is decided on a request (USB 2.0, 9.2.7 and 9.4; HID 1.11, 7.1).
use Rattle.std.specs.Prelude.{ℕ, Bool, true, false, List}
use Rattle.hid_device.specs.declared.decisions.Answer.{Answer}
use Rattle.hid_device.specs.declared.decisions.Answer.TheVariants.{Bytes, Descriptor}
use Rattle.hid_device.specs.declared.decisions.PendingWrite.{PendingWrite}

-- a request is refused, or reads these bytes, or writes and is to bring this about
pub data RequestDecision : Type 0 where
  Refuses : RequestDecision
  Reads : List ℕ → RequestDecision
  Writes : PendingWrite → RequestDecision

-- a read of these bytes where a condition holds, else a refusal
abbrev pub reads_if : Bool → List ℕ → RequestDecision
reads_if true bytes = Reads bytes
reads_if false bytes = Refuses

-- a write with this effect where a condition holds, else a refusal
abbrev pub writes_if : Bool → PendingWrite → RequestDecision
writes_if true pending = Writes pending
writes_if false pending = Refuses

-- whether a request is accepted, by what is decided on it
abbrev pub is_accepted : RequestDecision → Bool
is_accepted Refuses = false
is_accepted (Reads bytes) = true
is_accepted (Writes pending) = true

-- the bytes of an answer, of a device with this report descriptor that has written these bytes down
abbrev pub answer_bytes : List ℕ → List ℕ → Answer → List ℕ
answer_bytes descriptor written Bytes = written
answer_bytes descriptor written Descriptor = descriptor
