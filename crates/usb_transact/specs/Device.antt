-- What a contract sees of the device's end of a pipe, and what it answers (USB 2.0, 8.4.6.1, 8.6 and 9.4.5).
use Rattle.std.specs.Prelude.{ℕ, Bool, true, false, not, List, Option, Some, None}
use Rattle.usb_packet.specs.declared.packet.Packet.{Packet}
use Rattle.usb_packet.specs.declared.packet.Packet.TheVariants.{Data, Nak, Stall}

-- the device's end of a pipe: whether data go out as DATA1, the data that wait for an acknowledgement, and whether the
-- endpoint is halted (9.4.5)
pub record DevPipeState : Type 0 where
  pub toggle : Bool
  pub armed : Option (List ℕ)
  pub halted : Bool

-- a device's pipe at its start: at DATA0, with nothing armed, and not halted
abbrev pub device_at_start : DevPipeState
device_at_start = record { toggle = false; armed = None; halted = false }

-- the answer to a token: STALL while it is halted, else what is armed under this toggle, else NAK
abbrev pub answer_with : Bool → Bool → Option (List ℕ) → Packet
answer_with true toggle armed = Stall
answer_with false toggle (Some bytes) = Data toggle (record { items = bytes })
answer_with false toggle None = Nak

-- the answer of a pipe to a token: STALL while it is halted, else the armed data under the toggle, else NAK (8.4.6.1).
-- Example: AA armed at DATA0 is C3 AA
abbrev pub answer_of : DevPipeState → Packet
answer_of device = answer_with device.halted device.toggle device.armed

-- the toggle after an acknowledgement: it changes where something was armed
abbrev pub toggle_after : Bool → Option (List ℕ) → Bool
toggle_after toggle (Some bytes) = not toggle
toggle_after toggle None = toggle

-- The device's pipe after an acknowledgement: if data are armed, the toggle changes and nothing is armed any more
-- (8.6.2).
abbrev pub after_acknowledgement : DevPipeState → DevPipeState
after_acknowledgement device =
    record device { toggle = toggle_after device.toggle device.armed; armed = None }

-- the device's pipe once it is halted: nothing is armed, and the toggle stays (9.4.5). Its answer is 1E
abbrev pub halted_pipe : DevPipeState → DevPipeState
halted_pipe device = record device { armed = None; halted = true }
