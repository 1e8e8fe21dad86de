-- One transaction over a bus that may lose a packet (USB 2.0, 8.5.4 and 8.6), row for row.
use Rattle.std.specs.Prelude.{ℕ, Bool, true, false, List, if◌then◌else◌, Option, Some, None}
use Rattle.std.specs.Bool.{beq}
use Rattle.usb_transact.specs.declared.host.Took.{Took}
use Rattle.usb_transact.specs.declared.host.Took.TheVariants.{Fresh, Again, Nak, Stall, Silent}
use Rattle.usb_transact.specs.declared.transaction.Fate.{Fate}
use Rattle.usb_transact.specs.declared.transaction.Fate.TheVariants.{Clean, TokenLost, ReplyLost, AckLost}
use Rattle.usb_transact.specs.Host.{HostPipeState}
use Rattle.usb_transact.specs.Device.{DevPipeState, after_acknowledgement}

-- what the host takes where the reply reaches it: by what it expects, and by whether the device is halted, its toggle
-- and what is armed
abbrev pub outcome_when_received : Bool → Bool → Bool → Option (List ℕ) → Took
outcome_when_received expects true toggle armed = Stall
outcome_when_received expects false toggle None = Nak
outcome_when_received expects false toggle (Some bytes) =
    if beq toggle expects then Fresh (record { items = bytes }) else Again

-- what the host takes, by the fate: only a clean transaction, and one that loses the ACK alone, bring it the reply.
-- Example: AA armed and AckLost: Fresh AA, and the device as it was
abbrev pub took_of : Fate → HostPipeState → DevPipeState → Took
took_of TokenLost host device = Silent
took_of ReplyLost host device = Silent
took_of Clean host device = outcome_when_received host.expects device.halted device.toggle device.armed
took_of AckLost host device = outcome_when_received host.expects device.halted device.toggle device.armed

-- the device's pipe after a transaction: the acknowledgement arrives in a clean one alone, and STALL has none
abbrev pub pipe_after : Fate → DevPipeState → DevPipeState
pipe_after Clean device = if device.halted then device else after_acknowledgement device
pipe_after _ device = device
