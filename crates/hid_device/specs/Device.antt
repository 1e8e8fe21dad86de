-- What a contract sees of a device, and what it makes of each packet that arrives (USB 2.0, 8.4.6.1, 8.5.3, 8.5.4 and
-- 8.6).
use Rattle.std.specs.Prelude.{ℕ, Bool, true, false, not, ◌&&◌, ◌==◌, if◌then◌else◌, is_some, Option, Some, None}
use Rattle.hid_snapshots.specs.declared.change.Change.{Change}
use Rattle.usb_packet.specs.declared.packet.Packet.{Packet}
use Rattle.usb_packet.specs.declared.packet.Packet.TheVariants.{Token, Data, Ack, Nak, Stall}
use Rattle.usb_packet.specs.declared.packet.TokenKind.TheVariants.{Out, In, Setup}
use Rattle.usb_control.specs.declared.device.LastPacket.TheVariants.{Nothing}
use Rattle.usb_control.specs.Device.{DevControlState, Effect, effect, idle_control}
use Rattle.usb_control.specs.TryFunctions.{answer_to, control_after}
use Rattle.hid_requests.specs.declared.codes.TheConstants.{REPORT_ENDPOINT}
use Rattle.hid_device.specs.Core.{CoreState, core_at_poll, core_after_ack, configured_core, halted_core, reset_core, changed_core, framed_core, poll_response}
use Rattle.hid_device.specs.RequestTable.{core_table}

-- A device: its address, its endpoint 0 with its core, and whether the last packet was answered with data of its pipe,
-- so that an ACK counts there.
pub record DeviceState : Type 0 where
  pub addr : ℕ
  pub control : DevControlState CoreState
  pub awaits_ack : Bool

-- the core of a device
abbrev pub core_of : DeviceState → CoreState
core_of d = d.control.requests

-- the device with another core
abbrev pub with_core : DeviceState → CoreState → DeviceState
with_core d core = record d {
  control = record { requests = core; stage = d.control.stage; last_packet = d.control.last_packet };
}

-- the device after a packet that isn't endpoint 0's, with this core: what endpoint 0 received before it counts no
-- more
abbrev pub after_ignored_packet : DeviceState → CoreState → Bool → DeviceState
after_ignored_packet d core awaits_ack = record {
  addr = d.addr;
  control = record { requests = core; stage = d.control.stage; last_packet = Nothing };
  awaits_ack = awaits_ack;
}

-- a poll is an IN token to the device's address and endpoint, once the device is configured
abbrev pub is_poll : DeviceState → Packet → Bool
is_poll d (Token In addr endp) = (core_of d).is_configured && ((addr == d.addr) && (endp == REPORT_ENDPOINT))
is_poll d (Token Out addr endp) = false
is_poll d (Token Setup addr endp) = false
is_poll d (Data one payload) = false
is_poll d Ack = false
is_poll d Nak = false
is_poll d Stall = false

-- A device after a poll: it waits for an ACK exactly if it answers with data.
abbrev pub device_after_poll : DeviceState → CoreState → DeviceState
device_after_poll d core = after_ignored_packet d core (is_some core.current)

-- A packet that is given to endpoint 0: a token to it, data, which no other endpoint takes, or an ACK that isn't
-- directly after the data of a poll.
abbrev pub is_control : DeviceState → Packet → Bool
is_control d (Token kind addr endp) = (addr == d.addr) && (endp == 0)
is_control d (Data one payload) = true
is_control d Ack = not d.awaits_ack
is_control d Nak = false
is_control d Stall = false

-- what a packet brings about at endpoint 0
abbrev pub effect_of : DeviceState → Packet → Effect
effect_of d packet = effect (core_of d).answer d.control.stage d.control.last_packet packet

-- the device after a packet to endpoint 0 with this effect
abbrev pub device_after_effect : DeviceState → Effect → DeviceState
device_after_effect d effect =
    record { addr = d.addr; control = control_after core_table effect (core_of d); awaits_ack = false }

-- the device after a packet that is neither a poll nor endpoint 0's: its wait ends, and an ACK directly after the data
-- of a poll closes their piece
abbrev pub device_after_ignored : DeviceState → Packet → DeviceState
device_after_ignored d Ack = after_ignored_packet d (core_after_ack (core_of d)) false
device_after_ignored d (Token kind addr endp) = after_ignored_packet d (core_of d) false
device_after_ignored d (Data one payload) = after_ignored_packet d (core_of d) false
device_after_ignored d Nak = after_ignored_packet d (core_of d) false
device_after_ignored d Stall = after_ignored_packet d (core_of d) false

-- the device after a packet that isn't a poll, by whether it is endpoint 0's
abbrev pub device_after_other : DeviceState → Packet → DeviceState
device_after_other d packet =
    if is_control d packet then device_after_effect d (effect_of d packet) else device_after_ignored d packet

-- The device after a packet arrived.
abbrev pub device_after : DeviceState → Packet → DeviceState
device_after d packet =
    if is_poll d packet then device_after_poll d (core_at_poll (core_of d)) else device_after_other d packet

-- the answer to a packet that isn't a poll: endpoint 0 answers as a control transfer goes, and nothing else is answered
abbrev pub control_answer : DeviceState → Packet → Option Packet
control_answer d packet = if is_control d packet then answer_to (effect_of d packet) else None

-- What a device answers: to a poll as it stands once a round was opened for it, and to another packet as endpoint 0
-- answers.
abbrev pub device_answer : DeviceState → Packet → Option Packet
device_answer d packet =
    if is_poll d packet then Some (poll_response (core_at_poll (core_of d))) else control_answer d packet

-- The device after a configuration without a transfer, which ends the pipe's wait too.
abbrev pub configured_device : DeviceState → DeviceState
configured_device d = record (with_core d (configured_core (core_of d))) { awaits_ack = false }

-- The device after a halt of its endpoint: its pipe awaits no ACK. A device that isn't configured has no endpoint to
-- halt (USB 2.0, 9.4.5; our choice).
abbrev pub halted_device : DeviceState → DeviceState
halted_device d =
    if (core_of d).is_configured then record (with_core d (halted_core (core_of d))) { awaits_ack = false } else d

-- The device after a reset of the bus: no request is open, no ACK is awaited, and it keeps its address (USB 2.0,
-- 7.1.7.5 and 9.1.1.3; our choice).
abbrev pub reset_device : DeviceState → DeviceState
reset_device d = record { addr = d.addr; control = idle_control (reset_core (core_of d)); awaits_ack = false }

-- The device after a change, which reaches its core alone.
abbrev pub changed_device : DeviceState → Change → DeviceState
changed_device d change = with_core d (changed_core (core_of d) change)

-- The device after a frame, which reaches its core alone.
abbrev pub framed_device : DeviceState → DeviceState
framed_device d = with_core d (framed_core (core_of d))
