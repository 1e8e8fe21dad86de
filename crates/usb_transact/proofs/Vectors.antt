-- Worked transactions (USB 2.0, 8.5.4 and 8.6): each is computed by hand, and a wrong one fails the check.
use Rattle.std.proofs.Common.{◌≡◌, true, false, [], ◌∷◌, Some, None, refl}
use Rattle.usb_packet.specs.PacketEncoding.{encoding}
use Rattle.usb_transact.specs.declared.host.Took.TheVariants.{Fresh, Again, Nak, Stall, Silent}
use Rattle.usb_transact.specs.declared.transaction.Fate.TheVariants.{Clean, TokenLost, ReplyLost, AckLost}
use Rattle.usb_transact.specs.Host.{HostPipeState, host_at_start, token_to}
use Rattle.usb_transact.specs.Device.{DevPipeState, device_at_start, answer_of, halted_pipe}
use Rattle.usb_transact.specs.Replies.{host_after}
use Rattle.usb_transact.specs.Exchange.{took_of, pipe_after}

-- a host that has taken the byte AA, so it expects DATA1
abbrev taken_once : HostPipeState
taken_once = record { addr = 1; endp = 1; expects = true }

-- a device that sends AA under DATA0
abbrev armed_once : DevPipeState
armed_once = record { toggle = false; armed = Some (0xAA ∷ []); halted = false }

-- IN to address 1, endpoint 1
poll_bytes : encoding (token_to (host_at_start 1 1)) ≡ 0x69 ∷ 0x81 ∷ 0x00 ∷ []
poll_bytes = refl

-- NAK of a device with nothing armed
idle_bytes : encoding (answer_of device_at_start) ≡ 0x5A ∷ []
idle_bytes = refl

-- DATA0 AA
armed_bytes : encoding (answer_of armed_once) ≡ 0xC3 ∷ 0xAA ∷ []
armed_bytes = refl

-- the ACK of new data is lost: the host has them, and the device sends them again
first_taken : took_of AckLost (host_at_start 1 1) armed_once ≡ Fresh (record { items = 0xAA ∷ [] })
first_taken = refl

first_host : host_after (took_of AckLost (host_at_start 1 1) armed_once) (host_at_start 1 1) ≡ taken_once
first_host = refl

first_device : pipe_after AckLost armed_once ≡ armed_once
first_device = refl

-- the repeat is thrown away, and its ACK arrives: the device is at DATA1 with nothing armed
repeat_taken : took_of Clean taken_once armed_once ≡ Again
repeat_taken = refl

repeat_device : pipe_after Clean armed_once ≡ record { toggle = true; armed = None; halted = false }
repeat_device = refl

-- a lost token or answer tells nothing, and a device with nothing armed tells NAK
lost_reply : took_of ReplyLost taken_once armed_once ≡ Silent
lost_reply = refl

lost_token : took_of TokenLost taken_once armed_once ≡ Silent
lost_token = refl

nothing_armed : took_of Clean taken_once device_at_start ≡ Nak
nothing_armed = refl

-- a halted endpoint answers STALL, 1E, has nothing armed, and stays as it is
halted_bytes : encoding (answer_of (halted_pipe armed_once)) ≡ 0x1E ∷ []
halted_bytes = refl

halted_taken : took_of Clean (host_at_start 1 1) (halted_pipe armed_once) ≡ Stall
halted_taken = refl

halted_silent : took_of TokenLost (host_at_start 1 1) (halted_pipe armed_once) ≡ Silent
halted_silent = refl

halted_device : pipe_after Clean (halted_pipe armed_once) ≡ record { toggle = false; armed = None; halted = true }
halted_device = refl
