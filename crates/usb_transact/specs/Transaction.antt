-- One transaction of an interrupt-IN pipe over any bus (USB 2.0, 8.5.4): each end acts on what it reads of the bytes
-- that arrive, and on nothing else.
use Rattle.std.specs.Prelude.{◌≡◌, Option, Some, None}
use Rattle.usb_packet.specs.declared.packet.Packet.{Packet}
use Rattle.usb_packet.specs.declared.packet.Packet.TheVariants as packets
use Rattle.usb_packet.specs.declared.packet.TokenKind.TheVariants.{In}
use Rattle.usb_transact.specs.declared.bus.Phase.TheVariants.{Token, Reply, Acknowledgement}
use Rattle.usb_transact.specs.declared.host.Took.{Took}
use Rattle.usb_transact.specs.declared.host.Took.TheVariants.{Fresh, Again}
use Rattle.usb_transact.specs.Host.{HostPipeState, token_to}
use Rattle.usb_transact.specs.Device.{DevPipeState, after_acknowledgement, answer_of}
use Rattle.usb_transact.specs.Replies.{reply_outcome, host_after}
use Rattle.usb_transact.specs.Bus.{Arrivals, Carries, Replies}

-- the device's answer to what arrived of a token: only an IN token is answered
abbrev pub answer_to_token : Option Packet → DevPipeState → Option Packet
answer_to_token (Some (packets.Token In addr endp)) device = Some (answer_of device)
answer_to_token _ device = None

-- the device after what arrived of an acknowledgement
abbrev pub device_after_handshake : Option Packet → DevPipeState → DevPipeState
device_after_handshake (Some packets.Ack) device = after_acknowledgement device
device_after_handshake _ device = device

-- the device after an ACK that is sent to it, by what arrives
abbrev pub ReceivesAck : Arrivals → DevPipeState → DevPipeState → Type 0
ReceivesAck arrivals device after =
    (came : Option Packet) × Carries arrivals Acknowledgement packets.Ack came
    × (after ≡ device_after_handshake came device)

-- data are acknowledged, fresh or not, and nothing else is
abbrev pub Acknowledges : Arrivals → Took → DevPipeState → DevPipeState → Type 0
Acknowledges arrivals (Fresh payload) device after = ReceivesAck arrivals device after
Acknowledges arrivals Again device after = ReceivesAck arrivals device after
Acknowledges arrivals _ device after = after ≡ device

-- the transaction by its packets, as each end reads them
pub record Transacts (arrivals : Arrivals) (host : HostPipeState) (device : DevPipeState)
    (took : Took) (host_then : HostPipeState) (device_then : DevPipeState) : Type 0 where
  pub token : Option Packet
  pub reply : Option Packet
  pub polled : Carries arrivals Token (token_to host) token
  pub replied : Replies arrivals Reply (answer_to_token token device) reply
  pub took_reply : took ≡ reply_outcome host.expects reply
  pub host_moved : host_then ≡ host_after took host
  pub acknowledged : Acknowledges arrivals took device device_then
