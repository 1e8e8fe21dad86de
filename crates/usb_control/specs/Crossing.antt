-- One transaction of endpoint 0 over any bus (USB 2.0, 8.5.3): each end acts on what it reads of the bytes that arrive,
-- and on nothing else.
use Rattle.std.specs.Prelude.{◌≡◌, Bool, true, false, Option, Some, None}
use Rattle.usb_packet.specs.declared.packet.TokenKind.TheVariants as tokens
use Rattle.usb_packet.specs.declared.packet.Packet.{Packet}
use Rattle.usb_packet.specs.declared.packet.Packet.TheVariants as packets
use Rattle.usb_packet.specs.declared.packet.Packet.TheVariants.{Ack}
use Rattle.usb_transact.specs.declared.bus.Phase.{Phase}
use Rattle.usb_transact.specs.declared.bus.Phase.TheVariants.{Token, HostData, Reply, Handshake, Acknowledgement}
use Rattle.usb_transact.specs.Bus.{Arrivals, Carries, Replies}
use Rattle.usb_control.specs.Requests.{PrepareGives, ApplyGives, AnswerOf}
use Rattle.usb_control.specs.Device.{DevControlState, Does, effect}
use Rattle.usb_control.specs.Host.{HostTransferState, asks_at, token_of, payload_of, transfer_after_reply, acknowledges}

-- the device receives a packet, if one came, and answers it
abbrev pub Receives :
    {R : Type 0} → PrepareGives R → ApplyGives R → AnswerOf R → Option Packet → DevControlState R
    → DevControlState R → Option Packet → Type 0
Receives prepare_gives apply_gives answer_of None old new answer = (new ≡ old) × (answer ≡ None)
Receives prepare_gives apply_gives answer_of (Some packet) old new answer =
    Does prepare_gives apply_gives (effect (answer_of old.requests) old.stage old.last_packet packet)
    old.requests new answer

-- the device receives the data packet that goes with a token, if one does, and answers it instead of the token
abbrev pub HearsData :
    {R : Type 0} → PrepareGives R → ApplyGives R → AnswerOf R → Arrivals → Option Packet
    → DevControlState R → Option Packet → DevControlState R → Option Packet → Type 0
HearsData prepare_gives apply_gives answer_of arrivals None old before new answer =
    (new ≡ old) × (answer ≡ before)
HearsData prepare_gives apply_gives answer_of arrivals (Some sent) old before new answer =
    (came : Option Packet) × Carries arrivals HostData sent came
    × Receives prepare_gives apply_gives answer_of came old new answer

-- the device receives what the host sends first, a token with its data, and answers
abbrev pub PacketReaches :
    {R : Type 0} → PrepareGives R → ApplyGives R → AnswerOf R → Arrivals → Packet → Option Packet
    → DevControlState R → DevControlState R → Option Packet → Type 0
PacketReaches {R} prepare_gives apply_gives answer_of arrivals token payload old new answer =
    (came : Option Packet) × (mid : DevControlState R) × (before : Option Packet)
    × Carries arrivals Token token came
    × Receives prepare_gives apply_gives answer_of came old mid before
    × HearsData prepare_gives apply_gives answer_of arrivals payload mid before new answer

-- the phase of what the device sends: a reply to an IN token, or its handshake for data
abbrev pub phase_of : Bool → Phase
phase_of true = Reply
phase_of false = Handshake

-- a packet asks the device for data: an IN token
abbrev pub asks_for_data : Packet → Bool
asks_for_data (packets.Token tokens.In addr endp) = true
asks_for_data _ = false

-- what the host sends first, a token with its data, reaches the device, and the host reads what arrives of the answer
pub record TokenIsAnswered {R : Type 0} (prepare_gives : PrepareGives R) (apply_gives : ApplyGives R)
    (answer_of : AnswerOf R) (arrivals : Arrivals) (token : Packet) (payload : Option Packet)
    (old new : DevControlState R) (reply : Option Packet) : Type 0 where
  pub answer : Option Packet
  pub reached : PacketReaches prepare_gives apply_gives answer_of arrivals token payload old new answer
  pub replied : Replies arrivals (phase_of (asks_for_data token)) answer reply

-- the host sends its ACK, if it sends one, and the device receives it
abbrev pub Acknowledges :
    {R : Type 0} → PrepareGives R → ApplyGives R → AnswerOf R → Arrivals → Bool → DevControlState R
    → DevControlState R → Type 0
Acknowledges prepare_gives apply_gives answer_of arrivals false old new = new ≡ old
Acknowledges prepare_gives apply_gives answer_of arrivals true old new =
    (came : Option Packet) × (answer : Option Packet) × Carries arrivals Acknowledgement Ack came
    × Receives prepare_gives apply_gives answer_of came old new answer

-- one transaction of endpoint 0 by its packets, as each end reads them
pub record Crosses {R : Type 0} (prepare_gives : PrepareGives R) (apply_gives : ApplyGives R)
    (answer_of : AnswerOf R) (arrivals : Arrivals) (host : HostTransferState)
    (old : DevControlState R) (host_then : HostTransferState)
    (new : DevControlState R) : Type 0 where
  pub mid : DevControlState R
  pub answer : Option Packet
  pub reply : Option Packet
  pub reached :
      PacketReaches prepare_gives apply_gives answer_of arrivals (token_of host) (payload_of host) old mid
      answer
  pub replied : Replies arrivals (phase_of (asks_at host.stage)) answer reply
  pub took_reply : host_then ≡ transfer_after_reply reply host
  pub acknowledged :
      Acknowledges prepare_gives apply_gives answer_of arrivals (acknowledges reply host) mid new
