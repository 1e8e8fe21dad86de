-- The device's end of a control transfer, packet by packet (USB 2.0, 8.4.6 and 8.5.3).
use Rattle.std.specs.Prelude.{◌≡◌, ℕ, ◌+◌, Bool, true, false, not, nat_le, nat_lt, ◌==◌, ◌&&◌, if◌then◌else◌, List, [], ◌++◌, length, take, Option, Some, None, unwrap_or}
use Rattle.std.specs.Bool.{beq}
use Rattle.usb_packet.specs.declared.packet.TokenKind.TheVariants as tokens
use Rattle.usb_packet.specs.declared.packet.Packet.{Packet}
use Rattle.usb_packet.specs.declared.packet.Packet.TheVariants.{Token, Data, Ack, Nak, Stall}
use Rattle.usb_control.specs.declared.device.Stage.{Stage}
use Rattle.usb_control.specs.declared.device.Stage.TheVariants.{Idle, ReadData, StatusOut, WriteData, StatusIn}
use Rattle.usb_control.specs.declared.device.LastPacket.{LastPacket}
use Rattle.usb_control.specs.declared.device.LastPacket.TheVariants as last_packets
use Rattle.usb_control.specs.SetupBytes.{setup_of, reads}
use Rattle.usb_control.specs.Requests.{PrepareGives, ApplyGives}
use Rattle.usb_control.specs.Pieces.{piece_from}
use Rattle.usb_control.specs.Packets.{data_packet}

-- what answers requests, and where endpoint 0 stands
pub record DevControlState (R : Type 0) : Type 0 where
  pub requests : R
  pub stage : Stage
  pub last_packet : LastPacket

-- endpoint 0 with no request open
abbrev pub idle_control : {R : Type 0} → R → DevControlState R
idle_control requests = record { requests = requests; stage = Idle; last_packet = last_packets.Nothing }

-- what a packet brings about
pub data Effect : Type 0 where
  -- an answer, the stage after it, and what was received last
  Answers : (answer : Option Packet) (stage : Stage) (last_packet : LastPacket) → Effect
  -- a decision on the request in these bytes
  Decides : (bytes : List ℕ) → Effect
  -- the write of these bytes takes effect
  Applies : (bytes : List ℕ) → Effect

-- what a packet brings about that is answered by STALL: no request is open any more
abbrev pub stall_effect : Effect
stall_effect = Answers (Some Stall) Idle last_packets.Nothing

-- the effect of a packet that gets no answer: the stage stays
abbrev pub effect_without_answer : Stage → Effect
effect_without_answer stage = Answers None stage last_packets.Nothing

-- the piece of a read that begins at a place
abbrev pub read_piece : Option (List ℕ) → ℕ → ℕ → List ℕ
read_piece answer len sent = piece_from (take len (unwrap_or answer [])) sent

-- the effect of an IN token
abbrev pub effect_of_in : Option (List ℕ) → Stage → Effect
effect_of_in answer Idle = stall_effect
effect_of_in answer (ReadData len sent one) =
    Answers (Some (data_packet one (read_piece answer len sent))) (ReadData len sent one)
    last_packets.Answered
effect_of_in answer StatusOut = stall_effect
effect_of_in answer (WriteData len one bytes more) =
    if length bytes.items == len then Applies bytes.items else stall_effect
effect_of_in answer StatusIn = Answers (Some (data_packet true [])) StatusIn last_packets.Answered

-- the effect of data in the status stage of a read: they have to be DATA1 and empty
abbrev pub effect_of_status : Bool → List ℕ → Effect
effect_of_status true [] = Answers (Some Ack) StatusOut last_packets.Nothing
effect_of_status one payload = stall_effect

-- the data stage of a write after a piece: it lasts while its packets are full and bytes are missing
abbrev pub write_goes_on : ℕ → Bool → List ℕ → List ℕ → Stage
write_goes_on len one bytes payload =
    WriteData len (not one) (record { items = bytes ++ payload })
    ((length payload == 8) && nat_lt (length bytes + length payload) len)

-- the effect of data of a write: more bytes, where the data stage lasts and no more come than were announced
abbrev pub effect_of_data : ℕ → Bool → List ℕ → Bool → List ℕ → Effect
effect_of_data len one bytes more payload =
    if (more && nat_le (length payload) 8) && nat_le (length bytes + length payload) len
    then Answers (Some Ack) (write_goes_on len one bytes payload) last_packets.Nothing
    else stall_effect

-- the effect of data after an OUT token
abbrev pub effect_of_out : Stage → Bool → List ℕ → Effect
effect_of_out Idle one payload = stall_effect
effect_of_out (ReadData len sent expected) one payload = effect_of_status one payload
effect_of_out StatusOut one payload = effect_of_status one payload
effect_of_out (WriteData len expected bytes more) one payload =
    if beq one expected then effect_of_data len expected bytes.items more payload
    else Answers (Some Ack) (WriteData len expected bytes more) last_packets.Nothing
effect_of_out StatusIn one payload = stall_effect

-- the stage of a read after a piece of this length
abbrev pub read_goes_on : ℕ → ℕ → Bool → ℕ → Stage
read_goes_on len sent one count =
    if (count == 8) && nat_lt (sent + count) len
    then ReadData len (sent + count) (not one)
    else StatusOut

-- the stage after an ACK that comes directly after data
abbrev pub stage_after_ack : Option (List ℕ) → Stage → Stage
stage_after_ack answer (ReadData len sent one) =
    read_goes_on len sent one (length (read_piece answer len sent))
stage_after_ack answer StatusIn = Idle
stage_after_ack answer stage = stage

-- the effect of a data packet, by the packet that was received before it
abbrev pub effect_of_data_packet : Stage → LastPacket → Bool → List ℕ → Effect
effect_of_data_packet stage last_packets.Setup one payload =
    if not one && (length payload == 8) then Decides payload else effect_without_answer stage
effect_of_data_packet stage last_packets.Out one payload = effect_of_out stage one payload
effect_of_data_packet stage _ one payload = effect_without_answer stage

-- the effect of an ACK, which counts only directly after data
abbrev pub effect_of_ack : Option (List ℕ) → Stage → LastPacket → Effect
effect_of_ack answer stage last_packets.Answered = Answers None (stage_after_ack answer stage) last_packets.Nothing
effect_of_ack answer stage _ = effect_without_answer stage

-- what any packet brings about, by the answer that is fixed, the stage, and the last packet. Example: IN after all data
-- is STALL
abbrev pub effect : Option (List ℕ) → Stage → LastPacket → Packet → Effect
effect answer stage last_packet (Token tokens.Setup addr endp) = Answers None stage last_packets.Setup
effect answer stage last_packet (Token tokens.Out addr endp) = Answers None stage last_packets.Out
effect answer stage last_packet (Token tokens.In addr endp) = effect_of_in answer stage
effect answer stage last_packet (Data one payload) = effect_of_data_packet stage last_packet one payload.items
effect answer stage last_packet Ack = effect_of_ack answer stage last_packet
effect answer stage last_packet Nak = effect_without_answer stage
effect answer stage last_packet Stall = effect_without_answer stage

-- the stage of endpoint 0 after a decision
abbrev pub stage_after_decision : Bool → Bool → ℕ → Stage
stage_after_decision false is_read len = Idle
stage_after_decision true true len = if len == 0 then StatusIn else ReadData len 0 true
stage_after_decision true false len = WriteData len true (record { items = [] }) (nat_lt 0 len)

-- what may come of a packet with this effect
abbrev pub Does :
    {R : Type 0} → PrepareGives R → ApplyGives R → Effect → R → DevControlState R → Option Packet
    → Type 0
Does prepare_gives apply_gives (Answers answer stage last_packet) old new result =
    (new ≡ record { requests = old; stage = stage; last_packet = last_packet }) × (result ≡ answer)
Does prepare_gives apply_gives (Decides bytes) old new result =
    (said : Bool) × prepare_gives old (setup_of bytes) said new.requests
    × (new.stage ≡ stage_after_decision said (reads (setup_of bytes)) (setup_of bytes).length)
    × (new.last_packet ≡ last_packets.Nothing) × (result ≡ Some Ack)
Does prepare_gives apply_gives (Applies bytes) old new result =
    apply_gives old bytes new.requests × (new.stage ≡ StatusIn) × (new.last_packet ≡ last_packets.Answered)
    × (result ≡ Some (data_packet true []))

-- the length of a write under way
abbrev pub write_length : Stage → ℕ
write_length (WriteData len one bytes more) = len
write_length _ = 0
