-- Which packets have a PID, and how long they are (USB 2.0, 8.3.1 and 8.4).
use Rattle.std.proofs.Common.{◌≡◌, ℕ, ◌≤◌, ◌⊎◌, inl, inr, refl, sym, Bool, true, false, arith}
use Rattle.usb_packet.specs.declared.packet.TokenKind.{TokenKind}
use Rattle.usb_packet.specs.declared.packet.TokenKind.TheVariants.{Out, In, Setup}
use Rattle.usb_packet.specs.declared.packet.Packet.{Packet}
use Rattle.usb_packet.specs.declared.packet.Packet.TheVariants.{Token, Data, Ack, Nak, Stall}
use Rattle.usb_packet.specs.PacketEncoding.{IsHandshake, token_pid, data_pid, pid_of}
use Rattle.usb_packet.specs.Fault.{HasLength}

pub token_pid_cases : (kind : TokenKind) → (token_pid kind ≡ 225) ⊎ ((token_pid kind ≡ 105) ⊎ (token_pid kind ≡ 45))
token_pid_cases Out = inl refl
token_pid_cases In = inr (inl refl)
token_pid_cases Setup = inr (inr refl)

pub data_pid_cases : (one : Bool) → (data_pid one ≡ 75) ⊎ (data_pid one ≡ 195)
data_pid_cases true = inl refl
data_pid_cases false = inr refl

pub handshake_pid_cases : (packet : Packet) → IsHandshake packet → (pid_of packet ≡ 210) ⊎ ((pid_of packet ≡ 90) ⊎ (pid_of packet ≡ 30))
handshake_pid_cases (Token kind addr endp) h = absurd h
handshake_pid_cases (Data one payload) h = absurd h
handshake_pid_cases Ack h = inl refl
handshake_pid_cases Nak h = inr (inl refl)
handshake_pid_cases Stall h = inr (inr refl)

pub token_len : (kind : TokenKind) (n : ℕ) → HasLength (token_pid kind) n → n ≡ 2
token_len kind n (Token other addr endp, short, same, len) = sym len
token_len kind n (Data one payload, short, same, len) = omega (arith, token_pid_cases kind, data_pid_cases one)
token_len kind n (Ack, short, same, len) = omega (arith, token_pid_cases kind)
token_len kind n (Nak, short, same, len) = omega (arith, token_pid_cases kind)
token_len kind n (Stall, short, same, len) = omega (arith, token_pid_cases kind)

pub data_len : (one : Bool) (n : ℕ) → HasLength (data_pid one) n → n ≤ 64
data_len one n (packet, short, same, len) = omega arith

pub handshake_len : (packet : Packet) (n : ℕ) → IsHandshake packet → HasLength (pid_of packet) n → n ≡ 0
handshake_len packet n h (Token kind addr endp, short, same, len) = omega (arith, handshake_pid_cases packet h, token_pid_cases kind)
handshake_len packet n h (Data one payload, short, same, len) = omega (arith, handshake_pid_cases packet h, data_pid_cases one)
handshake_len packet n h (Ack, short, same, len) = sym len
handshake_len packet n h (Nak, short, same, len) = sym len
handshake_len packet n h (Stall, short, same, len) = sym len
