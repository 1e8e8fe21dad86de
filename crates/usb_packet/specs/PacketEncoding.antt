-- The bytes that encode a packet (USB 2.0, 8.3 and 8.4).
use Rattle.std.specs.Prelude.{◌≡◌, ℕ, ◌+◌, ◌-◌, ◌*◌, ◌^◌, ◌≤◌, Bool, if◌then◌else◌, List, [], ◌∷◌, length}
use Rattle.std.specs.Int.{w16, to_le_bytes}
use Rattle.usb_packet.specs.declared.packet.TheConstants.{MAX_ADDRESS, MAX_ENDPOINT, MAX_PAYLOAD}
use Rattle.usb_packet.specs.declared.packet.TokenKind.{TokenKind}
use Rattle.usb_packet.specs.declared.packet.TokenKind.TheVariants.{Out, In, Setup}
use Rattle.usb_packet.specs.declared.packet.Packet.{Packet}
use Rattle.usb_packet.specs.declared.packet.Packet.TheVariants.{Token, Data, Ack, Nak, Stall}

-- a PID has the type of the packet in its low half, and the complement of that in its high half (8.3.1). Example: IN has
-- type 1001B, so its PID is 69
abbrev pub pid : ℕ → ℕ
pid type = type + 2 ^ 4 * (15 - type)

-- the types of table 8-1
abbrev pub token_pid : TokenKind → ℕ
token_pid Out = pid 0x1  -- 0001B
token_pid In = pid 0x9  -- 1001B
token_pid Setup = pid 0xD  -- 1101B

-- DATA1 or DATA0, by the toggle (table 8-1)
abbrev pub data_pid : Bool → ℕ
data_pid one = pid (if one then 0xB else 0x3)  -- DATA1 1011B, DATA0 0011B

-- the PID of a packet (table 8-1)
abbrev pub pid_of : Packet → ℕ
pid_of (Token kind addr endp) = token_pid kind
pid_of (Data one payload) = data_pid one
pid_of Ack = pid 0x2  -- 0010B
pid_of Nak = pid 0xA  -- 1010B
pid_of Stall = pid 0xE  -- 1110B

-- what follows the PID: of a token the address in bits 0 to 6, the endpoint in bits 7 to 10, and zeros above (8.4.1);
-- of a data packet the payload (8.4.4); of a handshake nothing (8.4.5)
abbrev pub body_of : Packet → List ℕ
body_of (Token kind addr endp) = to_le_bytes w16 (addr + 2 ^ 7 * endp)
body_of (Data one payload) = payload.items
body_of Ack = []
body_of Nak = []
body_of Stall = []

-- a packet is encoded by its PID and what follows that (8.3.1)
abbrev pub encoding : Packet → List ℕ
encoding packet = pid_of packet ∷ body_of packet

-- A packet has an encoding if its fields fit: of a token an address of at most 127 and an endpoint of at most 15
-- (8.3.2); every other packet fits.
abbrev pub Fits : Packet → Type 0
Fits (Token kind addr endp) = (addr ≤ MAX_ADDRESS) × (endp ≤ MAX_ENDPOINT)
Fits (Data one payload) = Unit {0}
Fits Ack = Unit {0}
Fits Nak = Unit {0}
Fits Stall = Unit {0}

-- The bytes encode the packet: it fits, its body is no longer than a payload may be, and the bytes are its encoding.
-- Example: IN to address 127, endpoint 15 is 69 FF 07
pub record Encodes (packet : Packet) (bytes : List ℕ) : Type 0 where
  pub fits : Fits packet
  pub short : length (body_of packet) ≤ MAX_PAYLOAD
  pub encoded : bytes ≡ encoding packet

-- ACK, NAK and STALL (8.4.5)
abbrev pub IsHandshake : Packet → Type 0
IsHandshake (Token kind addr endp) = ⊥
IsHandshake (Data one payload) = ⊥
IsHandshake Ack = Unit {0}
IsHandshake Nak = Unit {0}
IsHandshake Stall = Unit {0}
