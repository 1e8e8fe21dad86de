-- Why bytes encode no packet (USB 2.0, 8.3 and 8.4): five faults, of which the first that stands counts.
use Rattle.std.specs.Prelude.{◌≡◌, ℕ, ◌+◌, ◌/◌, ◌%◌, ◌^◌, ◌≤◌, List, [], ◌∷◌, length, codes, Result, MatchResult}
use Rattle.std.specs.Int.{w16, from_le_bytes}
use Rattle.usb_packet.specs.declared.packet.TheConstants.{MAX_PAYLOAD}
use Rattle.usb_packet.specs.declared.packet.TokenKind.{TokenKind}
use Rattle.usb_packet.specs.declared.packet.Packet.{Packet}
use Rattle.usb_packet.specs.declared.fault.PacketFault.{PacketFault}
use Rattle.usb_packet.specs.declared.fault.PacketFault.TheVariants.{Empty, BadCheck, UnknownPid, BadLength, BadReserved}
use Rattle.usb_packet.specs.PacketEncoding.{Encodes, token_pid, pid_of, body_of}

-- the code of a fault, as it is printed: P1 to P5
abbrev pub packet_fault_code : PacketFault → List ℕ
packet_fault_code Empty = codes "P1"
packet_fault_code BadCheck = codes "P2"
packet_fault_code UnknownPid = codes "P3"
packet_fault_code BadLength = codes "P4"
packet_fault_code BadReserved = codes "P5"

-- the halves of the first byte are complements (8.3.1)
abbrev pub IsChecked : ℕ → Type 0
IsChecked first = first / 2 ^ 4 + first % 2 ^ 4 ≡ 15

-- some packet has this PID
abbrev pub IsKnown : ℕ → Type 0
IsKnown first = (packet : Packet) × (pid_of packet ≡ first)

-- some packet with this PID has a body of this length
abbrev pub HasLength : ℕ → ℕ → Type 0
HasLength first len =
    (packet : Packet) × (length (body_of packet) ≤ MAX_PAYLOAD) × (pid_of packet ≡ first)
    × (length (body_of packet) ≡ len)

-- a PID is a token's
abbrev pub IsToken : ℕ → Type 0
IsToken first = (kind : TokenKind) × (token_pid kind ≡ first)

-- the first fault of a PID and what follows it: each names its cause, and that no earlier one stands
abbrev pub IsFaultAt : PacketFault → ℕ → List ℕ → Type 0
IsFaultAt Empty first body = ⊥
IsFaultAt BadCheck first body = ¬ IsChecked first
IsFaultAt UnknownPid first body = IsChecked first × ¬ IsKnown first
IsFaultAt BadLength first body = IsKnown first × ¬ HasLength first (length body)
IsFaultAt BadReserved first body =
    IsToken first × (length body ≡ 2) × (2 ^ 11 ≤ from_le_bytes w16 body)

-- The fault of bytes: the first of five causes that stands. They are said without the order of the code: no PID, the
-- PID's check, a PID of no packet, a length that no packet with this PID has, and a token's reserved bits. Example: 69
-- 81 08 is P5
abbrev pub IsFault : PacketFault → List ℕ → Type 0
IsFault fault [] = fault ≡ Empty
IsFault fault (first ∷ body) = IsFaultAt fault first body

-- the packet that the bytes encode, or their first fault
abbrev pub Decodes : Result Packet PacketFault → List ℕ → Type 0
Decodes result bytes =
    MatchResult result (λ packet. Encodes packet bytes) (λ fault. IsFault fault bytes)
