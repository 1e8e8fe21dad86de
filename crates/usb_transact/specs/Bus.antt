-- A packet on a bus: it goes as its bytes, and the other end reads the bytes that arrive (USB 2.0, 8.3 and 8.4).
use Rattle.std.specs.Prelude.{◌≡◌, ℕ, Bool, true, false, List, Option, Some, None, IfSome}
use Rattle.usb_packet.specs.declared.packet.Packet.{Packet}
use Rattle.usb_packet.specs.PacketEncoding.{Encodes, encoding}
use Rattle.usb_transact.specs.declared.bus.Phase.{Phase}

-- what arrives of the bytes that are sent in a phase
abbrev pub Arrivals : Type 0
Arrivals = Phase → List ℕ → Option (List ℕ)

-- the bytes that arrive: these, or none if they are lost
abbrev pub received_bytes : Bool → List ℕ → Option (List ℕ)
received_bytes true bytes = Some bytes
received_bytes false bytes = None

-- what an end reads: of nothing it reads nothing, and of bytes the one packet that they encode
abbrev pub IsDecoded : Option (List ℕ) → Option Packet → Type 0
IsDecoded None came = came ≡ None
IsDecoded (Some bytes) came =
    IfSome came (λ packet. Encodes packet bytes)
    × ((packet : Packet) → Encodes packet bytes → came ≡ Some packet)

-- the packet has an encoding, and the other end reads this packet of the bytes that arrive
pub record Carries (arrivals : Arrivals) (phase : Phase) (packet : Packet)
    (came : Option Packet) : Type 0 where
  pub sent : Encodes packet (encoding packet)
  pub read : IsDecoded (arrivals phase (encoding packet)) came

-- what the other end reads of an answer, where there is one
abbrev pub Replies : Arrivals → Phase → Option Packet → Option Packet → Type 0
Replies arrivals phase None reply = reply ≡ None
Replies arrivals phase (Some answer) reply = Carries arrivals phase answer reply
