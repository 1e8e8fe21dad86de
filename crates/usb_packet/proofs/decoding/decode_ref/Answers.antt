use Rattle.std.proofs.Common.{◌≡◌, ℕ, ◌-◌, ◌≤◌, [], ◌∷◌, List, length, get_or, take, drop, Result, Ok, Err, ap, subst, arith}
use Rattle.std.specs.Prelude.{IfOk, IfErr}
use Rattle.std.proofs.lemmas.List.{take_all}
use Rattle.std.proofs.lemmas.Grind.{common_steps}
use Rattle.usb_packet.specs.declared.packet.Packet.{Packet}
use Rattle.usb_packet.specs.declared.fault.PacketFault.{PacketFault}
use Rattle.usb_packet.specs.PacketEncoding.{Encodes}
use Rattle.usb_packet.specs.Fault.{Decodes, IsFault}
use Rattle.usb_packet.proofs.decoding.decode_ref.Goals as goal

-- bytes encode one packet
one : (bytes : List ℕ) (packet other : Packet) → Encodes packet bytes → Encodes other bytes → packet ≡ other
one bytes packet other here there = grind (arith, common_steps)

-- where a fault stands bytes encode no packet
no_fault : (bytes : List ℕ) (fault : PacketFault) (packet : Packet) → IsFault fault bytes → Encodes packet bytes → ⊥
no_fault bytes fault packet here there = grind (arith, common_steps)

-- bytes are their first one and what stands after it
split : (bytes : List ℕ) (first : ℕ) → 1 ≤ length bytes → get_or bytes 0 0 ≡ first
    → first ∷ take (length bytes - 1) (drop 1 bytes) ≡ bytes
split [] first some is = absurd (omega arith)
split (byte ∷ rest) first some is = rw (← is) (ap (λ (l : List ℕ). byte ∷ l) (take_all _ rest (omega arith)))

-- what is promised of the bytes
record IsRead (bytes : List ℕ) (result : Result Packet PacketFault) : Type 0 where
  found : IfOk result (λ packet. Encodes packet bytes)
  complete : (packet : Packet) → Encodes packet bytes → result ≡ Ok packet
  fault : IfErr result (λ fault. IsFault fault bytes)

of_bytes : (bytes : List ℕ) (result : Result Packet PacketFault) → Decodes result bytes → IsRead bytes result
of_bytes bytes (Ok packet) is = record { found = is; complete = λ other there. ap Ok (one bytes packet other is there); fault = tt }
of_bytes bytes (Err fault) is = record { found = tt; complete = λ other there. absurd (no_fault bytes fault other is there); fault = is }

-- what is read by the first byte and those after it
by_first : (bytes : List ℕ) (first : ℕ) (result : Result Packet PacketFault) → 1 ≤ length bytes → get_or bytes 0 0 ≡ first
    → Decodes result (first ∷ take (length bytes - 1) (drop 1 bytes)) → IsRead bytes result
by_first bytes first result some is reads =
    of_bytes bytes result (subst (Decodes result) (split bytes first some is) reads)

pub returns-in-225 : goal.returns-in-225
returns-in-225 c = let h = by_first c.args.bytes.now 225 _ c.in-len1-up.len_at_least c.in-225.is c.token.ensures in record { found = h.found; complete = h.complete; fault = h.fault }

pub returns-in-105 : goal.returns-in-105
returns-in-105 c = let h = by_first c.args.bytes.now 105 _ c.in-len1-up.len_at_least c.in-105.is c.token-in-105.ensures in record { found = h.found; complete = h.complete; fault = h.fault }

pub returns-in-45 : goal.returns-in-45
returns-in-45 c = let h = by_first c.args.bytes.now 45 _ c.in-len1-up.len_at_least c.in-45.is c.token-in-45.ensures in record { found = h.found; complete = h.complete; fault = h.fault }

pub returns-in-195 : goal.returns-in-195
returns-in-195 c = let h = by_first c.args.bytes.now 195 _ c.in-len1-up.len_at_least c.in-195.is c.data.ensures in record { found = h.found; complete = h.complete; fault = h.fault }

pub returns-in-75 : goal.returns-in-75
returns-in-75 c = let h = by_first c.args.bytes.now 75 _ c.in-len1-up.len_at_least c.in-75.is c.data-in-75.ensures in record { found = h.found; complete = h.complete; fault = h.fault }

pub returns-in-210 : goal.returns-in-210
returns-in-210 c = let h = by_first c.args.bytes.now 210 _ c.in-len1-up.len_at_least c.in-210.is c.handshake.ensures in record { found = h.found; complete = h.complete; fault = h.fault }

pub returns-in-90 : goal.returns-in-90
returns-in-90 c = let h = by_first c.args.bytes.now 90 _ c.in-len1-up.len_at_least c.in-90.is c.handshake-in-90.ensures in record { found = h.found; complete = h.complete; fault = h.fault }

pub returns-in-30 : goal.returns-in-30
returns-in-30 c = let h = by_first c.args.bytes.now 30 _ c.in-len1-up.len_at_least c.in-30.is c.handshake-in-30.ensures in record { found = h.found; complete = h.complete; fault = h.fault }
