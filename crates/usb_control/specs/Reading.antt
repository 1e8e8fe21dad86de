-- The bytes of a read, by the packets that the host took (USB 2.0, 8.5.3 and 8.6.2).
use Rattle.std.specs.Prelude.{◌≡◌, ℕ, ◌-◌, ◌<◌, ◌≤◌, ◌⊎◌, Bool, true, not, if◌then◌else◌, List, [], ◌∷◌, ◌++◌, length, Contains, Option, Some}
use Rattle.std.specs.Bool.{beq}
use Rattle.std.specs.List.{concat}
use Rattle.usb_packet.specs.declared.packet.Packet.{Packet}
use Rattle.usb_packet.specs.declared.packet.Packet.TheVariants.{Data, Ack}
use Rattle.usb_control.specs.Host.{HostTransferState, transfer_after_reply}

-- the host after what came in each of these tries
abbrev pub took_all : List (Option Packet) → HostTransferState → HostTransferState
took_all [] host = host
took_all (came ∷ rest) host = took_all rest (transfer_after_reply came host)

-- the payloads that a data stage accepts: under this toggle the next one, then under the other in turn; all else is
-- thrown away (8.6.2)
abbrev pub accepted_payloads : Bool → List (Option Packet) → List (List ℕ)
accepted_payloads one [] = []
accepted_payloads one (Some (Data toggle payload) ∷ rest) =
    if beq toggle one then payload.items ∷ accepted_payloads (not one) rest else accepted_payloads one rest
accepted_payloads one (_ ∷ rest) = accepted_payloads one rest

-- the payloads of a data stage for n bytes: of 8, up to one that is shorter or brings the last byte (8.5.3.2)
abbrev pub IsDataStage : ℕ → List (List ℕ) → Type 0
IsDataStage left [] = left ≡ 0
IsDataStage left (payload ∷ []) =
    (length payload ≤ 8) × (length payload ≤ left)
    × ((length payload < 8) ⊎ (length payload ≡ left))
IsDataStage left (payload ∷ next ∷ rest) =
    (length payload ≡ 8) × (8 < left) × IsDataStage (left - 8) (next ∷ rest)

-- a read for n bytes got these: after the first ACK, which answers SETUP, came a data stage, whose payloads they
-- are joined
pub record IsReadOf (asked : ℕ) (packets : List (Option Packet)) (bytes : List ℕ) : Type 0 where
  pub before : List (Option Packet)
  pub stage : List (Option Packet)
  pub behind : List (Option Packet)
  pub order : packets ≡ before ++ (Some Ack ∷ (stage ++ behind))
  pub first : ¬ Contains before (Some Ack)
  pub data_stage : IsDataStage asked (accepted_payloads true stage)
  pub bytes_are : bytes ≡ concat (accepted_payloads true stage)
