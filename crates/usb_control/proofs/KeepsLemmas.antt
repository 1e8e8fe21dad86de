-- What a host takes leaves the request and the address of its transfer.
use Rattle.std.proofs.Common.{◌≡◌, ◌++◌, ℕ, Bool, true, false, List, [], ◌∷◌, Option, Some, None, refl}
use Rattle.std.specs.Prelude.{if◌then◌else◌, ◌+◌, nat_lt, nat_le, ◌&&◌, length}
use Rattle.std.specs.Bool.{beq}
use Rattle.usb_packet.specs.declared.packet.Packet.{Packet}
use Rattle.usb_packet.specs.declared.packet.Packet.TheVariants.{Token, Data, Ack, Nak, Stall}
use Rattle.usb_control.specs.declared.fault.ControlFault.TheVariants.{BusFault, Overrun}
use Rattle.usb_control.specs.declared.host.HostStage.{HostStage}
use Rattle.usb_control.specs.declared.host.HostStage.TheVariants as stages
use Rattle.usb_control.specs.Host.{HostTransferState, transfer_after_reply_at, after_no_answer, with_failure, after_other_answer, handshake, after_in_answer, after_setup_answer, data_in, status_in, with_payload, with_stage, after_read_piece, after_write_piece}
use Rattle.usb_control.specs.Pieces.{piece_from}

-- the request and the address are those that they were
abbrev pub Keeps : HostTransferState → HostTransferState → Type 0
Keeps new host = (new.setup ≡ host.setup) × (new.addr ≡ host.addr)

unanswered_keeps : (host : HostTransferState) → Keeps (after_no_answer host) host
unanswered_keeps host =
    elim (nat_lt host.tries 2) as
    (λ (b : Bool). Keeps
    (if b then record host { tries = host.tries + 1 } else with_failure BusFault host) host) [
      | true ↦
          (refl, refl)
      | false ↦ (refl, refl)
    ]

not_taken_keeps : (packet : Option Packet) (host : HostTransferState) → Keeps (after_other_answer packet host) host
not_taken_keeps (Some Nak) host = (refl, refl)
not_taken_keeps (Some Stall) host = (refl, refl)
not_taken_keeps (Some Ack) host = unanswered_keeps host
not_taken_keeps (Some (Token kind addr endp)) host = unanswered_keeps host
not_taken_keeps (Some (Data one payload)) host = unanswered_keeps host
not_taken_keeps None host = unanswered_keeps host

setup_keeps : (packet : Option Packet) (host : HostTransferState) → Keeps (after_setup_answer packet host) host
setup_keeps (Some Ack) host = (refl, refl)
setup_keeps (Some Nak) host = unanswered_keeps host
setup_keeps (Some Stall) host = unanswered_keeps host
setup_keeps (Some (Token kind addr endp)) host = unanswered_keeps host
setup_keeps (Some (Data one payload)) host = unanswered_keeps host
setup_keeps None host = unanswered_keeps host

handshake_keeps : (packet : Option Packet) (next : HostStage) (host : HostTransferState) → Keeps (handshake packet next host) host
handshake_keeps (Some Ack) next host = (refl, refl)
handshake_keeps (Some Nak) next host = not_taken_keeps (Some Nak) host
handshake_keeps (Some Stall) next host = not_taken_keeps (Some Stall) host
handshake_keeps (Some (Token kind addr endp)) next host = unanswered_keeps host
handshake_keeps (Some (Data one payload)) next host = unanswered_keeps host
handshake_keeps None next host = unanswered_keeps host

in_keeps : (packet : Option Packet) (taken : Bool → List ℕ → HostTransferState → HostTransferState) (host : HostTransferState)
    → ((one : Bool) (payload : List ℕ) → Keeps (taken one payload host) host)
    → Keeps (after_in_answer packet taken host) host
in_keeps (Some (Data one payload)) taken host keeps = keeps one payload.items
in_keeps (Some Ack) taken host keeps = unanswered_keeps host
in_keeps (Some Nak) taken host keeps = (refl, refl)
in_keeps (Some Stall) taken host keeps = (refl, refl)
in_keeps (Some (Token kind addr endp)) taken host keeps = unanswered_keeps host
in_keeps None taken host keeps = unanswered_keeps host

data_keeps : (expected one : Bool) (payload : List ℕ) (host : HostTransferState) → Keeps (data_in expected one payload host) host
data_keeps expected one payload host =
    elim (beq one expected) as
    (λ (b : Bool). Keeps (if b then with_payload one payload host else with_stage host.stage host) host) [
      | true ↦ elim (nat_le (length payload) 8 && nat_le (length host.bytes + length payload) host.setup.length)
          as (λ (b : Bool). Keeps
          (if b then record host {
            bytes = host.bytes ++ payload;
            stage =
                after_read_piece (length host.bytes) (length payload) host.setup.length one;
            tries =
                0;
          } else with_failure Overrun host) host)
          [ true ↦ (refl, refl) | false ↦ (refl, refl) ]
      | false ↦ (refl, refl)
    ]

status_keeps : (one : Bool) (payload : List ℕ) (host : HostTransferState) → Keeps (status_in one payload host) host
status_keeps false payload host = (refl, refl)
status_keeps true [] host = (refl, refl)
status_keeps true (b ∷ payload) host = (refl, refl)

pub took_keeps : (stage : HostStage) (packet : Option Packet) (host : HostTransferState)
    → Keeps (transfer_after_reply_at stage packet host) host
took_keeps stages.Setup packet host = setup_keeps packet host
took_keeps (stages.DataIn one) packet host = in_keeps packet (data_in one) host (λ x payload. data_keeps one x payload host)
took_keeps (stages.DataOut sent one) packet host = handshake_keeps packet (after_write_piece (sent + length (piece_from host.bytes sent)) (length host.bytes) one) host
took_keeps stages.StatusIn packet host = in_keeps packet status_in host (λ x payload. status_keeps x payload host)
took_keeps stages.StatusOut packet host = handshake_keeps packet stages.Done host
took_keeps stages.Done packet host = (refl, refl)
took_keeps (stages.Failed fault) packet host = (refl, refl)
