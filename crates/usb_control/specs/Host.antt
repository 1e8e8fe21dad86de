-- The host's end of a control transfer, packet by packet (USB 2.0, 8.5.3, 8.6 and 10.2.6).
use Rattle.std.specs.Prelude.{◌≡◌, ℕ, ◌+◌, Bool, true, false, not, nat_le, nat_lt, ◌==◌, ◌&&◌, if◌then◌else◌, List, [], ◌++◌, length, Option, Some, None}
use Rattle.std.specs.Bool.{beq}
use Rattle.usb_packet.specs.declared.packet.TokenKind.{TokenKind}
use Rattle.usb_packet.specs.declared.packet.TokenKind.TheVariants as tokens
use Rattle.usb_packet.specs.declared.packet.Packet.{Packet}
use Rattle.usb_packet.specs.declared.packet.Packet.TheVariants.{Token, Data, Ack, Nak, Stall}
use Rattle.usb_control.specs.declared.setup.Setup.{Setup as Request}
use Rattle.usb_control.specs.declared.fault.ControlFault.{ControlFault}
use Rattle.usb_control.specs.declared.fault.ControlFault.TheVariants.{Stalled, BusFault, Overrun}
use Rattle.usb_control.specs.declared.host.HostStage.{HostStage}
use Rattle.usb_control.specs.declared.host.HostStage.TheVariants.{Setup, DataIn, DataOut, StatusIn, StatusOut, Done, Failed}
use Rattle.usb_control.specs.declared.host.Progress.{Progress}
use Rattle.usb_control.specs.declared.host.Progress.TheVariants as progresses
use Rattle.usb_control.specs.declared.host.Outcome.{Outcome}
use Rattle.usb_control.specs.declared.host.Outcome.TheVariants as outcomes
use Rattle.usb_control.specs.SetupBytes.{setup_bytes, reads}
use Rattle.usb_control.specs.Pieces.{piece_from}
use Rattle.usb_control.specs.Packets.{data_packet}

-- a transfer: its request, the bytes that it sends or has got, what is tried next, and how many tries in a
-- row had no answer
pub record HostTransferState : Type 0 where
  pub addr : ℕ
  pub setup : Request
  pub bytes : List ℕ
  pub stage : HostStage
  pub tries : ℕ

-- how many bytes the host sends: a read sends none
abbrev pub sent_length : Request → ℕ
sent_length setup = if reads setup then 0 else setup.length

-- a transfer that has yet to begin
abbrev pub at_start : ℕ → Request → List ℕ → HostTransferState
at_start addr setup sends =
    record { addr = addr; setup = setup; bytes = sends; stage = Setup; tries = 0 }

-- how far a transfer at this stage has come
abbrev pub progress_of : HostStage → Progress
progress_of Done = progresses.Done
progress_of (Failed fault) = progresses.Failed fault
progress_of _ = progresses.Running

-- the transfer runs: there is another try to make
abbrev pub IsRunning : HostStage → Type 0
IsRunning stage = progress_of stage ≡ progresses.Running

-- the token of a stage: SETUP, IN where data or a status come, OUT where they go
abbrev pub kind_of : HostStage → TokenKind
kind_of Setup = tokens.Setup
kind_of (DataIn one) = tokens.In
kind_of StatusIn = tokens.In
kind_of _ = tokens.Out

-- whether the device is asked for data
abbrev pub asks_at : HostStage → Bool
asks_at (DataIn one) = true
asks_at StatusIn = true
asks_at _ = false

-- the token of the next try, to endpoint 0
abbrev pub token_of : HostTransferState → Packet
token_of host = Token (kind_of host.stage) host.addr 0

-- the data that go with the token of a stage, of this request with these bytes
abbrev pub payload_at : HostStage → Request → List ℕ → Option Packet
payload_at Setup setup bytes = Some (data_packet false (setup_bytes setup))
payload_at (DataOut sent one) setup bytes = Some (data_packet one (piece_from bytes sent))
payload_at StatusOut setup bytes = Some (data_packet true [])
payload_at _ setup bytes = None

-- the data that go with the token of the next try
abbrev pub payload_of : HostTransferState → Option Packet
payload_of host = payload_at host.stage host.setup host.bytes

-- the transfer once it went on to a stage
abbrev pub with_stage : HostStage → HostTransferState → HostTransferState
with_stage stage host = record host { stage = stage; tries = 0 }

-- the transfer once it failed
abbrev pub with_failure : ControlFault → HostTransferState → HostTransferState
with_failure fault host = record host { stage = Failed fault }

-- the transfer after a try without an answer: it fails at the third one in a row
abbrev pub after_no_answer : HostTransferState → HostTransferState
after_no_answer host =
    if nat_lt host.tries 2 then record host { tries = host.tries + 1 } else with_failure BusFault host

-- what follows SETUP, in a read or a write of this length
abbrev pub after_setup : Bool → ℕ → HostStage
after_setup is_read len =
    if len == 0 then StatusIn else if is_read then DataIn true else DataOut 0 true

-- what follows a piece of a write, once `sent` of its `len` bytes are acknowledged
abbrev pub after_write_piece : ℕ → ℕ → Bool → HostStage
after_write_piece sent len one = if sent == len then StatusIn else DataOut sent (not one)

-- what follows a piece of `count` bytes, after `got` bytes of a read of `len`: more data if the piece was full and bytes are
-- missing, else the status
abbrev pub after_read_piece : ℕ → ℕ → ℕ → Bool → HostStage
after_read_piece got count len one =
    if (count == 8) && nat_lt (got + count) len then DataIn (not one) else StatusOut

-- the transfer after data under the expected toggle: it takes the next bytes, or fails where they are too many
abbrev pub with_payload : Bool → List ℕ → HostTransferState → HostTransferState
with_payload one payload host =
    if nat_le (length payload) 8 && nat_le (length host.bytes + length payload) host.setup.length
    then record host {
      bytes = host.bytes ++ payload;
      stage = after_read_piece (length host.bytes) (length payload) host.setup.length one;
      tries = 0;
    }
    else with_failure Overrun host

-- the transfer after data in the status stage: DATA0 is a repeat; DATA1 without a byte is the status; DATA1 with
-- any byte is C3
abbrev pub status_in : Bool → List ℕ → HostTransferState → HostTransferState
status_in false payload host = with_stage StatusIn host
status_in true [] host = with_stage Done host
status_in true payload host = with_failure Overrun host

-- the transfer after an answer to SETUP: only ACK is one
abbrev pub after_setup_answer : Option Packet → HostTransferState → HostTransferState
after_setup_answer (Some Ack) host = with_stage (after_setup (reads host.setup) host.setup.length) host
after_setup_answer _ host = after_no_answer host

-- the transfer after an answer that takes it no further: NAK, STALL, or none that counts
abbrev pub after_other_answer : Option Packet → HostTransferState → HostTransferState
after_other_answer (Some Nak) host = with_stage host.stage host
after_other_answer (Some Stall) host = with_failure Stalled host
after_other_answer _ host = after_no_answer host

-- the transfer after a handshake on data that were sent, where this stage follows an ACK
abbrev pub handshake : Option Packet → HostStage → HostTransferState → HostTransferState
handshake (Some Ack) next host = with_stage next host
handshake packet next host = after_other_answer packet host

-- the transfer after an answer to IN, where data have this meaning
abbrev pub after_in_answer :
    Option Packet → (Bool → List ℕ → HostTransferState → HostTransferState) → HostTransferState
    → HostTransferState
after_in_answer (Some (Data one payload)) taken host = taken one payload.items host
after_in_answer packet taken host = after_other_answer packet host

-- the transfer after data in the data stage: those under the other toggle are a repeat
abbrev pub data_in : Bool → Bool → List ℕ → HostTransferState → HostTransferState
data_in expected one payload host =
    if beq one expected then with_payload one payload host else with_stage host.stage host

-- the transfer after what the host received, at its stage
abbrev pub transfer_after_reply_at : HostStage → Option Packet → HostTransferState → HostTransferState
transfer_after_reply_at Setup packet host = after_setup_answer packet host
transfer_after_reply_at (DataIn one) packet host = after_in_answer packet (data_in one) host
transfer_after_reply_at (DataOut sent one) packet host =
    handshake packet
    (after_write_piece (sent + length (piece_from host.bytes sent)) (length host.bytes) one)
    host
transfer_after_reply_at StatusIn packet host = after_in_answer packet status_in host
transfer_after_reply_at StatusOut packet host = handshake packet Done host
transfer_after_reply_at _ packet host = host

-- The transfer after what the host received. Example: DATA1 of 3 bytes to a read of 2 bytes is C3
abbrev pub transfer_after_reply : Option Packet → HostTransferState → HostTransferState
transfer_after_reply packet host = transfer_after_reply_at host.stage packet host

-- the transfer failed since too much came
abbrev pub is_overrun : HostStage → Bool
is_overrun (Failed Overrun) = true
is_overrun _ = false

-- data in answer to IN are acknowledged, but for those that are too much
abbrev pub acknowledges_at : HostStage → Option Packet → HostStage → Bool
acknowledges_at (DataIn one) (Some (Data toggle payload)) after = not (is_overrun after)
acknowledges_at StatusIn (Some (Data toggle payload)) after = not (is_overrun after)
acknowledges_at _ _ _ = false

-- whether the host acknowledges what came
abbrev pub acknowledges : Option Packet → HostTransferState → Bool
acknowledges packet host = acknowledges_at host.stage packet (transfer_after_reply packet host).stage

-- an outcome shows where the transfer stands, and the bytes of a read
abbrev pub IsOutcomeOf : Outcome → HostStage → List ℕ → Type 0
IsOutcomeOf outcomes.Running stage bytes = IsRunning stage
IsOutcomeOf (outcomes.Done got) stage bytes = (stage ≡ Done) × (got.now ≡ bytes)
IsOutcomeOf (outcomes.Failed fault) stage bytes = stage ≡ Failed fault
