-- A device's end of an interrupt pipe that keeps to the toggle protocol, whatever it is and sends: reports of any bytes,
-- in pieces (USB 2.0, 5.7.3, 8.5.4 and 8.6).
use Rattle.std.specs.Prelude.{ℕ, Bool, false, true, if◌then◌else◌, List, [], ◌∷◌, ◌++◌, Option, Some, None}
use Rattle.usb_packet.specs.declared.packet.Packet.{Packet}
use Rattle.usb_transact.specs.declared.host.Took.{Took}
use Rattle.usb_transact.specs.declared.host.Took.TheVariants.{Fresh, Again, Nak, Stall, Silent}
use Rattle.usb_transact.specs.declared.transaction.Fate.{Fate}
use Rattle.usb_transact.specs.declared.transaction.Fate.TheVariants.{Clean, TokenLost, ReplyLost, AckLost}
use Rattle.usb_transact.specs.Device.{DevPipeState, answer_of, toggle_after}

-- A report as it is sent: its last piece, or a piece with others after it. A piece is the data of a packet.
pub data ReportPieces : Type 0 where
  Last : List ℕ → ReportPieces
  More : List ℕ → ReportPieces → ReportPieces

-- the bytes of a report
abbrev pub bytes_of_pieces : ReportPieces → List ℕ
bytes_of_pieces (Last bytes) = bytes
bytes_of_pieces (More bytes rest) = bytes ++ bytes_of_pieces rest

-- the piece of a report that is sent first
abbrev pub first_piece : ReportPieces → List ℕ
first_piece (Last bytes) = bytes
first_piece (More bytes rest) = bytes

-- A device's end: the reports that it has yet to send, of the first one what is left from the current piece on, and
-- whether data go out as DATA1.
pub record Sender : Type 0 where
  pub queue : List ReportPieces
  pub toggle : Bool

-- the current piece, where something is queued
abbrev pub current_piece : List ReportPieces → Option (List ℕ)
current_piece [] = None
current_piece (report ∷ queue) = Some (first_piece report)

-- After an acknowledgement the next piece is current: of the same report, or after its last piece the first one of the
-- next report.
abbrev pub queue_after_piece : List ReportPieces → List ReportPieces
queue_after_piece [] = []
queue_after_piece (Last bytes ∷ queue) = queue
queue_after_piece (More bytes rest ∷ queue) = rest ∷ queue

-- How a device answers a token that arrives: it sends the current piece, if it has one; it waits, whatever it has; or its
-- endpoint is halted (8.4.5).
pub data Readiness : Type 0 where
  Sends : Readiness
  Waits : Readiness
  Stalls : Readiness

-- the device's pipe at a token: what is armed there, under the toggle
abbrev pub sender_pipe : Readiness → Sender → DevPipeState
sender_pipe Sends sender = record { toggle = sender.toggle; armed = current_piece sender.queue; halted = false }
sender_pipe Waits sender = record { toggle = sender.toggle; armed = None; halted = false }
sender_pipe Stalls sender = record { toggle = sender.toggle; armed = None; halted = true }

-- the device's answer to a token: the current piece under the toggle, or NAK, or STALL
abbrev pub sender_answer : Readiness → Sender → Packet
sender_answer readiness sender = answer_of (sender_pipe readiness sender)

-- the device's end after an acknowledgement: the next piece is current, and the toggle has changed if data were sent
abbrev pub sender_after_ack : Sender → Sender
sender_after_ack sender = record {
  queue = queue_after_piece sender.queue;
  toggle = toggle_after sender.toggle (current_piece sender.queue);
}

-- the answer as it reaches the host, where it does
abbrev pub reply_at_host : Fate → Readiness → Sender → Option Packet
reply_at_host Clean readiness sender = Some (sender_answer readiness sender)
reply_at_host AckLost readiness sender = Some (sender_answer readiness sender)
reply_at_host TokenLost readiness sender = None
reply_at_host ReplyLost readiness sender = None

-- a host acknowledges data, whether they are fresh or not, and nothing else
abbrev pub is_acknowledged : Took → Bool
is_acknowledged (Fresh payload) = true
is_acknowledged Again = true
is_acknowledged Nak = false
is_acknowledged Stall = false
is_acknowledged Silent = false

-- the device's end after a poll: an acknowledgement reaches it where nothing is lost
abbrev pub sender_after_poll : Fate → Took → Sender → Sender
sender_after_poll Clean took sender = if is_acknowledged took then sender_after_ack sender else sender
sender_after_poll AckLost took sender = sender
sender_after_poll TokenLost took sender = sender
sender_after_poll ReplyLost took sender = sender
