-- Which reports of a device cross, by what it queued and the fates of the polls alone: no toggle, no view and no host
-- (USB 2.0, 5.7.3, 8.5.4 and 8.6).
use Rattle.std.specs.Prelude.{ℕ, ◌+◌, Bool, true, false, not, ◌&&◌, if◌then◌else◌, List, [], ◌∷◌, ◌++◌, map, Some, None}
use Rattle.usb_transact.specs.declared.host.Took.{Took}
use Rattle.usb_transact.specs.declared.host.Took.TheVariants.{Fresh, Again, Nak, Stall, Silent}
use Rattle.usb_transact.specs.declared.transaction.Fate.{Fate}
use Rattle.usb_transact.specs.declared.transaction.Fate.TheVariants.{Clean, TokenLost, ReplyLost, AckLost}
use Rattle.hid_bus.specs.Rounds.{reaches_host}
use Rattle.hid_any_device.specs.Sender.{Readiness, Sends, Waits, Stalls, ReportPieces, Last, More, bytes_of_pieces, current_piece}
use Rattle.hid_any_device.specs.PipeSteps.{PipeStep, Queues, Polls, Clears}

-- What a device has yet to send: the reports whose last piece wasn't acknowledged, of the first one what is left from the
-- current piece on; the bytes of that report before the current piece; and whether the current piece has crossed.
pub record QueueState : Type 0 where
  pub queue : List ReportPieces
  pub earlier : List ℕ
  pub crossed : Bool

-- nothing was queued yet
abbrev pub queue_at_start : QueueState
queue_at_start = record { queue = []; earlier = []; crossed = false }

-- a poll of which nothing is lost closes the current piece
abbrev pub queue_after_clean_poll : List ℕ → List ReportPieces → QueueState
queue_after_clean_poll earlier [] = record { queue = []; earlier = earlier; crossed = false }
queue_after_clean_poll earlier (Last bytes ∷ queue) = record { queue = queue; earlier = []; crossed = false }
queue_after_clean_poll earlier (More bytes rest ∷ queue) =
    record { queue = rest ∷ queue; earlier = earlier ++ bytes; crossed = false }

-- whether a queue has a current piece
abbrev pub has_piece : List ReportPieces → Bool
has_piece [] = false
has_piece (report ∷ queue) = true

-- what is left to send after a poll of a device that sends: where the acknowledgement alone is lost, the piece has crossed
-- and stays current
abbrev pub queue_after_poll : QueueState → Fate → QueueState
queue_after_poll q Clean = queue_after_clean_poll q.earlier q.queue
queue_after_poll q AckLost = record q { crossed = has_piece q.queue }
queue_after_poll q TokenLost = q
queue_after_poll q ReplyLost = q

-- what is left to send after a step
abbrev pub queue_after : QueueState → PipeStep → QueueState
queue_after q (Queues report) = record q { queue = q.queue ++ report ∷ [] }
queue_after q (Polls Sends fate) = queue_after_poll q fate
queue_after q (Polls Waits fate) = q
queue_after q (Polls Stalls fate) = q
queue_after q (Clears queue) = record { queue = queue; earlier = []; crossed = false }

-- what is left to send after a list of steps
abbrev pub queue_after_all : QueueState → List PipeStep → QueueState
queue_after_all q [] = q
queue_after_all q (step ∷ steps) = queue_after_all (queue_after q step) steps

-- the device sends the current piece, where it has one
abbrev pub sends_data : Readiness → Bool
sends_data Sends = true
sends_data Waits = false
sends_data Stalls = false

-- a piece crosses where it first reaches the host
abbrev pub piece_crosses : QueueState → PipeStep → Bool
piece_crosses q (Queues report) = false
piece_crosses q (Polls readiness fate) =
    sends_data readiness && (reaches_host fate && (has_piece q.queue && not q.crossed))
piece_crosses q (Clears queue) = false

-- the report whose last piece is current, as a list
abbrev pub report_at_last_piece : List ℕ → List ReportPieces → List (List ℕ)
report_at_last_piece earlier [] = []
report_at_last_piece earlier (Last bytes ∷ queue) = (earlier ++ bytes) ∷ []
report_at_last_piece earlier (More bytes rest ∷ queue) = []

-- The report that crosses at a step, if one does, as a list: it crosses with its last piece.
abbrev pub report_crossing : QueueState → PipeStep → List (List ℕ)
report_crossing q step = if piece_crosses q step then report_at_last_piece q.earlier q.queue else []

-- The reports that cross over a list of steps, in order. Example: a report of one piece, a lost ACK and a clean poll: it
-- crosses once, at the lost ACK
abbrev pub crossed_reports : QueueState → List PipeStep → List (List ℕ)
crossed_reports q [] = []
crossed_reports q (step ∷ steps) = report_crossing q step ++ crossed_reports (queue_after q step) steps

-- how many pieces have crossed after a step since both toggles began, of n before it
abbrev pub crossed_pieces_after : QueueState → ℕ → PipeStep → ℕ
crossed_pieces_after q n (Queues report) = n
crossed_pieces_after q n (Polls readiness fate) = if piece_crosses q (Polls readiness fate) then n + 1 else n
crossed_pieces_after q n (Clears queue) = 0

-- how many pieces have crossed after a list of steps since both toggles began, of n before it
abbrev pub crossed_pieces : QueueState → ℕ → List PipeStep → ℕ
crossed_pieces q n [] = n
crossed_pieces q n (step ∷ steps) = crossed_pieces (queue_after q step) (crossed_pieces_after q n step) steps

-- what a host takes of the data that are sent: they are fresh where the current piece hasn't crossed
abbrev pub took_of_data : QueueState → Took
took_of_data q =
    elim (current_piece q.queue) [
      | None ↦ Nak
      | Some bytes ↦ (if q.crossed then Again else Fresh (record { items = bytes }))
    ]

-- what a host takes of an answer that reaches it
abbrev pub took_of_answer : Readiness → QueueState → Took
took_of_answer Sends q = took_of_data q
took_of_answer Waits q = Nak
took_of_answer Stalls q = Stall

-- what a host takes at a poll, by what is left to send and the fate alone
abbrev pub took_of_poll : QueueState → Readiness → Fate → Took
took_of_poll q readiness fate = if reaches_host fate then took_of_answer readiness q else Silent

-- the bytes of a report that a step queues, as a list
abbrev pub report_queued_at : PipeStep → List (List ℕ)
report_queued_at (Queues report) = bytes_of_pieces report ∷ []
report_queued_at (Polls readiness fate) = []
report_queued_at (Clears queue) = []

-- the bytes of all reports that are queued, in order
abbrev pub queued_reports : List PipeStep → List (List ℕ)
queued_reports [] = []
queued_reports (step ∷ steps) = report_queued_at step ++ queued_reports steps

-- the report of the current piece, whole, unless it has crossed, as a list
abbrev pub report_waiting : List ℕ → Bool → ReportPieces → List (List ℕ)
report_waiting earlier crossed (Last bytes) = if crossed then [] else (earlier ++ bytes) ∷ []
report_waiting earlier crossed (More bytes rest) = (earlier ++ (bytes ++ bytes_of_pieces rest)) ∷ []

-- the reports of a queue that haven't crossed
abbrev pub reports_waiting_in : List ℕ → Bool → List ReportPieces → List (List ℕ)
reports_waiting_in earlier crossed [] = []
reports_waiting_in earlier crossed (report ∷ queue) =
    report_waiting earlier crossed report ++ map bytes_of_pieces queue

-- the reports that haven't crossed
abbrev pub reports_waiting : QueueState → List (List ℕ)
reports_waiting q = reports_waiting_in q.earlier q.crossed q.queue

-- how many pieces a report has
abbrev pub piece_count : ReportPieces → ℕ
piece_count (Last bytes) = 1
piece_count (More bytes rest) = 1 + piece_count rest

-- how many pieces a queue has
abbrev pub queued_piece_count : List ReportPieces → ℕ
queued_piece_count [] = 0
queued_piece_count (report ∷ queue) = piece_count report + queued_piece_count queue
