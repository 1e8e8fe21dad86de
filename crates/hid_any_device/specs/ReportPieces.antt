-- The pieces in which a device sends a report of any bytes, so that its host sees where it ends (USB 2.0, 5.7.3).
use Rattle.std.specs.Prelude.{◌≡◌, ℕ, zero, suc, ◌-◌, ◌*◌, ◌/◌, ◌<◌, nat_lt, if◌then◌else◌, List, [], ◌∷◌, ◌++◌, length, map, take, drop}
use Rattle.hid_layout.specs.Layout.{Contents}
use Rattle.hid_layout.specs.Controls.{items_of}
use Rattle.hid_snapshots.specs.ControlStates.{blank}
use Rattle.hid_usages.specs.Reading.{bytes_awaited}
use Rattle.usb_transact.specs.declared.transaction.Fate.{Fate}
use Rattle.hid_any_device.specs.Sender.{Readiness, ReportPieces, Last, More, bytes_of_pieces}
use Rattle.hid_any_device.specs.PipeSteps.{PipeStep, Queues, Polls, Clears, ends_at_start, events_of_steps}
use Rattle.hid_any_device.specs.SendQueue.{crossed_reports, queue_at_start}
use Rattle.hid_any_device.specs.Delivery.{StepReportsEnd, events_of_reports}

-- bytes in n full packets, and the last one. Example: 70 bytes in one of 64 and the last of 6
abbrev pub cut_pieces : ℕ → ℕ → List ℕ → ReportPieces
cut_pieces packet_size zero bytes = Last bytes
cut_pieces packet_size (suc n) bytes = More (take packet_size bytes) (cut_pieces packet_size n (drop packet_size bytes))

-- How many full packets go before the last one. A report that is shorter than its first byte and the layout say ends with
-- a packet that isn't full, if need be with an empty one.
abbrev pub full_packet_count : ℕ → Contents → List ℕ → ℕ
full_packet_count packet_size layout bytes =
    if nat_lt (length bytes) (bytes_awaited layout bytes) then length bytes / packet_size
    else (length bytes - 1) / packet_size

-- a report of these bytes, as it is sent
abbrev pub pieces_of_report : ℕ → Contents → List ℕ → ReportPieces
pieces_of_report packet_size layout bytes = cut_pieces packet_size (full_packet_count packet_size layout bytes) bytes

-- The last packet begins before the end that the host awaits: the report isn't longer than its packets have room for.
abbrev pub HasRoomInPackets : ℕ → Contents → List ℕ → Type 0
HasRoomInPackets packet_size layout bytes =
    packet_size * full_packet_count packet_size layout bytes < bytes_awaited layout bytes

-- A report in full packets and the last one ends at its host with its last piece, and its pieces are its bytes.
pub record IsSentWhole (packet_size : ℕ) (layout : Contents) (bytes : List ℕ) : Type 0 where
  pub ends : StepReportsEnd packet_size layout (Queues (pieces_of_report packet_size layout bytes))
  pub same : bytes_of_pieces (pieces_of_report packet_size layout bytes) ≡ bytes

-- What happens, by bytes: a device is given a report of these bytes to send, or its host polls it.
pub data ByteStep : Type 0 where
  Gives : List ℕ → ByteStep
  Asks : Readiness → Fate → ByteStep

-- what is given or asked, as a step at the pipe of a device that has this layout
abbrev pub pipe_step_of : ℕ → Contents → ByteStep → PipeStep
pipe_step_of packet_size layout (Gives bytes) = Queues (pieces_of_report packet_size layout bytes)
pipe_step_of packet_size layout (Asks readiness fate) = Polls readiness fate

-- what is given and asked, as steps at the pipe
abbrev pub pipe_steps_of : ℕ → Contents → List ByteStep → List PipeStep
pipe_steps_of packet_size layout steps = map (pipe_step_of packet_size layout) steps

-- the bytes that a step gives, as a list
abbrev pub report_given_at : ByteStep → List (List ℕ)
report_given_at (Gives bytes) = bytes ∷ []
report_given_at (Asks readiness fate) = []

-- the bytes that were given, report by report
abbrev pub reports_given : List ByteStep → List (List ℕ)
reports_given [] = []
reports_given (step ∷ steps) = report_given_at step ++ reports_given steps

-- the report that a step gives has room in its packets
abbrev pub StepHasRoom : ℕ → Contents → ByteStep → Type 0
StepHasRoom packet_size layout (Gives bytes) = HasRoomInPackets packet_size layout bytes
StepHasRoom packet_size layout (Asks readiness fate) = Unit {0}

-- each report that is given has room in its packets
abbrev pub AllHaveRoom : ℕ → Contents → List ByteStep → Type 0
AllHaveRoom packet_size layout [] = Unit {0}
AllHaveRoom packet_size layout (step ∷ steps) =
    StepHasRoom packet_size layout step × AllHaveRoom packet_size layout steps

-- Whatever bytes a device was given to send, and whatever was lost of its polls: the reports that crossed are the first of
-- those, each once, in order and whole; the events are those of reading them; the others are left.
pub record DeliversGivenReports (packet_size addr endpoint : ℕ) (layout : Contents) (steps : List ByteStep) : Type 0 where
  pub crossed : List (List ℕ)
  pub left : List (List ℕ)
  pub order : reports_given steps ≡ crossed ++ left
  pub are_crossed : crossed ≡ crossed_reports queue_at_start (pipe_steps_of packet_size layout steps)
  pub events : events_of_steps packet_size (ends_at_start addr endpoint layout) (pipe_steps_of packet_size layout steps)
      ≡ events_of_reports layout (blank (items_of layout)) crossed

-- a report is one piece, of less than a full packet
abbrev pub IsShortReport : ℕ → ReportPieces → Type 0
IsShortReport packet_size (Last bytes) = length bytes < packet_size
IsShortReport packet_size (More bytes rest) = ⊥

-- each report of a queue is one piece, of less than a full packet
abbrev pub AreShortReports : ℕ → List ReportPieces → Type 0
AreShortReports packet_size [] = Unit {0}
AreShortReports packet_size (report ∷ queue) = IsShortReport packet_size report × AreShortReports packet_size queue

-- each report that a step queues is one piece, of less than a full packet
abbrev pub QueuesShortReports : ℕ → PipeStep → Type 0
QueuesShortReports packet_size (Queues report) = IsShortReport packet_size report
QueuesShortReports packet_size (Polls readiness fate) = Unit {0}
QueuesShortReports packet_size (Clears queue) = AreShortReports packet_size queue

-- each report that a list of steps queues is one piece, of less than a full packet
abbrev pub AllQueueShortReports : ℕ → List PipeStep → Type 0
AllQueueShortReports packet_size [] = Unit {0}
AllQueueShortReports packet_size (step ∷ steps) =
    QueuesShortReports packet_size step × AllQueueShortReports packet_size steps
