-- What a host delivers of any device that keeps to the toggle protocol: the changes between the reports that crossed, in
-- order, each once (USB 2.0, 5.7.3, 8.5.4 and 8.6).
use Rattle.std.specs.Prelude.{◌≡◌, ℕ, true, false, List, [], ◌∷◌, ◌++◌, length, replicate, Result, Ok}
use Rattle.hid_layout.specs.Layout.{Contents}
use Rattle.hid_layout.specs.Controls.{items_of}
use Rattle.hid_snapshots.specs.declared.control_state.ControlState.{ControlState}
use Rattle.hid_snapshots.specs.declared.event.Event.{Event}
use Rattle.hid_snapshots.specs.declared.fault.ReportFault.{ReportFault}
use Rattle.hid_snapshots.specs.ControlStates.{blank}
use Rattle.hid_usages.specs.Reading.{report_named}
use Rattle.hid_usages.specs.Receiving.{events_of_report, is_whole, view_after_report}
use Rattle.usb_transact.specs.declared.transaction.Fate.{Fate}
use Rattle.usb_transact.specs.declared.transaction.Fate.TheVariants.{Clean}
use Rattle.hid_host.specs.Ready.{read_or_fault, read_outcome}
use Rattle.hid_bus.specs.DeviceHistory.{flipped_toggle}
use Rattle.hid_any_device.specs.Sender.{Readiness, ReportPieces, Last, More, Sends}
use Rattle.hid_any_device.specs.PipeSteps.{PipeStep, Queues, Polls, Clears, ends_after_all, ends_at_start, events_at_step, events_of_steps, poll_result}
use Rattle.hid_any_device.specs.SendQueue.{queue_at_start, queue_after_all, crossed_pieces, crossed_reports, queued_piece_count, queued_reports, report_crossing, reports_waiting, took_of_poll}

-- The events of reports that are read in order: of each what changes and moves in the view that the ones before it left.
-- One that names no report, or doesn't fill it, gives no events and leaves the view.
abbrev pub events_of_reports : Contents → List ControlState → List (List ℕ) → List Event
events_of_reports layout view [] = []
events_of_reports layout view (bytes ∷ rest) =
    events_of_report layout bytes view ++ events_of_reports layout (view_after_report layout bytes view) rest

-- the view that reports leave which are read in order
abbrev pub view_after_reports : Contents → List ControlState → List (List ℕ) → List ControlState
view_after_reports layout view [] = view
view_after_reports layout view (bytes ∷ rest) =
    view_after_reports layout (view_after_report layout bytes view) rest

-- A report ends at its host with its last piece, and with no piece before it: that piece isn't a full packet, or as many
-- bytes came as its first byte and the layout say (5.7.3). `earlier` came before these pieces.
abbrev pub ReportEnds : ℕ → Contents → List ℕ → ReportPieces → Type 0
ReportEnds packet_size layout earlier (Last bytes) =
    is_whole packet_size layout (earlier ++ bytes) (length bytes) ≡ true
ReportEnds packet_size layout earlier (More bytes rest) =
    (is_whole packet_size layout (earlier ++ bytes) (length bytes) ≡ false)
    × ReportEnds packet_size layout (earlier ++ bytes) rest

-- each of these reports ends at its host with its last piece
abbrev pub ReportsEnd : ℕ → Contents → List ReportPieces → Type 0
ReportsEnd packet_size layout [] = Unit {0}
ReportsEnd packet_size layout (report ∷ queue) =
    ReportEnds packet_size layout [] report × ReportsEnd packet_size layout queue

-- what a step queues ends at its host with its last piece
abbrev pub StepReportsEnd : ℕ → Contents → PipeStep → Type 0
StepReportsEnd packet_size layout (Queues report) = ReportEnds packet_size layout [] report
StepReportsEnd packet_size layout (Polls readiness fate) = Unit {0}
StepReportsEnd packet_size layout (Clears queue) = ReportsEnd packet_size layout queue

-- what a list of steps queues ends at its host with its last piece, report by report
abbrev pub AllReportsEnd : ℕ → Contents → List PipeStep → Type 0
AllReportsEnd packet_size layout [] = Unit {0}
AllReportsEnd packet_size layout (step ∷ steps) =
    StepReportsEnd packet_size layout step × AllReportsEnd packet_size layout steps

-- the view that the reports leave which crossed
abbrev pub view_after_steps : Contents → List PipeStep → List ControlState
view_after_steps layout steps =
    view_after_reports layout (blank (items_of layout)) (crossed_reports queue_at_start steps)

-- What a host delivers of a device, whatever that is: over these steps its events are those of reading, in order, each
-- report that crossed; its view is the one that they leave; and it expects the parity of the pieces that crossed since
-- both toggles began. Example: a report whose ACK is lost gives its events once
pub record DeliversReports (packet_size addr endpoint : ℕ) (layout : Contents) (steps : List PipeStep) : Type 0 where
  pub events : events_of_steps packet_size (ends_at_start addr endpoint layout) steps
      ≡ events_of_reports layout (blank (items_of layout)) (crossed_reports queue_at_start steps)
  pub view : (ends_after_all packet_size (ends_at_start addr endpoint layout) steps).host.view
      ≡ view_after_steps layout steps
  pub expects : (ends_after_all packet_size (ends_at_start addr endpoint layout) steps).host.pipe.expects
      ≡ flipped_toggle (crossed_pieces queue_at_start 0 steps) false

-- At each step the events are those of the report that crosses at it, if one does.
abbrev pub StepDelivers : ℕ → ℕ → ℕ → Contents → List PipeStep → PipeStep → Type 0
StepDelivers packet_size addr endpoint layout steps step =
    events_at_step packet_size (ends_after_all packet_size (ends_at_start addr endpoint layout) steps) step
    ≡ events_of_reports layout (view_after_steps layout steps)
    (report_crossing (queue_after_all queue_at_start steps) step)

-- what becomes of the report that crosses, if one does: it is read, or refused
abbrev pub result_of_crossing : Contents → List (List ℕ) → Result (Unit {0}) ReportFault
result_of_crossing layout [] = Ok tt
result_of_crossing layout (bytes ∷ rest) = read_or_fault (report_named layout bytes)

-- What a poll returns: what came, by what is left to send and the fate; and a report that can't be read is refused where
-- it crosses, and nowhere else.
abbrev pub PollReturnsCrossing : ℕ → ℕ → ℕ → Contents → List PipeStep → Readiness → Fate → Type 0
PollReturnsCrossing packet_size addr endpoint layout steps readiness fate =
    poll_result packet_size (ends_after_all packet_size (ends_at_start addr endpoint layout) steps) readiness fate
    ≡ read_outcome (took_of_poll (queue_after_all queue_at_start steps) readiness fate)
    (result_of_crossing layout (report_crossing (queue_after_all queue_at_start steps) (Polls readiness fate)))

-- a step clears no halt
abbrev pub ClearsNone : PipeStep → Type 0
ClearsNone (Queues report) = Unit {0}
ClearsNone (Polls readiness fate) = Unit {0}
ClearsNone (Clears queue) = ⊥

-- no step clears a halt
abbrev pub AllClearNone : List PipeStep → Type 0
AllClearNone [] = Unit {0}
AllClearNone (step ∷ steps) = ClearsNone step × AllClearNone steps

-- Each report that was queued has crossed, once and in order, or it waits after those that have, while no halt is
-- cleared.
abbrev pub CrossOnceInOrder : List PipeStep → Type 0
CrossOnceInOrder steps =
    AllClearNone steps
    → queued_reports steps ≡ crossed_reports queue_at_start steps ++ reports_waiting (queue_after_all queue_at_start steps)

-- n polls of a device that sends, of which nothing is lost
abbrev pub clean_polls : ℕ → List PipeStep
clean_polls n = replicate n (Polls Sends Clean)

-- No report waits after as many polls as pieces are queued, where nothing is lost of them: each piece crosses at its first
-- poll.
abbrev pub NoneWaits : List PipeStep → Type 0
NoneWaits steps =
    reports_waiting (queue_after_all (queue_after_all queue_at_start steps)
    (clean_polls (queued_piece_count (queue_after_all queue_at_start steps).queue))) ≡ []
