-- What happens at an interrupt pipe between a device that keeps to the toggle protocol and its ready host, and what both
-- make of it (USB 2.0, 8.5.4, 8.6 and 9.4.5).
use Rattle.std.specs.Prelude.{ℕ, false, List, [], ◌∷◌, ◌++◌, Result}
use Rattle.hid_layout.specs.Layout.{Contents}
use Rattle.hid_snapshots.specs.declared.event.Event.{Event}
use Rattle.usb_transact.specs.declared.host.Took.{Took}
use Rattle.usb_transact.specs.declared.transaction.Fate.{Fate}
use Rattle.usb_transact.specs.Replies.{reply_outcome}
use Rattle.hid_host.specs.declared.fault.StackFault.{StackFault}
use Rattle.hid_host.specs.Ready.{ReadyHostState, ready_host_after_clear, ready_host_at_start}
use Rattle.hid_any_device.specs.Sender.{Readiness, ReportPieces, Sender, reply_at_host, sender_after_poll}
use Rattle.hid_any_device.specs.Endpoint.{events_of_taken, host_of_taken, result_of_taken}

-- A step of the pipe. `Queues`: the device queues a report. `Polls`: the host polls a device that sends, waits or is halted,
-- and the poll has this fate. `Clears`: a halt is cleared, and the device has these reports to send then, chosen freely
-- (9.4.5).
pub data PipeStep : Type 0 where
  Queues : ReportPieces → PipeStep
  Polls : Readiness → Fate → PipeStep
  Clears : List ReportPieces → PipeStep

-- both ends of the pipe: a device, and its ready host
pub record PipeEnds : Type 0 where
  pub sender : Sender
  pub host : ReadyHostState

-- both ends just configured: nothing to send yet, DATA0, and the initial view
abbrev pub ends_at_start : ℕ → ℕ → Contents → PipeEnds
ends_at_start addr endpoint layout = record {
  sender = record { queue = []; toggle = false };
  host = ready_host_at_start addr endpoint layout;
}

-- what the host takes at a poll
abbrev pub took_at_poll : PipeEnds → Readiness → Fate → Took
took_at_poll ends readiness fate =
    reply_outcome ends.host.pipe.expects (reply_at_host fate readiness ends.sender)

-- both ends after a step, by the size of a full packet
abbrev pub ends_after : ℕ → PipeEnds → PipeStep → PipeEnds
ends_after packet_size ends (Queues report) = record ends {
  sender = record { queue = ends.sender.queue ++ report ∷ []; toggle = ends.sender.toggle };
}
ends_after packet_size ends (Polls readiness fate) = record {
  sender = sender_after_poll fate (took_at_poll ends readiness fate) ends.sender;
  host = host_of_taken packet_size ends.host (took_at_poll ends readiness fate);
}
ends_after packet_size ends (Clears queue) = record {
  sender = record { queue = queue; toggle = false };
  host = ready_host_after_clear ends.host;
}

-- the events that the host delivers at a step
abbrev pub events_at_step : ℕ → PipeEnds → PipeStep → List Event
events_at_step packet_size ends (Queues report) = []
events_at_step packet_size ends (Polls readiness fate) =
    events_of_taken packet_size ends.host (took_at_poll ends readiness fate)
events_at_step packet_size ends (Clears queue) = []

-- what a poll returns
abbrev pub poll_result : ℕ → PipeEnds → Readiness → Fate → Result Took StackFault
poll_result packet_size ends readiness fate =
    result_of_taken packet_size ends.host (took_at_poll ends readiness fate)

-- both ends after a list of steps
abbrev pub ends_after_all : ℕ → PipeEnds → List PipeStep → PipeEnds
ends_after_all packet_size ends [] = ends
ends_after_all packet_size ends (step ∷ steps) =
    ends_after_all packet_size (ends_after packet_size ends step) steps

-- the events that the host delivers over a list of steps, in order
abbrev pub events_of_steps : ℕ → PipeEnds → List PipeStep → List Event
events_of_steps packet_size ends [] = []
events_of_steps packet_size ends (step ∷ steps) =
    events_at_step packet_size ends step ++ events_of_steps packet_size (ends_after packet_size ends step) steps
