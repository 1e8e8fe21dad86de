-- What a host makes of all that came at its polls, and what of that comes of a device that keeps to the toggle protocol
-- (USB 2.0, 8.5.4 and 8.6).
use Rattle.std.specs.Prelude.{◌≡◌, ℕ, List, [], ◌∷◌, ◌++◌, Option}
use Rattle.hid_layout.specs.Layout.{Contents}
use Rattle.hid_layout.specs.Controls.{items_of}
use Rattle.hid_snapshots.specs.declared.event.Event.{Event}
use Rattle.hid_snapshots.specs.ControlStates.{blank}
use Rattle.usb_packet.specs.declared.packet.Packet.{Packet}
use Rattle.usb_transact.specs.Replies.{reply_outcome}
use Rattle.hid_host.specs.declared.phase.HostPhase.{HostPhase}
use Rattle.hid_host.specs.declared.phase.HostPhase.TheVariants.{Cold, Described, Parsed, Ready}
use Rattle.hid_host.specs.Host.{HostDeviceState, host_after_reply}
use Rattle.hid_host.specs.Ready.{ReadyHostState, events_after, ready_host_after}
use Rattle.hid_any_device.specs.PipeSteps.{PipeEnds, PipeStep, Queues, Polls, Clears, ends_after, ends_at_start}
use Rattle.hid_any_device.specs.Sender.{reply_at_host}
use Rattle.hid_any_device.specs.SendQueue.{crossed_reports, queue_at_start}
use Rattle.hid_any_device.specs.Delivery.{AllClearNone, AllReportsEnd, events_of_reports}

-- what a ready host keeps after what came at a poll
abbrev pub known_after_reply : ReadyHostState → Option Packet → ReadyHostState
known_after_reply known reply = ready_host_after known (reply_outcome known.pipe.expects reply)

-- the events of what came at a poll
abbrev pub events_of_reply : ReadyHostState → Option Packet → List Event
events_of_reply known reply = events_after known (reply_outcome known.pipe.expects reply)

-- the events of all that came, in order
abbrev pub events_of_replies : ReadyHostState → List (Option Packet) → List Event
events_of_replies known [] = []
events_of_replies known (reply ∷ replies) =
    events_of_reply known reply ++ events_of_replies (known_after_reply known reply) replies

-- a host of this phase after what came at a poll; one that isn't ready doesn't poll
abbrev pub device_host_after_at : HostDeviceState → HostPhase → Option Packet → HostDeviceState
device_host_after_at host (Ready known) reply =
    host_after_reply host known (reply_outcome known.pipe.expects reply)
device_host_after_at host Cold reply = host
device_host_after_at host (Described info) reply = host
device_host_after_at host (Parsed info layout) reply = host

-- a host after what came at a poll
abbrev pub device_host_after : HostDeviceState → Option Packet → HostDeviceState
device_host_after host reply = device_host_after_at host host.phase reply

-- a host after all that came
abbrev pub device_host_after_all : HostDeviceState → List (Option Packet) → HostDeviceState
device_host_after_all host [] = host
device_host_after_all host (reply ∷ replies) = device_host_after_all (device_host_after host reply) replies

-- the events that a host in this phase delivers for what came at a poll: none unless it is ready
abbrev pub device_host_events_at : HostPhase → Option Packet → List Event
device_host_events_at (Ready known) reply = events_of_reply known reply
device_host_events_at Cold reply = []
device_host_events_at (Described info) reply = []
device_host_events_at (Parsed info layout) reply = []

-- the events of a host of what came at a poll
abbrev pub device_host_events : HostDeviceState → Option Packet → List Event
device_host_events host reply = device_host_events_at host.phase reply

-- the events of a host of all that came
abbrev pub device_host_events_all : HostDeviceState → List (Option Packet) → List Event
device_host_events_all host [] = []
device_host_events_all host (reply ∷ replies) =
    device_host_events host reply ++ device_host_events_all (device_host_after host reply) replies

-- what comes to the host at a step, as a list: something or nothing at a poll
abbrev pub replies_at_step : PipeEnds → PipeStep → List (Option Packet)
replies_at_step ends (Queues report) = []
replies_at_step ends (Polls readiness fate) = reply_at_host fate readiness ends.sender ∷ []
replies_at_step ends (Clears queue) = []

-- what comes to a host over a list of steps, where full packets have 64 bytes
abbrev pub replies_of_steps : PipeEnds → List PipeStep → List (Option Packet)
replies_of_steps ends [] = []
replies_of_steps ends (step ∷ steps) =
    replies_at_step ends step ++ replies_of_steps (ends_after 64 ends step) steps

-- Events of replies are those of any device from which the replies can come: one whose reports end at their host with
-- their last piece, whatever was lost. They are those of reading, in order, each report that crossed.
abbrev pub AreEventsOfDevice : ℕ → Contents → List (Option Packet) → List Event → Type 0
AreEventsOfDevice addr layout replies events =
    (steps : List PipeStep) → AllReportsEnd 64 layout steps → AllClearNone steps
    → replies_of_steps (ends_at_start addr 1 layout) steps ≡ replies
    → events ≡ events_of_reports layout (blank (items_of layout)) (crossed_reports queue_at_start steps)
