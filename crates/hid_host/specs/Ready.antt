-- What a ready host keeps, and what it makes of the answers to its polls (USB 2.0, 5.7.3, 8.5.4, 8.6 and 9.4.5; HID
-- 1.11, 5.6).
use Rattle.std.specs.Prelude.{ℕ, ◌<◌, ◌≤◌, Bool, false, if◌then◌else◌, List, [], length, Result, Ok, Err}
use Rattle.hid_report_descriptor.specs.declared.limits.TheConstants.{MAX_REPORT_BYTES}
use Rattle.hid_layout.specs.Layout.{Contents}
use Rattle.hid_layout.specs.Controls.{items_of}
use Rattle.hid_layout.specs.Reports.{IsOfBus}
use Rattle.hid_snapshots.specs.declared.control_state.ControlState.{ControlState}
use Rattle.hid_snapshots.specs.declared.event.Event.{Event}
use Rattle.hid_snapshots.specs.declared.fault.ReportFault.{ReportFault}
use Rattle.hid_snapshots.specs.ControlStates.{blank}
use Rattle.hid_usages.specs.Reading.{report_named}
use Rattle.hid_usages.specs.Receiving.{ReceiverState, RoomyReceiver}
pub use Rattle.hid_usages.specs.Receiving.{view_after_report, events_of_report}
use Rattle.hid_usages.specs.Receiving as receiving
use Rattle.usb_transact.specs.declared.host.Took.{Took}
use Rattle.usb_transact.specs.declared.host.Took.TheVariants.{Fresh, Again, Nak, Stall, Silent}
use Rattle.usb_transact.specs.Host.{HostPipeState, host_at_start}
use Rattle.usb_transact.specs.Replies.{host_after}
use Rattle.hid_host.specs.declared.ready.TheConstants.{ROOM}
use Rattle.hid_host.specs.declared.fault.StackFault.{StackFault}
use Rattle.hid_host.specs.declared.fault.StackFault.TheVariants.{Report}

-- the layout of the reports, the pipe that is polled, the host's view of the controls, and the bytes that came of a
-- report that isn't whole yet
pub record ReadyHostState : Type 0 where
  pub layout : Contents
  pub pipe : HostPipeState
  pub view : List ControlState
  pub collected : List ℕ

-- a receiver of the reports of a bus, with room for what comes of the longest one, and a packet
pub record HasRoom (receiver : RoomyReceiver) : Type 0 where
  pub bus : IsOfBus receiver.state.layout
  pub short : length receiver.state.collected < MAX_REPORT_BYTES
  pub room : ROOM ≤ receiver.room

-- what a ready host has received of its device's reports
abbrev pub receiving_of : ReadyHostState → ReceiverState
receiving_of known = record { layout = known.layout; view = known.view; collected = known.collected }

-- a host that was freshly given a layout and polls this endpoint: it expects DATA0, its view is the initial one, and
-- nothing came yet
abbrev pub ready_host_at_start : ℕ → ℕ → Contents → ReadyHostState
ready_host_at_start addr endpoint layout = record {
  layout = layout;
  pipe = host_at_start addr endpoint;
  view = blank (items_of layout);
  collected = [];
}

-- a halt of the endpoint was ended: DATA0 is expected (9.4.5), and what came of a report before is forgotten, for its
-- device sends it no further
abbrev pub ready_host_after_clear : ReadyHostState → ReadyHostState
ready_host_after_clear known = record known { pipe = record known.pipe { expects = false }; collected = [] }

-- A report ends with its last byte, or with a packet that isn't full, of which `last` bytes came: the packets of the
-- endpoint have 64 bytes at most (the size is our choice).
abbrev pub is_whole : Contents → List ℕ → ℕ → Bool
is_whole layout bytes last = receiving.is_whole 64 layout bytes last

-- what came of a report, with the data of one more packet
abbrev pub bytes_with : ReadyHostState → List ℕ → List ℕ
bytes_with known payload = receiving.bytes_with (receiving_of known) payload

-- whether a report ends with this packet
abbrev pub ends_with : ReadyHostState → List ℕ → Bool
ends_with known payload = receiving.ends_with 64 (receiving_of known) payload

-- a report that ended is read, or it is refused
abbrev pub read_or_fault : Result ℕ ReportFault → Result (Unit {0}) ReportFault
read_or_fault (Ok r) = Ok tt
read_or_fault (Err fault) = Err fault

-- what comes of fresh data: where a report ends with them it is read
abbrev pub data_read : ReadyHostState → List ℕ → Result (Unit {0}) ReportFault
data_read known payload =
    if ends_with known payload then read_or_fault (report_named known.layout (bytes_with known payload)) else Ok tt

-- What the host reports of what it took: data that are no Input report are refused.
abbrev pub read_outcome : Took → Result (Unit {0}) ReportFault → Result Took StackFault
read_outcome taken (Ok done) = Ok taken
read_outcome taken (Err fault) = Err (Report fault)

-- What the host reports of what it took: a report that ended is read, or refused; all else is reported as it is.
abbrev pub outcome_of : ReadyHostState → Took → Result Took StackFault
outcome_of known (Fresh payload) = read_outcome (Fresh payload) (data_read known payload.items)
outcome_of known Again = Ok Again
outcome_of known Nak = Ok Nak
outcome_of known Stall = Ok Stall
outcome_of known Silent = Ok Silent

-- data before the last of their report leave the view
abbrev pub view_with : ReadyHostState → List ℕ → List ControlState
view_with known payload = receiving.view_with 64 (receiving_of known) payload

-- the host's view after what came: fresh data alone change it
abbrev pub view_after : ReadyHostState → Took → List ControlState
view_after known (Fresh payload) = view_with known payload.items
view_after known _ = known.view

-- data before the last of their report give no events
abbrev pub events_with : ReadyHostState → List ℕ → List Event
events_with known payload = receiving.events_with 64 (receiving_of known) payload

-- the events of what came: fresh data alone give any
abbrev pub events_after : ReadyHostState → Took → List Event
events_after known (Fresh payload) = events_with known payload.items
events_after known _ = []

-- what is kept of a report after one more packet: all that came, until it ends
abbrev pub collected_bytes_with : ReadyHostState → List ℕ → List ℕ
collected_bytes_with known payload = receiving.collected_with 64 (receiving_of known) payload

-- what is kept of a report after what came: fresh data alone change it
abbrev pub collected_bytes_after : ReadyHostState → Took → List ℕ
collected_bytes_after known (Fresh payload) = collected_bytes_with known payload.items
collected_bytes_after known _ = known.collected

-- The host after it took what came: fresh data change its toggle, also those that are refused.
abbrev pub ready_host_after : ReadyHostState → Took → ReadyHostState
ready_host_after known taken = record known {
  pipe = host_after taken known.pipe;
  view = view_after known taken;
  collected = collected_bytes_after known taken;
}
