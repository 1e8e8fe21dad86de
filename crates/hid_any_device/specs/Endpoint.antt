-- What a ready host makes of the answers to its polls, by the size of a full packet of the endpoint (USB 2.0, 5.7.3,
-- 8.5.4, 8.6 and 9.6.6).
use Rattle.std.specs.Prelude.{◌≡◌, ℕ, if◌then◌else◌, List, [], Result, Ok}
use Rattle.hid_snapshots.specs.declared.control_state.ControlState.{ControlState}
use Rattle.hid_snapshots.specs.declared.event.Event.{Event}
use Rattle.hid_snapshots.specs.declared.fault.ReportFault.{ReportFault}
use Rattle.hid_usages.specs.Reading.{report_named}
use Rattle.hid_usages.specs.Receiving.{bytes_with, collected_with, ends_with, events_with, view_with}
use Rattle.usb_transact.specs.declared.host.Took.{Took}
use Rattle.usb_transact.specs.declared.host.Took.TheVariants.{Fresh, Again, Nak, Stall, Silent}
use Rattle.usb_transact.specs.Replies.{host_after}
use Rattle.hid_host.specs.declared.fault.StackFault.{StackFault}
use Rattle.hid_host.specs.Ready.{ReadyHostState, events_after, outcome_of, read_or_fault, read_outcome, ready_host_after, receiving_of}

-- what comes of fresh data: where a report ends with them it is read
abbrev pub fresh_data_read : ℕ → ReadyHostState → List ℕ → Result (Unit {0}) ReportFault
fresh_data_read packet_size known payload =
    if ends_with packet_size (receiving_of known) payload
    then read_or_fault (report_named known.layout (bytes_with (receiving_of known) payload)) else Ok tt

-- what a poll returns by what the host took: a report that ended is read, or refused
abbrev pub result_of_taken : ℕ → ReadyHostState → Took → Result Took StackFault
result_of_taken packet_size known (Fresh payload) =
    read_outcome (Fresh payload) (fresh_data_read packet_size known payload.items)
result_of_taken packet_size known Again = Ok Again
result_of_taken packet_size known Nak = Ok Nak
result_of_taken packet_size known Stall = Ok Stall
result_of_taken packet_size known Silent = Ok Silent

-- the events of what the host took: fresh data alone give any, with the last piece of their report
abbrev pub events_of_taken : ℕ → ReadyHostState → Took → List Event
events_of_taken packet_size known (Fresh payload) = events_with packet_size (receiving_of known) payload.items
events_of_taken packet_size known _ = []

-- the host's view after what it took
abbrev pub view_of_taken : ℕ → ReadyHostState → Took → List ControlState
view_of_taken packet_size known (Fresh payload) = view_with packet_size (receiving_of known) payload.items
view_of_taken packet_size known _ = known.view

-- what the host keeps of a report after what it took
abbrev pub collected_of_taken : ℕ → ReadyHostState → Took → List ℕ
collected_of_taken packet_size known (Fresh payload) =
    collected_with packet_size (receiving_of known) payload.items
collected_of_taken packet_size known _ = known.collected

-- the host after what it took: fresh data change its toggle, also those that are refused
abbrev pub host_of_taken : ℕ → ReadyHostState → Took → ReadyHostState
host_of_taken packet_size known taken = record known {
  pipe = host_after taken known.pipe;
  view = view_of_taken packet_size known taken;
  collected = collected_of_taken packet_size known taken;
}

-- A `HostDevice` is the host of an endpoint whose full packets have 64 bytes.
pub record ReadsPacketsOf64 (known : ReadyHostState) (taken : Took) : Type 0 where
  pub outcome : outcome_of known taken ≡ result_of_taken 64 known taken
  pub after : ready_host_after known taken ≡ host_of_taken 64 known taken
  pub events : events_after known taken ≡ events_of_taken 64 known taken
