-- The reports of an interface, out of the interrupt transfers in which they come (USB 2.0, 5.7.3, 8.4.5 and 9.6.6; HID
-- 1.11, 5.6).
use Rattle.std.specs.Prelude.{◌≡◌, ◌⊎◌, ℕ, zero, suc, ◌+◌, ◌%◌, ◌<◌, max, Bool, true, false, not, nat_le, ◌==◌, ◌&&◌, ◌||◌, if◌then◌else◌, List, [], length, Option, Some, None, option_map, is_some, Result, Ok, Err}
use Rattle.hid_report_descriptor.specs.declared.limits.TheConstants.{MAX_REPORT_BYTES}
use Rattle.hid_layout.specs.Layout.{Contents}
use Rattle.hid_layout.specs.Controls.{items_of}
use Rattle.hid_layout.specs.Reports.{report_bytes}
use Rattle.hid_snapshots.specs.declared.event.Event.{Event}
use Rattle.hid_snapshots.specs.declared.fault.ReportFault.{ReportFault}
use Rattle.hid_snapshots.specs.ControlStates.{blank}
use Rattle.hid_snapshots.specs.Views.{changes_between}
use Rattle.hid_usages.specs.declared.receiver.Arrived.{Arrived}
use Rattle.hid_usages.specs.Reading.{report_begun}
use Rattle.hid_usages.specs.Receiving.{ReceiverState, after_packet, bytes_with, events_with, packet_outcome, without_collected}
use Rattle.hid_driver.specs.declared.fault.DriverFault.{DriverFault}
use Rattle.hid_driver.specs.declared.fault.DriverFault.TheVariants.{LongTransfer, NotRead, Report}
use Rattle.hid_driver.specs.declared.outcome.DriverEvent.{DriverEvent}
use Rattle.hid_driver.specs.declared.outcome.Outcome.{Outcome}
use Rattle.hid_driver.specs.declared.outcome.Outcome.TheVariants as outcomes
use Rattle.hid_driver.specs.declared.pipe.Flow.{Flow}
use Rattle.hid_driver.specs.declared.pipe.Flow.TheVariants.{Live, Halted, Stopped}

-- whether reports come, the size of a full packet, and the receiver of the reports
pub record PipeState : Type 0 where
  pub flow : Flow
  pub packet_size : ℕ
  pub receiving : ReceiverState

-- a receiver of which no report came yet
abbrev pub receiver_at_start : Contents → ReceiverState
receiver_at_start layout = record { layout = layout; view = blank (items_of layout); collected = [] }

-- the pipe with this receiver, of an endpoint that is live or not
abbrev pub pipe_of_parts : Flow → ℕ → ReceiverState → PipeState
pipe_of_parts flow packet_size receiving = record { flow = flow; packet_size = packet_size; receiving = receiving }

-- the pipe of a live endpoint with this receiver
abbrev pub pipe_of_receiver : ℕ → ReceiverState → PipeState
pipe_of_receiver packet_size receiving = pipe_of_parts Live packet_size receiving

-- a pipe of which no report came yet
abbrev pub pipe_at_start : ℕ → Contents → PipeState
pipe_at_start packet_size layout = pipe_of_receiver packet_size (receiver_at_start layout)

-- the pipe whose endpoint is halted, or not any more: what came of a report is forgotten
abbrev pub pipe_with_flow : Flow → PipeState → PipeState
pipe_with_flow flow pipe = record pipe { flow = flow; receiving = without_collected pipe.receiving }

-- an event, of the interface at this place
abbrev pub event_of : ℕ → Event → DriverEvent
event_of interface event = record { interface = interface; event = event }

-- whether n bytes are one or more full packets, with no short one (5.7.3)
abbrev pub is_full : ℕ → ℕ → Bool
is_full packet_size came = not (came == 0) && (came % packet_size == 0)

-- in bytes, the Input report that begins so, where there is one (HID 1.11, 5.6)
abbrev pub length_begun : Contents → List ℕ → Option ℕ
length_begun layout bytes = option_map (report_bytes layout) (report_begun layout bytes)

-- in bytes, the Input report of a layout without Report IDs, where there is one (HID 1.11, 5.6)
abbrev pub unnumbered_length : Contents → Option ℕ
unnumbered_length layout = if layout.numbered then None else length_begun layout []

-- a report is whole with this number of bytes; where it is no Input report, nothing more is awaited
abbrev pub has_come : Option ℕ → ℕ → Bool
has_come None came = true
has_come (Some len) came = nat_le len came

-- A report ends with a transfer that has its last byte, or that isn't of full packets alone (5.7.3); one that is no Input
-- report ends at once. `last` bytes came in that transfer, and `came` in all. Example: in packets of 64 bytes a report of
-- 100 goes on after one of 64; it ends with 36 more, and so it does with 30
abbrev pub transfer_ends : ℕ → Option ℕ → ℕ → ℕ → Bool
transfer_ends packet_size begun came last = not (is_full packet_size last) || has_come begun came

-- A transfer is received as a packet: as a full one where it has full packets alone of an Input report, else as a short
-- one, which ends its report. This is the size of a full packet then. Example: in packets of 64 bytes a transfer of 128 is
-- full, and one of 100 or of none is short
abbrev pub full_size : ℕ → Option ℕ → ℕ → ℕ
full_size packet_size begun last = if is_full packet_size last && is_some begun then last else last + 1

-- in bytes, the end of the report, at least 1; where it is no Input report, the longest report of a bus (our choice)
abbrev pub report_end : Option ℕ → ℕ
report_end None = MAX_REPORT_BYTES
report_end (Some len) = max len 1

-- A whole packet or more lies past the end of the report: what comes there is another report.
abbrev pub has_packet_past : ℕ → Option ℕ → ℕ → Bool
has_packet_past packet_size begun came = nat_le (report_end begun + max packet_size 1) came

-- the length of the longest of the first n reports, in bytes, but not less than that of the longest report of a bus: so
-- much is awaited of bytes that begin no report
abbrev pub longest_of : Contents → ℕ → ℕ
longest_of layout zero = MAX_REPORT_BYTES
longest_of layout (suc count) = max (longest_of layout count) (report_bytes layout count)

-- in bytes, the longer of two: the longest report of a layout, and the longest of a bus
abbrev pub longest_report : Contents → ℕ
longest_report layout = longest_of layout (length layout.reports)

-- in bytes, the room for the reports of an endpoint: what is kept of the longest one, and a packet
abbrev pub transfer_room : ℕ → Contents → ℕ
transfer_room packet_size layout = longest_report layout + packet_size

-- in bytes, the Input report that begins with what came before and a transfer, where there is one
abbrev pub begun_with : ReceiverState → List ℕ → Option ℕ
begun_with receiving bytes = length_begun receiving.layout (bytes_with receiving bytes)

-- a transfer is too long: with what came of its report before, a whole packet or more lies past the end of that
abbrev pub is_long : PipeState → List ℕ → Bool
is_long pipe bytes =
    has_packet_past pipe.packet_size (begun_with pipe.receiving bytes) (length (bytes_with pipe.receiving bytes))

-- A report surely ends with its first transfer, whatever it begins with: nothing came of it before, and the transfer is
-- shorter than a packet, or as long as the Input report of a layout without Report IDs.
abbrev pub EndsAtOnce : PipeState → List ℕ → Type 0
EndsAtOnce pipe bytes =
    (pipe.receiving.collected ≡ [])
    × ((length bytes < pipe.packet_size) ⊎ (unnumbered_length pipe.receiving.layout ≡ Some (length bytes)))

-- the size of a full packet with which a transfer is received
abbrev pub size_with : PipeState → List ℕ → ℕ
size_with pipe bytes = full_size pipe.packet_size (begun_with pipe.receiving bytes) (length bytes)

-- the result of a transfer that is received: nothing, or why its report is refused
abbrev pub transfer_result : Result Arrived ReportFault → Result (Unit {0}) DriverFault
transfer_result (Ok arrived) = Ok tt
transfer_result (Err fault) = Err (Report fault)

-- What a transfer returns: it is too long; its report goes on; or the report ends, and is read or refused.
abbrev pub transfer_outcome : PipeState → List ℕ → Result (Unit {0}) DriverFault
transfer_outcome pipe bytes =
    if is_long pipe bytes then Err LongTransfer
    else transfer_result (packet_outcome (size_with pipe bytes) pipe.receiving bytes)

-- The receiver after a transfer. One that is too long is dropped, with the bytes kept of its report.
abbrev pub receiving_after_transfer : PipeState → List ℕ → ReceiverState
receiving_after_transfer pipe bytes =
    if is_long pipe bytes then without_collected pipe.receiving
    else after_packet (size_with pipe bytes) pipe.receiving bytes

-- the pipe after a transfer
abbrev pub pipe_after_transfer : PipeState → List ℕ → PipeState
pipe_after_transfer pipe bytes = record pipe { receiving = receiving_after_transfer pipe bytes }

-- The events of a transfer: those of reading the report that ends with it.
abbrev pub transfer_events : PipeState → List ℕ → List Event
transfer_events pipe bytes =
    if is_long pipe bytes then [] else events_with (size_with pipe bytes) pipe.receiving bytes

-- whether reports come out of the endpoint
abbrev pub is_live : Flow → Bool
is_live Live = true
is_live Halted = false
is_live Stopped = false

-- what an interrupt transfer of a live endpoint returns
abbrev pub live_outcome : PipeState → Outcome → Result (Unit {0}) DriverFault
live_outcome pipe (outcomes.Done bytes) = transfer_outcome pipe bytes.now
live_outcome pipe outcomes.Stalled = Ok tt
live_outcome pipe outcomes.Failed = Ok tt

-- The pipe of a live endpoint after an interrupt transfer. A STALL halts it (8.4.5), and nothing is kept of a report that
-- began. A transfer that failed leaves it: a device sends a packet again that wasn't acknowledged (8.6.3).
abbrev pub live_pipe : PipeState → Outcome → PipeState
live_pipe pipe (outcomes.Done bytes) = pipe_after_transfer pipe bytes.now
live_pipe pipe outcomes.Stalled = pipe_with_flow Halted pipe
live_pipe pipe outcomes.Failed = pipe

-- the events of an interrupt transfer of a live endpoint
abbrev pub live_events : PipeState → Outcome → List Event
live_events pipe (outcomes.Done bytes) = transfer_events pipe bytes.now
live_events pipe outcomes.Stalled = []
live_events pipe outcomes.Failed = []

-- What an interrupt transfer returns: that of an endpoint that isn't live is refused.
abbrev pub pipe_outcome : PipeState → Outcome → Result (Unit {0}) DriverFault
pipe_outcome pipe outcome = if is_live pipe.flow then live_outcome pipe outcome else Err NotRead

-- The pipe after an interrupt transfer: one that isn't live stays.
abbrev pub pipe_after_outcome : PipeState → Outcome → PipeState
pipe_after_outcome pipe outcome = if is_live pipe.flow then live_pipe pipe outcome else pipe

-- The events of an interrupt transfer.
abbrev pub pipe_events : PipeState → Outcome → List Event
pipe_events pipe outcome = if is_live pipe.flow then live_events pipe outcome else []

-- the events that lead back to the initial view
abbrev pub events_back : PipeState → List Event
events_back pipe =
    changes_between (items_of pipe.receiving.layout) pipe.receiving.view (blank (items_of pipe.receiving.layout))

-- what is kept of a report is shorter than the report, so that no packet after it lies past its end
abbrev pub KeepsFew : PipeState → Type 0
KeepsFew pipe =
    length pipe.receiving.collected < report_end (length_begun pipe.receiving.layout pipe.receiving.collected)
