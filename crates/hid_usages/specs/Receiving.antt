-- Input reports out of the packets in which they come (USB 2.0, 5.7.3; HID 1.11, 5.6).
use Rattle.std.specs.Prelude.{ℕ, Bool, ◌||◌, nat_le, nat_lt, if◌then◌else◌, List, [], ◌++◌, length, Result, Ok, Err}
use Rattle.hid_layout.specs.Layout.{Contents}
use Rattle.hid_snapshots.specs.declared.control_state.ControlState.{ControlState}
use Rattle.hid_snapshots.specs.declared.event.Event.{Event}
use Rattle.hid_snapshots.specs.declared.fault.ReportFault.{ReportFault}
use Rattle.hid_usages.specs.declared.receiver.Arrived.{Arrived}
use Rattle.hid_usages.specs.declared.receiver.Arrived.TheVariants.{Part, Whole}
use Rattle.hid_usages.specs.Reading.{bytes_awaited, report_named}
use Rattle.hid_usages.specs.Taking.{read_view, read_events}

-- the layout of a device's reports, a host's view of its controls, and the bytes that came of a report that isn't whole
-- yet
pub record ReceiverState : Type 0 where
  pub layout : Contents
  pub view : List ControlState
  pub collected : List ℕ

-- what is seen of a receiver: its state, and how many bytes of a report it has room for
pub record RoomyReceiver : Type 0 where
  pub state : ReceiverState
  pub room : ℕ

-- A report ends with its last byte, or with a packet that isn't full (5.7.3), of which `last` bytes came. A full packet of
-- an endpoint has as many bytes as its wMaxPacketSize says (9.6.6), which is the first number.
abbrev pub is_whole : ℕ → Contents → List ℕ → ℕ → Bool
is_whole packet_size layout bytes last =
    nat_lt last packet_size || nat_le (bytes_awaited layout bytes) (length bytes)

-- what came of a report, with the data of one more packet
abbrev pub bytes_with : ReceiverState → List ℕ → List ℕ
bytes_with receiving packet = receiving.collected ++ packet

-- whether a report ends with this packet: it has its last byte, or 256 bytes if its first byte names none, or the packet
-- isn't full. Example: of 100 bytes in packets of up to 64 the second, of 36, ends it
abbrev pub ends_with : ℕ → ReceiverState → List ℕ → Bool
ends_with packet_size receiving packet =
    is_whole packet_size receiving.layout (bytes_with receiving packet) (length packet)

-- a report that ended is read, or it is refused
abbrev pub whole_outcome : Result ℕ ReportFault → Result Arrived ReportFault
whole_outcome (Ok r) = Ok Whole
whole_outcome (Err fault) = Err fault

-- what a packet gives: a part of a report; or the report that ends with it is read, or refused
abbrev pub packet_outcome : ℕ → ReceiverState → List ℕ → Result Arrived ReportFault
packet_outcome packet_size receiving packet =
    if ends_with packet_size receiving packet then whole_outcome (report_named receiving.layout (bytes_with receiving packet))
    else Ok Part

-- The view after a report that ended: it is read. One that is refused leaves it.
abbrev pub view_after_report : Contents → List ℕ → List ControlState → List ControlState
view_after_report layout bytes view =
    elim (report_named layout bytes) [ Ok r ↦ read_view layout r bytes view | Err fault ↦ view ]

-- a packet before the last of its report leaves the view
abbrev pub view_with : ℕ → ReceiverState → List ℕ → List ControlState
view_with packet_size receiving packet =
    if ends_with packet_size receiving packet then view_after_report receiving.layout
    (bytes_with receiving packet) receiving.view else receiving.view

-- The events of a report that ended: one that is refused gives none.
abbrev pub events_of_report : Contents → List ℕ → List ControlState → List Event
events_of_report layout bytes view =
    elim (report_named layout bytes) [ Ok r ↦ read_events layout r bytes view | Err fault ↦ [] ]

-- a packet before the last of its report gives no events
abbrev pub events_with : ℕ → ReceiverState → List ℕ → List Event
events_with packet_size receiving packet =
    if ends_with packet_size receiving packet then events_of_report receiving.layout
    (bytes_with receiving packet) receiving.view else []

-- what came of a report is kept until it ends
abbrev pub collected_with : ℕ → ReceiverState → List ℕ → List ℕ
collected_with packet_size receiving packet =
    if ends_with packet_size receiving packet then [] else bytes_with receiving packet

-- the receiver after a packet: its view, and the bytes that it keeps of a report that isn't whole
abbrev pub after_packet : ℕ → ReceiverState → List ℕ → ReceiverState
after_packet packet_size receiving packet = record receiving {
  view = view_with packet_size receiving packet;
  collected = collected_with packet_size receiving packet;
}

-- the receiver without the bytes of a report that isn't whole
abbrev pub without_collected : ReceiverState → ReceiverState
without_collected receiving = record receiving { collected = [] }
