-- Reports of a bus whose controller does toggles and retries: it gives each piece once, in order, as an interrupt transfer
-- of at most a full packet (USB 2.0, 5.7.3 and 9.6.6).
use Rattle.std.specs.Prelude.{◌≡◌, ℕ, List, [], ◌∷◌, ◌++◌, map}
use Rattle.hid_layout.specs.Layout.{Contents}
use Rattle.hid_snapshots.specs.declared.control_state.ControlState.{ControlState}
use Rattle.hid_snapshots.specs.declared.event.Event.{Event}
use Rattle.hid_usages.specs.Receiving.{ReceiverState, after_packet, events_with}
use Rattle.hid_any_device.specs.Sender.{ReportPieces, Last, More, bytes_of_pieces}
use Rattle.hid_any_device.specs.Delivery.{events_of_reports, view_after_reports}

-- the pieces of a report, one after another
abbrev pub piece_list : ReportPieces → List (List ℕ)
piece_list (Last bytes) = bytes ∷ []
piece_list (More bytes rest) = bytes ∷ piece_list rest

-- the transfers that carry reports: their pieces, one after another
abbrev pub transfers_of : List ReportPieces → List (List ℕ)
transfers_of [] = []
transfers_of (report ∷ reports) = piece_list report ++ transfers_of reports

-- a receiver after transfers, by the size of a full packet
abbrev pub receiver_after : ℕ → ReceiverState → List (List ℕ) → ReceiverState
receiver_after packet_size receiving [] = receiving
receiver_after packet_size receiving (bytes ∷ transfers) =
    receiver_after packet_size (after_packet packet_size receiving bytes) transfers

-- the events that a receiver gives of transfers
abbrev pub events_of_transfers : ℕ → ReceiverState → List (List ℕ) → List Event
events_of_transfers packet_size receiving [] = []
events_of_transfers packet_size receiving (bytes ∷ transfers) =
    events_with packet_size receiving bytes
    ++ events_of_transfers packet_size (after_packet packet_size receiving bytes) transfers

-- a receiver of which nothing is kept of a report that isn't whole
abbrev pub receiver_between : Contents → List ControlState → ReceiverState
receiver_between layout view = record { layout = layout; view = view; collected = [] }

-- The transfers that carry reports are read as the reports: the events are those of reading each in order, and after them
-- the receiver has the view that they leave, and keeps nothing.
pub record DeliversTransfers (packet_size : ℕ) (layout : Contents) (view : List ControlState)
    (reports : List ReportPieces) : Type 0 where
  pub events : events_of_transfers packet_size (receiver_between layout view) (transfers_of reports)
      ≡ events_of_reports layout view (map bytes_of_pieces reports)
  pub after : receiver_after packet_size (receiver_between layout view) (transfers_of reports)
      ≡ receiver_between layout (view_after_reports layout view (map bytes_of_pieces reports))
