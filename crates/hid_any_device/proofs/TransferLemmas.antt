-- A receiver reads the transfers that carry reports as it reads the reports.
use Rattle.std.proofs.Common.{◌≡◌, ◌++◌, ℕ, Bool, List, [], ◌∷◌, refl, ap, ◌∙◌, cond, append_assoc}
use Rattle.hid_layout.specs.Layout.{Contents}
use Rattle.hid_snapshots.specs.declared.control_state.ControlState.{ControlState}
use Rattle.hid_snapshots.specs.declared.event.Event.{Event}
use Rattle.hid_usages.specs.Receiving.{ReceiverState, events_of_report, view_after_report}
use Rattle.hid_any_device.specs.Sender.{ReportPieces, Last, More, bytes_of_pieces}
use Rattle.hid_any_device.specs.Delivery.{ReportEnds, ReportsEnd}
use Rattle.hid_any_device.specs.Transfers.{DeliversTransfers, events_of_transfers, piece_list, receiver_after, receiver_between, transfers_of}

-- a receiver that keeps these bytes of a report
abbrev keeping : Contents → List ControlState → List ℕ → ReceiverState
keeping layout view bytes = record { layout = layout; view = view; collected = bytes }

-- a receiver after a transfer with which all these bytes came, by whether the report ends
abbrev receiver_by : Contents → List ControlState → List ℕ → Bool → ReceiverState
receiver_by layout view all whole =
    keeping layout (cond whole (view_after_report layout all view) view) (cond whole [] all)

-- the events of such a transfer and of more of them
abbrev events_by : ℕ → Contents → List ControlState → List ℕ → List (List ℕ) → Bool → List Event
events_by packet_size layout view all more whole =
    cond whole (events_of_report layout all view) []
    ++ events_of_transfers packet_size (receiver_by layout view all whole) more

-- the view once a report was read of which some bytes came before
abbrev view_then : Contents → List ControlState → List ℕ → List ControlState
view_then layout view all = view_after_report layout all view

record ReadsReport (packet_size : ℕ) (layout : Contents) (view : List ControlState) (earlier : List ℕ)
    (report : ReportPieces) (more : List (List ℕ)) : Type 0 where
  events : events_of_transfers packet_size (keeping layout view earlier) (piece_list report ++ more)
      ≡ events_of_report layout (earlier ++ bytes_of_pieces report) view
      ++ events_of_transfers packet_size
      (receiver_between layout (view_then layout view (earlier ++ bytes_of_pieces report))) more
  after : receiver_after packet_size (keeping layout view earlier) (piece_list report ++ more)
      ≡ receiver_after packet_size
      (receiver_between layout (view_then layout view (earlier ++ bytes_of_pieces report))) more

reads_report : (packet_size : ℕ) (layout : Contents) (view : List ControlState) (earlier : List ℕ)
    (report : ReportPieces) (more : List (List ℕ)) → ReportEnds packet_size layout earlier report
    → ReadsReport packet_size layout view earlier report more
reads_report packet_size layout view earlier (Last bytes) more ends = record {
  events = ap (events_by packet_size layout view (earlier ++ bytes) more) ends;
  after = ap (λ (b : Bool). receiver_after packet_size (receiver_by layout view (earlier ++ bytes) b) more) ends;
}
reads_report packet_size layout view earlier (More bytes rest) more ends =
    let later = reads_report packet_size layout view (earlier ++ bytes) rest more ends.1 in
    let all : (earlier ++ bytes) ++ bytes_of_pieces rest ≡ earlier ++ (bytes ++ bytes_of_pieces rest) = append_assoc earlier bytes (bytes_of_pieces rest) in
    record {
      events = ap (events_by packet_size layout view (earlier ++ bytes) (piece_list rest ++ more)) ends.0
          ∙ later.events
          ∙ ap (λ (whole : List ℕ). events_of_report layout whole view
          ++ events_of_transfers packet_size (receiver_between layout (view_then layout view whole)) more) all;
      after = ap (λ (b : Bool). receiver_after packet_size (receiver_by layout view (earlier ++ bytes) b) (piece_list rest ++ more)) ends.0
          ∙ later.after
          ∙ ap (λ (whole : List ℕ). receiver_after packet_size (receiver_between layout (view_then layout view whole)) more) all;
    }

pub reads_transfers : (packet_size : ℕ) (layout : Contents) (view : List ControlState) (reports : List ReportPieces)
    → ReportsEnd packet_size layout reports → DeliversTransfers packet_size layout view reports
reads_transfers packet_size layout view [] ends = record { events = refl; after = refl }
reads_transfers packet_size layout view (report ∷ reports) ends =
    let bytes : List ℕ = bytes_of_pieces report in
    let now = reads_report packet_size layout view [] report (transfers_of reports) ends.0 in
    let later = reads_transfers packet_size layout (view_then layout view bytes) reports ends.1 in
    record {
      events = now.events ∙ ap (λ (es : List Event). events_of_report layout bytes view ++ es) later.events;
      after = now.after ∙ later.after;
    }
