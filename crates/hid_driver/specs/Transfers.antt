-- Reports that come in interrupt transfers, one after another: what a driver reads of them (USB 2.0, 5.7.3, 8.5.4 and
-- 9.6.6; HID 1.11, 5.6).
use Rattle.std.specs.Prelude.{◌≡◌, ℕ, zero, suc, ◌<◌, Bool, true, false, List, [], ◌∷◌, ◌++◌, length, take, drop, map, Ok}
use Rattle.hid_layout.specs.Layout.{Contents}
use Rattle.hid_layout.specs.Reports.{report_bytes}
use Rattle.hid_snapshots.specs.declared.control_state.ControlState.{ControlState}
use Rattle.hid_snapshots.specs.declared.event.Event.{Event}
use Rattle.hid_usages.specs.Reading.{report_named}
use Rattle.hid_usages.specs.Receiving.{events_of_report, view_after_report}
use Rattle.hid_driver.specs.Pipe.{PipeState, has_packet_past, length_begun, pipe_after_transfer, transfer_ends, transfer_events}

-- A report as it comes: transfers with which it goes on, and the last one.
pub data SentReport : Type 0 where
  Last : List ℕ → SentReport
  More : List ℕ → SentReport → SentReport

-- the bytes of a report
abbrev pub sent_bytes : SentReport → List ℕ
sent_bytes (Last bytes) = bytes
sent_bytes (More bytes rest) = bytes ++ sent_bytes rest

-- the transfers of a report
abbrev pub report_transfers : SentReport → List (List ℕ)
report_transfers (Last bytes) = bytes ∷ []
report_transfers (More bytes rest) = bytes ∷ report_transfers rest

-- the transfers of reports, one after another
abbrev pub transfers_of : List SentReport → List (List ℕ)
transfers_of [] = []
transfers_of (report ∷ reports) = report_transfers report ++ transfers_of reports

-- no packet of these bytes lies past the end of the report that they begin
abbrev pub HasNonePast : ℕ → Contents → List ℕ → Type 0
HasNonePast packet_size layout bytes = has_packet_past packet_size (length_begun layout bytes) (length bytes) ≡ false

-- whether the report that these bytes begin ends with its last transfer, of n bytes
abbrev pub ends_after : ℕ → Contents → List ℕ → ℕ → Bool
ends_after packet_size layout bytes last = transfer_ends packet_size (length_begun layout bytes) (length bytes) last

-- A report ends with its last transfer, and with no transfer before it, and no packet lies past its end. `earlier` came
-- before these.
abbrev pub ReportEnds : ℕ → Contents → List ℕ → SentReport → Type 0
ReportEnds packet_size layout earlier (Last bytes) =
    HasNonePast packet_size layout (earlier ++ bytes)
    × (ends_after packet_size layout (earlier ++ bytes) (length bytes) ≡ true)
ReportEnds packet_size layout earlier (More bytes rest) =
    HasNonePast packet_size layout (earlier ++ bytes)
    × (ends_after packet_size layout (earlier ++ bytes) (length bytes) ≡ false)
    × ReportEnds packet_size layout (earlier ++ bytes) rest

-- each of these reports ends with its last transfer
abbrev pub ReportsEnd : ℕ → Contents → List SentReport → Type 0
ReportsEnd packet_size layout [] = Unit {0}
ReportsEnd packet_size layout (report ∷ reports) =
    ReportEnds packet_size layout [] report × ReportsEnd packet_size layout reports

-- the Input report that these bytes are, with none after them
pub record IsReport (layout : Contents) (bytes : List ℕ) : Type 0 where
  pub report : ℕ
  pub named : report_named layout bytes ≡ Ok report
  pub whole : length bytes ≡ report_bytes layout report
  pub some : 0 < length bytes

-- A report in so many full packets, and what is left of it in the last transfer. Example: 100 bytes in packets of 64 are
-- one full packet, and 36 bytes
abbrev pub cut_in_packets : ℕ → ℕ → List ℕ → SentReport
cut_in_packets packet_size zero bytes = Last bytes
cut_in_packets packet_size (suc full) bytes =
    More (take packet_size bytes) (cut_in_packets packet_size full (drop packet_size bytes))

-- the pipe that kept these bytes of a report
abbrev pub pipe_keeping : PipeState → List ControlState → List ℕ → PipeState
pipe_keeping pipe view bytes =
    record pipe { receiving = record pipe.receiving { view = view; collected = bytes } }

-- the pipe after transfers
abbrev pub pipe_after_transfers : PipeState → List (List ℕ) → PipeState
pipe_after_transfers pipe [] = pipe
pipe_after_transfers pipe (bytes ∷ transfers) = pipe_after_transfers (pipe_after_transfer pipe bytes) transfers

-- the events of transfers, in order
abbrev pub events_of_transfers : PipeState → List (List ℕ) → List Event
events_of_transfers pipe [] = []
events_of_transfers pipe (bytes ∷ transfers) =
    transfer_events pipe bytes ++ events_of_transfers (pipe_after_transfer pipe bytes) transfers

-- The events of reports that are read in order: of each what changes and moves in the view that the ones before it left. One
-- that is refused gives none, and leaves the view.
abbrev pub events_of_reports : Contents → List ControlState → List (List ℕ) → List Event
events_of_reports layout view [] = []
events_of_reports layout view (bytes ∷ rest) =
    events_of_report layout bytes view ++ events_of_reports layout (view_after_report layout bytes view) rest

-- the view that reports leave which are read in order
abbrev pub view_after_reports : Contents → List ControlState → List (List ℕ) → List ControlState
view_after_reports layout view [] = view
view_after_reports layout view (bytes ∷ rest) =
    view_after_reports layout (view_after_report layout bytes view) rest

-- The transfers that carry reports are read as the reports: the events are those of reading each in order, none twice and
-- none lost; and after them the pipe has the view that they leave, and keeps nothing.
pub record DeliversReports (pipe : PipeState) (view : List ControlState) (reports : List SentReport) : Type 0 where
  pub events : events_of_transfers (pipe_keeping pipe view []) (transfers_of reports)
      ≡ events_of_reports pipe.receiving.layout view (map sent_bytes reports)
  pub after : pipe_after_transfers (pipe_keeping pipe view []) (transfers_of reports)
      ≡ pipe_keeping pipe (view_after_reports pipe.receiving.layout view (map sent_bytes reports)) []
