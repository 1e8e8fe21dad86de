-- A pipe reads the transfers that carry reports as it reads the reports.
use Rattle.std.proofs.Common.{◌≡◌, ◌++◌, ℕ, Bool, true, false, List, [], ◌∷◌, length, refl, ap, ◌∙◌, cond, append_assoc}
use Rattle.hid_snapshots.specs.declared.control_state.ControlState.{ControlState}
use Rattle.hid_snapshots.specs.declared.event.Event.{Event}
use Rattle.hid_usages.specs.Receiving.{events_of_report, is_whole, view_after_report}
use Rattle.hid_driver.specs.Pipe.{PipeState, full_size, is_long, length_begun, pipe_after_transfer, transfer_events}
use Rattle.hid_driver.specs.Transfers.{DeliversReports, Last, More, ReportEnds, ReportsEnd, SentReport, ends_after, events_of_transfers, pipe_after_transfers, pipe_keeping, report_transfers, sent_bytes, transfers_of}
use Rattle.hid_driver.proofs.PipeLemmas.{ends_same}

-- the pipe after a transfer, by whether it is too long and whether its report ends
abbrev pipe_by : PipeState → List ControlState → List ℕ → Bool → Bool → PipeState
pipe_by pipe view all long whole =
    record pipe {
      receiving = cond long (record pipe.receiving { view = view; collected = [] })
          (record pipe.receiving {
            view = cond whole (view_after_report pipe.receiving.layout all view) view;
            collected = cond whole [] all;
          });
    }

abbrev events_by : PipeState → List ControlState → List ℕ → Bool → Bool → List Event
events_by pipe view all long whole = cond long [] (cond whole (events_of_report pipe.receiving.layout all view) [])

abbrev ends_here : PipeState → List ℕ → List ℕ → Bool
ends_here pipe earlier bytes =
    let all : List ℕ = earlier ++ bytes in
    is_whole (full_size pipe.packet_size (length_begun pipe.receiving.layout all) (length bytes)) pipe.receiving.layout all (length bytes)

here : (pipe : PipeState) (earlier bytes : List ℕ) (whole : Bool)
    → ends_after pipe.packet_size pipe.receiving.layout (earlier ++ bytes) (length bytes) ≡ whole → ends_here pipe earlier bytes ≡ whole
here pipe earlier bytes whole ends = ends_same pipe.packet_size pipe.receiving.layout (earlier ++ bytes) (length bytes) ∙ ends

-- what a transfer does that isn't too long, by whether its report ends
received_pipe : (pipe : PipeState) (view : List ControlState) (earlier bytes : List ℕ) (whole : Bool)
    → is_long (pipe_keeping pipe view earlier) bytes ≡ false → ends_here pipe earlier bytes ≡ whole
    → pipe_after_transfer (pipe_keeping pipe view earlier) bytes ≡ pipe_by pipe view (earlier ++ bytes) false whole
received_pipe pipe view earlier bytes whole short ends =
    ap (λ (b : Bool). pipe_by pipe view (earlier ++ bytes) b (ends_here pipe earlier bytes)) short
    ∙ ap (pipe_by pipe view (earlier ++ bytes) false) ends

received_events : (pipe : PipeState) (view : List ControlState) (earlier bytes : List ℕ) (whole : Bool)
    → is_long (pipe_keeping pipe view earlier) bytes ≡ false → ends_here pipe earlier bytes ≡ whole
    → transfer_events (pipe_keeping pipe view earlier) bytes ≡ events_by pipe view (earlier ++ bytes) false whole
received_events pipe view earlier bytes whole short ends =
    ap (λ (b : Bool). events_by pipe view (earlier ++ bytes) b (ends_here pipe earlier bytes)) short
    ∙ ap (events_by pipe view (earlier ++ bytes) false) ends

record ReadsReport (pipe : PipeState) (view : List ControlState) (earlier : List ℕ) (report : SentReport)
    (more : List (List ℕ)) : Type 0 where
  events : events_of_transfers (pipe_keeping pipe view earlier) (report_transfers report ++ more)
      ≡ events_of_report pipe.receiving.layout (earlier ++ sent_bytes report) view
      ++ events_of_transfers (pipe_keeping pipe (view_after_report pipe.receiving.layout (earlier ++ sent_bytes report) view) []) more
  after : pipe_after_transfers (pipe_keeping pipe view earlier) (report_transfers report ++ more)
      ≡ pipe_after_transfers (pipe_keeping pipe (view_after_report pipe.receiving.layout (earlier ++ sent_bytes report) view) []) more

reads_report : (pipe : PipeState) (view : List ControlState) (earlier : List ℕ) (report : SentReport) (more : List (List ℕ))
    → ReportEnds pipe.packet_size pipe.receiving.layout earlier report → ReadsReport pipe view earlier report more
reads_report pipe view earlier (Last bytes) more ends =
    let short = ends.0 in
    let last = here pipe earlier bytes true ends.1 in
    let next = received_pipe pipe view earlier bytes true short last in
    record {
      events = ap (λ (es : List Event). es ++ events_of_transfers (pipe_after_transfer (pipe_keeping pipe view earlier) bytes) more)
          (received_events pipe view earlier bytes true short last)
          ∙ ap (λ (p : PipeState). events_of_report pipe.receiving.layout (earlier ++ bytes) view ++ events_of_transfers p more) next;
      after = ap (λ (p : PipeState). pipe_after_transfers p more) next;
    }
reads_report pipe view earlier (More bytes rest) more ends =
    let later = reads_report pipe view (earlier ++ bytes) rest more ends.2 in
    let short = ends.0 in
    let on = here pipe earlier bytes false ends.1 in
    let next = received_pipe pipe view earlier bytes false short on in
    let nothing = received_events pipe view earlier bytes false short on in
    let all : (earlier ++ bytes) ++ sent_bytes rest ≡ earlier ++ (bytes ++ sent_bytes rest) = append_assoc earlier bytes (sent_bytes rest) in
    record {
      events = ap (λ (es : List Event). es ++ events_of_transfers (pipe_after_transfer (pipe_keeping pipe view earlier) bytes) (report_transfers rest ++ more)) nothing
          ∙ ap (λ (p : PipeState). events_of_transfers p (report_transfers rest ++ more)) next
          ∙ later.events
          ∙ ap (λ (whole : List ℕ). events_of_report pipe.receiving.layout whole view
          ++ events_of_transfers (pipe_keeping pipe (view_after_report pipe.receiving.layout whole view) []) more) all;
      after = ap (λ (p : PipeState). pipe_after_transfers p (report_transfers rest ++ more)) next
          ∙ later.after
          ∙ ap (λ (whole : List ℕ). pipe_after_transfers (pipe_keeping pipe (view_after_report pipe.receiving.layout whole view) []) more) all;
    }

pub reads_transfers : (pipe : PipeState) (view : List ControlState) (reports : List SentReport)
    → ReportsEnd pipe.packet_size pipe.receiving.layout reports → DeliversReports pipe view reports
reads_transfers pipe view [] ends = record { events = refl; after = refl }
reads_transfers pipe view (report ∷ reports) ends =
    let bytes : List ℕ = sent_bytes report in
    let now = reads_report pipe view [] report (transfers_of reports) ends.0 in
    let left : List ControlState = view_after_report pipe.receiving.layout bytes view in
    let later = reads_transfers pipe left reports ends.1 in
    record {
      events = now.events ∙ ap (λ (es : List Event). events_of_report pipe.receiving.layout bytes view ++ es) later.events;
      after = now.after ∙ later.after;
    }
