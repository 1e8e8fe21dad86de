-- After any steps both ends stand as what is left to send says.
use Rattle.std.proofs.Common.{◌≡◌, ◌++◌, ℕ, suc, ◌+◌, Bool, true, false, not, List, [], ◌∷◌, Result, Ok, refl, ap, sym, ◌∙◌, subst, cond, append_assoc, arith}
use Rattle.std.proofs.lemmas.List.{append-nil}
use Rattle.hid_layout.specs.Layout.{Contents}
use Rattle.hid_layout.specs.Controls.{items_of}
use Rattle.hid_snapshots.specs.declared.control_state.ControlState.{ControlState}
use Rattle.hid_snapshots.specs.declared.event.Event.{Event}
use Rattle.hid_snapshots.specs.ControlStates.{blank}
use Rattle.usb_transact.specs.declared.transaction.Fate.{Fate}
use Rattle.usb_transact.specs.declared.transaction.Fate.TheVariants.{Clean, TokenLost, ReplyLost, AckLost}
use Rattle.hid_usages.specs.Reading.{report_named}
use Rattle.usb_transact.specs.declared.host.Took.{Took}
use Rattle.usb_transact.specs.declared.host.Took.TheVariants.{Fresh}
use Rattle.hid_host.specs.declared.fault.StackFault.{StackFault}
use Rattle.hid_host.specs.Ready.{ReadyHostState, events_of_report, read_or_fault, read_outcome, view_after_report}
use Rattle.hid_any_device.specs.Sender.{Readiness, Sends, Waits, Stalls, ReportPieces, Last, More}
use Rattle.hid_any_device.specs.PipeSteps.{PipeStep, Queues, Polls, Clears, PipeEnds, ends_after, ends_after_all, events_at_step, poll_result, events_of_steps}
use Rattle.hid_any_device.specs.SendQueue.{QueueState, crossed_pieces_after, queue_at_start, queue_after, queue_after_all, piece_crosses, report_crossing, crossed_reports, crossed_pieces, took_of_poll}
use Rattle.hid_any_device.specs.Delivery.{ReportsEnd, events_of_reports, view_after_reports, view_after_steps, ReportEnds, StepReportsEnd, AllReportsEnd, DeliversReports, StepDelivers, PollReturnsCrossing, result_of_crossing}
use Rattle.hid_bus.specs.DeviceHistory.{flipped_toggle}

-- what a host keeps, by the toggle that it expects, its view, and what it has of a report
abbrev known : Contents → ℕ → ℕ → Bool → List ControlState → List ℕ → ReadyHostState
known layout addr endpoint expects view collected =
    record { layout = layout; pipe = record { addr = addr; endp = endpoint; expects = expects }; view = view; collected = collected }

-- what a host has of the report of the current piece
abbrev held : Bool → List ℕ → List ReportPieces → List ℕ
held false earlier queue = earlier
held true earlier [] = earlier
held true earlier (Last bytes ∷ queue) = []
held true earlier (More bytes rest ∷ queue) = earlier ++ bytes

-- both ends, by the queue, the toggle that is sent, and what the host keeps
abbrev ends : Contents → ℕ → ℕ → List ReportPieces → Bool → Bool → List ControlState → List ℕ → PipeEnds
ends layout addr endpoint queue odd expects view collected =
    record {
      sender = record { queue = queue; toggle = odd };
      host =
          known layout addr endpoint expects view collected;
    }

-- both ends, by what is left to send, with this toggle and view of the host
abbrev stands : Contents → ℕ → ℕ → Bool → List ControlState → QueueState → PipeEnds
stands layout addr endpoint expects view c =
    ends layout addr endpoint c.queue (cond c.crossed (not expects) expects) expects view (held c.crossed c.earlier c.queue)

-- each report of a queue ends at the host with its last piece
abbrev Fits : ℕ → Contents → Bool → List ℕ → List ReportPieces → Type 0
Fits packet_size layout ahead earlier [] = (ahead ≡ false) × (earlier ≡ [])
Fits packet_size layout ahead earlier (report ∷ queue) = ReportEnds packet_size layout earlier report × ReportsEnd packet_size layout queue

abbrev FitsQueue : ℕ → Contents → QueueState → Type 0
FitsQueue packet_size layout c = Fits packet_size layout c.crossed c.earlier c.queue

-- the toggle that the host expects then
abbrev turned : QueueState → PipeStep → Bool → Bool
turned c (Queues report) expects = expects
turned c (Polls readiness fate) expects = cond (piece_crosses c (Polls readiness fate)) (not expects) expects
turned c (Clears queue) expects = false

-- what a poll returns
abbrev Returns : ℕ → PipeEnds → Contents → QueueState → PipeStep → Type 0
Returns packet_size ends layout c (Queues report) = Unit {0}
Returns packet_size ends layout c (Clears queue) = Unit {0}
Returns packet_size ends layout c (Polls readiness fate) =
    poll_result packet_size ends readiness fate
    ≡ read_outcome (took_of_poll c readiness fate) (result_of_crossing layout (report_crossing c (Polls readiness fate)))

-- one step
record Steps (packet_size : ℕ) (layout : Contents) (addr endpoint : ℕ) (expects : Bool) (view : List ControlState) (c : QueueState)
    (x : PipeStep) : Type 0 where
  stood : ends_after packet_size (stands layout addr endpoint expects view c) x
      ≡ stands layout addr endpoint (turned c x expects) (view_after_reports layout view (report_crossing c x)) (queue_after c x)
  events : events_at_step packet_size (stands layout addr endpoint expects view c) x ≡ events_of_reports layout view (report_crossing c x)
  outcome : Returns packet_size (stands layout addr endpoint expects view c) layout c x
  fits : FitsQueue packet_size layout (queue_after c x)

abbrev history : List ReportPieces → List ℕ → Bool → QueueState
history queue earlier ahead = record { queue = queue; earlier = earlier; crossed = ahead }

-- the reports after the first
next_fits : (packet_size : ℕ) (layout : Contents) (queue : List ReportPieces) → ReportsEnd packet_size layout queue → Fits packet_size layout false [] queue
next_fits packet_size layout [] all = (refl, refl)
next_fits packet_size layout (report ∷ queue) all = all

-- one more report
all_more : (packet_size : ℕ) (layout : Contents) (queue : List ReportPieces) (report : ReportPieces) → ReportsEnd packet_size layout queue → ReportEnds packet_size layout [] report → ReportsEnd packet_size layout (queue ++ report ∷ [])
all_more packet_size layout [] report all there = (there, tt)
all_more packet_size layout (first ∷ queue) report all there = (all.0, all_more packet_size layout queue report all.1 there)

-- fresh data, by whether the report ends with them
abbrev joined_to : Contents → ℕ → ℕ → List ReportPieces → Bool → Bool → List ControlState → List ℕ → Bool → PipeEnds
joined_to layout addr endpoint queue odd expects view all whole =
    ends layout addr endpoint queue odd expects (cond whole (view_after_report layout all view) view)
    (cond whole [] all)

-- what is returned of fresh data
abbrev reading : Contents → List ℕ → List ℕ → Bool → Result Took StackFault
reading layout all bytes whole =
    read_outcome (Fresh (record { items = bytes })) (cond whole (read_or_fault (report_named layout all)) (Ok tt))

-- a piece that comes first
comes : (packet_size : ℕ) (layout : Contents) (addr endpoint : ℕ) (expects : Bool) (view : List ControlState) (earlier : List ℕ)
    (report : ReportPieces) (queue : List ReportPieces) (fate : Fate) → Fits packet_size layout false earlier (report ∷ queue)
    → Steps packet_size layout addr endpoint expects view (history (report ∷ queue) earlier false) (Polls Sends fate)
comes packet_size layout addr endpoint expects view earlier report queue TokenLost fits = record { stood = refl; events = refl; outcome = refl; fits = fits }
comes packet_size layout addr endpoint expects view earlier report queue ReplyLost fits = record { stood = refl; events = refl; outcome = refl; fits = fits }
comes packet_size layout addr endpoint true view earlier (Last bytes) queue Clean fits = record {
  stood = ap (joined_to layout addr endpoint queue false false view (earlier ++ bytes)) fits.0;
  events = ap (λ (b : Bool). cond b (events_of_report layout (earlier ++ bytes) view) []) fits.0
      ∙ sym (append-nil (events_of_report layout (earlier ++ bytes) view));
  outcome = ap (reading layout (earlier ++ bytes) bytes) fits.0;
  fits = next_fits packet_size layout queue fits.1;
}
comes packet_size layout addr endpoint false view earlier (Last bytes) queue Clean fits = record {
  stood = ap (joined_to layout addr endpoint queue true true view (earlier ++ bytes)) fits.0;
  events = ap (λ (b : Bool). cond b (events_of_report layout (earlier ++ bytes) view) []) fits.0
      ∙ sym (append-nil (events_of_report layout (earlier ++ bytes) view));
  outcome = ap (reading layout (earlier ++ bytes) bytes) fits.0;
  fits = next_fits packet_size layout queue fits.1;
}
comes packet_size layout addr endpoint true view earlier (Last bytes) queue AckLost fits = record {
  stood = ap (joined_to layout addr endpoint (Last bytes ∷ queue) true false view (earlier ++ bytes)) fits.0;
  events = ap (λ (b : Bool). cond b (events_of_report layout (earlier ++ bytes) view) []) fits.0
      ∙ sym (append-nil (events_of_report layout (earlier ++ bytes) view));
  outcome = ap (reading layout (earlier ++ bytes) bytes) fits.0;
  fits = fits;
}
comes packet_size layout addr endpoint false view earlier (Last bytes) queue AckLost fits = record {
  stood = ap (joined_to layout addr endpoint (Last bytes ∷ queue) false true view (earlier ++ bytes)) fits.0;
  events = ap (λ (b : Bool). cond b (events_of_report layout (earlier ++ bytes) view) []) fits.0
      ∙ sym (append-nil (events_of_report layout (earlier ++ bytes) view));
  outcome = ap (reading layout (earlier ++ bytes) bytes) fits.0;
  fits = fits;
}
comes packet_size layout addr endpoint true view earlier (More bytes rest) queue Clean fits = record {
  stood = ap (joined_to layout addr endpoint (rest ∷ queue) false false view (earlier ++ bytes)) fits.0.0;
  events = ap (λ (b : Bool). cond b (events_of_report layout (earlier ++ bytes) view) []) fits.0.0;
  outcome = ap (reading layout (earlier ++ bytes) bytes) fits.0.0;
  fits = (fits.0.1, fits.1);
}
comes packet_size layout addr endpoint false view earlier (More bytes rest) queue Clean fits = record {
  stood = ap (joined_to layout addr endpoint (rest ∷ queue) true true view (earlier ++ bytes)) fits.0.0;
  events = ap (λ (b : Bool). cond b (events_of_report layout (earlier ++ bytes) view) []) fits.0.0;
  outcome = ap (reading layout (earlier ++ bytes) bytes) fits.0.0;
  fits = (fits.0.1, fits.1);
}
comes packet_size layout addr endpoint true view earlier (More bytes rest) queue AckLost fits = record {
  stood = ap (joined_to layout addr endpoint (More bytes rest ∷ queue) true false view (earlier ++ bytes)) fits.0.0;
  events = ap (λ (b : Bool). cond b (events_of_report layout (earlier ++ bytes) view) []) fits.0.0;
  outcome = ap (reading layout (earlier ++ bytes) bytes) fits.0.0;
  fits = fits;
}
comes packet_size layout addr endpoint false view earlier (More bytes rest) queue AckLost fits = record {
  stood = ap (joined_to layout addr endpoint (More bytes rest ∷ queue) false true view (earlier ++ bytes)) fits.0.0;
  events = ap (λ (b : Bool). cond b (events_of_report layout (earlier ++ bytes) view) []) fits.0.0;
  outcome = ap (reading layout (earlier ++ bytes) bytes) fits.0.0;
  fits = fits;
}

-- a piece that comes again
comes_again : (packet_size : ℕ) (layout : Contents) (addr endpoint : ℕ) (expects : Bool) (view : List ControlState) (earlier : List ℕ)
    (report : ReportPieces) (queue : List ReportPieces) (fate : Fate) → Fits packet_size layout true earlier (report ∷ queue)
    → Steps packet_size layout addr endpoint expects view (history (report ∷ queue) earlier true) (Polls Sends fate)
comes_again packet_size layout addr endpoint expects view earlier report queue TokenLost fits = record { stood = refl; events = refl; outcome = refl; fits = fits }
comes_again packet_size layout addr endpoint expects view earlier report queue ReplyLost fits = record { stood = refl; events = refl; outcome = refl; fits = fits }
comes_again packet_size layout addr endpoint true view earlier report queue AckLost fits = record { stood = refl; events = refl; outcome = refl; fits = fits }
comes_again packet_size layout addr endpoint false view earlier report queue AckLost fits = record { stood = refl; events = refl; outcome = refl; fits = fits }
comes_again packet_size layout addr endpoint true view earlier (Last bytes) queue Clean fits = record { stood = refl; events = refl; outcome = refl; fits = next_fits packet_size layout queue fits.1 }
comes_again packet_size layout addr endpoint false view earlier (Last bytes) queue Clean fits = record { stood = refl; events = refl; outcome = refl; fits = next_fits packet_size layout queue fits.1 }
comes_again packet_size layout addr endpoint true view earlier (More bytes rest) queue Clean fits = record { stood = refl; events = refl; outcome = refl; fits = (fits.0.1, fits.1) }
comes_again packet_size layout addr endpoint false view earlier (More bytes rest) queue Clean fits = record { stood = refl; events = refl; outcome = refl; fits = (fits.0.1, fits.1) }

-- NAK, where nothing is queued
nothing_comes : (packet_size : ℕ) (layout : Contents) (addr endpoint : ℕ) (expects : Bool) (view : List ControlState) (earlier : List ℕ)
    (fate : Fate) → earlier ≡ []
    → Steps packet_size layout addr endpoint expects view (history [] earlier false) (Polls Sends fate)
nothing_comes packet_size layout addr endpoint expects view earlier Clean none = record { stood = refl; events = refl; outcome = refl; fits = (refl, none) }
nothing_comes packet_size layout addr endpoint expects view earlier AckLost none = record { stood = refl; events = refl; outcome = refl; fits = (refl, none) }
nothing_comes packet_size layout addr endpoint expects view earlier TokenLost none = record { stood = refl; events = refl; outcome = refl; fits = (refl, none) }
nothing_comes packet_size layout addr endpoint expects view earlier ReplyLost none = record { stood = refl; events = refl; outcome = refl; fits = (refl, none) }

is_queued : (packet_size : ℕ) (layout : Contents) (addr endpoint : ℕ) (expects : Bool) (view : List ControlState) (earlier : List ℕ)
    (ahead : Bool) (queue : List ReportPieces) (report : ReportPieces) → Fits packet_size layout ahead earlier queue
    → ReportEnds packet_size layout [] report
    → Steps packet_size layout addr endpoint expects view (history queue earlier ahead) (Queues report)
is_queued packet_size layout addr endpoint expects view earlier true [] report fits there = absurd (cc)
is_queued packet_size layout addr endpoint expects view earlier false [] report fits there =
    record { stood = refl; events = refl; outcome = tt; fits = (subst (λ (bytes : List ℕ). ReportEnds packet_size layout bytes report) (sym fits.1) there, tt) }
is_queued packet_size layout addr endpoint expects view earlier false (first ∷ queue) report fits there =
    record { stood = refl; events = refl; outcome = tt; fits = (fits.0, all_more packet_size layout queue report fits.1 there) }
is_queued packet_size layout addr endpoint expects view earlier true (Last bytes ∷ queue) report fits there =
    record { stood = refl; events = refl; outcome = tt; fits = (fits.0, all_more packet_size layout queue report fits.1 there) }
is_queued packet_size layout addr endpoint expects view earlier true (More bytes rest ∷ queue) report fits there =
    record { stood = refl; events = refl; outcome = tt; fits = (fits.0, all_more packet_size layout queue report fits.1 there) }

-- no data, whatever is queued
nothing_sent : (packet_size : ℕ) (layout : Contents) (addr endpoint : ℕ) (expects : Bool) (view : List ControlState)
    (queue : List ReportPieces) (earlier : List ℕ) (ahead : Bool) (fate : Fate) → Fits packet_size layout ahead earlier queue
    → Steps packet_size layout addr endpoint expects view (history queue earlier ahead) (Polls Waits fate)
    × Steps packet_size layout addr endpoint expects view (history queue earlier ahead) (Polls Stalls fate)
nothing_sent packet_size layout addr endpoint expects view queue earlier ahead Clean fits = (record { stood = refl; events = refl; outcome = refl; fits = fits }, record { stood = refl; events = refl; outcome = refl; fits = fits })
nothing_sent packet_size layout addr endpoint expects view queue earlier ahead AckLost fits = (record { stood = refl; events = refl; outcome = refl; fits = fits }, record { stood = refl; events = refl; outcome = refl; fits = fits })
nothing_sent packet_size layout addr endpoint expects view queue earlier ahead TokenLost fits = (record { stood = refl; events = refl; outcome = refl; fits = fits }, record { stood = refl; events = refl; outcome = refl; fits = fits })
nothing_sent packet_size layout addr endpoint expects view queue earlier ahead ReplyLost fits = (record { stood = refl; events = refl; outcome = refl; fits = fits }, record { stood = refl; events = refl; outcome = refl; fits = fits })

step_of : (packet_size : ℕ) (layout : Contents) (addr endpoint : ℕ) (expects : Bool) (view : List ControlState) (queue : List ReportPieces)
    (earlier : List ℕ) (ahead : Bool) (x : PipeStep) → Fits packet_size layout ahead earlier queue → StepReportsEnd packet_size layout x
    → Steps packet_size layout addr endpoint expects view (history queue earlier ahead) x
step_of packet_size layout addr endpoint expects view queue earlier ahead (Queues report) fits keeps = is_queued packet_size layout addr endpoint expects view earlier ahead queue report fits keeps
step_of packet_size layout addr endpoint expects view queue earlier ahead (Polls Waits fate) fits keeps = (nothing_sent packet_size layout addr endpoint expects view queue earlier ahead fate fits).0
step_of packet_size layout addr endpoint expects view queue earlier ahead (Polls Stalls fate) fits keeps = (nothing_sent packet_size layout addr endpoint expects view queue earlier ahead fate fits).1
step_of packet_size layout addr endpoint expects view queue earlier ahead (Clears cleared) fits keeps = record { stood = refl; events = refl; outcome = tt; fits = next_fits packet_size layout cleared keeps }
step_of packet_size layout addr endpoint expects view [] earlier true (Polls Sends fate) fits keeps = absurd (cc)
step_of packet_size layout addr endpoint expects view [] earlier false (Polls Sends fate) fits keeps = nothing_comes packet_size layout addr endpoint expects view earlier fate fits.1
step_of packet_size layout addr endpoint expects view (report ∷ queue) earlier false (Polls Sends fate) fits keeps = comes packet_size layout addr endpoint expects view earlier report queue fate fits
step_of packet_size layout addr endpoint expects view (report ∷ queue) earlier true (Polls Sends fate) fits keeps = comes_again packet_size layout addr endpoint expects view earlier report queue fate fits

-- ---- lists of steps

view_join : (layout : Contents) (view : List ControlState) (xs ys : List (List ℕ))
    → view_after_reports layout (view_after_reports layout view xs) ys ≡ view_after_reports layout view (xs ++ ys)
view_join layout view [] ys = refl
view_join layout view (x ∷ xs) ys = view_join layout (view_after_report layout x view) xs ys

events_join : (layout : Contents) (view : List ControlState) (xs ys : List (List ℕ))
    → events_of_reports layout view xs ++ events_of_reports layout (view_after_reports layout view xs) ys ≡ events_of_reports layout view (xs ++ ys)
events_join layout view [] ys = refl
events_join layout view (x ∷ xs) ys =
    append_assoc (events_of_report layout x view) (events_of_reports layout (view_after_report layout x view) xs)
    (events_of_reports layout (view_after_reports layout (view_after_report layout x view) xs) ys)
    ∙ ap (λ (es : List Event). events_of_report layout x view ++ es)
    (events_join layout (view_after_report layout x view) xs ys)

flips_one : (crossed : Bool) (n : ℕ) → cond crossed (not (flipped_toggle n false)) (flipped_toggle n false) ≡ flipped_toggle (cond crossed (n + 1) n) false
flips_one true n = ap (λ (k : ℕ). flipped_toggle k false) (let e : suc n ≡ n + 1 = omega arith in e)
flips_one false n = refl

turned_is : (c : QueueState) (n : ℕ) (x : PipeStep) → turned c x (flipped_toggle n false) ≡ flipped_toggle (crossed_pieces_after c n x) false
turned_is c n (Queues report) = refl
turned_is c n (Polls readiness fate) = flips_one (piece_crosses c (Polls readiness fate)) n
turned_is c n (Clears queue) = refl

record Lives (packet_size : ℕ) (layout : Contents) (addr endpoint n : ℕ) (view : List ControlState) (c : QueueState)
    (steps : List PipeStep) : Type 0 where
  stood : ends_after_all packet_size (stands layout addr endpoint (flipped_toggle n false) view c) steps
      ≡ stands layout addr endpoint (flipped_toggle (crossed_pieces c n steps) false)
      (view_after_reports layout view (crossed_reports c steps)) (queue_after_all c steps)
  events : events_of_steps packet_size (stands layout addr endpoint (flipped_toggle n false) view c) steps
      ≡ events_of_reports layout view (crossed_reports c steps)
  fits : FitsQueue packet_size layout (queue_after_all c steps)

lives : (packet_size : ℕ) (layout : Contents) (addr endpoint n : ℕ) (view : List ControlState) (c : QueueState) (steps : List PipeStep)
    → FitsQueue packet_size layout c → AllReportsEnd packet_size layout steps → Lives packet_size layout addr endpoint n view c steps
lives packet_size layout addr endpoint n view c [] fits keeps = record { stood = refl; events = refl; fits = fits }
lives packet_size layout addr endpoint n view c (x ∷ steps) fits keeps =
    let now = step_of packet_size layout addr endpoint (flipped_toggle n false) view c.queue c.earlier c.crossed x fits keeps.0 in
    let next : QueueState = queue_after c x in
    let seen : List ControlState = view_after_reports layout view (report_crossing c x) in
    let later = lives packet_size layout addr endpoint (crossed_pieces_after c n x) seen next steps now.fits keeps.1 in
    let stood : ends_after packet_size (stands layout addr endpoint (flipped_toggle n false) view c) x ≡ stands layout addr endpoint (flipped_toggle (crossed_pieces_after c n x) false) seen next =
    now.stood ∙ ap (λ (b : Bool). stands layout addr endpoint b seen next) (turned_is c n x) in
    record {
      stood = ap (λ (e : PipeEnds). ends_after_all packet_size e steps) stood ∙ later.stood
          ∙ ap (λ (v : List ControlState). stands layout addr endpoint
          (flipped_toggle (crossed_pieces c n (x ∷ steps)) false) v (queue_after_all next steps))
          (view_join layout view (report_crossing c x) (crossed_reports next steps));
      events = ap
          (λ (es : List Event). es
          ++ events_of_steps packet_size (ends_after packet_size (stands layout addr endpoint (flipped_toggle n false) view c) x) steps) now.events
          ∙ ap (λ (e : PipeEnds). events_of_reports layout view (report_crossing c x) ++ events_of_steps packet_size e steps) stood
          ∙ ap (λ (es : List Event). events_of_reports layout view (report_crossing c x) ++ es) later.events
          ∙ events_join layout view (report_crossing c x) (crossed_reports next steps);
      fits = later.fits;
    }

from_start : (packet_size : ℕ) (addr endpoint : ℕ) (layout : Contents) (steps : List PipeStep) → AllReportsEnd packet_size layout steps
    → Lives packet_size layout addr endpoint 0 (blank (items_of layout)) queue_at_start steps
from_start packet_size addr endpoint layout steps keeps =
    lives packet_size layout addr endpoint 0 (blank (items_of layout)) queue_at_start steps (refl, refl) keeps

pub headline : (packet_size : ℕ) (addr endpoint : ℕ) (layout : Contents) (steps : List PipeStep) → AllReportsEnd packet_size layout steps
    → DeliversReports packet_size addr endpoint layout steps
headline packet_size addr endpoint layout steps keeps =
    let all = from_start packet_size addr endpoint layout steps keeps in
    record {
      events = all.events;
      view = ap (λ (e : PipeEnds). e.host.view) all.stood;
      expects = ap (λ (e : PipeEnds). e.host.pipe.expects) all.stood;
    }

-- at each step
pub step_delivers : (packet_size : ℕ) (addr endpoint : ℕ) (layout : Contents) (steps : List PipeStep) (x : PipeStep)
    → AllReportsEnd packet_size layout steps → StepReportsEnd packet_size layout x → StepDelivers packet_size addr endpoint layout steps x
step_delivers packet_size addr endpoint layout steps x keeps keeps_it =
    let all = from_start packet_size addr endpoint layout steps keeps in
    let c : QueueState = queue_after_all queue_at_start steps in
    let view : List ControlState = view_after_steps layout steps in
    let toggle : Bool = flipped_toggle (crossed_pieces queue_at_start 0 steps) false in
    let now = step_of packet_size layout addr endpoint toggle view c.queue c.earlier c.crossed x all.fits keeps_it in
    ap (λ (e : PipeEnds). events_at_step packet_size e x) all.stood ∙ now.events

pub poll_returns : (packet_size : ℕ) (addr endpoint : ℕ) (layout : Contents) (steps : List PipeStep) (readiness : Readiness) (fate : Fate)
    → AllReportsEnd packet_size layout steps → PollReturnsCrossing packet_size addr endpoint layout steps readiness fate
poll_returns packet_size addr endpoint layout steps readiness fate keeps =
    let all = from_start packet_size addr endpoint layout steps keeps in
    let c : QueueState = queue_after_all queue_at_start steps in
    let view : List ControlState = view_after_steps layout steps in
    let toggle : Bool = flipped_toggle (crossed_pieces queue_at_start 0 steps) false in
    let now = step_of packet_size layout addr endpoint toggle view c.queue c.earlier c.crossed (Polls readiness fate) all.fits tt in
    ap (λ (e : PipeEnds). poll_result packet_size e readiness fate) all.stood ∙ now.outcome
