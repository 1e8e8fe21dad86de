-- Each report that was queued has crossed, once and in order, or it waits.
use Rattle.std.proofs.Common.{◌≡◌, ◌++◌, ℕ, zero, suc, ◌<◌, ◌≤◌, Bool, true, false, List, [], ◌∷◌, map, refl, ap, sym, ◌∙◌, append_assoc, arith}
use Rattle.std.proofs.lemmas.List.{append-nil, map-append}
use Rattle.usb_transact.specs.declared.transaction.Fate.{Fate}
use Rattle.usb_transact.specs.declared.transaction.Fate.TheVariants.{Clean, TokenLost, ReplyLost, AckLost}
use Rattle.hid_any_device.specs.Sender.{Sends, Waits, Stalls, ReportPieces, Last, More, bytes_of_pieces}
use Rattle.hid_any_device.specs.PipeSteps.{PipeStep, Queues, Polls, Clears}
use Rattle.hid_any_device.specs.SendQueue.{QueueState, queue_at_start, queue_after, queue_after_all, report_crossing, crossed_reports, report_queued_at, queued_reports, report_waiting, reports_waiting_in, reports_waiting, piece_count, queued_piece_count}
use Rattle.hid_any_device.specs.Delivery.{AllClearNone, ClearsNone, CrossOnceInOrder, NoneWaits, clean_polls}

-- where nothing is queued nothing has come of a report
abbrev IsTidy : Bool → List ℕ → List ReportPieces → Type 0
IsTidy ahead earlier [] = (ahead ≡ false) × (earlier ≡ [])
IsTidy ahead earlier (report ∷ queue) = Unit {0}

tidy_next : (queue : List ReportPieces) → IsTidy false [] queue
tidy_next [] = (refl, refl)
tidy_next (report ∷ queue) = tt

abbrev pub history : List ReportPieces → List ℕ → Bool → QueueState
history queue earlier ahead = record { queue = queue; earlier = earlier; crossed = ahead }

abbrev Same : QueueState → PipeStep → Type 0
Same c x = reports_waiting c ++ report_queued_at x ≡ report_crossing c x ++ reports_waiting (queue_after c x)

pub still_whole : (earlier : List ℕ) (report : ReportPieces) → report_waiting earlier false report ≡ (earlier ++ bytes_of_pieces report) ∷ []
still_whole earlier (Last bytes) = refl
still_whole earlier (More bytes rest) = refl

pub all_wait : (queue : List ReportPieces) → reports_waiting_in [] false queue ≡ map bytes_of_pieces queue
all_wait [] = refl
all_wait (Last bytes ∷ queue) = refl
all_wait (More bytes rest ∷ queue) = refl

-- one more report
queued_last : (earlier : List ℕ) (ahead : Bool) (queue : List ReportPieces) (report : ReportPieces) → IsTidy ahead earlier queue
    → Same (history queue earlier ahead) (Queues report)
queued_last earlier true [] report tidy = absurd (cc)
queued_last earlier false [] report tidy =
    sym (append-nil (report_waiting earlier false report)
    ∙ ap (λ (bytes : List ℕ). report_waiting bytes false report) tidy.1
    ∙ still_whole [] report)
queued_last earlier ahead (first ∷ queue) report tidy =
    append_assoc (report_waiting earlier ahead first) (map bytes_of_pieces queue) (bytes_of_pieces report ∷ [])
    ∙ ap (λ (rest : List (List ℕ)). report_waiting earlier ahead first ++ rest) (sym (map-append bytes_of_pieces queue (report ∷ [])))

-- a poll of a device that sends
sent : (earlier : List ℕ) (ahead : Bool) (queue : List ReportPieces) (fate : Fate) → IsTidy ahead earlier queue
    → Same (history queue earlier ahead) (Polls Sends fate)
sent earlier ahead queue TokenLost tidy = append-nil (reports_waiting_in earlier ahead queue)
sent earlier ahead queue ReplyLost tidy = append-nil (reports_waiting_in earlier ahead queue)
sent earlier true [] Clean tidy = absurd (cc)
sent earlier true [] AckLost tidy = absurd (cc)
sent earlier false [] Clean tidy = refl
sent earlier false [] AckLost tidy = refl
sent earlier true (report ∷ queue) AckLost tidy = append-nil (reports_waiting_in earlier true (report ∷ queue))
sent earlier false (Last bytes ∷ queue) AckLost tidy = append-nil ((earlier ++ bytes) ∷ map bytes_of_pieces queue)
sent earlier false (More bytes rest ∷ queue) AckLost tidy = append-nil (reports_waiting_in earlier false (More bytes rest ∷ queue))
sent earlier true (Last bytes ∷ queue) Clean tidy = append-nil (map bytes_of_pieces queue) ∙ sym (all_wait queue)
sent earlier false (Last bytes ∷ queue) Clean tidy =
    ap (λ (rest : List (List ℕ)). (earlier ++ bytes) ∷ rest) (append-nil (map bytes_of_pieces queue) ∙ sym (all_wait queue))
sent earlier true (More bytes rest ∷ queue) Clean tidy = moved earlier bytes rest queue
  where
    moved : (earlier bytes : List ℕ) (rest : ReportPieces) (queue : List ReportPieces) → reports_waiting_in earlier true (More bytes rest ∷ queue) ++ [] ≡ reports_waiting_in (earlier ++ bytes) false (rest ∷ queue)
    moved earlier bytes rest queue =
        append-nil ((earlier ++ (bytes ++ bytes_of_pieces rest)) ∷ map bytes_of_pieces queue)
        ∙ ap (λ (all : List ℕ). all ∷ map bytes_of_pieces queue) (sym (append_assoc earlier bytes (bytes_of_pieces rest)))
        ∙ ap (λ (first : List (List ℕ)). first ++ map bytes_of_pieces queue) (sym (still_whole (earlier ++ bytes) rest))
sent earlier false (More bytes rest ∷ queue) Clean tidy =
    append-nil ((earlier ++ (bytes ++ bytes_of_pieces rest)) ∷ map bytes_of_pieces queue)
    ∙ ap (λ (all : List ℕ). all ∷ map bytes_of_pieces queue) (sym (append_assoc earlier bytes (bytes_of_pieces rest)))
    ∙ ap (λ (first : List (List ℕ)). first ++ map bytes_of_pieces queue) (sym (still_whole (earlier ++ bytes) rest))

same : (earlier : List ℕ) (ahead : Bool) (queue : List ReportPieces) (x : PipeStep) → ClearsNone x → IsTidy ahead earlier queue
    → Same (history queue earlier ahead) x
same earlier ahead queue (Queues report) steady tidy = queued_last earlier ahead queue report tidy
same earlier ahead queue (Polls Sends fate) steady tidy = sent earlier ahead queue fate tidy
same earlier ahead queue (Polls Waits fate) steady tidy = append-nil (reports_waiting_in earlier ahead queue)
same earlier ahead queue (Polls Stalls fate) steady tidy = append-nil (reports_waiting_in earlier ahead queue)
same earlier ahead queue (Clears cleared) steady tidy = absurd steady

-- a queue stays tidy
abbrev IsTidyQueue : QueueState → Type 0
IsTidyQueue c = IsTidy c.crossed c.earlier c.queue

some_queued : (ahead : Bool) (earlier : List ℕ) (queue : List ReportPieces) (report : ReportPieces) → IsTidy ahead earlier (queue ++ report ∷ [])
some_queued ahead earlier [] report = tt
some_queued ahead earlier (first ∷ queue) report = tt

tidy_sent : (earlier : List ℕ) (ahead : Bool) (queue : List ReportPieces) (fate : Fate) → IsTidy ahead earlier queue
    → IsTidyQueue (queue_after (history queue earlier ahead) (Polls Sends fate))
tidy_sent earlier ahead queue TokenLost tidy = tidy
tidy_sent earlier ahead queue ReplyLost tidy = tidy
tidy_sent earlier ahead [] Clean tidy = (refl, tidy.1)
tidy_sent earlier ahead [] AckLost tidy = (refl, tidy.1)
tidy_sent earlier ahead (report ∷ queue) AckLost tidy = tt
tidy_sent earlier ahead (Last bytes ∷ queue) Clean tidy = tidy_next queue
tidy_sent earlier ahead (More bytes rest ∷ queue) Clean tidy = tt

tidy_then : (earlier : List ℕ) (ahead : Bool) (queue : List ReportPieces) (x : PipeStep) → IsTidy ahead earlier queue
    → IsTidyQueue (queue_after (history queue earlier ahead) x)
tidy_then earlier ahead queue (Queues report) tidy = some_queued ahead earlier queue report
tidy_then earlier ahead queue (Polls Sends fate) tidy = tidy_sent earlier ahead queue fate tidy
tidy_then earlier ahead queue (Polls Waits fate) tidy = tidy
tidy_then earlier ahead queue (Polls Stalls fate) tidy = tidy
tidy_then earlier ahead queue (Clears cleared) tidy = tidy_next cleared

all_same : (c : QueueState) (steps : List PipeStep) → AllClearNone steps → IsTidyQueue c
    → reports_waiting c ++ queued_reports steps ≡ crossed_reports c steps ++ reports_waiting (queue_after_all c steps)
all_same c [] steady tidy = append-nil (reports_waiting c)
all_same c (x ∷ steps) steady tidy =
    let next : QueueState = queue_after c x in
    let behind : List (List ℕ) = reports_waiting (queue_after_all next steps) in
    sym (append_assoc (reports_waiting c) (report_queued_at x) (queued_reports steps))
    ∙ ap (λ (now : List (List ℕ)). now ++ queued_reports steps) (same c.earlier c.crossed c.queue x steady.0 tidy)
    ∙ append_assoc (report_crossing c x) (reports_waiting next) (queued_reports steps)
    ∙ ap (λ (rest : List (List ℕ)). report_crossing c x ++ rest)
    (all_same next steps steady.1 (tidy_then c.earlier c.crossed c.queue x tidy))
    ∙ sym (append_assoc (report_crossing c x) (crossed_reports next steps) behind)

pub once_each : (steps : List PipeStep) → CrossOnceInOrder steps
once_each steps steady = all_same queue_at_start steps steady (refl, refl)

-- ---- nothing waits for ever

pub some_left : (report : ReportPieces) → 0 < piece_count report
some_left (Last bytes) = omega arith
some_left (More bytes rest) = omega arith

none_queued : (n : ℕ) (earlier : List ℕ) (ahead : Bool) (queue : List ReportPieces) → queued_piece_count queue ≤ n
    → (queue_after_all (history queue earlier ahead) (clean_polls n)).queue ≡ []
none_queued zero earlier ahead [] few = refl
none_queued zero earlier ahead (report ∷ queue) few = absurd (omega (arith, few, some_left report))
none_queued (suc n) earlier ahead [] few = none_queued n earlier false [] (omega arith)
none_queued (suc n) earlier ahead (Last bytes ∷ queue) few = none_queued n [] false queue (omega (arith, few))
none_queued (suc n) earlier ahead (More bytes rest ∷ queue) few = none_queued n (earlier ++ bytes) false (rest ∷ queue) (omega (arith, few))

pub drained : (steps : List PipeStep) → NoneWaits steps
drained steps =
    let c : QueueState = queue_after_all queue_at_start steps in
    let last : QueueState = queue_after_all c (clean_polls (queued_piece_count c.queue)) in
    ap (reports_waiting_in last.earlier last.crossed) (none_queued (queued_piece_count c.queue) c.earlier c.crossed c.queue (omega arith))
