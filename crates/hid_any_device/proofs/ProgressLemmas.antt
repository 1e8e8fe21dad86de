-- Reports that wait cross, whatever is lost and queued meanwhile.
use Rattle.std.proofs.Common.{◌≡◌, ◌++◌, ℕ, ◌≤◌, Bool, true, false, List, [], ◌∷◌, map, ap, sym, ◌∙◌, append_assoc, arith, refl}
use Rattle.std.proofs.lemmas.List.{append-nil}
use Rattle.usb_transact.specs.declared.transaction.Fate.TheVariants.{Clean, TokenLost, ReplyLost, AckLost}
use Rattle.hid_bus.specs.Rounds.{closed_count}
use Rattle.hid_bus.proofs.FairnessLemmas.{clean_in_time}
use Rattle.hid_any_device.specs.Sender.{Sends, Waits, Stalls, ReportPieces, Last, More, bytes_of_pieces}
use Rattle.hid_any_device.specs.PipeSteps.{PipeStep, Queues, Polls, Clears}
use Rattle.hid_any_device.specs.SendQueue.{QueueState, queue_at_start, queue_after_all, crossed_reports, reports_waiting_in, reports_waiting, queued_piece_count}
use Rattle.hid_any_device.specs.Delivery.{AllClearNone}
use Rattle.hid_any_device.specs.Progress.{carried_fates, CrossFirst, WaitingCross, WaitingCrossInTime}
use Rattle.hid_any_device.proofs.OnceLemmas.{history, still_whole, all_wait, some_left}

moved : (earlier bytes : List ℕ) (rest : ReportPieces) (queue : List ReportPieces) → reports_waiting_in earlier true (More bytes rest ∷ queue) ≡ reports_waiting_in (earlier ++ bytes) false (rest ∷ queue)
moved earlier bytes rest queue =
    ap (λ (all : List ℕ). all ∷ map bytes_of_pieces queue) (sym (append_assoc earlier bytes (bytes_of_pieces rest)))
    ∙ ap (λ (first : List (List ℕ)). first ++ map bytes_of_pieces queue) (sym (still_whole (earlier ++ bytes) rest))

-- equal reports cross alike
again : (a b : List (List ℕ)) (q : QueueState) (steps : List PipeStep) → a ≡ b → CrossFirst b q steps → CrossFirst a q steps
again a b q steps same (rest, crossed) = (rest, crossed ∙ ap (λ (it : List (List ℕ)). it ++ rest) (sym same))

-- the first reports of a queue cross, whatever is queued after them
cross : (front back : List ReportPieces) (earlier : List ℕ) (ahead : Bool) (more : List PipeStep) → AllClearNone more
    → queued_piece_count front ≤ closed_count (carried_fates more)
    → CrossFirst (reports_waiting_in earlier ahead front) (history (front ++ back) earlier ahead) more
cross [] back earlier ahead more steady few = (crossed_reports (history back earlier ahead) more, refl)
cross (report ∷ front) back earlier ahead [] steady few = absurd (omega (arith, few, some_left report))
cross (report ∷ front) back earlier ahead (Queues next ∷ more) steady few =
    (let it : CrossFirst (reports_waiting_in earlier ahead (report ∷ front)) (history ((report ∷ front) ++ (back ++ next ∷ [])) earlier ahead) more =
    cross (report ∷ front) (back ++ next ∷ []) earlier ahead more steady.1 few in
    (it.0, ap (λ (q : List ReportPieces). crossed_reports (history q earlier ahead) more) (append_assoc (report ∷ front) back (next ∷ [])) ∙ it.1))
cross (report ∷ front) back earlier ahead (Polls Waits fate ∷ more) steady few = cross (report ∷ front) back earlier ahead more steady.1 (omega (arith, few))
cross (report ∷ front) back earlier ahead (Polls Stalls fate ∷ more) steady few = cross (report ∷ front) back earlier ahead more steady.1 (omega (arith, few))
cross (report ∷ front) back earlier ahead (Polls Sends TokenLost ∷ more) steady few = cross (report ∷ front) back earlier ahead more steady.1 (omega (arith, few))
cross (report ∷ front) back earlier ahead (Polls Sends ReplyLost ∷ more) steady few = cross (report ∷ front) back earlier ahead more steady.1 (omega (arith, few))
cross (report ∷ front) back earlier ahead (Clears queue ∷ more) steady few = absurd steady.0
cross (Last bytes ∷ front) back earlier true (Polls Sends AckLost ∷ more) steady few = cross (Last bytes ∷ front) back earlier true more steady.1 (omega (arith, few))
cross (More bytes after ∷ front) back earlier true (Polls Sends AckLost ∷ more) steady few = cross (More bytes after ∷ front) back earlier true more steady.1 (omega (arith, few))
cross (Last bytes ∷ front) back earlier false (Polls Sends AckLost ∷ more) steady few =
    (let it : CrossFirst (map bytes_of_pieces front) (history (Last bytes ∷ (front ++ back)) earlier true) more =
    cross (Last bytes ∷ front) back earlier true more steady.1 (omega (arith, few)) in
    (it.0, ap (λ (all : List (List ℕ)). (earlier ++ bytes) ∷ all) it.1))
cross (More bytes after ∷ front) back earlier false (Polls Sends AckLost ∷ more) steady few = cross (More bytes after ∷ front) back earlier true more steady.1 (omega (arith, few))
cross (Last bytes ∷ front) back earlier true (Polls Sends Clean ∷ more) steady few =
    again (map bytes_of_pieces front) (reports_waiting_in [] false front) (history (front ++ back) [] false) more
    (sym (all_wait front)) (cross front back [] false more steady.1 (omega (arith, few)))
cross (Last bytes ∷ front) back earlier false (Polls Sends Clean ∷ more) steady few =
    (let it : CrossFirst (map bytes_of_pieces front) (history (front ++ back) [] false) more =
    again (map bytes_of_pieces front) (reports_waiting_in [] false front) (history (front ++ back) [] false) more
    (sym (all_wait front)) (cross front back [] false more steady.1 (omega (arith, few))) in
    (it.0, ap (λ (all : List (List ℕ)). (earlier ++ bytes) ∷ all) it.1))
cross (More bytes after ∷ front) back earlier true (Polls Sends Clean ∷ more) steady few =
    again (reports_waiting_in earlier true (More bytes after ∷ front)) (reports_waiting_in (earlier ++ bytes) false (after ∷ front))
    (history (after ∷ (front ++ back)) (earlier ++ bytes) false) more
    (moved earlier bytes after front) (cross (after ∷ front) back (earlier ++ bytes) false more steady.1 (omega (arith, few)))
cross (More bytes after ∷ front) back earlier false (Polls Sends Clean ∷ more) steady few =
    again (reports_waiting_in earlier true (More bytes after ∷ front)) (reports_waiting_in (earlier ++ bytes) false (after ∷ front))
    (history (after ∷ (front ++ back)) (earlier ++ bytes) false) more
    (moved earlier bytes after front) (cross (after ∷ front) back (earlier ++ bytes) false more steady.1 (omega (arith, few)))

at_state : (q : QueueState) (more : List PipeStep) → AllClearNone more → queued_piece_count q.queue ≤ closed_count (carried_fates more)
    → CrossFirst (reports_waiting q) q more
at_state q more steady few =
    (let it : CrossFirst (reports_waiting q) (history (q.queue ++ []) q.earlier q.crossed) more = cross q.queue [] q.earlier q.crossed more steady few in
    (it.0, ap (λ (queue : List ReportPieces). crossed_reports (history queue q.earlier q.crossed) more) (sym (append-nil q.queue)) ∙ it.1))

pub waiting_cross : (steps more : List PipeStep) → WaitingCross steps more
waiting_cross steps more steady few = at_state (queue_after_all queue_at_start steps) more steady few

pub waiting_cross_in_time : (k : ℕ) (steps more : List PipeStep) → WaitingCrossInTime k steps more
waiting_cross_in_time k steps more steady fair enough =
    let q : QueueState = queue_after_all queue_at_start steps in
    at_state q more steady (clean_in_time k (queued_piece_count q.queue) (carried_fates more) fair enough)
