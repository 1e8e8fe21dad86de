-- Reports that wait cross, and how soon (USB 2.0, 5.7.4, 8.5.4 and 8.6).
use Rattle.std.specs.Prelude.{◌≡◌, ℕ, ◌+◌, ◌*◌, ◌≤◌, List, [], ◌∷◌, ◌++◌, length}
use Rattle.usb_transact.specs.declared.transaction.Fate.{Fate}
use Rattle.usb_transact.specs.declared.transaction.Fate.TheVariants.{TokenLost}
use Rattle.hid_bus.specs.Rounds.{closed_count}
use Rattle.hid_bus.specs.Fairness.{IsFair}
use Rattle.hid_any_device.specs.Sender.{Readiness, Sends, Waits, Stalls}
use Rattle.hid_any_device.specs.PipeSteps.{PipeStep, Queues, Polls, Clears}
use Rattle.hid_any_device.specs.SendQueue.{QueueState, queue_at_start, queue_after_all, crossed_reports, reports_waiting, queued_piece_count}
use Rattle.hid_any_device.specs.Delivery.{AllClearNone}

-- the fate of a poll, by what it carries: a device that waits or is halted sends no piece, as if the token were lost
abbrev pub carried_fate : Readiness → Fate → Fate
carried_fate Sends fate = fate
carried_fate Waits fate = TokenLost
carried_fate Stalls fate = TokenLost

-- the fates of all polls, by what they carry
abbrev pub carried_fates : List PipeStep → List Fate
carried_fates [] = []
carried_fates (Queues report ∷ steps) = carried_fates steps
carried_fates (Polls readiness fate ∷ steps) = carried_fate readiness fate ∷ carried_fates steps
carried_fates (Clears queue ∷ steps) = carried_fates steps

-- the first reports that cross over a list of steps are these
abbrev pub CrossFirst : List (List ℕ) → QueueState → List PipeStep → Type 0
CrossFirst reports q steps = (rest : List (List ℕ)) × (crossed_reports q steps ≡ reports ++ rest)

-- After any steps, the reports that wait cross, in order and before any other, once as many polls of a device that sends
-- lose nothing as pieces are queued. Other polls may lose anything, and more reports may be queued meanwhile. Example: two
-- reports of one piece each, a lost ACK, a clean poll, a third report, a clean poll: the two have crossed.
abbrev pub WaitingCross : List PipeStep → List PipeStep → Type 0
WaitingCross steps more =
    let q : QueueState = queue_after_all queue_at_start steps in
    AllClearNone more → queued_piece_count q.queue ≤ closed_count (carried_fates more)
    → CrossFirst (reports_waiting q) q more

-- If at most k polls in a row lose something or meet a device that doesn't send, k + 1 polls for each queued piece are enough.
abbrev pub WaitingCrossInTime : ℕ → List PipeStep → List PipeStep → Type 0
WaitingCrossInTime k steps more =
    let q : QueueState = queue_after_all queue_at_start steps in
    AllClearNone more → IsFair k (carried_fates more)
    → (k + 1) * queued_piece_count q.queue ≤ length (carried_fates more)
    → CrossFirst (reports_waiting q) q more
