-- What halts and clears leave of the rounds that they abort: the report is due until a round of it opens (USB 2.0,
-- 8.5.4 and 9.4.5; our choice).
use Rattle.std.specs.Prelude.{◌≡◌, ◌<◌, ◌≤◌, ℕ, false, true, List, [], ◌∷◌, length, Option, Some, None, IfSome}
use Rattle.hid_layout.specs.Controls.{Item}
use Rattle.usb_transact.specs.declared.transaction.Fate.{Fate}
use Rattle.usb_transact.specs.declared.transaction.Fate.TheVariants.{Clean, TokenLost, ReplyLost, AckLost}
use Rattle.hid_bus.specs.ReportState.{due_where, is_due}
use Rattle.hid_bus.specs.Rounds.{OwnStep, Changes, Frame, Polls}
use Rattle.hid_bus.specs.LinkState.{LinkState, OpenRound, first_open_piece, state_at_token}
use Rattle.hid_bus.specs.DeviceHistory.{BusEvent, Own, Idles, Configures, Halts, Clears, Resets, state_after, state_after_all}

-- each report has its frames and its abort flag, the report of the open round too
pub record HasAbortFlags (s : LinkState) : Type 0 where
  pub one_each : length s.reports.aborted ≡ length s.reports.frames
  pub input : IfSome s.current (λ round. round.report < length s.reports.frames)

-- the report of the round that a token opens, if it opens one
abbrev pub report_to_open : List Item → LinkState → Option ℕ
report_to_open items s = elim s.current [ Some round ↦ None | None ↦ due_where items s.halted s.reports ]

-- no round of a report opens at a poll
abbrev pub OpensNone : List Item → ℕ → LinkState → Fate → Type 0
OpensNone items r s TokenLost = Unit {0}
OpensNone items r s Clean = report_to_open items s ≡ Some r → ⊥
OpensNone items r s ReplyLost = report_to_open items s ≡ Some r → ⊥
OpensNone items r s AckLost = report_to_open items s ≡ Some r → ⊥

-- a step opens no round of this report
abbrev pub IsStepWithout : List Item → ℕ → LinkState → OwnStep → Type 0
IsStepWithout items r s (Changes change) = Unit {0}
IsStepWithout items r s Frame = Unit {0}
IsStepWithout items r s (Polls fate) = OpensNone items r s fate

-- a bus event begins no epoch and opens no round of this report: idle times, halts and clears open none
abbrev pub IsWithoutRound : List Item → ℕ → LinkState → BusEvent → Type 0
IsWithoutRound items r s (Own x) = IsStepWithout items r s x
IsWithoutRound items r s (Idles idle) = Unit {0}
IsWithoutRound items r s Configures = ⊥
IsWithoutRound items r s Halts = Unit {0}
IsWithoutRound items r s Clears = Unit {0}
IsWithoutRound items r s Resets = ⊥

-- no bus event of a history begins an epoch or opens a round of this report
abbrev pub AreWithoutRound : List Item → ℕ → LinkState → List BusEvent → Type 0
AreWithoutRound items r s [] = Unit {0}
AreWithoutRound items r s (x ∷ bus_events) =
    IsWithoutRound items r s x × AreWithoutRound items r (state_after items s x) bus_events

-- A report whose round a bus event aborts stays due until a round of it opens: through changes, frames, idle times,
-- further halts and clears, and polls that open no round of it.
abbrev pub StaysDue : List Item → LinkState → BusEvent → List BusEvent → Type 0
StaysDue items s aborts bus_events =
    (round : OpenRound) → s.current ≡ Some round → HasAbortFlags s
    → AreWithoutRound items round.report (state_after items s aborts) bus_events
    → is_due items (state_after_all items s (aborts ∷ bus_events)).reports round.report ≡ true

-- Where no round is open, the endpoint isn't halted and a report is due, the next token that arrives opens a round, of
-- this report or of a due one before it.
abbrev pub OpensNext : List Item → LinkState → ℕ → Type 0
OpensNext items s r =
    s.current ≡ None → s.halted ≡ false → r < length s.reports.frames → is_due items s.reports r ≡ true
    → (first : ℕ) × (first ≤ r) × (is_due items s.reports first ≡ true)
    × ((state_at_token items s).current ≡ Some (first_open_piece items first))
