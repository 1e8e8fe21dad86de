-- Idle times stay through own steps, and their number through any history.
use Rattle.std.proofs.Common.{◌≡◌, ℕ, Bool, List, [], ◌∷◌, length, Option, Some, None, Ok, Err, refl, ap, ◌∙◌}
use Rattle.std.proofs.lemmas.List.{length-replicate}
use Rattle.hid_layout.specs.Controls.{Item}
use Rattle.hid_snapshots.specs.declared.control_state.ControlState.{ControlState}
use Rattle.hid_snapshots.specs.Snapshots.{OrFault, snapshot_after}
use Rattle.usb_transact.specs.declared.transaction.Fate.{Fate}
use Rattle.usb_transact.specs.declared.transaction.Fate.TheVariants.{Clean, TokenLost, ReplyLost, AckLost}
use Rattle.hid_bus.specs.ReportState.{ReportState, due_where, with_abort}
use Rattle.hid_bus.specs.Rounds.{OwnStep, Changes, Frame, Polls}
use Rattle.hid_bus.specs.LinkState.{LinkState, OpenRound, open_report, state_after_answer, state_after_step, state_after_steps, state_at_token, state_before_answer, with_open_report}
use Rattle.hid_bus.specs.DeviceHistory.{BusEvent, Own, Idles, Configures, Halts, Clears, Resets, state_after}
use Rattle.hid_bus.specs.Agreement.{SetsEach}
use Rattle.hid_bus.proofs.HistoryLemmas.{link}

-- a poll's answer leaves the reports
pub answer_stays : (items : List Item) (d : ReportState) (current : Option OpenRound) (odd : Bool) (view : List ControlState) (halted : Bool) (fate : Fate)
    → (state_after_answer items (link d current odd view halted) fate).reports ≡ d
answer_stays items d None odd view halted fate = refl
answer_stays items d (Some round) odd view halted Clean = refl
answer_stays items d (Some round) odd view halted TokenLost = refl
answer_stays items d (Some round) odd view halted ReplyLost = refl
answer_stays items d (Some round) odd view halted AckLost = refl

opened_idle : (items : List Item) (d : ReportState) (odd : Bool) (view : List ControlState) (halted : Bool) (due : Option ℕ)
    → (with_open_report items (link d None odd view halted) due).reports.idle ≡ d.idle
opened_idle items d odd view halted None = refl
opened_idle items d odd view halted (Some r) = refl

token_idle : (items : List Item) (d : ReportState) (current : Option OpenRound) (odd : Bool) (view : List ControlState) (halted : Bool)
    → (state_at_token items (link d current odd view halted)).reports.idle ≡ d.idle
token_idle items d (Some round) odd view halted = refl
token_idle items d None odd view halted = opened_idle items d odd view halted (due_where items halted d)

arrival_idle : (items : List Item) (s : LinkState) (fate : Fate) → (state_before_answer items s fate).reports.idle ≡ s.reports.idle
arrival_idle items s TokenLost = refl
arrival_idle items s Clean = token_idle items s.reports s.current s.toggle s.view s.halted
arrival_idle items s ReplyLost = token_idle items s.reports s.current s.toggle s.view s.halted
arrival_idle items s AckLost = token_idle items s.reports s.current s.toggle s.view s.halted

pub step_idle : (items : List Item) (s : LinkState) (x : OwnStep) → (state_after_step items s x).reports.idle ≡ s.reports.idle
step_idle items s (Changes change) = by_change (snapshot_after items s.reports.snapshot change)
  where
    by_change : (o : OrFault (List ControlState)) → (let d : ReportState = elim o as (λ _. ReportState) [
      | Ok now ↦ record { snapshot = now; fixed = s.reports.fixed; frames = s.reports.frames; idle = s.reports.idle; aborted = s.reports.aborted }
      | Err fault ↦ s.reports
    ] in d.idle ≡ s.reports.idle)
    by_change (Ok now) = refl
    by_change (Err fault) = refl
step_idle items s Frame = refl
step_idle items s (Polls fate) =
    let t : LinkState = state_before_answer items s fate in
    ap (λ (d : ReportState). d.idle) (answer_stays items t.reports t.current t.toggle t.view t.halted fate) ∙ arrival_idle items s fate

abort_idle : (o : Option ℕ) (d : ReportState) → (with_abort o d).idle ≡ d.idle
abort_idle None d = refl
abort_idle (Some r) d = refl

pub event_idle : (items : List Item) (n : ℕ) (s : LinkState) (x : BusEvent) → SetsEach n x → length s.reports.idle ≡ n
    → length (state_after items s x).reports.idle ≡ n
event_idle items n s (Own x) sets long = ap (λ (idle : List ℕ). length idle) (step_idle items s x) ∙ long
event_idle items n s (Idles idle) sets long = sets
event_idle items n s Configures sets long = long
event_idle items n s Halts sets long = ap (λ (idle : List ℕ). length idle) (abort_idle (open_report s.current) s.reports) ∙ long
event_idle items n s Clears sets long = ap (λ (idle : List ℕ). length idle) (abort_idle (open_report s.current) s.reports) ∙ long
event_idle items n s Resets sets long = length-replicate (length s.reports.idle) 0 ∙ long

pub steps_idle : (items : List Item) (steps : List OwnStep) (s : LinkState) → (state_after_steps items s steps).reports.idle ≡ s.reports.idle
steps_idle items [] s = refl
steps_idle items (x ∷ steps) s = steps_idle items steps (state_after_step items s x) ∙ step_idle items s x
