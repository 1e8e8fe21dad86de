-- A poll is answered by NAK exactly if the device has nothing to send, and then it moves neither end.
use Rattle.std.proofs.Common.{◌≡◌, ℕ, Bool, false, List, [], Option, Some, None, refl, ap, sym, ◌∙◌, subst}
use Rattle.hid_layout.specs.Controls.{Item}
use Rattle.hid_snapshots.specs.declared.control_state.ControlState.{ControlState}
use Rattle.hid_snapshots.specs.declared.event.Event.{Event}
use Rattle.usb_transact.specs.declared.transaction.Fate.{Fate}
use Rattle.usb_transact.specs.declared.transaction.Fate.TheVariants.{Clean, TokenLost, ReplyLost, AckLost}
use Rattle.hid_bus.specs.ReportState.{ReportState, first_due, due_where}
use Rattle.hid_bus.specs.LinkState.{LinkState, OpenRound, round_after_poll, state_after_answer, state_at_token, with_open_report, open_round_events, poll_events}
use Rattle.hid_bus.specs.Agreement.{AnswersNak, HasNothingToSend, IsUnmoved}
use Rattle.hid_bus.proofs.HistoryLemmas.{link}

after_answer : (items : List Item) (s t : LinkState) (fate : Fate) → t ≡ s → s.current ≡ None
    → (poll_events items t fate ≡ []) × (state_after_answer items t fate ≡ s)
after_answer items s t fate same closed = (
  ap (λ (u : LinkState). poll_events items u fate) same ∙ ap (λ (o : Option OpenRound). elim o as (λ _. List Event) [ None ↦ [] | Some round ↦ open_round_events items s round fate ]) closed,
  ap (λ (u : LinkState). state_after_answer items u fate) same ∙ ap (λ (o : Option OpenRound). elim o as (λ _. LinkState) [ None ↦ s | Some round ↦ round_after_poll items s round fate ]) closed,
)

token_stays : (items : List Item) (s : LinkState) → HasNothingToSend items s → state_at_token items s ≡ s
token_stays items s nothing =
    ap (λ (o : Option OpenRound). elim o as (λ _. LinkState) [ Some round ↦ s | None ↦ with_open_report items s (due_where items s.halted s.reports) ]) nothing.current
    ∙ ap (λ (h : Bool). with_open_report items s (due_where items h s.reports)) nothing.halted
    ∙ ap (λ (o : Option ℕ). with_open_report items s o) nothing.none_due

pub unmoved : (items : List Item) (s : LinkState) (fate : Fate) → IsUnmoved items s fate
unmoved items s TokenLost nothing = after_answer items s s TokenLost refl nothing.current
unmoved items s Clean nothing = after_answer items s (state_at_token items s) Clean (token_stays items s nothing) nothing.current
unmoved items s ReplyLost nothing = after_answer items s (state_at_token items s) ReplyLost (token_stays items s nothing) nothing.current
unmoved items s AckLost nothing = after_answer items s (state_at_token items s) AckLost (token_stays items s nothing) nothing.current

none_opens : (items : List Item) (d : ReportState) (odd : Bool) (view : List ControlState) (current : Option OpenRound)
    → (state_at_token items (link d current odd view false)).current ≡ None → HasNothingToSend items (link d current odd view false)
none_opens items d odd view (Some round) h = absurd (cc)
none_opens items d odd view None h = by_due (first_due items d) refl h
  where
    by_due : (o : Option ℕ) → first_due items d ≡ o → (with_open_report items (link d None odd view false) o).current ≡ None
        → HasNothingToSend items (link d None odd view false)
    by_due None e k = record { current = refl; halted = refl; none_due = e }
    by_due (Some r) e k = absurd (cc)

-- where a poll is answered by NAK there is nothing to send
pub nak_says_nothing : (items : List Item) (s : LinkState) → AnswersNak items s → HasNothingToSend items s
nak_says_nothing items s nak =
    let arrives : (state_at_token items (link s.reports s.current s.toggle s.view false)).current ≡ None =
    subst (λ (h : Bool). (state_at_token items (link s.reports s.current s.toggle s.view h)).current ≡ None) nak.halted nak.none_opens in
    subst (λ (h : Bool). HasNothingToSend items (link s.reports s.current s.toggle s.view h)) (sym nak.halted)
    (none_opens items s.reports s.toggle s.view s.current arrives)

-- a device with nothing to send answers NAK
pub nothing_is_nak : (items : List Item) (s : LinkState) → HasNothingToSend items s → AnswersNak items s
nothing_is_nak items s nothing = record {
  halted = nothing.halted;
  none_opens = ap (λ (t : LinkState). t.current) (token_stays items s nothing) ∙ nothing.current;
}
