-- A poll delivers a whole part where the last piece crosses, else nothing, and a step keeps the open round or ends it.
use Rattle.std.proofs.Common.{◌≡◌, ◌∙◌, ◌⊎◌, ℕ, Bool, true, false, ◌&&◌, cond, List, [], Option, Some, None, refl, ap, sym, subst, inl, inr}
use Rattle.std.proofs.lemmas.Bool.{cases_Bool}
use Rattle.hid_layout.specs.Controls.{Item, items_of}
use Rattle.hid_snapshots.specs.declared.control_state.ControlState.{ControlState}
use Rattle.hid_snapshots.specs.declared.event.Event.{Event}
use Rattle.hid_snapshots.specs.Views.{view_after_part}
use Rattle.usb_transact.specs.declared.transaction.Fate.{Fate}
use Rattle.usb_transact.specs.declared.transaction.Fate.TheVariants.{Clean, TokenLost, ReplyLost, AckLost}
use Rattle.hid_bus.specs.DeviceHistory.{BusEvent, Own, Idles, Configures, Halts, Clears, Resets, state_after}
use Rattle.hid_bus.specs.Rounds.{Changes, Frame, Polls, part_events, reaches_host}
use Rattle.hid_bus.specs.ReportState.{due_where}
use Rattle.hid_bus.specs.LinkState.{LinkState, OpenRound, completes, is_last, piece_after, poll_events, state_after_answer, state_at_token, state_before_answer, with_open_report}
use Rattle.hid_stack.specs.Members.{Member, MemberStep, Scheduled, bus_event_of_step, events_of_event_if, poll_bus_event, polls_it, state_after_event_if}
use Rattle.hid_stack.specs.Reports.{DeliversIfComplete, IsSameRound, IsWholeOrNothing, KeepsToRound, is_missing_last}
use Rattle.hid_stack.proofs.MemberLemmas.{link_is}
use Rattle.hid_stack.proofs.SlotLemmas.{fixed_stays}

-- ---- polls

-- of a link state, once a round was opened for the poll
record Nothing (items : List Item) (s : LinkState) (fate : Fate) : Type 0 where
  events : poll_events items s fate ≡ []
  view : (state_after_answer items s fate).view ≡ s.view

record Part (items : List Item) (s : LinkState) (fate : Fate) : Type 0 where
  round : OpenRound
  is_open : s.current ≡ Some round
  crosses : completes round ≡ true
  events : poll_events items s fate ≡ part_events items round.report s.view s.reports.fixed
  view : (state_after_answer items s fate).view ≡ view_after_part items round.report s.view s.reports.fixed

abbrev By : Bool → List Item → LinkState → Fate → Type 0
By true items s fate = Part items s fate
By false items s fate = Nothing items s fate

abbrev with_open : LinkState → Option OpenRound → LinkState
with_open s current = record s { current = current }

-- where the piece at hand reaches the host
abbrev told_if : List Item → LinkState → OpenRound → Bool → List Event
told_if items s round b = cond b (part_events items round.report s.view s.reports.fixed) []

abbrev seen_if : List Item → LinkState → OpenRound → Bool → List ControlState
seen_if items s round b = cond b (view_after_part items round.report s.view s.reports.fixed) s.view

reaches : (items : List Item) (s : LinkState) (round : OpenRound) (fate : Fate) (whole : Bool)
    → completes round ≡ whole
    → poll_events items (with_open s (Some round)) fate ≡ told_if items s round (completes round)
    → (state_after_answer items (with_open s (Some round)) fate).view ≡ seen_if items s round (completes round)
    → By whole items (with_open s (Some round)) fate
reaches items s round fate true whole told view = record {
  round = round;
  is_open = refl;
  crosses = whole;
  events = told ∙ ap (told_if items s round) whole;
  view = view ∙ ap (seen_if items s round) whole;
}
reaches items s round fate false more told view = record { events = told ∙ ap (told_if items s round) more; view = view ∙ ap (seen_if items s round) more }

answers : (items : List Item) (s : LinkState) (current : Option OpenRound) (fate : Fate)
    → By (reaches_host fate && is_missing_last current) items (with_open s current) fate
answers items s None Clean = record { events = refl; view = refl }
answers items s None TokenLost = record { events = refl; view = refl }
answers items s None ReplyLost = record { events = refl; view = refl }
answers items s None AckLost = record { events = refl; view = refl }
answers items s (Some round) TokenLost = record { events = refl; view = refl }
answers items s (Some round) ReplyLost = record { events = refl; view = refl }
answers items s (Some round) Clean = reaches items s round Clean (completes round) refl refl refl
answers items s (Some round) AckLost = reaches items s round AckLost (completes round) refl refl refl

-- opening a round leaves the view
opened_if_view : (items : List Item) (s : LinkState) (due : Option ℕ) → (with_open_report items s due).view ≡ s.view
opened_if_view items s None = refl
opened_if_view items s (Some r) = refl

opened_view : (items : List Item) (s : LinkState) (current : Option OpenRound)
    → (state_at_token items (with_open s current)).view ≡ s.view
opened_view items s None = opened_if_view items (with_open s None) (due_where items s.halted s.reports)
opened_view items s (Some round) = refl

arrived_view : (items : List Item) (s : LinkState) (fate : Fate) → (state_before_answer items s fate).view ≡ s.view
arrived_view items s TokenLost = refl
arrived_view items s Clean = opened_view items s s.current
arrived_view items s ReplyLost = opened_view items s s.current
arrived_view items s AckLost = opened_view items s s.current

-- a poll that is made
made_by : (m : Member) (fate : Fate) (whole : Bool) → polls_it m ≡ true
    → By whole (items_of m.layout) (state_before_answer (items_of m.layout) m.link fate) fate
    → DeliversIfComplete whole m fate
made_by m fate true polls part =
    let items = items_of m.layout in
    let s = state_before_answer items m.link fate in
    let stays = arrived_view items m.link fate in
    let bus_event : bus_event_of_step m (Scheduled (Polls fate)) ≡ Some (Own (Polls fate)) =
    ap (λ (b : Bool). poll_bus_event b fate) polls in
    record {
      round = part.round;
      is_open = part.is_open;
      crosses = part.crosses;
      events = ap (events_of_event_if items m.link) bus_event ∙ part.events
          ∙ ap (λ (v : List ControlState). part_events items part.round.report v s.reports.fixed) stays;
      view = ap (λ (o : Option BusEvent). (state_after_event_if items m.link o).view) bus_event ∙ part.view
          ∙ ap (λ (v : List ControlState). view_after_part items part.round.report v s.reports.fixed) stays;
    }
made_by m fate false polls none =
    let items = items_of m.layout in
    let bus_event : bus_event_of_step m (Scheduled (Polls fate)) ≡ Some (Own (Polls fate)) =
    ap (λ (b : Bool). poll_bus_event b fate) polls in
    record {
      events = ap (events_of_event_if items m.link) bus_event ∙ none.events;
      view = ap (λ (o : Option BusEvent). (state_after_event_if items m.link o).view) bus_event ∙ none.view
          ∙ arrived_view items m.link fate;
    }

-- whether the last piece is missing at a poll whose answer reaches the host
abbrev missing_at : Member → Fate → Bool
missing_at m fate = reaches_host fate && is_missing_last (state_before_answer (items_of m.layout) m.link fate).current

pub whole_or_nothing : (m : Member) (fate : Fate) → IsWholeOrNothing m fate
whole_or_nothing m fate = elim (cases_Bool (polls_it m)) [
  | inl polls ↦
      let s = state_before_answer (items_of m.layout) m.link fate in
      subst (λ (b : Bool). DeliversIfComplete (b && missing_at m fate) m fate) (sym polls)
      (made_by m fate (missing_at m fate) polls (answers (items_of m.layout) s s.current fate))
  | inr silent ↦
      let bus_event : bus_event_of_step m (Scheduled (Polls fate)) ≡ None =
      ap (λ (b : Bool). poll_bus_event b fate) silent in
      subst (λ (b : Bool). DeliversIfComplete (b && missing_at m fate) m fate) (sym silent) (record {
        events = ap (events_of_event_if (items_of m.layout) m.link) bus_event;
        view = ap (λ (o : Option BusEvent). (state_after_event_if (items_of m.layout) m.link o).view) bus_event;
      })
]

-- ---- the open round

abbrev Stays : OpenRound → LinkState → LinkState → Type 0
Stays round s t = (t.current ≡ None) ⊎ IsSameRound round s t

same_round : (round : OpenRound) (s t : LinkState) (crossed : Bool)
    → t.current ≡ Some (record round { crossed = crossed })
    → t.reports.fixed ≡ s.reports.fixed → Stays round s t
same_round round s t crossed is part =
    inr (record { now = record round { crossed = crossed }; is_open = is; report = refl; pieces = refl; piece = inl refl; part = part })

-- a piece that closes
closes : (items : List Item) (s : LinkState) (round : OpenRound)
    → Stays round (with_open s (Some round)) (state_after_answer items (with_open s (Some round)) Clean)
closes items s round = elim (cases_Bool (is_last round)) [
  | inl last ↦ inl (ap (λ (b : Bool). cond b None (Some (piece_after round))) last)
  | inr more ↦ inr (record {
    now = piece_after round;
    is_open = ap (λ (b : Bool). cond b None (Some (piece_after round))) more;
    report = refl;
    pieces = refl;
    piece = inr refl;
    part = refl;
  })
]

bus_event_keeps : (items : List Item) (s : LinkState) (round : OpenRound) (bus_event : BusEvent)
    → Stays round (with_open s (Some round)) (state_after items (with_open s (Some round)) bus_event)
bus_event_keeps items s round (Own (Changes change)) =
    same_round round (with_open s (Some round))
    (state_after items (with_open s (Some round)) (Own (Changes change))) round.crossed refl
    (fixed_stays items s.reports change)
bus_event_keeps items s round (Own Frame) =
    same_round round (with_open s (Some round))
    (state_after items (with_open s (Some round)) (Own Frame)) round.crossed refl refl
bus_event_keeps items s round (Own (Polls Clean)) = closes items s round
bus_event_keeps items s round (Own (Polls TokenLost)) =
    same_round round (with_open s (Some round))
    (state_after items (with_open s (Some round)) (Own (Polls TokenLost))) round.crossed refl refl
bus_event_keeps items s round (Own (Polls ReplyLost)) =
    same_round round (with_open s (Some round))
    (state_after items (with_open s (Some round)) (Own (Polls ReplyLost))) round.crossed refl refl
bus_event_keeps items s round (Own (Polls AckLost)) =
    same_round round (with_open s (Some round))
    (state_after items (with_open s (Some round)) (Own (Polls AckLost))) true refl refl
bus_event_keeps items s round (Idles idle) =
    same_round round (with_open s (Some round))
    (state_after items (with_open s (Some round)) (Idles idle)) round.crossed refl refl
bus_event_keeps items s round Configures = inl refl
bus_event_keeps items s round Halts = inl refl
bus_event_keeps items s round Clears = inl refl
bus_event_keeps items s round Resets = inl refl

by_bus_event : (items : List Item) (s : LinkState) (round : OpenRound) (o : Option BusEvent)
    → Stays round (with_open s (Some round)) (state_after_event_if items (with_open s (Some round)) o)
by_bus_event items s round None =
    same_round round (with_open s (Some round)) (with_open s (Some round)) round.crossed refl refl
by_bus_event items s round (Some bus_event) = bus_event_keeps items s round bus_event

pub keeps_to_round : (m : Member) (x : MemberStep) → KeepsToRound m x
keeps_to_round m x round is =
    let items = items_of m.layout in
    let same : m.link ≡ with_open m.link (Some round) = ap (with_open m.link) is in
    let there : Stays round m.link (state_after_event_if items m.link (bus_event_of_step m x))
    = subst (λ (s : LinkState). Stays round s (state_after_event_if items s (bus_event_of_step m x))) (sym same)
    (by_bus_event items m.link round (bus_event_of_step m x)) in
    subst (Stays round m.link) (sym (link_is m x)) there
