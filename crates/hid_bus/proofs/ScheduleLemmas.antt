-- A history of own steps alone is a schedule, and its outcomes are its rounds.
use Rattle.std.proofs.Common.{◌≡◌, ◌++◌, ◌+◌, ℕ, zero, suc, Bool, true, false, not, List, [], ◌∷◌, Option, Some, None, refl, ap, sym, ◌∙◌, subst, cond, arith}
use Rattle.std.specs.List.{filter}
use Rattle.hid_layout.specs.Controls.{Item}
use Rattle.hid_snapshots.specs.declared.control_state.ControlState.{ControlState}
use Rattle.hid_snapshots.specs.declared.event.Event.{Event}
use Rattle.hid_snapshots.specs.Views.{view_after_part}
use Rattle.usb_transact.specs.declared.transaction.Fate.{Fate}
use Rattle.usb_transact.specs.declared.transaction.Fate.TheVariants.{Clean, TokenLost, ReplyLost, AckLost}
use Rattle.hid_bus.specs.ReportState.{ReportState, after_change, after_frame, due_where, with_idle}
use Rattle.hid_bus.specs.Rounds.{OwnStep, Changes, Frame, Polls, Round, RoundHistory, pieces_closed, pieces_crossed, has_crossed, rounds, events_of_rounds, view_after_rounds, events_of_epoch, part_events, rounds_closed_by_step, open_rounds, history_after_step, history_after_steps}
use Rattle.hid_bus.specs.LinkState.{LinkState, OpenRound, initial_link, state_after_step, state_after_steps, state_after_answer, state_before_answer, events_of_step, events_of_steps, expected_toggle, state_at_token, with_open_report}
use Rattle.hid_bus.specs.DeviceHistory.{BusEvent, Own, Idles, Configures, Halts, Clears, Resets, steps_as_events, LinkOutcome, rounds_as_outcomes, outcomes_of_events, ended_rounds, AreWithinEpoch, history_after, history_after_all, crossed_round_events, view_after_round, events_of_outcomes, view_after_outcomes, flipped_toggle, toggle_after_outcomes, state_after, state_after_all, events_of_history}
use Rattle.hid_bus.specs.HistoryState.{history_from, HistoryHolds, pieces_in, FollowsRounds, StandsByRounds, StandsInEpoch}
use Rattle.hid_bus.proofs.HistoryLemmas.{history, link}
use Rattle.hid_bus.proofs.HistoryEventLemmas.{history_goes_on}

pub own_told : (items : List Item) (steps : List OwnStep) (s : LinkState)
    → events_of_history items s (steps_as_events steps) ≡ events_of_steps items s steps
own_told items [] s = refl
own_told items (x ∷ steps) s =
    ap (λ (es : List Event). events_of_step items s x ++ es) (own_told items steps (state_after_step items s x))

pub own_stands : (items : List Item) (steps : List OwnStep) (s : LinkState)
    → state_after_all items s (steps_as_events steps) ≡ state_after_steps items s steps
own_stands items [] s = refl
own_stands items (x ∷ steps) s = own_stands items steps (state_after_step items s x)

own_history : (items : List Item) (steps : List OwnStep) (c : RoundHistory)
    → history_after_all items (steps_as_events steps) c ≡ history_after_steps items steps c
own_history items [] c = refl
own_history items (x ∷ steps) c = own_history items steps (history_after_step items c x)

ended_join : (xs ys : List Round) → rounds_as_outcomes (xs ++ ys) ≡ rounds_as_outcomes xs ++ rounds_as_outcomes ys
ended_join [] ys = refl
ended_join (x ∷ xs) ys = ap (λ (hs : List LinkOutcome). rounds_as_outcomes (x ∷ []) ++ hs) (ended_join xs ys)

own_rounds : (items : List Item) (steps : List OwnStep) (c : RoundHistory)
    → outcomes_of_events items (steps_as_events steps) c ≡ rounds_as_outcomes (rounds items steps c)
own_rounds items [] c = refl
own_rounds items (x ∷ steps) c =
    ap (λ (hs : List LinkOutcome). rounds_as_outcomes (rounds_closed_by_step items c x) ++ hs)
    (own_rounds items steps (history_after_step items c x))
    ∙ sym (ended_join (rounds_closed_by_step items c x) (rounds items steps (history_after_step items c x)))

-- rounds tell, are seen and change toggles as those of them that count
told_of_rounds : (items : List Item) (view : List ControlState) (rs : List Round)
    → events_of_outcomes items view (rounds_as_outcomes rs) ≡ events_of_rounds items view (filter has_crossed rs)
told_of_rounds items view [] = refl
told_of_rounds items view (r ∷ rs) =
    elim (has_crossed r) as
    (λ (b : Bool). crossed_round_events items view b r
    ++ events_of_outcomes items (view_after_round items view b r) (rounds_as_outcomes rs)
    ≡ events_of_rounds items view (cond b (r ∷ filter has_crossed rs) (filter has_crossed rs))) [
      | true ↦ ap (λ (es : List Event). part_events items r.report view r.parts ++ es)
          (told_of_rounds items (view_after_part items r.report view r.parts) rs)
      | false ↦ told_of_rounds items view rs
    ]

view_of_rounds : (items : List Item) (view : List ControlState) (rs : List Round)
    → view_after_outcomes items view (rounds_as_outcomes rs) ≡ view_after_rounds items view (filter has_crossed rs)
view_of_rounds items view [] = refl
view_of_rounds items view (r ∷ rs) =
    elim (has_crossed r) as
    (λ (b : Bool). view_after_outcomes items (view_after_round items view b r) (rounds_as_outcomes rs)
    ≡ view_after_rounds items view (cond b (r ∷ filter has_crossed rs) (filter has_crossed rs))) [
      | true ↦ view_of_rounds items (view_after_part items r.report view r.parts) rs
      | false ↦
          view_of_rounds items view rs
    ]

flips_add : (m n : ℕ) (odd : Bool) → flipped_toggle n (flipped_toggle m odd) ≡ flipped_toggle (m + n) odd
flips_add m zero odd = let e : m ≡ m + zero = omega arith in ap (λ (k : ℕ). flipped_toggle k odd) e
flips_add m (suc n) odd =
    ap not (flips_add m n odd)
    ∙ ap (λ (k : ℕ). flipped_toggle k odd) (let e : suc (m + n) ≡ m + suc n = omega arith in e)

toggle_of_rounds : (pieces : Round → ℕ) (odd : Bool) (rs : List Round)
    → toggle_after_outcomes pieces odd (rounds_as_outcomes rs) ≡ flipped_toggle (pieces_in pieces rs) odd
toggle_of_rounds pieces odd [] = refl
toggle_of_rounds pieces odd (r ∷ rs) =
    toggle_of_rounds pieces (flipped_toggle (pieces r) odd) rs ∙ flips_add (pieces r) (pieces_in pieces rs) odd

-- Of what happens to a link state without an open round, where these rounds come of it and nothing else: they say
-- what is reported, and how the link state stands.
tells_rounds : (items : List Item) (from : LinkState) (bus_events : List BusEvent) (gone : List Round)
    → from.current ≡ None → outcomes_of_events items bus_events (history_from from) ≡ rounds_as_outcomes gone
    → events_of_history items from bus_events ≡ events_of_rounds items from.view (filter has_crossed gone)
tells_rounds items from bus_events gone none_open outcomes =
    (history_goes_on items from bus_events none_open).events ∙ ap (events_of_outcomes items from.view) outcomes
    ∙ told_of_rounds items from.view gone

-- within an epoch an endpoint stays halted, or not
answered_halts : (items : List Item) (d : ReportState) (current : Option OpenRound) (odd : Bool)
    (view : List ControlState)
    (halted : Bool) (fate : Fate) → (state_after_answer items (link d current odd view halted) fate).halted ≡ halted
answered_halts items d None odd view halted fate = refl
answered_halts items d (Some round) odd view halted Clean = refl
answered_halts items d (Some round) odd view halted TokenLost = refl
answered_halts items d (Some round) odd view halted ReplyLost = refl
answered_halts items d (Some round) odd view halted AckLost = refl

opened_by_halts : (items : List Item) (s : LinkState) (due : Option ℕ)
    → (with_open_report items s due).halted ≡ s.halted
opened_by_halts items s None = refl
opened_by_halts items s (Some r) = refl

opened_halts : (items : List Item) (d : ReportState) (current : Option OpenRound) (odd : Bool)
    (view : List ControlState)
    (halted : Bool) → (state_at_token items (link d current odd view halted)).halted ≡ halted
opened_halts items d (Some round) odd view halted = refl
opened_halts items d None odd view halted =
    opened_by_halts items (link d None odd view halted) (due_where items halted d)

arrived_halts : (items : List Item) (s : LinkState) (fate : Fate)
    → (state_before_answer items s fate).halted ≡ s.halted
arrived_halts items s TokenLost = refl
arrived_halts items s Clean = opened_halts items s.reports s.current s.toggle s.view s.halted
arrived_halts items s ReplyLost = opened_halts items s.reports s.current s.toggle s.view s.halted
arrived_halts items s AckLost = opened_halts items s.reports s.current s.toggle s.view s.halted

step_halts : (items : List Item) (s : LinkState) (x : OwnStep) → (state_after_step items s x).halted ≡ s.halted
step_halts items s (Changes change) = refl
step_halts items s Frame = refl
step_halts items s (Polls fate) =
    let t : LinkState = state_before_answer items s fate in
    answered_halts items t.reports t.current t.toggle t.view t.halted fate ∙ arrived_halts items s fate

pub epoch_halts : (items : List Item) (bus_events : List BusEvent) (s : LinkState) → AreWithinEpoch bus_events
    → (state_after_all items s bus_events).halted ≡ s.halted
epoch_halts items [] s within = refl
epoch_halts items (Own x ∷ bus_events) s within =
    epoch_halts items bus_events (state_after_step items s x) within.1 ∙ step_halts items s x
epoch_halts items (Idles idle ∷ bus_events) s within =
    epoch_halts items bus_events (state_after items s (Idles idle)) within.1
epoch_halts items (Configures ∷ bus_events) s within = absurd within.0
epoch_halts items (Halts ∷ bus_events) s within = absurd within.0
epoch_halts items (Clears ∷ bus_events) s within = absurd within.0
epoch_halts items (Resets ∷ bus_events) s within = absurd within.0

-- where a device is halted none of its rounds opens
record IsSilent (items : List Item) (bus_events : List BusEvent) (d : ReportState) (odd : Bool)
    (view : List ControlState) : Type 0 where
  happened : outcomes_of_events items bus_events (history d None true) ≡ []
  expects : expected_toggle (state_after_all items (link d None odd view true) bus_events) ≡ odd

silent : (items : List Item) (bus_events : List BusEvent) (d : ReportState) (odd : Bool) (view : List ControlState)
    → AreWithinEpoch bus_events → IsSilent items bus_events d odd view
silent items [] d odd view within = record { happened = refl; expects = refl }
silent items (Own (Changes c) ∷ bus_events) d odd view within =
    let rest =
    silent items bus_events (after_change items d c) odd view within.1 in
    record { happened = rest.happened; expects = rest.expects }
silent items (Own Frame ∷ bus_events) d odd view within =
    let rest =
    silent items bus_events (after_frame d) odd view within.1 in
    record { happened = rest.happened; expects = rest.expects }
silent items (Own (Polls Clean) ∷ bus_events) d odd view within =
    let rest =
    silent items bus_events d odd view within.1 in record { happened = rest.happened; expects = rest.expects }
silent items (Own (Polls TokenLost) ∷ bus_events) d odd view within =
    let rest =
    silent items bus_events d odd view within.1 in record { happened = rest.happened; expects = rest.expects }
silent items (Own (Polls ReplyLost) ∷ bus_events) d odd view within =
    let rest =
    silent items bus_events d odd view within.1 in record { happened = rest.happened; expects = rest.expects }
silent items (Own (Polls AckLost) ∷ bus_events) d odd view within =
    let rest =
    silent items bus_events d odd view within.1 in record { happened = rest.happened; expects = rest.expects }
silent items (Idles idle ∷ bus_events) d odd view within =
    let rest =
    silent items bus_events (with_idle idle d) odd view within.1 in
    record { happened = rest.happened; expects = rest.expects }
silent items (Configures ∷ bus_events) d odd view within = absurd within.0
silent items (Halts ∷ bus_events) d odd view within = absurd within.0
silent items (Clears ∷ bus_events) d odd view within = absurd within.0
silent items (Resets ∷ bus_events) d odd view within = absurd within.0

-- The toggle that the host expects was changed once for each piece of these rounds that crossed.
expects_rounds : (items : List Item) (d : ReportState) (odd : Bool) (view : List ControlState) (halted : Bool)
    (bus_events : List BusEvent) (gone : List Round) → AreWithinEpoch bus_events
    → outcomes_of_events items bus_events (history d None halted) ≡ rounds_as_outcomes gone
    → expected_toggle (state_after_all items (link d None odd view halted) bus_events)
    ≡ flipped_toggle (pieces_in pieces_crossed gone) odd
expects_rounds items d odd view true bus_events [] within outcomes =
    (silent items bus_events d odd view within).expects
expects_rounds items d odd view true bus_events (r ∷ gone) within outcomes =
    let none : [] ≡ rounds_as_outcomes (r ∷ gone) =
    sym (silent items bus_events d odd view within).happened ∙ outcomes in absurd (cc)
expects_rounds items d odd view false bus_events gone within outcomes =
    (history_goes_on items (link d None odd view false) bus_events refl).expects
    (epoch_halts items bus_events (link d None odd view false) within)
    ∙ ap (toggle_after_outcomes pieces_crossed odd) outcomes ∙ toggle_of_rounds pieces_crossed odd gone

follows_rounds : (items : List Item) (from : LinkState) (bus_events : List BusEvent) (gone : List Round)
    → from.current ≡ None → AreWithinEpoch bus_events
    → outcomes_of_events items bus_events (history_from from) ≡ rounds_as_outcomes gone
    → FollowsRounds items from.view from.toggle gone (history_after_all items bus_events (history_from from))
    (state_after_all items from bus_events)
follows_rounds items from bus_events gone none_open within outcomes =
    let lived : HistoryHolds items from bus_events = history_goes_on items from bus_events none_open in
    record {
      reports = lived.reports;
      open_round = lived.open_round;
      part = lived.part;
      view = lived.view ∙ ap (view_after_outcomes items from.view) outcomes ∙ view_of_rounds items from.view gone;
      halted = lived.halted;
      toggle = lived.toggle ∙ ap (toggle_after_outcomes pieces_closed from.toggle) outcomes
          ∙ toggle_of_rounds pieces_closed from.toggle gone;
      expects =
          subst (λ (o : Option OpenRound). expected_toggle
          (state_after_all items (link from.reports o from.toggle from.view from.halted) bus_events)
          ≡ flipped_toggle (pieces_in pieces_crossed gone) from.toggle) (sym none_open)
          (expects_rounds items from.reports from.toggle from.view from.halted bus_events gone within outcomes);
    }

own_within : (steps : List OwnStep) → AreWithinEpoch (steps_as_events steps)
own_within [] = tt
own_within (x ∷ steps) = (tt, own_within steps)

-- its own steps
pub delivers_rounds : (items : List Item) (from : LinkState) (steps : List OwnStep) → from.current ≡ None
    → events_of_steps items from steps
    ≡ events_of_rounds items from.view (filter has_crossed (rounds items steps (history_from from)))
delivers_rounds items from steps none_open =
    sym (own_told items steps from)
    ∙ tells_rounds items from (steps_as_events steps) (rounds items steps (history_from from)) none_open
    (own_rounds items steps (history_from from))

pub stands_by_rounds : (items : List Item) (from : LinkState) (steps : List OwnStep) → from.current ≡ None
    → StandsByRounds items from steps (state_after_steps items from steps)
stands_by_rounds items from steps none_open =
    let gone : List Round = rounds items steps (history_from from) in
    subst (λ (s : LinkState). StandsByRounds items from steps s) (own_stands items steps from)
    (subst (λ (c : RoundHistory). FollowsRounds items from.view from.toggle gone c
    (state_after_all items from (steps_as_events steps))) (own_history items steps (history_from from))
    (follows_rounds items from (steps_as_events steps) gone none_open (own_within steps)
    (own_rounds items steps (history_from from))))

-- on a device that was just configured, with any snapshot and idle times
pub delivers_epoch : (items : List Item) (snapshot : List ControlState) (idle : List ℕ) (steps : List OwnStep)
    → events_of_steps items (initial_link items snapshot idle) steps ≡ events_of_epoch items snapshot idle steps
delivers_epoch items snapshot idle steps = delivers_rounds items (initial_link items snapshot idle) steps refl

-- whatever happens to it within an epoch, idle times that are set too: nothing but rounds comes of it
rounds_alone : (gone : List Round) (rest : List LinkOutcome) → rest ≡ rounds_as_outcomes (ended_rounds rest)
    → rounds_as_outcomes gone ++ rest ≡ rounds_as_outcomes (ended_rounds (rounds_as_outcomes gone ++ rest))
rounds_alone [] rest h = h
rounds_alone (round ∷ gone) rest h =
    ap (λ (hs : List LinkOutcome). rounds_as_outcomes (round ∷ []) ++ hs) (rounds_alone gone rest h)

none_behind : (hs : List LinkOutcome) → hs ++ [] ≡ hs
none_behind [] = refl
none_behind (h ∷ hs) = ap (λ (rest : List LinkOutcome). h ∷ rest) (none_behind hs)

within_epoch : (items : List Item) (bus_events : List BusEvent) (c : RoundHistory) → AreWithinEpoch bus_events
    → outcomes_of_events items bus_events c
    ≡ rounds_as_outcomes (ended_rounds (outcomes_of_events items bus_events c))
within_epoch items [] c within =
    subst (λ (hs : List LinkOutcome). hs ≡ rounds_as_outcomes (ended_rounds hs))
    (none_behind (rounds_as_outcomes (open_rounds c.current))) (rounds_alone (open_rounds c.current) [] refl)
within_epoch items (Own x ∷ bus_events) c within =
    rounds_alone (rounds_closed_by_step items c x)
    (outcomes_of_events items bus_events (history_after_step items c x))
    (within_epoch items bus_events (history_after_step items c x) within.1)
within_epoch items (Idles idle ∷ bus_events) c within =
    within_epoch items bus_events (history_after items c (Idles idle)) within.1
within_epoch items (Configures ∷ bus_events) c within = absurd within.0
within_epoch items (Halts ∷ bus_events) c within = absurd within.0
within_epoch items (Clears ∷ bus_events) c within = absurd within.0
within_epoch items (Resets ∷ bus_events) c within = absurd within.0

pub epoch_is_told : (items : List Item) (from : LinkState) (bus_events : List BusEvent) → from.current ≡ None
    → AreWithinEpoch bus_events
    → events_of_history items from bus_events
    ≡ events_of_rounds items from.view
    (filter has_crossed (ended_rounds (outcomes_of_events items bus_events (history_from from))))
epoch_is_told items from bus_events none_open within =
    tells_rounds items from bus_events
    (ended_rounds (outcomes_of_events items bus_events (history_from from))) none_open
    (within_epoch items bus_events (history_from from) within)

pub epoch_stands : (items : List Item) (from : LinkState) (bus_events : List BusEvent) → from.current ≡ None
    → AreWithinEpoch bus_events → StandsInEpoch items from bus_events (state_after_all items from bus_events)
epoch_stands items from bus_events none_open within =
    follows_rounds items from bus_events
    (ended_rounds (outcomes_of_events items bus_events (history_from from))) none_open within
    (within_epoch items bus_events (history_from from) within)

pub ruleset schedules = (delivers_rounds, stands_by_rounds, delivers_epoch)

pub ruleset epochs = (epoch_is_told, epoch_stands)
