-- A gadget and its receiver come to rest once nothing changes.
use Rattle.std.proofs.Common.{◌≡◌, ◌≢◌, ◌<◌, ◌≤◌, ◌+◌, ◌++◌, ℕ, zero, suc, ◌==◌, Bool, true, false, cond, List, [], ◌∷◌, length, Option, Some, None, refl, ap, sym, ◌∙◌, subst, arith}
use Rattle.std.specs.Prelude.{replicate}
use Rattle.std.proofs.lemmas.Bool.Decides.{nat_tests}
use Rattle.hid_layout.specs.Layout.{Contents}
use Rattle.hid_layout.specs.Controls.{Item, items_of}
use Rattle.hid_snapshots.specs.declared.control_state.ControlState.{ControlState}
use Rattle.usb_transact.specs.declared.transaction.Fate.{Fate}
use Rattle.usb_transact.specs.declared.transaction.Fate.TheVariants.{Clean}
use Rattle.hid_usages.specs.Receiving.{ReceiverState}
use Rattle.hid_bus.specs.ReportState.{due_where, no_idle}
use Rattle.hid_bus.specs.Rounds.{OwnStep, Polls, closed_count}
use Rattle.hid_bus.specs.Rounds as own
use Rattle.hid_bus.specs.LinkState.{LinkState, initial_link, state_after_steps}
use Rattle.hid_bus.specs.DeviceHistory.{AreWithinEpoch, BusEvent, Own, state_after_all, steps_as_events}
use Rattle.hid_bus.specs.Agreement.{HasNothingToSend}
use Rattle.hid_bus.specs.Convergence.{AreStill, IsAtRest, fates_of, polls_needed}
use Rattle.hid_bus.proofs.IdleLemmas.{steps_idle}
use Rattle.hid_bus.proofs.RoundLemmas.{agrees_after_clean_polls}
use Rattle.hid_bus.proofs.ScheduleLemmas.{epoch_halts, own_stands}
use Rattle.hid_device.specs.Core.{CoreState, core_after_due, core_at_poll, core_with_due_round}
use Rattle.hid_gadget.specs.declared.outcomes.Poll.{Poll}
use Rattle.hid_gadget.specs.declared.outcomes.Poll.TheVariants.{Done, Nothing, Stalled, TooSmall}
use Rattle.hid_gadget.specs.WholeReports.{bytes_fitting, end_of_pieces, end_of_round, pieces_fitting, pieces_taken, report_result}
use Rattle.hid_gadget.specs.ReceivedReports.{AreInStep, Asks, Changes, Frame, GadgetStep, GivesEvents, Transfers, bus_events, core_after_step, core_after_steps, link_with, new_receiver, open_round_with, polls_of, receiver_after_step, receiver_after_steps}
use Rattle.hid_gadget.specs.Agreement.{AreStillSteps, RestsAfterTransfers, packets_asked, packets_at, packets_counted, packets_needed}
use Rattle.hid_gadget.proofs.AgreementLemmas.{AfterSteps, after_steps, at_poll_halted, layouts_stay}
use Rattle.hid_gadget.proofs.ReceiveLemmas.{gives_events, own_within, step_in_step}

-- ---- still steps as polls and frames

abbrev own_steps : CoreState → List GadgetStep → List OwnStep
own_steps core [] = []
own_steps core (Changes change ∷ rest) = []
own_steps core (Frame ∷ rest) = own.Frame ∷ own_steps (core_after_step core Frame) rest
own_steps core (Asks room ∷ rest) =
    polls_of (report_result core room) (pieces_taken core room) ++ own_steps (core_after_step core (Asks room)) rest
own_steps core (Transfers setup written ∷ rest) = own_steps (core_after_step core (Transfers setup written)) rest

record ArePolls (core : CoreState) (steps : List GadgetStep) (idle : List ℕ) (polls : List OwnStep) : Type 0 where
  is : bus_events core steps ≡ steps_as_events polls
  still : AreStill idle polls
  enough : packets_asked core steps ≤ closed_count (fates_of polls)

both_events : (xs ys : List OwnStep) → steps_as_events xs ++ steps_as_events ys ≡ steps_as_events (xs ++ ys)
both_events [] ys = refl
both_events (x ∷ xs) ys = ap (λ (es : List BusEvent). Own x ∷ es) (both_events xs ys)

polls_first : (n : ℕ) (fate : Fate) (idle : List ℕ) (xs : List OwnStep) → AreStill idle xs → AreStill idle (replicate n (Polls fate) ++ xs)
polls_first zero fate idle xs still = still
polls_first (suc n) fate idle xs still = (tt, polls_first n fate idle xs still)

clean_first : (n : ℕ) (xs : List OwnStep) → closed_count (fates_of (replicate n (Polls Clean) ++ xs)) ≡ n + closed_count (fates_of xs)
clean_first zero xs = omega arith
clean_first (suc n) xs = omega (arith, clean_first n xs)

result_still : (end : Poll) (n : ℕ) (idle : List ℕ) (xs : List OwnStep) → AreStill idle xs → AreStill idle (polls_of end n ++ xs)
result_still (Done k) n idle xs still = polls_first n Clean idle xs still
result_still Nothing n idle xs still = (tt, still)
result_still Stalled n idle xs still = (tt, still)
result_still TooSmall n idle xs still = (tt, still)

result_counts : (end : Poll) (n : ℕ) (xs : List OwnStep)
    → packets_counted end n + closed_count (fates_of xs) ≤ closed_count (fates_of (polls_of end n ++ xs))
result_counts (Done k) n xs = omega (arith, clean_first n xs)
result_counts Nothing n xs = omega arith
result_counts Stalled n xs = omega arith
result_counts TooSmall n xs = omega arith

are_polls : (core : CoreState) (steps : List GadgetStep) (receiving : ReceiverState) (idle : List ℕ) → AreInStep core receiving
    → core.reports.idle ≡ idle → AreStillSteps core steps → ArePolls core steps idle (own_steps core steps)
are_polls core [] receiving idle stands same still = record { is = refl; still = tt; enough = omega arith }
are_polls core (Changes change ∷ rest) receiving idle stands same still = absurd still.0
are_polls core (Frame ∷ rest) receiving idle stands same still =
    let one = step_in_step core Frame receiving stands (tt, tt) in
    let more = are_polls (core_after_step core Frame) rest (receiver_after_step core Frame receiving) idle one.in_step same still.1 in
    record {
      is = ap (λ (es : List BusEvent). Own own.Frame ∷ es) more.is;
      still = (subst (λ (i : List ℕ). i ≡ no_idle i) same still.0, more.still);
      enough = omega (arith, more.enough);
    }
are_polls core (Asks room ∷ rest) receiving idle stands same still =
    let polls : List OwnStep = polls_of (report_result core room) (pieces_taken core room) in
    let next : CoreState = core_after_step core (Asks room) in
    let seen : ReceiverState = receiver_after_step core (Asks room) receiving in
    let one = step_in_step core (Asks room) receiving stands (own_within polls) in
    let stays : next.reports.idle ≡ idle =
    ap (λ (s : LinkState). s.reports.idle) (one.stands ∙ own_stands (items_of core.layout) polls (link_with core receiving.view))
    ∙ steps_idle (items_of core.layout) polls (link_with core receiving.view) ∙ same in
    let more = are_polls next rest seen idle one.in_step stays still.1 in
    record {
      is = ap (λ (es : List BusEvent). steps_as_events polls ++ es) more.is ∙ both_events polls (own_steps next rest);
      still = result_still (report_result core room) (pieces_taken core room) idle (own_steps next rest) more.still;
      enough = omega (arith, more.enough, result_counts (report_result core room) (pieces_taken core room) (own_steps next rest));
    }
are_polls core (Transfers setup written ∷ rest) receiving idle stands same still =
    let step : GadgetStep = Transfers setup written in
    let next : CoreState = core_after_step core step in
    let one = step_in_step core step receiving stands (subst AreWithinEpoch (sym still.0) tt) in
    let stays : next.reports.idle ≡ idle =
    ap (λ (s : LinkState). s.reports.idle)
    (one.stands ∙ ap (λ (es : List BusEvent). state_after_all (items_of core.layout) (link_with core receiving.view) es) still.0)
    ∙ same in
    let more = are_polls next rest (receiver_after_step core step receiving) idle one.in_step stays still.1 in
    record {
      is = ap (λ (es : List BusEvent). es ++ bus_events next rest) still.0 ∙ more.is;
      still = more.still;
      enough = omega (arith, more.enough);
    }

pub still_within : (core : CoreState) (steps : List GadgetStep) (receiving : ReceiverState) → AreInStep core receiving → AreStillSteps core steps
    → AreWithinEpoch (bus_events core steps)
still_within core steps receiving stands still =
    subst AreWithinEpoch (sym (are_polls core steps receiving core.reports.idle stands refl still).is) (own_within (own_steps core steps))

-- ---- nothing to report

none_of_none : (items : List Item) (o : Option ℕ) (piece : ℕ) → open_round_with items o piece ≡ None → o ≡ None
none_of_none items None piece is = refl
none_of_none items (Some r) piece is = absurd (cc)

returns_nothing : (core : CoreState) (room : ℕ) (view : List ControlState) → HasNothingToSend (items_of core.layout) (link_with core view)
    → report_result core room ≡ Nothing
returns_nothing core room view nothing = by_configured core.is_configured
  where
    opened : CoreState
    opened = core_at_poll core

    none : opened.current ≡ None
    none =
        let closed : core.current ≡ None = none_of_none (items_of core.layout) core.current core.piece nothing.current in
        ap (λ (o : Option ℕ). (core_after_due core o).current) closed
        ∙ ap (λ (h : Bool). (core_with_due_round core (due_where (items_of core.layout) h core.reports)).current) nothing.halted
        ∙ ap (λ (o : Option ℕ). (core_with_due_round core o).current) nothing.none_due
        ∙ closed

    ended : end_of_round room opened opened.current ≡ Nothing
    ended =
        ap (λ (o : Option ℕ). end_of_round room opened o) none
        ∙ ap (λ (h : Bool). let end : Poll = cond h Stalled Nothing in end) (at_poll_halted core core.current ∙ nothing.halted)

    by_configured : (b : Bool) → (let end : Poll = cond b (end_of_round room opened opened.current) Nothing in end) ≡ Nothing
    by_configured true = ended
    by_configured false = refl

-- ---- after still steps

pub rests_after_transfers : (core : CoreState) (snapshot : List ControlState) (idle : List ℕ) (earlier later : List GadgetStep)
    → RestsAfterTransfers core snapshot idle earlier later
rests_after_transfers core snapshot idle earlier later fresh sendable within still enough =
    let items : List Item = items_of core.layout in
    let after : AfterSteps core snapshot idle earlier = after_steps core snapshot idle earlier fresh within in
    let now : CoreState = core_after_steps core earlier in
    let seen : ReceiverState = receiver_after_steps core earlier (new_receiver core.layout) in
    let before : List BusEvent = bus_events core earlier in
    let s : LinkState = state_after_all items (initial_link items snapshot idle) before in
    let xs : List OwnStep = own_steps now later in
    let are : ArePolls now later now.reports.idle xs = are_polls now later seen now.reports.idle after.in_step refl still in
    let later_within : AreWithinEpoch (bus_events now later) = still_within now later seen after.in_step still in
    let gives : GivesEvents now later seen = gives_events now later seen after.in_step later_within in
    let last : CoreState = core_after_steps now later in
    let view : List ControlState = (receiver_after_steps now later seen).view in
    let same : last.layout ≡ core.layout = layouts_stay now later seen after.in_step later_within ∙ after.same in
    let stands : link_with last view ≡ state_after_steps items s xs =
    gives.stands
    ∙ ap (λ (es : List BusEvent). state_after_all (items_of now.layout) (link_with now seen.view) es) are.is
    ∙ own_stands (items_of now.layout) xs (link_with now seen.view)
    ∙ ap (λ (l : Contents). state_after_steps (items_of l) (link_with now seen.view) xs) after.same
    ∙ ap (λ (t : LinkState). state_after_steps items t xs) after.stands in
    let needed : polls_needed items s ≡ packets_needed now =
    ap (λ (t : LinkState). polls_needed items t) (sym after.stands)
    ∙ ap (λ (l : Contents). polls_needed (items_of l) (link_with now seen.view)) (sym after.same) in
    let rests : IsAtRest items (state_after_steps items s xs) =
    agrees_after_clean_polls items snapshot idle before xs
    (record {
      fits = after.fits;
      zeros = fresh.sound.zeros;
      sendable = sendable;
      sent = after.sent;
      each = after.sets;
      going = epoch_halts items before (initial_link items snapshot idle) within;
      still = subst (λ (t : LinkState). AreStill t.reports.idle xs) after.stands are.still;
    }) (omega (arith, enough, needed, are.enough)) in
    let at_last : IsAtRest (items_of last.layout) (link_with last view) =
    subst (λ (l : Contents). IsAtRest (items_of l) (link_with last view)) (sym same)
    (subst (λ (t : LinkState). IsAtRest items t) (sym stands) rests) in
    (λ room. returns_nothing last room view at_last.0, at_last.1)

-- a transfer whose room isn't too small is one packet at least
pub some_packets : (core : CoreState) (room : ℕ) → core.halted ≡ false → report_result core room ≢ TooSmall
    → 0 < packets_at core (Asks room)
some_packets core room going = by_configured core.is_configured
  where
    opened : CoreState
    opened = core_at_poll core

    by_pieces : (n : ℕ) (bytes : List ℕ) → end_of_pieces n bytes ≢ TooSmall → 0 < packets_counted (end_of_pieces n bytes) n
    by_pieces n bytes fits = by_test (n == 0) refl fits
      where
        by_test : (none : Bool) → (n == 0) ≡ none → (let end : Poll = cond none TooSmall (Done (length bytes)) in end) ≢ TooSmall
            → (let end : Poll = cond none TooSmall (Done (length bytes)) in 0 < packets_counted end n)
        by_test true is fit = absurd (fit refl)
        by_test false is fit = grind (arith, nat_tests, is)

    by_round : (o : Option ℕ) → end_of_round room opened o ≢ TooSmall
        → 0 < packets_counted (end_of_round room opened o) (pieces_fitting room opened o)
    by_round (Some r) fits = by_pieces (pieces_fitting room opened (Some r)) (bytes_fitting room opened (Some r)) fits
    by_round None fits =
        let one : packets_counted (end_of_round room opened None) 0 ≡ 1 =
        ap (λ (h : Bool). let end : Poll = cond h Stalled Nothing in packets_counted end 0) (at_poll_halted core core.current ∙ going) in
        omega (arith, one)

    by_configured : (b : Bool) → (let end : Poll = cond b (end_of_round room opened opened.current) Nothing in end) ≢ TooSmall
        → (let end : Poll = cond b (end_of_round room opened opened.current) Nothing in
        0 < packets_counted end (cond b (pieces_fitting room opened opened.current) 0))
    by_configured true fits = by_round opened.current fits
    by_configured false fits = omega arith
