-- A receiver agrees with its gadget where that has nothing to send.
use Rattle.std.proofs.Common.{◌≡◌, ◌<◌, ◌++◌, ℕ, ◌==◌, Bool, true, false, cond, List, [], ◌∷◌, length, Option, Some, None, refl, ap, sym, ◌∙◌, subst}
use Rattle.std.proofs.lemmas.List.{length-replicate}
use Rattle.hid_layout.specs.Layout.{Contents}
use Rattle.hid_layout.specs.Controls.{Item, is_input, items_of}
use Rattle.hid_snapshots.specs.declared.control_state.ControlState.{ControlState}
use Rattle.hid_snapshots.specs.ControlStates.{FitsSnapshot}
use Rattle.hid_snapshots.proofs.FillLemmas.{set_length}
use Rattle.hid_usages.specs.Receiving.{ReceiverState}
use Rattle.hid_bus.specs.ReportState.{ReportState, due_where}
use Rattle.hid_bus.specs.Rounds.{OwnStep}
use Rattle.hid_bus.specs.LinkState.{LinkState, initial_link}
use Rattle.hid_bus.specs.DeviceHistory.{AreWithinEpoch, BusEvent, state_after_all, steps_as_events}
use Rattle.hid_bus.specs.Agreement.{AllSetEach, AnswersNak, AreSentIn, Agrees, HasNothingToSend}
use Rattle.hid_bus.proofs.AgreementLemmas.{agrees_at_nak, items_are_sent}
use Rattle.hid_bus.proofs.NakLemmas.{nak_says_nothing}
use Rattle.hid_device.specs.declared.decisions.PendingWrite.{PendingWrite}
use Rattle.hid_device.specs.declared.decisions.PendingWrite.TheVariants as pendings
use Rattle.hid_device.specs.Inputs.{input_count}
use Rattle.hid_device.specs.Core.{CoreState, core_after_due, core_at_poll, core_with_due_round}
use Rattle.hid_device.specs.RequestTable.{with_idle_time}
use Rattle.hid_gadget.specs.declared.outcomes.Poll.{Poll}
use Rattle.hid_gadget.specs.declared.outcomes.Poll.TheVariants.{Done, Nothing, Stalled, TooSmall}
use Rattle.hid_gadget.specs.WholeReports.{bytes_fitting, end_of_pieces, end_of_round, pieces_fitting, pieces_taken, report_result}
use Rattle.hid_gadget.specs.ReceivedReports.{AreInStep, Asks, Changes, Frame, GadgetStep, GivesEvents, IsFresh, Transfers, bus_events, bus_events_of, core_after_step, core_after_steps, events_of_write, link_with, new_receiver, polls_of, receiver_after_step, receiver_after_steps, write_of_transfer}
use Rattle.hid_gadget.specs.Agreement.{AgreesAfterSteps}
use Rattle.hid_gadget.proofs.ReceiveLemmas.{fresh_in_step, fresh_is, gives_events, step_in_step, token_at, within_parts}

-- ---- each report has its idle time

own_sets : (n : ℕ) (xs : List OwnStep) → AllSetEach n (steps_as_events xs)
own_sets n [] = tt
own_sets n (x ∷ xs) = (tt, own_sets n xs)

idle_long : (n : ℕ) (idle : List ℕ) (report : Option ℕ) (time : ℕ) → length idle ≡ n → length (with_idle_time idle report time) ≡ n
idle_long n idle None time long = length-replicate (length idle) time ∙ long
idle_long n idle (Some r) time long = set_length idle r time ∙ long

write_sets : (n : ℕ) (idle : List ℕ) (write : PendingWrite) → length idle ≡ n → AllSetEach n (events_of_write idle write)
write_sets n idle pendings.Nothing long = tt
write_sets n idle pendings.Configure long = (tt, tt)
write_sets n idle (pendings.Keep place) long = tt
write_sets n idle (pendings.Idle report time) long = (idle_long n idle report time long, tt)
write_sets n idle (pendings.Protocol protocol) long = tt
write_sets n idle pendings.Halt long = (tt, tt)
write_sets n idle pendings.Clear long = (tt, tt)

step_sets : (n : ℕ) (core : CoreState) (step : GadgetStep) → length core.reports.idle ≡ n → AllSetEach n (bus_events_of core step)
step_sets n core (Changes change) long = (tt, tt)
step_sets n core Frame long = (tt, tt)
step_sets n core (Asks room) long = own_sets n (polls_of (report_result core room) (pieces_taken core room))
step_sets n core (Transfers setup written) long = write_sets n core.reports.idle (write_of_transfer core setup) long

both_set : (n : ℕ) (xs ys : List BusEvent) → AllSetEach n xs → AllSetEach n ys → AllSetEach n (xs ++ ys)
both_set n [] ys first later = later
both_set n (x ∷ xs) ys first later = (first.0, both_set n xs ys first.1 later)

steps_set : (core : CoreState) (steps : List GadgetStep) (receiving : ReceiverState) → AreInStep core receiving
    → AreWithinEpoch (bus_events core steps) → AllSetEach (input_count core.layout.reports) (bus_events core steps)
steps_set core [] receiving stands within = tt
steps_set core (step ∷ rest) receiving stands within =
    let next : CoreState = core_after_step core step in
    let parts = within_parts (bus_events_of core step) (bus_events next rest) within in
    let one = step_in_step core step receiving stands parts.0 in
    both_set (input_count core.layout.reports) (bus_events_of core step) (bus_events next rest)
    (step_sets (input_count core.layout.reports) core step stands.sound.each_idle)
    (subst (λ (l : Contents). AllSetEach (input_count l.reports) (bus_events next rest)) one.same
    (steps_set next rest (receiver_after_step core step receiving) one.in_step parts.1))

-- ---- a transfer that returns nothing

none_of_pieces : (n : ℕ) (bytes : List ℕ) → end_of_pieces n bytes ≡ Nothing → ⊥
none_of_pieces n bytes is = by_test (n == 0) is
  where
    by_test : (none : Bool) → cond none TooSmall (Done (length bytes)) ≡ Nothing → ⊥
    by_test true wrong = cc
    by_test false wrong = cc

none_of_round : (room : ℕ) (c : CoreState) (o : Option ℕ) → end_of_round room c o ≡ Nothing → (c.halted ≡ false) × (o ≡ None)
none_of_round room c (Some r) is = absurd (none_of_pieces (pieces_fitting room c (Some r)) (bytes_fitting room c (Some r)) is)
none_of_round room c None is = (by_halt c.halted is, refl)
  where
    by_halt : (b : Bool) → cond b Stalled Nothing ≡ Nothing → b ≡ false
    by_halt true wrong = absurd (cc)
    by_halt false right = refl

pub at_poll_halted : (core : CoreState) (o : Option ℕ) → (core_after_due core o).halted ≡ core.halted
at_poll_halted core (Some r) = refl
at_poll_halted core None = by_due (due_where (items_of core.layout) core.halted core.reports)
  where
    by_due : (o : Option ℕ) → (core_with_due_round core o).halted ≡ core.halted
    by_due None = refl
    by_due (Some r) = refl

nothing_is_nak : (core : CoreState) (room : ℕ) (view : List ControlState) → core.is_configured ≡ true → report_result core room ≡ Nothing
    → AnswersNak (items_of core.layout) (link_with core view)
nothing_is_nak core room view configured is =
    let opened : CoreState = core_at_poll core in
    let ended : end_of_round room opened opened.current ≡ Nothing =
    sym (ap (λ (b : Bool). let end : Poll = cond b (end_of_round room opened opened.current) Nothing in end) configured) ∙ is in
    let none = none_of_round room opened opened.current ended in
    record {
      halted = sym (at_poll_halted core core.current) ∙ none.0;
      none_opens = ap (λ (s : LinkState). s.current) (token_at core core.current view) ∙ ap (λ (o : Option ℕ). (link_with (record opened { current = o }) view).current) none.1;
    }

-- ---- after any steps

-- the layout stays
pub layouts_stay : (core : CoreState) (steps : List GadgetStep) (receiving : ReceiverState) → AreInStep core receiving
    → AreWithinEpoch (bus_events core steps) → (core_after_steps core steps).layout ≡ core.layout
layouts_stay core [] receiving stands within = refl
layouts_stay core (step ∷ rest) receiving stands within =
    let next : CoreState = core_after_step core step in
    let parts = within_parts (bus_events_of core step) (bus_events next rest) within in
    let one = step_in_step core step receiving stands parts.0 in
    layouts_stay next rest (receiver_after_step core step receiving) one.in_step parts.1 ∙ one.same

-- what holds of a gadget that was just configured, and of a new receiver, after steps within the epoch
pub record AfterSteps (core : CoreState) (snapshot : List ControlState) (idle : List ℕ) (steps : List GadgetStep) : Type 0 where
  pub fits : FitsSnapshot (items_of core.layout) snapshot
  pub sent : AreSentIn (length idle) (items_of core.layout)
  pub sets : AllSetEach (length idle) (bus_events core steps)
  pub same : (core_after_steps core steps).layout ≡ core.layout
  pub stands : link_with (core_after_steps core steps) (receiver_after_steps core steps (new_receiver core.layout)).view
      ≡ state_after_all (items_of core.layout) (initial_link (items_of core.layout) snapshot idle) (bus_events core steps)
  pub in_step : AreInStep (core_after_steps core steps) (receiver_after_steps core steps (new_receiver core.layout))

pub after_steps : (core : CoreState) (snapshot : List ControlState) (idle : List ℕ) (steps : List GadgetStep) → IsFresh core snapshot idle
    → AreWithinEpoch (bus_events core steps) → AfterSteps core snapshot idle steps
after_steps core snapshot idle steps fresh within =
    let items : List Item = items_of core.layout in
    let receiving : ReceiverState = new_receiver core.layout in
    let in_step : AreInStep core receiving = fresh_in_step core snapshot idle fresh in
    let gives : GivesEvents core steps receiving = gives_events core steps receiving in_step within in
    let long : length idle ≡ input_count core.layout.reports =
    sym (ap (λ (d : ReportState). length d.idle) fresh.reports) ∙ fresh.sound.each_idle in
    record {
      fits = subst (λ (d : ReportState). FitsSnapshot items d.snapshot) fresh.reports fresh.sound.snapshot;
      sent = items_are_sent core.layout (length idle) (subst (λ (k : ℕ). (r : ℕ) → is_input core.layout.reports r ≡ true → r < k) (sym long) fresh.sound.inputs_first.no_others);
      sets = subst (λ (k : ℕ). AllSetEach k (bus_events core steps)) (sym long) (steps_set core steps receiving in_step within);
      same = layouts_stay core steps receiving in_step within;
      stands = gives.stands ∙ ap (λ (s : LinkState). state_after_all items s (bus_events core steps)) (fresh_is core snapshot idle fresh);
      in_step = gives.in_step;
    }

pub agrees_after_steps : (core : CoreState) (snapshot : List ControlState) (idle : List ℕ) (steps : List GadgetStep)
    → AgreesAfterSteps core snapshot idle steps
agrees_after_steps core snapshot idle steps fresh within room is =
    let items : List Item = items_of core.layout in
    let after : AfterSteps core snapshot idle steps = after_steps core snapshot idle steps fresh within in
    let last : CoreState = core_after_steps core steps in
    let view : List ControlState = (receiver_after_steps core steps (new_receiver core.layout)).view in
    let nothing : HasNothingToSend (items_of last.layout) (link_with last view) =
    nak_says_nothing (items_of last.layout) (link_with last view) (nothing_is_nak last room view after.in_step.configured is) in
    let agrees : HasNothingToSend items (link_with last view) → Agrees items (link_with last view) =
    subst (λ (s : LinkState). HasNothingToSend items s → Agrees items s) (sym after.stands)
    (agrees_at_nak items snapshot idle (bus_events core steps) after.fits after.sent after.sets) in
    subst (λ (l : Contents). HasNothingToSend (items_of l) (link_with last view) → Agrees (items_of l) (link_with last view)) (sym after.same) agrees nothing
