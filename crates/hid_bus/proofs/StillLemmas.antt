-- A device that is left alone keeps what is pressed and each value, so its host has at the end what was pressed when changes stopped.
use Rattle.std.proofs.Common.{◌≡◌, ◌≤◌, ℕ, Bool, true, false, cond, List, [], ◌∷◌, length, Option, Some, None, ℤ, refl, ap, sym, ◌∙◌, subst}
use Rattle.hid_layout.specs.declared.control.Controls.{Controls}
use Rattle.hid_layout.specs.declared.control.Controls.TheVariants as head
use Rattle.hid_layout.specs.declared.control.ControlId.{ControlId}
use Rattle.hid_layout.specs.Controls.{Item, controls_of_form, form_at}
use Rattle.hid_snapshots.specs.declared.control_state.ControlState.{ControlState}
use Rattle.hid_snapshots.specs.declared.control_state.ControlState.TheVariants.{Absent, Switches, Values, Motions, RollOver}
use Rattle.hid_snapshots.specs.Parts.{is_of, item_at, shown_state, shown_part_of, minus_motion, without_motion_of}
use Rattle.hid_snapshots.specs.Snapshots.{is_pressed, state_at}
use Rattle.hid_snapshots.specs.Views.{value_in}
use Rattle.usb_transact.specs.declared.transaction.Fate.{Fate}
use Rattle.usb_transact.specs.declared.transaction.Fate.TheVariants.{Clean, TokenLost, ReplyLost, AckLost}
use Rattle.hid_bus.specs.ReportState.{ReportState, due_where}
use Rattle.hid_bus.specs.Rounds.{Changes, Frame, OwnStep, Polls}
use Rattle.hid_bus.specs.LinkState.{LinkState, OpenRound, initial_link, state_after_step, state_after_steps, state_at_token, state_before_answer, with_open_report}
use Rattle.hid_bus.specs.DeviceHistory.{BusEvent, state_after_all}
use Rattle.hid_bus.specs.Agreement.{AgreesOn, is_rolled}
use Rattle.hid_bus.specs.Convergence.{AreStill, HasWhatWasPressed}
use Rattle.hid_bus.proofs.HistoryLemmas.{link}
use Rattle.hid_bus.proofs.AbortedRoundLemmas.{fresh_cuts}
use Rattle.hid_bus.proofs.IdleLemmas.{answer_stays, steps_idle}
use Rattle.hid_bus.proofs.AgreementLemmas.{IsInStep, arrival_keeps, fresh_in_step, history_keeps, step_keeps}
use Rattle.hid_bus.proofs.ConvergenceLemmas.{opened_state}
use Rattle.hid_bus.proofs.RoundLemmas.{agrees_after_clean_polls}

-- two control states show the same but for motion
record Shows (a b : ControlState) : Type 0 where
  pressed : (j : ℕ) → is_pressed a j ≡ is_pressed b j
  value : (j : ℕ) → value_in a j ≡ value_in b j
  rolled : (controls : Controls) → is_rolled (shown_state controls a) ≡ is_rolled (shown_state controls b)

same : (a : ControlState) → Shows a a
same a = record { pressed = λ j. refl; value = λ j. refl; rolled = λ controls. refl }

via : (a b c : ControlState) → Shows a b → Shows b c → Shows a c
via a b c x y = record {
  pressed = λ j. x.pressed j ∙ y.pressed j;
  value = λ j. x.value j ∙ y.value j;
  rolled = λ controls. x.rolled controls ∙ y.rolled controls;
}

motions_rolled : (controls : Controls) (ms : List ℤ) → is_rolled (shown_state controls (Motions ms)) ≡ false
motions_rolled head.None ms = refl
motions_rolled (head.Elements kind least greatest count) ms = refl
motions_rolled (head.Keys elements rolls count) ms = refl

motions_alike : (ms ns : List ℤ) → Shows (Motions ms) (Motions ns)
motions_alike ms ns = record {
  pressed = λ j. refl;
  value = λ j. refl;
  rolled = λ controls. motions_rolled controls ms ∙ sym (motions_rolled controls ns);
}

minus_alike : (state part : ControlState) → Shows (minus_motion state part) state
minus_alike (Motions ms) (Motions ns) = motions_alike _ ms
minus_alike (Motions ms) Absent = same (Motions ms)
minus_alike (Motions ms) (Switches ps) = same (Motions ms)
minus_alike (Motions ms) (Values vs) = same (Motions ms)
minus_alike (Motions ms) (RollOver ps) = same (Motions ms)
minus_alike Absent part = same Absent
minus_alike (Switches ps) part = same (Switches ps)
minus_alike (Values vs) part = same (Values vs)
minus_alike (RollOver ps) part = same (RollOver ps)

if_alike : (b : Bool) (state part : ControlState) → Shows (cond b (minus_motion state part) state) state
if_alike true state part = minus_alike state part
if_alike false state part = same state

opened_alike : (items : List Item) (n : ℕ) (d : ReportState) (odd : Bool) (view : List ControlState) (halted : Bool) (due : Option ℕ) (i : ℕ)
    → IsInStep items n (link d None odd view halted)
    → Shows (state_at (with_open_report items (link d None odd view halted) due).reports.snapshot i) (state_at d.snapshot i)
opened_alike items n d odd view halted None i stands = same (state_at d.snapshot i)
opened_alike items n d odd view halted (Some r) i stands =
    let x : ControlState = state_at d.snapshot i in
    let part : ControlState = shown_part_of r (item_at items i) x (state_at d.fixed i) in
    subst (λ (state : ControlState). Shows state x)
    (sym (opened_state items r i d.snapshot d.fixed stands.snapshot.each stands.fixed.each))
    (if_alike (is_of r (item_at items i)) x part)

token_alike : (items : List Item) (n : ℕ) (d : ReportState) (current : Option OpenRound) (odd : Bool) (view : List ControlState) (halted : Bool) (i : ℕ)
    → IsInStep items n (link d current odd view halted)
    → Shows (state_at (state_at_token items (link d current odd view halted)).reports.snapshot i) (state_at d.snapshot i)
token_alike items n d (Some round) odd view halted i stands = same (state_at d.snapshot i)
token_alike items n d None odd view halted i stands = opened_alike items n d odd view halted (due_where items halted d) i stands

arrival_alike : (items : List Item) (n : ℕ) (s : LinkState) (fate : Fate) (i : ℕ) → IsInStep items n s
    → Shows (state_at (state_before_answer items s fate).reports.snapshot i) (state_at s.reports.snapshot i)
arrival_alike items n s TokenLost i stands = same (state_at s.reports.snapshot i)
arrival_alike items n s Clean i stands = token_alike items n s.reports s.current s.toggle s.view s.halted i stands
arrival_alike items n s ReplyLost i stands = token_alike items n s.reports s.current s.toggle s.view s.halted i stands
arrival_alike items n s AckLost i stands = token_alike items n s.reports s.current s.toggle s.view s.halted i stands

steps_alike : (items : List Item) (n : ℕ) (idle : List ℕ) (steps : List OwnStep) (s : LinkState) (i : ℕ) → IsInStep items n s → AreStill idle steps
    → Shows (state_at (state_after_steps items s steps).reports.snapshot i) (state_at s.reports.snapshot i)
steps_alike items n idle [] s i stands still = same (state_at s.reports.snapshot i)
steps_alike items n idle (Changes change ∷ steps) s i stands still = absurd still.0
steps_alike items n idle (Frame ∷ steps) s i stands still =
    steps_alike items n idle steps (state_after_step items s Frame) i (step_keeps items n s Frame stands) still.1
steps_alike items n idle (Polls fate ∷ steps) s i stands still =
    let t : LinkState = state_before_answer items s fate in
    let next : LinkState = state_after_step items s (Polls fate) in
    let one : Shows (state_at next.reports.snapshot i) (state_at s.reports.snapshot i) =
    subst (λ (d : ReportState). Shows (state_at d.snapshot i) (state_at s.reports.snapshot i))
    (sym (answer_stays items t.reports t.current t.toggle t.view t.halted fate)) (arrival_alike items n s fate i stands) in
    via (state_at (state_after_steps items next steps).reports.snapshot i) (state_at next.reports.snapshot i) (state_at s.reports.snapshot i)
    (steps_alike items n idle steps next i (step_keeps items n s (Polls fate) stands) still.1) one

pub has_what_was_pressed : (items : List Item) (snapshot : List ControlState) (idle : List ℕ) (bus_events : List BusEvent) (steps : List OwnStep)
    → HasWhatWasPressed items snapshot idle bus_events steps
has_what_was_pressed items snapshot idle bus_events steps stays few c flat =
    let s : LinkState = state_after_all items (initial_link items snapshot idle) bus_events in
    let after : LinkState = state_after_steps items s steps in
    let stands : IsInStep items (length idle) s =
    history_keeps items (length idle) bus_events (initial_link items snapshot idle) stays.each (fresh_cuts items snapshot idle)
    (fresh_in_step items snapshot idle stays.fits) in
    let alike : Shows (state_at after.reports.snapshot c.item) (state_at s.reports.snapshot c.item) =
    steps_alike items (length idle) s.reports.idle steps s c.item stands stays.still in
    let rests = agrees_after_clean_polls items snapshot idle bus_events steps stays few in
    let agrees : AgreesOn items after c = rests.1 c (alike.rolled (controls_of_form (form_at items c.item)) ∙ flat) in
    record { pressed = agrees.pressed ∙ alike.pressed c.index; value = agrees.value ∙ alike.value c.index }
