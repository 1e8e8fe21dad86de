-- After any history the host's view is the part that was fixed last, of each report that is settled: its round isn't open, or
-- has crossed, and none of it was aborted since. So both ends agree where nothing is due.
use Rattle.std.proofs.Common.{◌≡◌, ◌<◌, ◌≤◌, ◌+◌, ◌||◌, ◌&&◌, ◌==◌, not, ℕ, zero, suc, Bool, true, false, cond, List, [], ◌∷◌, length, get_or, set, replicate, min, nat_lt, Option, Some, None, Ok, Err, ℤ, pos, refl, ap, sym, ◌∙◌, subst, arith}
use Rattle.std.specs.Prelude.{IfSome}
use Rattle.std.specs.Bool.{beq}
use Rattle.std.specs.Option.{option_eq}
use Rattle.std.specs.Ordering.{int_eq}
use Rattle.std.specs.Cmp.Lexicographic.{pointwise}
use Rattle.std.specs.List.{find, range_with_len, list_any}
use Rattle.std.proofs.lemmas.Int.{ints}
use Rattle.std.proofs.lemmas.Bool.Decides.{nat_tests, Decides-eqb, Decides-int_eq}
use Rattle.std.proofs.lemmas.List.{get_or-set_same, get_or-set_other, length-map, length-replicate}
use Rattle.hid_layout.specs.declared.control.Controls.{Controls}
use Rattle.hid_layout.specs.declared.control.Controls.TheVariants as head
use Rattle.hid_report_descriptor.specs.Usages.{Entry, usage_list}
use Rattle.hid_layout.specs.Layout.{Contents, report_bytes}
use Rattle.hid_layout.specs.declared.main_item.MainItem.{MainItem}
use Rattle.hid_layout.specs.Controls.{Form, NoControls, Elements, Keys, Item, controls_of_form, form_of, input_item, is_input, items_from, items_of, no_item}
use Rattle.hid_snapshots.specs.declared.control_state.ControlState.{ControlState}
use Rattle.hid_snapshots.specs.declared.control_state.ControlState.TheVariants.{Absent, Switches, Values, Motions, RollOver}
use Rattle.hid_snapshots.specs.declared.change.Change.{Change}
use Rattle.hid_snapshots.specs.ControlStates.{FitsSnapshot, blank_state, blank, switch_count}
use Rattle.hid_snapshots.specs.Parts.{is_of, item_at, shown_state, shown_part_of, shown_parts, blank_parts, is_same_still, has_motion, is_shown, calls_for, is_changed, motion_of}
use Rattle.hid_snapshots.specs.Snapshots.{OrFault, is_pressed, motion_in, state_at, snapshot_after}
use Rattle.hid_snapshots.specs.Views.{seen_state, value_in, view_item_after, view_after_part}
use Rattle.hid_snapshots.proofs.CodeLemmas.{both_true}
use Rattle.hid_snapshots.proofs.FillLemmas.{set_length}
use Rattle.usb_transact.specs.declared.transaction.Fate.{Fate}
use Rattle.usb_transact.specs.declared.transaction.Fate.TheVariants.{Clean, TokenLost, ReplyLost, AckLost}
use Rattle.hid_bus.specs.ReportState.{ReportState, after_change, first_due, due_where, is_due, is_idle_over, most_frames, with_abort}
use Rattle.hid_bus.specs.Rounds.{Changes, Frame, OwnStep, Polls}
use Rattle.hid_bus.specs.LinkState.{LinkState, OpenRound, completes, first_open_piece, has_all_pieces, initial_link, is_last, open_next, open_report, piece_after, state_after_answer, state_after_step, state_at_token, state_before_answer, with_open_report}
use Rattle.hid_bus.specs.DeviceHistory.{BusEvent, Clears, Configures, Halts, Idles, Own, Resets, state_after, state_after_all}
use Rattle.hid_bus.specs.AbortedRounds.{HasAbortFlags}
use Rattle.hid_bus.specs.Motion.{open_motion}
use Rattle.hid_bus.specs.Agreement.{HasNothingToSend, is_rolled, has_too_many_keys, Agrees, IsSentIn, AreSentIn, SetsEach, AllSetEach, AgreesAtNak}
use Rattle.hid_bus.proofs.HistoryLemmas.{link}
use Rattle.hid_bus.proofs.AbortedRoundLemmas.{fresh_cuts, lived_cuts}
use Rattle.hid_bus.proofs.KindLemmas.{KeepKinds, KeepsMotions, KeepsNothing, KeepsSwitches, KeepsValues, Kept, at_by_item, blank_at, blank_kinds, blank_part_at, blank_part_kinds, change_kinds, form_is, item_kept, kept_in, left_kinds, none_of, not_called, seen_kinds, sent_at, shown_kinds, start_kinds}

-- ---- what a view saw

-- a view saw a part: it has the part's switches and values; nothing is said of a part that rolled over
abbrev Saw : ControlState → ControlState → Type 0
Saw view Absent = Unit {0}
Saw view (Switches ps) = view ≡ Switches ps
Saw view (Values vs) = view ≡ Values vs
Saw view (Motions ms) = Unit {0}
Saw view (RollOver ps) = Unit {0}

saw_rolled : (ps : List Bool) (b : Bool) → Saw (Switches ps) (cond b (RollOver ps) (Switches ps))
saw_rolled ps true = tt
saw_rolled ps false = refl

-- a control state saw what is shown of it
saw_shown : (controls : Controls) (state : ControlState) → Saw state (shown_state controls state)
saw_shown head.None Absent = tt
saw_shown head.None (Switches ps) = refl
saw_shown head.None (Values vs) = refl
saw_shown head.None (Motions ms) = tt
saw_shown head.None (RollOver ps) = tt
saw_shown (head.Elements kind least greatest count) Absent = tt
saw_shown (head.Elements kind least greatest count) (Switches ps) = refl
saw_shown (head.Elements kind least greatest count) (Values vs) = refl
saw_shown (head.Elements kind least greatest count) (Motions ms) = tt
saw_shown (head.Elements kind least greatest count) (RollOver ps) = tt
saw_shown (head.Keys elements rolls count) Absent = tt
saw_shown (head.Keys elements rolls count) (Switches ps) = saw_rolled ps (nat_lt elements (switch_count ps))
saw_shown (head.Keys elements rolls count) (Values vs) = refl
saw_shown (head.Keys elements rolls count) (Motions ms) = tt
saw_shown (head.Keys elements rolls count) (RollOver ps) = tt

saw_seen : (view part : ControlState) → Saw (seen_state view part) part
saw_seen view Absent = tt
saw_seen view (Switches ps) = refl
saw_seen view (Values vs) = refl
saw_seen view (Motions ms) = tt
saw_seen view (RollOver ps) = tt

-- the round of a report is open, and not all its pieces have crossed
abbrev is_crossing : Option OpenRound → ℕ → Bool
is_crossing None r = false
is_crossing (Some round) r = (round.report == r) && not (has_all_pieces round)

-- the view saw the part that was fixed last, of each report that wasn't aborted and isn't crossing
abbrev SawSettled : List Item → List ControlState → List ControlState → List Bool → Option OpenRound → Type 0
SawSettled items fixed view aborted current =
    (i r : ℕ) → is_of r (item_at items i) ≡ true → get_or aborted r false ≡ false → is_crossing current r ≡ false
    → Saw (state_at view i) (state_at fixed i)

-- What holds after any history: as many control states as items, of their kinds, n reports, and the view saw what was fixed.
pub record IsInStep (items : List Item) (n : ℕ) (s : LinkState) : Type 0 where
  pub snapshot : KeepKinds items s.reports.snapshot
  pub fixed : KeepKinds items s.reports.fixed
  view : KeepKinds items s.view
  pub frames : length s.reports.frames ≡ n
  idle : length s.reports.idle ≡ n
  saw : SawSettled items s.reports.fixed s.view s.reports.aborted s.current

-- ---- a configuration

configured_saw : (items : List Item) (aborted : List Bool) (current : Option OpenRound)
    → SawSettled items (blank_parts items) (blank items) aborted current
configured_saw items aborted current i r of_it whole settled =
    let item : Item = item_at items i in
    let first : ControlState = blank_state (controls_of_form item.form) in
    subst (λ (v : ControlState). Saw v (state_at (blank_parts items) i)) (sym (blank_at items i))
    (subst (λ (p : ControlState). Saw first p) (sym (blank_part_at items i)) (saw_shown (controls_of_form item.form) first))

configured : (items : List Item) (n : ℕ) (snapshot : List ControlState) (idle : List ℕ) → KeepKinds items snapshot → length idle ≡ n
    → IsInStep items n (initial_link items snapshot idle)
configured items n snapshot idle kinds long = record {
  snapshot = kinds;
  fixed = blank_part_kinds items;
  view = blank_kinds items;
  frames = length-replicate (length idle) 0 ∙ long;
  idle = long;
  saw = configured_saw items (replicate (length idle) false) None;
}

-- ---- a round opens

-- an item is of one report at most
pub other_report : (item : Item) (r q : ℕ) → is_of q item ≡ true → (r == q) ≡ false → is_of r item ≡ false
other_report item r q of_it apart = by_report item.report refl of_it
  where
    by_report : (o : Option ℕ) → item.report ≡ o → elim o as (λ _. Bool) [ None ↦ false | Some n ↦ n == q ] ≡ true → is_of r item ≡ false
    by_report None e k = absurd (cc)
    by_report (Some n) e k =
        let same : n ≡ q = (Decides-eqb n q).0 k in
        ap (λ (o : Option ℕ). elim o as (λ _. Bool) [ None ↦ false | Some m ↦ m == r ]) e
        ∙ (let g : (n == r) ≡ false = grind (arith, nat_tests, same, apart) in g)

pub not_one : (a : Bool) → a && true ≡ false → a ≡ false
not_one true h = h
not_one false h = h

opened_saw : (items : List Item) (d : ReportState) (view : List ControlState) (r : ℕ)
    → KeepKinds items d.snapshot → KeepKinds items d.fixed
    → SawSettled items d.fixed view d.aborted None
    → SawSettled items (shown_parts items r d.snapshot d.fixed) view (set d.aborted r false) (Some (first_open_piece items r))
opened_saw items d view r snapshot fixed saw i q of_it whole settled =
    let item : Item = item_at items i in
    let apart : (r == q) ≡ false = not_one (r == q) settled in
    let other : r ≡ q → ⊥ = λ same. let t : (r == q) ≡ true = (Decides-eqb r q).1 same in absurd (cc) in
    let before : get_or d.aborted q false ≡ false = sym (get_or-set_other d.aborted r q false false (λ same. other (sym same))) ∙ whole in
    let stays : state_at (shown_parts items r d.snapshot d.fixed) i ≡ state_at d.fixed i =
    at_by_item (shown_part_of r) items d.snapshot d.fixed i refl snapshot.each fixed.each
    ∙ ap (λ (b : Bool). cond b (shown_state (controls_of_form item.form) (state_at d.snapshot i)) (state_at d.fixed i)) (other_report item r q of_it apart) in
    subst (λ (p : ControlState). Saw (state_at view i) p) (sym stays) (saw i q of_it before refl)

opened : (items : List Item) (n : ℕ) (d : ReportState) (odd : Bool) (view : List ControlState) (halted : Bool) (due : Option ℕ)
    → IsInStep items n (link d None odd view halted) → IsInStep items n (with_open_report items (link d None odd view halted) due)
opened items n d odd view halted None in_step = in_step
opened items n d odd view halted (Some r) in_step =
    let parts : KeepKinds items (shown_parts items r d.snapshot d.fixed) = shown_kinds items r d.snapshot d.fixed in_step.snapshot in_step.fixed in
    record {
      snapshot = left_kinds items r d.snapshot (shown_parts items r d.snapshot d.fixed) in_step.snapshot parts;
      fixed = parts;
      view = in_step.view;
      frames = set_length d.frames r 0 ∙ in_step.frames;
      idle = in_step.idle;
      saw = opened_saw items d view r in_step.snapshot in_step.fixed in_step.saw;
    }

token_keeps : (items : List Item) (n : ℕ) (d : ReportState) (current : Option OpenRound) (odd : Bool) (view : List ControlState)
    (halted : Bool) → IsInStep items n (link d current odd view halted) → IsInStep items n (state_at_token items (link d current odd view halted))
token_keeps items n d (Some round) odd view halted in_step = in_step
token_keeps items n d None odd view halted in_step = opened items n d odd view halted (due_where items halted d) in_step

pub arrival_keeps : (items : List Item) (n : ℕ) (s : LinkState) (fate : Fate) → IsInStep items n s → IsInStep items n (state_before_answer items s fate)
arrival_keeps items n s TokenLost in_step = in_step
arrival_keeps items n s Clean in_step = token_keeps items n s.reports s.current s.toggle s.view s.halted in_step
arrival_keeps items n s ReplyLost in_step = token_keeps items n s.reports s.current s.toggle s.view s.halted in_step
arrival_keeps items n s AckLost in_step = token_keeps items n s.reports s.current s.toggle s.view s.halted in_step

-- ---- a piece crosses

and_false : (e : Bool) → e && false ≡ false
and_false true = refl
and_false false = refl

ack_still : (e l c : Bool) → l && not c ≡ false → e && not l ≡ false → e && not (c && l) ≡ false
ack_still false l c h k = refl
ack_still true true true h k = refl
ack_still true true false h k = absurd (cc)
ack_still true false c h k = absurd (cc)

clean_still : (round : OpenRound) (q : ℕ) (l : Bool) → l && not round.crossed ≡ false
    → is_crossing (cond l None (Some (piece_after round))) q ≡ false → (round.report == q) && not (round.crossed && l) ≡ false
clean_still round q true h k = by_crossed round.crossed (round.report == q) h
  where
    by_crossed : (c e : Bool) → not c ≡ false → e && not (c && true) ≡ false
    by_crossed true e h = and_false e
    by_crossed false e h = absurd (cc)
clean_still round q false h k = ap (λ (e : Bool). e && not (round.crossed && false)) (not_one (round.report == q) k)

-- the view once a piece crossed saw what was fixed, whatever is open then that isn't crossing
crossed_saw : (items : List Item) (d : ReportState) (view : List ControlState) (round : OpenRound) (next : Option OpenRound)
    → KeepKinds items view → KeepKinds items d.fixed
    → ((q : ℕ) → completes round ≡ false → is_crossing next q ≡ false → is_crossing (Some round) q ≡ false)
    → SawSettled items d.fixed view d.aborted (Some round)
    → (b : Bool) → completes round ≡ b
    → SawSettled items d.fixed (cond b (view_after_part items round.report view d.fixed) view) d.aborted next
crossed_saw items d view round next keeps fixed still saw false e i q of_it whole settled = saw i q of_it whole (still q e settled)
crossed_saw items d view round next keeps fixed still saw true e i q of_it whole settled =
    let item : Item = item_at items i in
    subst (λ (v : ControlState). Saw v (state_at d.fixed i)) (sym (at_by_item (view_item_after round.report) items view d.fixed i refl keeps.each fixed.each))
    (by_report (is_of round.report item) refl)
  where
    by_report : (b : Bool) → is_of round.report (item_at items i) ≡ b → Saw (cond b (seen_state (state_at view i) (state_at d.fixed i)) (state_at view i)) (state_at d.fixed i)
    by_report true h = saw_seen (state_at view i) (state_at d.fixed i)
    by_report false h = by_same (round.report == q) refl
      where
        by_same : (b : Bool) → (round.report == q) ≡ b → Saw (state_at view i) (state_at d.fixed i)
        by_same true k = let same : round.report ≡ q = (Decides-eqb round.report q).0 k in
            let bad : is_of round.report (item_at items i) ≡ true = ap (λ (n : ℕ). is_of n (item_at items i)) same ∙ of_it in absurd (cc)
        by_same false k = saw i q of_it whole (ap (λ (b : Bool). b && not (has_all_pieces round)) k)

crossed_kinds : (items : List Item) (d : ReportState) (view : List ControlState) (round : OpenRound) (b : Bool)
    → KeepKinds items view → KeepKinds items d.fixed → KeepKinds items (cond b (view_after_part items round.report view d.fixed) view)
crossed_kinds items d view round true keeps fixed = seen_kinds items round.report view d.fixed keeps fixed
crossed_kinds items d view round false keeps fixed = keeps

answer_keeps : (items : List Item) (n : ℕ) (d : ReportState) (current : Option OpenRound) (odd : Bool) (view : List ControlState)
    (halted : Bool) (fate : Fate) → IsInStep items n (link d current odd view halted)
    → IsInStep items n (state_after_answer items (link d current odd view halted) fate)
answer_keeps items n d None odd view halted fate in_step = in_step
answer_keeps items n d (Some round) odd view halted TokenLost in_step = in_step
answer_keeps items n d (Some round) odd view halted ReplyLost in_step = in_step
answer_keeps items n d (Some round) odd view halted AckLost in_step = record {
  snapshot = in_step.snapshot;
  fixed = in_step.fixed;
  view = crossed_kinds items d view round (completes round) in_step.view in_step.fixed;
  frames = in_step.frames;
  idle = in_step.idle;
  saw = crossed_saw items d view round (Some (record round { crossed = true })) in_step.view in_step.fixed
      (λ q. ack_still (round.report == q) (is_last round) round.crossed) in_step.saw (completes round) refl;
}
answer_keeps items n d (Some round) odd view halted Clean in_step = record {
  snapshot = in_step.snapshot;
  fixed = in_step.fixed;
  view = crossed_kinds items d view round (completes round) in_step.view in_step.fixed;
  frames = in_step.frames;
  idle = in_step.idle;
  saw = crossed_saw items d view round (open_next round) in_step.view in_step.fixed
      (λ q. clean_still round q (is_last round)) in_step.saw (completes round) refl;
}

-- ---- a bus event

change_keeps : (items : List Item) (n : ℕ) (s : LinkState) (change : Change) → IsInStep items n s
    → IsInStep items n (record s { reports = after_change items s.reports change })
change_keeps items n s change in_step = by_change (snapshot_after items s.reports.snapshot change) refl
  where
    by_change : (o : OrFault (List ControlState)) → snapshot_after items s.reports.snapshot change ≡ o
        → IsInStep items n (record s {
          reports = elim o as (λ _. ReportState) [
            | Ok states ↦ record { snapshot = states; fixed = s.reports.fixed; frames = s.reports.frames; idle = s.reports.idle; aborted = s.reports.aborted }
            | Err fault ↦ s.reports
          ];
        })
    by_change (Ok states) e = record {
      snapshot = change_kinds items s.reports.snapshot states change e in_step.snapshot;
      fixed = in_step.fixed;
      view = in_step.view;
      frames = in_step.frames;
      idle = in_step.idle;
      saw = in_step.saw;
    }
    by_change (Err fault) e = record {
      snapshot = in_step.snapshot;
      fixed = in_step.fixed;
      view = in_step.view;
      frames = in_step.frames;
      idle = in_step.idle;
      saw = in_step.saw;
    }

pub step_keeps : (items : List Item) (n : ℕ) (s : LinkState) (x : OwnStep) → IsInStep items n s → IsInStep items n (state_after_step items s x)
step_keeps items n s (Changes change) in_step = change_keeps items n s change in_step
step_keeps items n s Frame in_step = record {
  snapshot = in_step.snapshot;
  fixed = in_step.fixed;
  view = in_step.view;
  frames = length-map s.reports.frames (λ n. min (n + 1) most_frames) ∙ in_step.frames;
  idle = in_step.idle;
  saw = in_step.saw;
}
step_keeps items n s (Polls fate) in_step =
    let t : LinkState = state_before_answer items s fate in
    answer_keeps items n t.reports t.current t.toggle t.view t.halted fate (arrival_keeps items n s fate in_step)

-- a halt or a clear: the report of the open round is marked as aborted, so it isn't settled
abort_saw : (items : List Item) (d : ReportState) (view : List ControlState) (current : Option OpenRound)
    → length d.aborted ≡ length d.frames → IfSome current (λ round. round.report < length d.frames)
    → SawSettled items d.fixed view d.aborted current
    → SawSettled items (with_abort (open_report current) d).fixed view (with_abort (open_report current) d).aborted None
abort_saw items d view None each input saw i q of_it whole settled = saw i q of_it whole settled
abort_saw items d view (Some round) each input saw i q of_it whole settled = by_same (round.report == q) refl
  where
    by_same : (b : Bool) → (round.report == q) ≡ b → Saw (state_at view i) (state_at d.fixed i)
    by_same true k =
        let same : round.report ≡ q = (Decides-eqb round.report q).0 k in
        let marked : get_or (set d.aborted round.report true) round.report false ≡ true = get_or-set_same d.aborted round.report true false (omega (arith, input, each)) in
        let whole_here : get_or (set d.aborted round.report true) round.report false ≡ false = ap (λ (n : ℕ). get_or (set d.aborted round.report true) n false) same ∙ whole in
        absurd (let a = marked in let b = whole_here in cc)
    by_same false k =
        let other : q ≡ round.report → ⊥ = λ same. let t : (round.report == q) ≡ true = (Decides-eqb round.report q).1 (sym same) in absurd (cc) in
        saw i q of_it (sym (get_or-set_other d.aborted round.report q true false other) ∙ whole)
        (ap (λ (b : Bool). b && not (has_all_pieces round)) k)

aborted_fixed : (o : Option ℕ) (d : ReportState) → (with_abort o d).fixed ≡ d.fixed
aborted_fixed None d = refl
aborted_fixed (Some r) d = refl

abort_keeps : (items : List Item) (n : ℕ) (d : ReportState) (current : Option OpenRound) (odd : Bool) (view : List ControlState) (halted now : Bool)
    → HasAbortFlags (link d current odd view halted) → IsInStep items n (link d current odd view halted)
    → (toggle : Bool) → IsInStep items n (link (with_abort (open_report current) d) None toggle view now)
abort_keeps items n d None odd view halted now aborts in_step toggle = record {
  snapshot = in_step.snapshot;
  fixed = in_step.fixed;
  view = in_step.view;
  frames = in_step.frames;
  idle = in_step.idle;
  saw = in_step.saw;
}
abort_keeps items n d (Some round) odd view halted now aborts in_step toggle = record {
  snapshot = in_step.snapshot;
  fixed = in_step.fixed;
  view = in_step.view;
  frames = in_step.frames;
  idle = in_step.idle;
  saw = abort_saw items d view (Some round) aborts.one_each aborts.input in_step.saw;
}

pub event_keeps : (items : List Item) (n : ℕ) (s : LinkState) (x : BusEvent) → SetsEach n x → HasAbortFlags s → IsInStep items n s
    → IsInStep items n (state_after items s x)
event_keeps items n s (Own x) sets aborts in_step = step_keeps items n s x in_step
event_keeps items n s (Idles idle) sets aborts in_step = record {
  snapshot = in_step.snapshot;
  fixed = in_step.fixed;
  view = in_step.view;
  frames = in_step.frames;
  idle = sets;
  saw = in_step.saw;
}
event_keeps items n s Configures sets aborts in_step = configured items n s.reports.snapshot s.reports.idle in_step.snapshot in_step.idle
event_keeps items n s Halts sets aborts in_step = abort_keeps items n s.reports s.current s.toggle s.view s.halted true aborts in_step s.toggle
event_keeps items n s Clears sets aborts in_step = abort_keeps items n s.reports s.current s.toggle s.view s.halted false aborts in_step false
event_keeps items n s Resets sets aborts in_step =
    configured items n s.reports.snapshot (replicate (length s.reports.idle) 0) in_step.snapshot (length-replicate (length s.reports.idle) 0 ∙ in_step.idle)

pub history_keeps : (items : List Item) (n : ℕ) (bus_events : List BusEvent) (s : LinkState) → AllSetEach n bus_events → HasAbortFlags s
    → IsInStep items n s → IsInStep items n (state_after_all items s bus_events)
history_keeps items n [] s sets aborts in_step = in_step
history_keeps items n (x ∷ bus_events) s sets aborts in_step =
    history_keeps items n bus_events (state_after items s x) sets.1 (lived_cuts items s (x ∷ []) aborts) (event_keeps items n s x sets.0 aborts in_step)

pub fresh_in_step : (items : List Item) (snapshot : List ControlState) (idle : List ℕ) → FitsSnapshot items snapshot
    → IsInStep items (length idle) (initial_link items snapshot idle)
fresh_in_step items snapshot idle fits = configured items (length idle) snapshot idle (start_kinds items snapshot fits) refl

-- ---- nothing is due

pub find_none : (p : ℕ → Bool) (n a r : ℕ) → find p (range_with_len a n) ≡ None → a ≤ r → r < a + n → p r ≡ false
find_none p zero a r h from to = absurd (omega (arith, from, to))
find_none p (suc n) a r h from to = by_test (p a) refl h (λ rest later. find_none p n (a + 1) r rest later (omega (arith, to)))
  where
    by_place : (b : Bool) → (a == r) ≡ b → p a ≡ false → find p (range_with_len (a + 1) n) ≡ None
        → (find p (range_with_len (a + 1) n) ≡ None → a + 1 ≤ r → p r ≡ false) → p r ≡ false
    by_place true e missed rest behind = let same : a ≡ r = (Decides-eqb a r).0 e in ap p (sym same) ∙ missed
    by_place false e missed rest behind = behind rest (grind (arith, nat_tests, e, from))

    by_test : (b : Bool) → p a ≡ b → cond b (Some a) (find p (range_with_len (a + 1) n)) ≡ None
        → (find p (range_with_len (a + 1) n) ≡ None → a + 1 ≤ r → p r ≡ false) → p r ≡ false
    by_test true e k behind = absurd (cc)
    by_test false e k behind = by_place (a == r) refl e k behind

-- nothing calls for a report that isn't due
record IsQuiet (items : List Item) (d : ReportState) (r : ℕ) : Type 0 where
  unchanged : is_changed items r d.snapshot d.fixed ≡ false
  idle : is_idle_over (get_or d.idle r 0) (get_or d.frames r 0) ≡ false
  whole : get_or d.aborted r false ≡ false

quiet_where : (items : List Item) (d : ReportState) (r : ℕ) → is_due items d r ≡ false → IsQuiet items d r
quiet_where items d r h =
    let due = none_of (is_changed items r d.snapshot d.fixed || is_idle_over (get_or d.idle r 0) (get_or d.frames r 0)) (get_or d.aborted r false) h in
    let calls = none_of (is_changed items r d.snapshot d.fixed) (is_idle_over (get_or d.idle r 0) (get_or d.frames r 0)) due.0 in
    record { unchanged = calls.0; idle = calls.1; whole = due.1 }

same_list : {A : Type 0} (E : A → A → Bool) → ((x y : A) → E x y ≡ true → x ≡ y) → (xs ys : List A) → pointwise E xs ys ≡ true → xs ≡ ys
same_list E same [] [] h = refl
same_list E same [] (y ∷ ys) h = absurd (cc)
same_list E same (x ∷ xs) [] h = absurd (cc)
same_list E same (x ∷ xs) (y ∷ ys) h =
    let both = both_true (E x y) (pointwise E xs ys) h in
    ap (λ (z : _). z ∷ xs) (same x y both.0) ∙ ap (λ (zs : List _). y ∷ zs) (same_list E same xs ys both.1)

same_bool : (a b : Bool) → beq a b ≡ true → a ≡ b
same_bool true true h = refl
same_bool true false h = absurd (cc)
same_bool false true h = absurd (cc)
same_bool false false h = refl

same_value : (a b : Option ℤ) → option_eq int_eq a b ≡ true → a ≡ b
same_value None None h = refl
same_value None (Some w) h = absurd (cc)
same_value (Some v) None h = absurd (cc)
same_value (Some v) (Some w) h = ap Some ((Decides-int_eq v w).0 h)

-- what is seen of two control states is the same
record AreAlike (view state : ControlState) : Type 0 where
  pressed : (j : ℕ) → is_pressed view j ≡ is_pressed state j
  values : (j : ℕ) → value_in view j ≡ value_in state j

alike_same : (view state : ControlState) → view ≡ state → AreAlike view state
alike_same view state h = record { pressed = λ j. ap (λ (x : ControlState). is_pressed x j) h; values = λ j. ap (λ (x : ControlState). value_in x j) h }

-- neither has switches or values
abbrev is_plain : Kept → Bool
is_plain KeepsNothing = true
is_plain KeepsSwitches = false
is_plain KeepsValues = false
is_plain KeepsMotions = true

none_pressed : (state : ControlState) (j : ℕ) → is_plain (kept_in state) ≡ true → (is_pressed state j ≡ false) × (value_in state j ≡ None)
none_pressed Absent j h = (refl, refl)
none_pressed (Switches ps) j h = absurd (cc)
none_pressed (Values vs) j h = absurd (cc)
none_pressed (Motions ms) j h = (refl, refl)
none_pressed (RollOver ps) j h = absurd (cc)

alike_plain : (view state : ControlState) → is_plain (kept_in state) ≡ true → kept_in view ≡ kept_in state → AreAlike view state
alike_plain view state h k =
    let g : is_plain (kept_in view) ≡ true = ap is_plain k ∙ h in
    record {
      pressed = λ j. (none_pressed view j g).0 ∙ sym ((none_pressed state j h).0);
      values = λ j. (none_pressed view j g).1 ∙ sym ((none_pressed state j h).1);
    }

switches_saw : (ps : List Bool) (part view : ControlState) → is_same_still (Switches ps) part ≡ true → Saw view part → view ≡ Switches ps
switches_saw ps Absent view h saw = absurd (cc)
switches_saw ps (Switches qs) view h saw = saw ∙ sym (ap Switches (same_list beq same_bool ps qs h))
switches_saw ps (Values vs) view h saw = absurd (cc)
switches_saw ps (Motions ms) view h saw = absurd (cc)
switches_saw ps (RollOver qs) view h saw = absurd (cc)

values_saw : (vs : List (Option ℤ)) (part view : ControlState) → is_same_still (Values vs) part ≡ true → Saw view part → view ≡ Values vs
values_saw vs Absent view h saw = absurd (cc)
values_saw vs (Switches qs) view h saw = absurd (cc)
values_saw vs (Values ws) view h saw = saw ∙ sym (ap Values (same_list (option_eq int_eq) same_value vs ws h))
values_saw vs (Motions ms) view h saw = absurd (cc)
values_saw vs (RollOver qs) view h saw = absurd (cc)

alike_switches : (controls : Controls) (ps : List Bool) (part view : ControlState)
    → is_rolled (shown_state controls (Switches ps)) ≡ false → is_shown (Switches ps) controls part ≡ true → Saw view part → view ≡ Switches ps
alike_switches head.None ps part view flat h saw = switches_saw ps part view h saw
alike_switches (head.Elements kind least greatest count) ps part view flat h saw = switches_saw ps part view h saw
alike_switches (head.Keys elements rolls count) ps part view flat h saw = by_room (nat_lt elements (switch_count ps)) flat h
  where
    by_room : (b : Bool) → is_rolled (cond b (RollOver ps) (Switches ps)) ≡ false → is_same_still (cond b (RollOver ps) (Switches ps)) part ≡ true → view ≡ Switches ps
    by_room true flat h = absurd (cc)
    by_room false flat h = switches_saw ps part view h saw

alike_values : (controls : Controls) (vs : List (Option ℤ)) (part view : ControlState)
    → is_shown (Values vs) controls part ≡ true → Saw view part → view ≡ Values vs
alike_values head.None vs part view h saw = values_saw vs part view h saw
alike_values (head.Elements kind least greatest count) vs part view h saw = values_saw vs part view h saw
alike_values (head.Keys elements rolls count) vs part view h saw = values_saw vs part view h saw

rolled_shown : (controls : Controls) (ps : List Bool) → is_rolled (shown_state controls (RollOver ps)) ≡ true
rolled_shown head.None ps = refl
rolled_shown (head.Elements kind least greatest count) ps = refl
rolled_shown (head.Keys elements rolls count) ps = refl

alike : (controls : Controls) (state part view : ControlState) → is_rolled (shown_state controls state) ≡ false
    → is_shown state controls part ≡ true → Saw view part → kept_in view ≡ kept_in state → AreAlike view state
alike controls Absent part view flat h saw same = alike_plain view Absent refl same
alike controls (Switches ps) part view flat h saw same = alike_same view (Switches ps) (alike_switches controls ps part view flat h saw)
alike controls (Values vs) part view flat h saw same = alike_same view (Values vs) (alike_values controls vs part view h saw)
alike controls (Motions ms) part view flat h saw same = alike_plain view (Motions ms) refl same
alike controls (RollOver ps) part view flat h saw same = let e = rolled_shown controls ps in absurd (cc)

no_motion : (ms : List ℤ) (j : ℕ) → list_any (λ m. not (int_eq m (pos 0))) ms ≡ false → motion_in (Motions ms) j ≡ pos 0
no_motion [] j h = refl
no_motion (m ∷ ms) zero h = by_test (int_eq m (pos 0)) refl ((none_of (not (int_eq m (pos 0))) (list_any (λ m. not (int_eq m (pos 0))) ms) h).0)
  where
    by_test : (b : Bool) → int_eq m (pos 0) ≡ b → not b ≡ false → m ≡ pos 0
    by_test true e k = (Decides-int_eq m (pos 0)).0 e
    by_test false e k = absurd (cc)
no_motion (m ∷ ms) (suc j) h = no_motion ms j ((none_of (not (int_eq m (pos 0))) (list_any (λ m. not (int_eq m (pos 0))) ms) h).1)

none_moves : (state : ControlState) (j : ℕ) → has_motion state ≡ false → motion_in state j ≡ pos 0
none_moves Absent j h = refl
none_moves (Switches ps) j h = refl
none_moves (Values vs) j h = refl
none_moves (Motions ms) j h = no_motion ms j h
none_moves (RollOver ps) j h = refl

plain_moves : (state : ControlState) (j : ℕ) → kept_in state ≡ KeepsNothing → motion_in state j ≡ pos 0
plain_moves Absent j h = refl
plain_moves (Switches ps) j h = absurd (cc)
plain_moves (Values vs) j h = absurd (cc)
plain_moves (Motions ms) j h = absurd (cc)
plain_moves (RollOver ps) j h = absurd (cc)

not_false : (b : Bool) → not b ≡ false → b ≡ true
not_false true h = refl
not_false false h = absurd (cc)

-- what is found at one item
record IsKnown (view state : ControlState) : Type 0 where
  like : AreAlike view state
  still : (j : ℕ) → motion_in state j ≡ pos 0

bare_known : (item : Item) (state view : ControlState) → item.form ≡ NoControls → kept_in state ≡ item_kept item → kept_in view ≡ kept_in state
    → IsKnown view state
bare_known item state view bare keeps kinds =
    let nothing : kept_in state ≡ KeepsNothing = keeps ∙ ap (λ (form : Form). kept_in (blank_state (controls_of_form form))) bare in
    record { like = alike_plain view state (ap is_plain nothing) kinds; still = λ j. plain_moves state j nothing }

sent_known : (item : Item) (r : ℕ) (state part view : ControlState) → item.report ≡ Some r → calls_for r item state part ≡ false
    → (is_of r item ≡ true → Saw view part) → is_rolled (shown_state (controls_of_form item.form) state) ≡ false
    → kept_in view ≡ kept_in state → IsKnown view state
sent_known item r state part view e uncalled saw flat kinds =
    let of_it : is_of r item ≡ true = ap (λ (o : Option ℕ). elim o as (λ _. Bool) [ None ↦ false | Some m ↦ m == r ]) e ∙ (Decides-eqb r r).1 refl in
    let nothing : has_motion state || not (is_shown state (controls_of_form item.form) part) ≡ false =
    ap (λ (b : Bool). b && (has_motion state || not (is_shown state (controls_of_form item.form) part))) (sym of_it) ∙ uncalled in
    let both = none_of (has_motion state) (not (is_shown state (controls_of_form item.form) part)) nothing in
    record {
      like = alike (controls_of_form item.form) state part view flat (not_false (is_shown state (controls_of_form item.form) part) both.1) (saw of_it) kinds;
      still = λ j. none_moves state j both.0;
    }

known : (items : List Item) (n : ℕ) (s : LinkState) (i : ℕ) → AreSentIn n items → IsInStep items n s → s.current ≡ None
    → first_due items s.reports ≡ None → has_too_many_keys items s.reports.snapshot i ≡ false
    → IsKnown (state_at s.view i) (state_at s.reports.snapshot i)
known items n s i sent in_step closed none flat = by_report (item_at items i).report refl (sent_at n items i sent)
  where
    by_report : (o : Option ℕ) → (item_at items i).report ≡ o → elim o as (λ _. Type 0) [ None ↦ (item_at items i).form ≡ NoControls | Some r ↦ r < n ]
        → IsKnown (state_at s.view i) (state_at s.reports.snapshot i)
    by_report None e bare =
        bare_known (item_at items i) (state_at s.reports.snapshot i) (state_at s.view i) bare (in_step.snapshot.kept i) (in_step.view.kept i ∙ sym (in_step.snapshot.kept i))
    by_report (Some r) e within =
        let d : ReportState = s.reports in
        let quiet : IsQuiet items d r = quiet_where items d r (find_none (is_due items d) (length d.frames) 0 r none (omega arith) (omega (arith, within, in_step.frames))) in
        sent_known (item_at items i) r (state_at d.snapshot i) (state_at d.fixed i) (state_at s.view i) e
        (not_called (calls_for r) items d.snapshot d.fixed i refl in_step.snapshot.each in_step.fixed.each quiet.unchanged)
        (λ of_it. in_step.saw i r of_it quiet.whole (ap (λ (o : Option OpenRound). is_crossing o r) closed))
        (ap (λ (form : Form). is_rolled (shown_state (controls_of_form form) (state_at d.snapshot i))) (sym (form_is items i)) ∙ flat)
        (in_step.view.kept i ∙ sym (in_step.snapshot.kept i))

pub nothing_due_agrees : (items : List Item) (n : ℕ) (s : LinkState) → AreSentIn n items → IsInStep items n s → HasNothingToSend items s → Agrees items s
nothing_due_agrees items n s sent in_step nothing c flat =
    let one : IsKnown (state_at s.view c.item) (state_at s.reports.snapshot c.item) = known items n s c.item sent in_step nothing.current nothing.none_due flat in
    let open_none : open_motion items s.reports.fixed s.current c ≡ pos 0 = ap (λ (o : Option OpenRound). open_motion items s.reports.fixed o c) nothing.current in
    let still : motion_of s.reports.snapshot c ≡ pos 0 = one.still c.index in
    record {
      pressed = one.like.pressed c.index;
      value = one.like.values c.index;
      motion = still;
      in_round = open_none;
    }

pub agrees_at_nak : (items : List Item) (snapshot : List ControlState) (idle : List ℕ) (bus_events : List BusEvent) → AgreesAtNak items snapshot idle bus_events
agrees_at_nak items snapshot idle bus_events fits sent sets nothing =
    nothing_due_agrees items (length idle) (state_after_all items (initial_link items snapshot idle) bus_events) sent
    (history_keeps items (length idle) bus_events (initial_link items snapshot idle) sets (fresh_cuts items snapshot idle) (fresh_in_step items snapshot idle fits))
    nothing

-- ---- the items of a layout are sent in its Input reports

sent_from : (layout : Contents) (n : ℕ) → ((r : ℕ) → is_input layout.reports r ≡ true → r < n) → (ms : List MainItem) (ess : List (List Entry))
    → AreSentIn n (items_from layout ms ess)
unfolding items_from
sent_from layout n below [] ess = tt
sent_from layout n below (m ∷ ms) [] = tt
sent_from layout n below (m ∷ ms) (es ∷ ess) = (by_report (is_input layout.reports m.report) refl, sent_from layout n below ms ess)
  where
    by_report : (b : Bool) → is_input layout.reports m.report ≡ b
        → IsSentIn n (cond b (input_item m.report (report_bytes layout m.report) (form_of m (usage_list es) m.shape)) no_item)
    by_report true e = below m.report e
    by_report false e = refl

pub items_are_sent : (layout : Contents) (n : ℕ) → ((r : ℕ) → is_input layout.reports r ≡ true → r < n) → AreSentIn n (items_of layout)
items_are_sent layout n below = sent_from layout n below layout.items layout.entries
