-- Once controls stay as they are, each clean poll brings a device nearer to having nothing to send.
use Rattle.std.proofs.Common.{◌≡◌, ◌<◌, ◌≤◌, ◌+◌, ◌-◌, ◌*◌, ◌||◌, ◌&&◌, ◌==◌, not, ℕ, zero, suc, Bool, true, false, cond, List, [], ◌∷◌, length, map, get_or, set, replicate, min, Option, Some, None, ℤ, pos, ◌+ℤ◌, ◌-ℤ◌, ◌≤ℤ◌, refl, ap, sym, ◌∙◌, subst, arith}
use Rattle.std.specs.Prelude.{IfSome, nat_lt, ◌*ℤ◌}
use Rattle.std.specs.Bool.{beq}
use Rattle.std.specs.Int.{int_min}
use Rattle.std.specs.Int.Signed.{le_z}
use Rattle.std.specs.Option.{option_eq}
use Rattle.std.specs.Ordering.{int_eq}
use Rattle.std.specs.Cmp.Lexicographic.{pointwise}
use Rattle.std.specs.List.{find, range_with_len, list_any}
use Rattle.std.proofs.Math.IntN.{suc_ℤ-*ℤ, zero-*ℤ}
use Rattle.std.proofs.lemmas.Int.{ints, int_min_is, int_max_is}
use Rattle.std.proofs.lemmas.Bool.Decides.{nat_tests, Decides-eqb, Decides-int_eq}
use Rattle.std.proofs.lemmas.List.{get_or-set_other, length-map}
use Rattle.hid_layout.specs.declared.control.Controls.{Controls}
use Rattle.hid_layout.specs.declared.control.Controls.TheVariants as head
use Rattle.hid_layout.specs.declared.control.ControlKind.TheVariants.{Switch, Value, NullValue, Relative}
use Rattle.hid_layout.specs.Controls.{Item, controls_of_form}
use Rattle.hid_snapshots.specs.declared.control_state.ControlState.{ControlState}
use Rattle.hid_snapshots.specs.declared.control_state.ControlState.TheVariants.{Absent, Switches, Values, Motions, RollOver}
use Rattle.hid_snapshots.specs.ControlStates.{are_motions, is_in, switch_count}
use Rattle.hid_snapshots.specs.Parts.{is_of, item_at, by_item, clamp, shown_state, shown_part_of, shown_parts, differences, minus_motion, without_motion_of, without_part_motion, is_same_still, has_motion, is_shown, calls_for, is_changed, has_zero, has_zeros}
use Rattle.hid_snapshots.specs.Pieces.{pieces_of}
use Rattle.hid_snapshots.specs.Snapshots.{state_at}
use Rattle.hid_snapshots.proofs.CodeLemmas.{both_true, test_true, true_test}
use Rattle.hid_snapshots.proofs.FillLemmas.{set_length}
use Rattle.hid_snapshots.proofs.PartLemmas.{by_item_length}
use Rattle.hid_snapshots.proofs.PieceLemmas.{some_piece}
use Rattle.usb_transact.specs.declared.transaction.Fate.{Fate}
use Rattle.usb_transact.specs.declared.transaction.Fate.TheVariants.{Clean, TokenLost, ReplyLost, AckLost}
use Rattle.hid_bus.specs.ReportState.{ReportState, after_frame, after_opening, first_due, is_due, is_idle_over, most_frames, no_idle}
use Rattle.hid_bus.specs.Rounds.{Changes, Frame, OwnStep, Polls, closed_count}
use Rattle.hid_bus.specs.LinkState.{LinkState, OpenRound, HasPieces, first_open_piece, initial_link, is_last, open_next, piece_after, state_after_answer, state_after_step, state_after_steps, with_open_report}
use Rattle.hid_bus.specs.DeviceHistory.{BusEvent, state_after_all}
use Rattle.hid_bus.specs.Agreement.{HasNothingToSend}
use Rattle.hid_bus.specs.Convergence.{AreStill, fates_of, FitsReports, IsEnough, polls_of_rounds, polls_of_open, polls_to_rest, RestsAfterCleanPolls, RestsInTime}
use Rattle.hid_bus.proofs.HistoryLemmas.{link}
use Rattle.hid_bus.proofs.PieceLemmas.{lived_pieces}
use Rattle.hid_bus.proofs.AbortedRoundLemmas.{fresh_cuts}
use Rattle.hid_bus.proofs.FairnessLemmas.{clean_in_time}
use Rattle.hid_bus.proofs.KindLemmas.{at_by_item}
use Rattle.hid_bus.proofs.AgreementLemmas.{IsInStep, other_report, step_keeps, history_keeps, fresh_in_step, nothing_due_agrees}

-- ---- one motion

pub to_le : (a b : ℤ) → le_z a b ≡ true → a ≤ℤ b
to_le a b h = record { le = true_test (le_z a b) h }

pub of_le : (a b : ℤ) → a ≤ℤ b → le_z a b ≡ true
of_le a b h = test_true (le_z a b) h.le

-- one more time
pub once_more : (n : ℕ) (z : ℤ) → pos (suc n) *ℤ z ≡ pos n *ℤ z +ℤ z
once_more n z = suc_ℤ-*ℤ (pos n) z

pub times_low : (n : ℕ) (z : ℤ) → z ≤ℤ pos 0 → (pos n *ℤ z) ≤ℤ pos 0
times_low zero z h = omega (arith, ints, zero-*ℤ z)
times_low (suc n) z h = omega (arith, ints, once_more n z, times_low n z h, h)

pub times_high : (n : ℕ) (z : ℤ) → pos 0 ≤ℤ z → pos 0 ≤ℤ (pos n *ℤ z)
times_high zero z h = omega (arith, ints, zero-*ℤ z)
times_high (suc n) z h = omega (arith, ints, once_more n z, times_high n z h, h)

-- what is left of a motion that a report carried, in one report less
less_left : (n : ℕ) (least greatest m : ℤ) → is_in least greatest (pos 0) ≡ true
    → is_in (pos (suc n) *ℤ least) (pos (suc n) *ℤ greatest) m ≡ true
    → is_in (pos n *ℤ least) (pos n *ℤ greatest) (m -ℤ clamp least greatest m) ≡ true
less_left n least greatest m has_zero_ fits =
    let zero_ = both_true (le_z least (pos 0)) (le_z (pos 0) greatest) has_zero_ in
    let low : least ≤ℤ pos 0 = to_le least (pos 0) zero_.0 in
    let high : pos 0 ≤ℤ greatest = to_le (pos 0) greatest zero_.1 in
    let ends = both_true (le_z (pos (suc n) *ℤ least) m) (le_z m (pos (suc n) *ℤ greatest)) fits in
    let from : (pos (suc n) *ℤ least) ≤ℤ m = to_le (pos (suc n) *ℤ least) m ends.0 in
    let to : m ≤ℤ (pos (suc n) *ℤ greatest) = to_le m (pos (suc n) *ℤ greatest) ends.1 in
    let facts = of_amounts (pos n *ℤ least) (pos n *ℤ greatest) least greatest m low high (times_low n least low) (times_high n greatest high)
    (rw (once_more n least) at from) (rw (once_more n greatest) at to) in
    rw (of_le (pos n *ℤ least) (m -ℤ clamp least greatest m) facts.0, of_le (m -ℤ clamp least greatest m) (pos n *ℤ greatest) facts.1) refl
  where
    of_amounts : (lows highs least greatest m : ℤ) → least ≤ℤ pos 0 → pos 0 ≤ℤ greatest → lows ≤ℤ pos 0 → pos 0 ≤ℤ highs
        → (lows +ℤ least) ≤ℤ m → m ≤ℤ (highs +ℤ greatest)
        → (lows ≤ℤ (m -ℤ clamp least greatest m)) × ((m -ℤ clamp least greatest m) ≤ℤ highs)
    of_amounts lows highs least greatest m low high lows_ highs_ from to =
        let inner = int_min_is greatest m in
        let outer = int_max_is least (int_min greatest m) in
        (omega (arith, ints, inner, outer, low, high, lows_, highs_, from, to), omega (arith, ints, inner, outer, low, high, lows_, highs_, from, to))

-- no motion is left where none fits
none_fits : (least greatest m : ℤ) → is_in (pos 0 *ℤ least) (pos 0 *ℤ greatest) m ≡ true → int_eq m (pos 0) ≡ true
none_fits least greatest m fits =
    let ends = both_true (le_z (pos 0 *ℤ least) m) (le_z m (pos 0 *ℤ greatest)) fits in
    let from : (pos 0 *ℤ least) ≤ℤ m = to_le (pos 0 *ℤ least) m ends.0 in
    let to : m ≤ℤ (pos 0 *ℤ greatest) = to_le m (pos 0 *ℤ greatest) ends.1 in
    let a : pos 0 ≤ℤ m = rw (zero-*ℤ least) at from in
    let b : m ≤ℤ pos 0 = rw (zero-*ℤ greatest) at to in
    (Decides-int_eq m (pos 0)).1 (omega (arith, ints, a, b))

-- ---- the motions of a control state

differences_fit : (n : ℕ) (least greatest : ℤ) (ms : List ℤ) → is_in least greatest (pos 0) ≡ true
    → are_motions (pos (suc n) *ℤ least) (pos (suc n) *ℤ greatest) ms
    → are_motions (pos n *ℤ least) (pos n *ℤ greatest) (differences ms (map (clamp least greatest) ms))
differences_fit n least greatest [] zero_ fit = tt
differences_fit n least greatest (m ∷ ms) zero_ fit = (less_left n least greatest m zero_ fit.0, differences_fit n least greatest ms zero_ fit.1)

rolled_left : (n : ℕ) (controls : Controls) (ps : List Bool) (b : Bool) → FitsReports n controls (Switches ps)
    → FitsReports n controls (minus_motion (Switches ps) (cond b (RollOver ps) (Switches ps)))
rolled_left n controls ps b fit = fit

-- once a report carried what it shows, one report less is enough
left_fits : (n : ℕ) (controls : Controls) (state : ControlState) → has_zero controls ≡ true → FitsReports (suc n) controls state
    → FitsReports n controls (minus_motion state (shown_state controls state))
left_fits n head.None Absent zero_ fit = tt
left_fits n head.None (Switches ps) zero_ fit = tt
left_fits n head.None (Values vs) zero_ fit = tt
left_fits n head.None (Motions ms) zero_ fit = absurd fit
left_fits n head.None (RollOver ps) zero_ fit = tt
left_fits n (head.Keys elements rolls count) Absent zero_ fit = tt
left_fits n (head.Keys elements rolls count) (Switches ps) zero_ fit = tt
left_fits n (head.Keys elements rolls count) (Values vs) zero_ fit = tt
left_fits n (head.Keys elements rolls count) (Motions ms) zero_ fit = absurd fit
left_fits n (head.Keys elements rolls count) (RollOver ps) zero_ fit = tt
left_fits n (head.Elements Switch least greatest count) Absent zero_ fit = tt
left_fits n (head.Elements Switch least greatest count) (Switches ps) zero_ fit = tt
left_fits n (head.Elements Switch least greatest count) (Values vs) zero_ fit = tt
left_fits n (head.Elements Switch least greatest count) (Motions ms) zero_ fit = absurd fit
left_fits n (head.Elements Switch least greatest count) (RollOver ps) zero_ fit = tt
left_fits n (head.Elements Value least greatest count) Absent zero_ fit = tt
left_fits n (head.Elements Value least greatest count) (Switches ps) zero_ fit = tt
left_fits n (head.Elements Value least greatest count) (Values vs) zero_ fit = tt
left_fits n (head.Elements Value least greatest count) (Motions ms) zero_ fit = absurd fit
left_fits n (head.Elements Value least greatest count) (RollOver ps) zero_ fit = tt
left_fits n (head.Elements NullValue least greatest count) Absent zero_ fit = tt
left_fits n (head.Elements NullValue least greatest count) (Switches ps) zero_ fit = tt
left_fits n (head.Elements NullValue least greatest count) (Values vs) zero_ fit = tt
left_fits n (head.Elements NullValue least greatest count) (Motions ms) zero_ fit = absurd fit
left_fits n (head.Elements NullValue least greatest count) (RollOver ps) zero_ fit = tt
left_fits n (head.Elements Relative least greatest count) Absent zero_ fit = tt
left_fits n (head.Elements Relative least greatest count) (Switches ps) zero_ fit = tt
left_fits n (head.Elements Relative least greatest count) (Values vs) zero_ fit = tt
left_fits n (head.Elements Relative least greatest count) (Motions ms) zero_ fit = differences_fit n least greatest ms zero_ fit
left_fits n (head.Elements Relative least greatest count) (RollOver ps) zero_ fit = tt

none_move : (least greatest : ℤ) (ms : List ℤ) → are_motions (pos 0 *ℤ least) (pos 0 *ℤ greatest) ms → has_motion (Motions ms) ≡ false
none_move least greatest [] fit = refl
none_move least greatest (m ∷ ms) fit = ap (λ (b : Bool). not b || has_motion (Motions ms)) (none_fits least greatest m fit.0) ∙ none_move least greatest ms fit.1

-- nothing has moved where no report is needed
still_fits : (controls : Controls) (state : ControlState) → FitsReports 0 controls state → has_motion state ≡ false
still_fits controls Absent fit = refl
still_fits controls (Switches ps) fit = refl
still_fits controls (Values vs) fit = refl
still_fits controls (RollOver ps) fit = refl
still_fits head.None (Motions ms) fit = absurd fit
still_fits (head.Keys elements rolls count) (Motions ms) fit = absurd fit
still_fits (head.Elements Switch least greatest count) (Motions ms) fit = absurd fit
still_fits (head.Elements Value least greatest count) (Motions ms) fit = absurd fit
still_fits (head.Elements NullValue least greatest count) (Motions ms) fit = absurd fit
still_fits (head.Elements Relative least greatest count) (Motions ms) fit = none_move least greatest ms fit

-- ---- what was shown is shown still

alike_lists : {A : Type 0} (E : A → A → Bool) → ((x : A) → E x x ≡ true) → (xs : List A) → pointwise E xs xs ≡ true
alike_lists E same [] = refl
alike_lists E same (x ∷ xs) = ap (λ (b : Bool). b && pointwise E xs xs) (same x) ∙ alike_lists E same xs

one_bool : (b : Bool) → beq b b ≡ true
one_bool true = refl
one_bool false = refl

one_value : (v : Option ℤ) → option_eq int_eq v v ≡ true
one_value None = refl
one_value (Some v) = (Decides-int_eq v v).1 refl

rolled_alike : (ps : List Bool) (b : Bool) → is_same_still (cond b (RollOver ps) (Switches ps)) (cond b (RollOver ps) (Switches ps)) ≡ true
rolled_alike ps true = refl
rolled_alike ps false = alike_lists beq one_bool ps

shown_still : (controls : Controls) (state : ControlState) → is_shown (minus_motion state (shown_state controls state)) controls (shown_state controls state) ≡ true
shown_still head.None Absent = refl
shown_still head.None (Switches ps) = alike_lists beq one_bool ps
shown_still head.None (Values vs) = alike_lists (option_eq int_eq) one_value vs
shown_still head.None (Motions ms) = refl
shown_still head.None (RollOver ps) = refl
shown_still (head.Elements kind least greatest count) Absent = refl
shown_still (head.Elements kind least greatest count) (Switches ps) = alike_lists beq one_bool ps
shown_still (head.Elements kind least greatest count) (Values vs) = alike_lists (option_eq int_eq) one_value vs
shown_still (head.Elements kind least greatest count) (Motions ms) = refl
shown_still (head.Elements kind least greatest count) (RollOver ps) = refl
shown_still (head.Keys elements rolls count) Absent = refl
shown_still (head.Keys elements rolls count) (Switches ps) = rolled_alike ps (nat_lt elements (switch_count ps))
shown_still (head.Keys elements rolls count) (Values vs) = alike_lists (option_eq int_eq) one_value vs
shown_still (head.Keys elements rolls count) (Motions ms) = refl
shown_still (head.Keys elements rolls count) (RollOver ps) = refl

-- ---- a report that opens

pub zeros_at : (items : List Item) (i : ℕ) → has_zeros items ≡ true → has_zero (controls_of_form (item_at items i).form) ≡ true
zeros_at [] i h = refl
zeros_at (item ∷ items) zero h = (both_true (has_zero (controls_of_form item.form)) (has_zeros items) h).0
zeros_at (item ∷ items) (suc i) h = zeros_at items i ((both_true (has_zero (controls_of_form item.form)) (has_zeros items) h).1)

-- no control calls where none does at any place
called_none : (f : Item → ControlState → ControlState → Bool) (items : List Item) (xs bs : List ControlState)
    → ((i : ℕ) → f (item_at items i) (state_at xs i) (state_at bs i) ≡ false) → list_any (λ called. called) (by_item f items xs bs) ≡ false
called_none f [] xs bs each = refl
called_none f (item ∷ items) [] bs each = refl
called_none f (item ∷ items) (x ∷ xs) [] each = refl
called_none f (item ∷ items) (x ∷ xs) (b ∷ bs) each = ap (λ (c : Bool). c || list_any (λ called. called) (by_item f items xs bs)) (each 0) ∙ called_none f items xs bs (λ i. each (suc i))

-- the controls of other reports call as before
others_call : (items : List Item) (r q : ℕ) (xs bs : List ControlState) → (r == q) ≡ false
    → by_item (calls_for q) items (without_part_motion items r xs (shown_parts items r xs bs)) (shown_parts items r xs bs) ≡ by_item (calls_for q) items xs bs
others_call [] r q xs bs apart = refl
others_call (item ∷ items) r q [] bs apart = refl
others_call (item ∷ items) r q (x ∷ xs) [] apart = refl
others_call (item ∷ items) r q (x ∷ xs) (b ∷ bs) apart =
    ap (λ (c : Bool). c ∷ by_item (calls_for q) items (without_part_motion items r xs (shown_parts items r xs bs)) (shown_parts items r xs bs)) (by_report (is_of q item) refl)
    ∙ ap (λ (cs : List Bool). calls_for q item x b ∷ cs) (others_call items r q xs bs apart)
  where
    by_report : (o : Bool) → is_of q item ≡ o → calls_for q item (without_motion_of r item x (shown_part_of r item x b)) (shown_part_of r item x b) ≡ calls_for q item x b
    by_report true e =
        let other : is_of r item ≡ false = other_report item r q e apart in
        ap (λ (c : Bool). let p : ControlState = cond c (shown_state (controls_of_form item.form) x) b in calls_for q item (cond c (minus_motion x p) x) p) other
    by_report false e =
        ap (λ (c : Bool). c && (has_motion (without_motion_of r item x (shown_part_of r item x b)) || not (is_shown (without_motion_of r item x (shown_part_of r item x b)) (controls_of_form item.form) (shown_part_of r item x b)))) e
        ∙ sym (ap (λ (c : Bool). c && (has_motion x || not (is_shown x (controls_of_form item.form) b))) e)

-- the control states at one place once a report opened
opened_part : (items : List Item) (r i : ℕ) (xs bs : List ControlState) → length xs ≡ length items → length bs ≡ length items
    → state_at (shown_parts items r xs bs) i ≡ shown_part_of r (item_at items i) (state_at xs i) (state_at bs i)
opened_part items r i xs bs lx lb = at_by_item (shown_part_of r) items xs bs i refl lx lb

pub opened_state : (items : List Item) (r i : ℕ) (xs bs : List ControlState) → length xs ≡ length items → length bs ≡ length items
    → state_at (without_part_motion items r xs (shown_parts items r xs bs)) i
    ≡ without_motion_of r (item_at items i) (state_at xs i) (shown_part_of r (item_at items i) (state_at xs i) (state_at bs i))
opened_state items r i xs bs lx lb =
    at_by_item (without_motion_of r) items xs (shown_parts items r xs bs) i refl lx (by_item_length (shown_part_of r) items xs bs lx lb)
    ∙ ap (λ (p : ControlState). without_motion_of r (item_at items i) (state_at xs i) p) (opened_part items r i xs bs lx lb)

-- its own: the motions that are left fit in one report less
own_fits : (items : List Item) (d : ReportState) (r n i : ℕ) → has_zeros items ≡ true → length d.snapshot ≡ length items → length d.fixed ≡ length items
    → is_of r (item_at items i) ≡ true → FitsReports (suc n) (controls_of_form (item_at items i).form) (state_at d.snapshot i)
    → FitsReports n (controls_of_form (item_at items i).form) (state_at (after_opening items r d).snapshot i)
own_fits items d r n i zeros lx lb of_it fit =
    let controls : Controls = controls_of_form (item_at items i).form in
    let x : ControlState = state_at d.snapshot i in
    let is : state_at (after_opening items r d).snapshot i ≡ minus_motion x (shown_state controls x) =
    opened_state items r i d.snapshot d.fixed lx lb
    ∙ ap (λ (c : Bool). cond c (minus_motion x (cond c (shown_state controls x) (state_at d.fixed i))) x) of_it in
    subst (FitsReports n controls) (sym is) (left_fits n controls x (zeros_at items i zeros) fit)

other_fits : (items : List Item) (d : ReportState) (r q n i : ℕ) → length d.snapshot ≡ length items → length d.fixed ≡ length items
    → (r == q) ≡ false → is_of q (item_at items i) ≡ true → FitsReports n (controls_of_form (item_at items i).form) (state_at d.snapshot i)
    → FitsReports n (controls_of_form (item_at items i).form) (state_at (after_opening items r d).snapshot i)
other_fits items d r q n i lx lb apart of_it fit =
    let controls : Controls = controls_of_form (item_at items i).form in
    let x : ControlState = state_at d.snapshot i in
    let is : state_at (after_opening items r d).snapshot i ≡ x =
    opened_state items r i d.snapshot d.fixed lx lb
    ∙ ap (λ (c : Bool). cond c (minus_motion x (cond c (shown_state controls x) (state_at d.fixed i))) x) (other_report (item_at items i) r q of_it apart) in
    subst (FitsReports n controls) (sym is) fit

-- ---- what is due once a report opened

cleared : {A : Type 0} (xs : List A) (r : ℕ) (x : A) → get_or (set xs r x) r x ≡ x
cleared [] r x = refl
cleared (y ∷ xs) zero x = refl
cleared (y ∷ xs) (suc r) x = cleared xs r x

no_frames : (idle : ℕ) → is_idle_over idle 0 ≡ false
no_frames zero = refl
no_frames (suc idle) = grind (arith, nat_tests)

parts_false : (a b c : Bool) → a ≡ false → b ≡ false → c ≡ false → (a || b) || c ≡ false
parts_false false false false ha hb hc = refl
parts_false false false true ha hb hc = absurd (cc)
parts_false false true c ha hb hc = absurd (cc)
parts_false true b c ha hb hc = absurd (cc)

two_false : (a b : Bool) → a ≡ false → b ≡ true → a || not b ≡ false
two_false false true ha hb = refl
two_false false false ha hb = absurd (cc)
two_false true b ha hb = absurd (cc)

own_quiet : (items : List Item) (d : ReportState) (r : ℕ) → has_zeros items ≡ true → length d.snapshot ≡ length items → length d.fixed ≡ length items
    → ((i : ℕ) → is_of r (item_at items i) ≡ true → FitsReports 1 (controls_of_form (item_at items i).form) (state_at d.snapshot i))
    → is_due items (after_opening items r d) r ≡ false
own_quiet items d r zeros lx lb fit =
    let e : ReportState = after_opening items r d in
    parts_false (is_changed items r e.snapshot e.fixed) (is_idle_over (get_or e.idle r 0) (get_or e.frames r 0)) (get_or e.aborted r false)
    (called_none (calls_for r) items e.snapshot e.fixed (λ i. by_report i (is_of r (item_at items i)) refl))
    (ap (is_idle_over (get_or d.idle r 0)) (cleared d.frames r 0) ∙ no_frames (get_or d.idle r 0))
    (cleared d.aborted r false)
  where
    by_report : (i : ℕ) (b : Bool) → is_of r (item_at items i) ≡ b
        → calls_for r (item_at items i) (state_at (after_opening items r d).snapshot i) (state_at (after_opening items r d).fixed i) ≡ false
    by_report i false e = ap (λ (c : Bool). c && (has_motion (state_at (after_opening items r d).snapshot i) || not (is_shown (state_at (after_opening items r d).snapshot i) (controls_of_form (item_at items i).form) (state_at (after_opening items r d).fixed i)))) e
    by_report i true e =
        let controls : Controls = controls_of_form (item_at items i).form in
        let x : ControlState = state_at d.snapshot i in
        let left : state_at (after_opening items r d).snapshot i ≡ minus_motion x (shown_state controls x) =
        opened_state items r i d.snapshot d.fixed lx lb
        ∙ ap (λ (c : Bool). cond c (minus_motion x (cond c (shown_state controls x) (state_at d.fixed i))) x) e in
        let part : state_at (after_opening items r d).fixed i ≡ shown_state controls x =
        opened_part items r i d.snapshot d.fixed lx lb ∙ ap (λ (c : Bool). cond c (shown_state controls x) (state_at d.fixed i)) e in
        let still : has_motion (state_at (after_opening items r d).snapshot i) ≡ false =
        still_fits controls (state_at (after_opening items r d).snapshot i) (own_fits items d r 0 i zeros lx lb e (fit i e)) in
        let shows : is_shown (state_at (after_opening items r d).snapshot i) controls (state_at (after_opening items r d).fixed i) ≡ true =
        ap (λ (y : ControlState). is_shown y controls (state_at (after_opening items r d).fixed i)) left
        ∙ ap (λ (p : ControlState). is_shown (minus_motion x (shown_state controls x)) controls p) part
        ∙ shown_still controls x in
        ap (λ (c : Bool). c && (has_motion (state_at (after_opening items r d).snapshot i) || not (is_shown (state_at (after_opening items r d).snapshot i) controls (state_at (after_opening items r d).fixed i)))) e
        ∙ two_false (has_motion (state_at (after_opening items r d).snapshot i)) (is_shown (state_at (after_opening items r d).snapshot i) controls (state_at (after_opening items r d).fixed i)) still shows

other_due : (items : List Item) (d : ReportState) (r q : ℕ) → (r == q) ≡ false → is_due items (after_opening items r d) q ≡ is_due items d q
other_due items d r q apart =
    let e : ReportState = after_opening items r d in
    let other : q ≡ r → ⊥ = λ same. let t : (r == q) ≡ true = (Decides-eqb r q).1 (sym same) in absurd (cc) in
    ap (λ (cs : List Bool). (list_any (λ called. called) cs || is_idle_over (get_or e.idle q 0) (get_or e.frames q 0)) || get_or e.aborted q false) (others_call items r q d.snapshot d.fixed apart)
    ∙ ap (λ (n : ℕ). (is_changed items q d.snapshot d.fixed || is_idle_over (get_or d.idle q 0) n) || get_or e.aborted q false) (get_or-set_other d.frames r q 0 0 other)
    ∙ ap (λ (b : Bool). (is_changed items q d.snapshot d.fixed || is_idle_over (get_or d.idle q 0) (get_or d.frames q 0)) || b) (get_or-set_other d.aborted r q false false other)

-- ---- rounds that are enough

abbrev down : ℕ → ℕ
down zero = zero
down (suc n) = n

-- one round of report r less
abbrev less : (ℕ → ℕ) → ℕ → ℕ → ℕ
less rounds r q = cond (r == q) (down (rounds q)) (rounds q)

own_enough : (items : List Item) (d : ReportState) (r m : ℕ) → has_zeros items ≡ true → length d.snapshot ≡ length items → length d.fixed ≡ length items
    → 0 < m → IsEnough items d r m → IsEnough items (after_opening items r d) r (down m)
own_enough items d r zero zeros lx lb some enough = absurd (omega (arith, some))
own_enough items d r (suc n) zeros lx lb some enough = record {
  motions = λ i of_it. own_fits items d r n i zeros lx lb of_it (enough.motions i of_it);
  due = by_rest n (λ none i of_it. subst (λ (k : ℕ). FitsReports k (controls_of_form (item_at items i).form) (state_at d.snapshot i)) (ap suc none) (enough.motions i of_it));
}
  where
    by_rest : (n : ℕ) → (n ≡ 0 → (i : ℕ) → is_of r (item_at items i) ≡ true → FitsReports 1 (controls_of_form (item_at items i).form) (state_at d.snapshot i))
        → is_due items (after_opening items r d) r ≡ true → 0 < n
    by_rest zero fit due = let quiet = own_quiet items d r zeros lx lb (fit refl) in absurd (cc)
    by_rest (suc n) fit due = omega arith

other_enough : (items : List Item) (d : ReportState) (r q m : ℕ) → length d.snapshot ≡ length items → length d.fixed ≡ length items
    → (r == q) ≡ false → IsEnough items d q m → IsEnough items (after_opening items r d) q m
other_enough items d r q m lx lb apart enough = record {
  motions = λ i of_it. other_fits items d r q m i lx lb apart of_it (enough.motions i of_it);
  due = λ due. enough.due (sym (other_due items d r q apart) ∙ due);
}

enough_after : (items : List Item) (d : ReportState) (r q : ℕ) (rounds : ℕ → ℕ) → has_zeros items ≡ true → length d.snapshot ≡ length items
    → length d.fixed ≡ length items → 0 < rounds r → IsEnough items d q (rounds q) → IsEnough items (after_opening items r d) q (less rounds r q)
enough_after items d r q rounds zeros lx lb some enough = by_same (r == q) refl
  where
    by_same : (b : Bool) → (r == q) ≡ b → IsEnough items (after_opening items r d) q (cond b (down (rounds q)) (rounds q))
    by_same false e = other_enough items d r q (rounds q) lx lb e enough
    by_same true e =
        let same : r ≡ q = (Decides-eqb r q).0 e in
        subst (λ (k : ℕ). IsEnough items (after_opening items k d) q (down (rounds q))) (sym same)
        (own_enough items d q (rounds q) zeros lx lb (subst (λ (k : ℕ). 0 < rounds k) same some) enough)

-- ---- the clean polls that are left

untouched : (items : List Item) (rounds : ℕ → ℕ) (r n : ℕ) → n ≤ r → polls_of_rounds items rounds n ≡ polls_of_rounds items (less rounds r) n
untouched items rounds r zero below = refl
untouched items rounds r (suc n) below =
    let apart : (r == n) ≡ false = grind (arith, nat_tests, below) in
    let stays : less rounds r n ≡ rounds n = ap (λ (b : Bool). cond b (down (rounds n)) (rounds n)) apart in
    ap (λ (k : ℕ). rounds n * pieces_of items n + k) (untouched items rounds r n (omega (arith, below)))
    ∙ ap (λ (k : ℕ). k * pieces_of items n + polls_of_rounds items (less rounds r) n) (sym stays)

one_round : (k p rest : ℕ) → 0 < k → k * p + rest ≡ p + (down k * p + rest)
one_round zero p rest some = absurd (omega (arith, some))
one_round (suc k) p rest some = omega arith

spent : (items : List Item) (rounds : ℕ → ℕ) (r n : ℕ) → r < n → 0 < rounds r
    → polls_of_rounds items rounds n ≡ pieces_of items r + polls_of_rounds items (less rounds r) n
spent items rounds r zero within some = absurd (omega (arith, within))
spent items rounds r (suc n) within some = by_same (r == n) refl (λ earlier. spent items rounds r n earlier some)
  where
    by_same : (b : Bool) → (r == n) ≡ b → (r < n → polls_of_rounds items rounds n ≡ pieces_of items r + polls_of_rounds items (less rounds r) n)
        → rounds n * pieces_of items n + polls_of_rounds items rounds n
        ≡ pieces_of items r + (less rounds r n * pieces_of items n + polls_of_rounds items (less rounds r) n)
    by_same true e behind =
        let same : r ≡ n = (Decides-eqb r n).0 e in
        let one : less rounds r n ≡ down (rounds n) = ap (λ (b : Bool). cond b (down (rounds n)) (rounds n)) e in
        let rest : polls_of_rounds items rounds n ≡ polls_of_rounds items (less rounds r) n = untouched items rounds r n (omega (arith, same)) in
        let here : 0 < rounds n = subst (λ (k : ℕ). 0 < rounds k) same some in
        ap (λ (k : ℕ). rounds n * pieces_of items n + k) rest
        ∙ one_round (rounds n) (pieces_of items n) (polls_of_rounds items (less rounds r) n) here
        ∙ ap (λ (k : ℕ). pieces_of items n + (k * pieces_of items n + polls_of_rounds items (less rounds r) n)) (sym one)
        ∙ ap (λ (k : ℕ). pieces_of items k + (less rounds r n * pieces_of items n + polls_of_rounds items (less rounds r) n)) (sym same)
    by_same false e behind =
        let earlier : r < n = grind (arith, nat_tests, e, within) in
        let stays : less rounds r n ≡ rounds n = ap (λ (b : Bool). cond b (down (rounds n)) (rounds n)) e in
        let before = behind earlier in
        ap (λ (k : ℕ). rounds n * pieces_of items n + k) before
        ∙ (let turned : rounds n * pieces_of items n + (pieces_of items r + polls_of_rounds items (less rounds r) n)
        ≡ pieces_of items r + (rounds n * pieces_of items n + polls_of_rounds items (less rounds r) n) = omega arith in turned)
        ∙ ap (λ (k : ℕ). pieces_of items r + (k * pieces_of items n + polls_of_rounds items (less rounds r) n)) (sym stays)

find_some : (p : ℕ → Bool) (n a r : ℕ) → find p (range_with_len a n) ≡ Some r → (p r ≡ true) × (r < a + n)
find_some p zero a r h = absurd (cc)
find_some p (suc n) a r h = by_test (p a) refl h (find_some p n (a + 1) r)
  where
    by_test : (b : Bool) → p a ≡ b → cond b (Some a) (find p (range_with_len (a + 1) n)) ≡ Some r
        → (find p (range_with_len (a + 1) n) ≡ Some r → (p r ≡ true) × (r < (a + 1) + n)) → (p r ≡ true) × (r < a + suc n)
    by_test true e k behind = let same : a ≡ r = some_same a r k in (ap p (sym same) ∙ e, omega (arith, same))
      where
        some_same : (x y : ℕ) → (let o : Option ℕ = Some x in let p : Option ℕ = Some y in o ≡ p) → x ≡ y
        some_same x y k = cc
    by_test false e k behind = let rest = behind k in (rest.0, omega (arith, rest.1))

-- ---- frames without idle times

no_idle_at : (n r : ℕ) → (let none : ℕ = 0 in get_or (replicate n none) r none ≡ none)
no_idle_at zero r = refl
no_idle_at (suc n) zero = refl
no_idle_at (suc n) (suc r) = no_idle_at n r

frame_due : (items : List Item) (d : ReportState) (r : ℕ) → d.idle ≡ no_idle d.idle → is_due items (after_frame d) r ≡ is_due items d r
frame_due items d r none =
    let zero_ : get_or d.idle r 0 ≡ 0 = ap (λ (xs : List ℕ). get_or xs r 0) none ∙ no_idle_at (length d.idle) r in
    ap (λ (k : ℕ). (is_changed items r d.snapshot d.fixed || is_idle_over k (get_or (after_frame d).frames r 0)) || get_or d.aborted r false) zero_
    ∙ sym (ap (λ (k : ℕ). (is_changed items r d.snapshot d.fixed || is_idle_over k (get_or d.frames r 0)) || get_or d.aborted r false) zero_)

find_alike : (p q : ℕ → Bool) → ((r : ℕ) → p r ≡ q r) → (rs : List ℕ) → find p rs ≡ find q rs
find_alike p q same [] = refl
find_alike p q same (r ∷ rs) =
    ap (λ (b : Bool). cond b (Some r) (find p rs)) (same r) ∙ ap (λ (o : Option ℕ). cond (q r) (Some r) o) (find_alike p q same rs)

frame_first : (items : List Item) (d : ReportState) → d.idle ≡ no_idle d.idle → first_due items (after_frame d) ≡ first_due items d
frame_first items d none =
    ap (λ (n : ℕ). find (is_due items (after_frame d)) (range_with_len 0 n)) (length-map d.frames (λ n. min (n + 1) most_frames))
    ∙ find_alike (is_due items (after_frame d)) (is_due items d) (λ r. frame_due items d r none) (range_with_len 0 (length d.frames))

-- ---- a device that has nothing to send stays so

rest_stays : (items : List Item) (steps : List OwnStep) (d : ReportState) (odd : Bool) (view : List ControlState) → first_due items d ≡ None
    → AreStill d.idle steps → HasNothingToSend items (state_after_steps items (link d None odd view false) steps)
rest_stays items [] d odd view none still = record { current = refl; halted = refl; none_due = none }
rest_stays items (Changes change ∷ steps) d odd view none still = absurd still.0
rest_stays items (Frame ∷ steps) d odd view none still = rest_stays items steps (after_frame d) odd view (frame_first items d still.0 ∙ none) still.1
rest_stays items (Polls TokenLost ∷ steps) d odd view none still = rest_stays items steps d odd view none still.1
rest_stays items (Polls Clean ∷ steps) d odd view none still =
    subst (λ (o : Option ℕ). HasNothingToSend items (state_after_steps items (state_after_answer items (with_open_report items (link d None odd view false) o) Clean) steps)) (sym none)
    (rest_stays items steps d odd view none still.1)
rest_stays items (Polls ReplyLost ∷ steps) d odd view none still =
    subst (λ (o : Option ℕ). HasNothingToSend items (state_after_steps items (state_after_answer items (with_open_report items (link d None odd view false) o) ReplyLost) steps)) (sym none)
    (rest_stays items steps d odd view none still.1)
rest_stays items (Polls AckLost ∷ steps) d odd view none still =
    subst (λ (o : Option ℕ). HasNothingToSend items (state_after_steps items (state_after_answer items (with_open_report items (link d None odd view false) o) AckLost) steps)) (sym none)
    (rest_stays items steps d odd view none still.1)

-- ---- each clean poll brings it nearer

-- what stays true on the way
record Nears (items : List Item) (n : ℕ) (d : ReportState) (current : Option OpenRound) (rounds : ℕ → ℕ) : Type 0 where
  snapshot : length d.snapshot ≡ length items
  fixed : length d.fixed ≡ length items
  frames : length d.frames ≡ n
  pieces : IfSome current (λ round. (round.pieces ≡ pieces_of items round.report) × (round.piece < round.pieces))
  enough : (r : ℕ) → r < n → IsEnough items d r (rounds r)

-- the clean polls that are left
abbrev left : List Item → ℕ → Option OpenRound → (ℕ → ℕ) → ℕ
left items n current rounds = polls_of_open current + polls_of_rounds items rounds n

-- what the rest of the steps come to
abbrev Rests : List Item → ℕ → List OwnStep → Type 0
Rests items n steps =
    (d : ReportState) (current : Option OpenRound) (odd : Bool) (view : List ControlState) (rounds : ℕ → ℕ) → Nears items n d current rounds
    → AreStill d.idle steps → left items n current rounds ≤ closed_count (fates_of steps)
    → HasNothingToSend items (state_after_steps items (link d current odd view false) steps)

next_piece : (items : List Item) (round : OpenRound) → (round.pieces ≡ pieces_of items round.report) × (round.piece < round.pieces)
    → (b : Bool) → is_last round ≡ b
    → IfSome (cond b None (Some (piece_after round))) (λ one. (one.pieces ≡ pieces_of items one.report) × (one.piece < one.pieces))
    × (polls_of_open (cond b None (Some (piece_after round))) + 1 ≤ round.pieces - round.piece)
next_piece items round has true e = (tt, omega (arith, has.1))
next_piece items round has false e =
    let more : round.piece + 1 < round.pieces = grind (arith, nat_tests, e) in ((has.0, more), omega (arith, more))

open_poll : (items : List Item) (n : ℕ) (steps : List OwnStep) (d : ReportState) (round : OpenRound) (odd : Bool) (view : List ControlState)
    (rounds : ℕ → ℕ) (fate : Fate) → Rests items n steps → Nears items n d (Some round) rounds → AreStill d.idle steps
    → left items n (Some round) rounds ≤ closed_count (fate ∷ fates_of steps)
    → HasNothingToSend items (state_after_steps items (state_after_answer items (link d (Some round) odd view false) fate) steps)
open_poll items n steps d round odd view rounds TokenLost rests nears still few =
    rests d (Some round) odd view rounds nears still (omega (arith, few))
open_poll items n steps d round odd view rounds ReplyLost rests nears still few =
    rests d (Some round) odd view rounds nears still (omega (arith, few))
open_poll items n steps d round odd view rounds AckLost rests nears still few =
    let s : LinkState = state_after_answer items (link d (Some round) odd view false) AckLost in
    rests d (Some (record round { crossed = true })) odd s.view rounds
    (record { snapshot = nears.snapshot; fixed = nears.fixed; frames = nears.frames; pieces = nears.pieces; enough = nears.enough })
    still (omega (arith, few))
open_poll items n steps d round odd view rounds Clean rests nears still few =
    let s : LinkState = state_after_answer items (link d (Some round) odd view false) Clean in
    let next = next_piece items round nears.pieces (is_last round) refl in
    let nearer : polls_of_open (open_next round) + 1 ≤ round.pieces - round.piece = next.1 in
    rests d (open_next round) (not odd) s.view rounds
    (record { snapshot = nears.snapshot; fixed = nears.fixed; frames = nears.frames; pieces = next.0; enough = nears.enough })
    still (omega (arith, few, nearer))

-- what is left once a round of report r opened
opens_near : (items : List Item) (n : ℕ) (d : ReportState) (rounds : ℕ → ℕ) (r : ℕ) → has_zeros items ≡ true → Nears items n d None rounds
    → first_due items d ≡ Some r
    → Nears items n (after_opening items r d) (Some (first_open_piece items r)) (less rounds r)
    × (left items n (Some (first_open_piece items r)) (less rounds r) ≡ left items n None rounds)
opens_near items n d rounds r zeros nears first =
    let found = find_some (is_due items d) (length d.frames) 0 r first in
    let within : r < n = omega (arith, found.1, nears.frames) in
    let some : 0 < rounds r = (nears.enough r within).due found.0 in
    let spends = spent items rounds r n within some in (
      record {
        snapshot = by_item_length (without_motion_of r) items d.snapshot (shown_parts items r d.snapshot d.fixed) nears.snapshot
            (by_item_length (shown_part_of r) items d.snapshot d.fixed nears.snapshot nears.fixed);
        fixed = by_item_length (shown_part_of r) items d.snapshot d.fixed nears.snapshot nears.fixed;
        frames = set_length d.frames r 0 ∙ nears.frames;
        pieces = (refl, some_piece items r);
        enough = λ q inside. enough_after items d r q rounds zeros nears.snapshot nears.fixed some (nears.enough q inside);
      },
      omega (arith, spends),
    )

-- a poll whose token arrives where no round is open
idle_poll : (items : List Item) (n : ℕ) (steps : List OwnStep) (d : ReportState) (odd : Bool) (view : List ControlState)
    (rounds : ℕ → ℕ) (fate : Fate) → has_zeros items ≡ true → Rests items n steps → Nears items n d None rounds → AreStill d.idle steps
    → left items n None rounds ≤ closed_count (fate ∷ fates_of steps)
    → (o : Option ℕ) → first_due items d ≡ o
    → HasNothingToSend items (state_after_steps items (state_after_answer items (with_open_report items (link d None odd view false) o) fate) steps)
idle_poll items n steps d odd view rounds fate zeros rests nears still few None first = rest_stays items steps d odd view first still
idle_poll items n steps d odd view rounds fate zeros rests nears still few (Some r) first =
    let nearer = opens_near items n d rounds r zeros nears first in
    let same : left items n (Some (first_open_piece items r)) (less rounds r) ≡ left items n None rounds = nearer.1 in
    open_poll items n steps (after_opening items r d) (first_open_piece items r) odd view (less rounds r) fate rests nearer.0 still (omega (arith, few, same))

some_left : (items : List Item) (n : ℕ) (d : ReportState) (rounds : ℕ → ℕ) (r : ℕ) → has_zeros items ≡ true → Nears items n d None rounds
    → first_due items d ≡ Some r → 0 < left items n None rounds
some_left items n d rounds r zeros nears first =
    let found = find_some (is_due items d) (length d.frames) 0 r first in
    let within : r < n = omega (arith, found.1, nears.frames) in
    let some : 0 < rounds r = (nears.enough r within).due found.0 in
    omega (arith, spent items rounds r n within some, some_piece items r)

at_end : (items : List Item) (n : ℕ) (d : ReportState) (odd : Bool) (view : List ControlState) (rounds : ℕ → ℕ) → has_zeros items ≡ true
    → (current : Option OpenRound) → Nears items n d current rounds → left items n current rounds ≤ 0 → HasNothingToSend items (link d current odd view false)
at_end items n d odd view rounds zeros (Some round) nears few = let has = nears.pieces.1 in absurd (omega (arith, few, has))
at_end items n d odd view rounds zeros None nears few = record { current = refl; halted = refl; none_due = by_first (first_due items d) refl }
  where
    by_first : (o : Option ℕ) → first_due items d ≡ o → o ≡ None
    by_first None e = refl
    by_first (Some r) e = let some = some_left items n d rounds r zeros nears e in absurd (omega (arith, some, few))

comes_to_rest : (items : List Item) (n : ℕ) → has_zeros items ≡ true → (steps : List OwnStep) → Rests items n steps
comes_to_rest items n zeros [] d current odd view rounds nears still few = at_end items n d odd view rounds zeros current nears few
comes_to_rest items n zeros (Changes change ∷ steps) d current odd view rounds nears still few = absurd still.0
comes_to_rest items n zeros (Frame ∷ steps) d current odd view rounds nears still few =
    comes_to_rest items n zeros steps (after_frame d) current odd view rounds
    (record {
      snapshot = nears.snapshot;
      fixed = nears.fixed;
      frames = length-map d.frames (λ n. min (n + 1) most_frames) ∙ nears.frames;
      pieces = nears.pieces;
      enough = λ r within. record {
        motions = (nears.enough r within).motions;
        due = λ due. (nears.enough r within).due (sym (frame_due items d r still.0) ∙ due);
      };
    })
    still.1 few
comes_to_rest items n zeros (Polls TokenLost ∷ steps) d None odd view rounds nears still few =
    comes_to_rest items n zeros steps d None odd view rounds nears still.1 (omega (arith, few))
comes_to_rest items n zeros (Polls Clean ∷ steps) d None odd view rounds nears still few =
    idle_poll items n steps d odd view rounds Clean zeros (comes_to_rest items n zeros steps) nears still.1 few (first_due items d) refl
comes_to_rest items n zeros (Polls ReplyLost ∷ steps) d None odd view rounds nears still few =
    idle_poll items n steps d odd view rounds ReplyLost zeros (comes_to_rest items n zeros steps) nears still.1 few (first_due items d) refl
comes_to_rest items n zeros (Polls AckLost ∷ steps) d None odd view rounds nears still few =
    idle_poll items n steps d odd view rounds AckLost zeros (comes_to_rest items n zeros steps) nears still.1 few (first_due items d) refl
comes_to_rest items n zeros (Polls TokenLost ∷ steps) d (Some round) odd view rounds nears still few =
    open_poll items n steps d round odd view rounds TokenLost (comes_to_rest items n zeros steps) nears still.1 few
comes_to_rest items n zeros (Polls Clean ∷ steps) d (Some round) odd view rounds nears still few =
    open_poll items n steps d round odd view rounds Clean (comes_to_rest items n zeros steps) nears still.1 few
comes_to_rest items n zeros (Polls ReplyLost ∷ steps) d (Some round) odd view rounds nears still few =
    open_poll items n steps d round odd view rounds ReplyLost (comes_to_rest items n zeros steps) nears still.1 few
comes_to_rest items n zeros (Polls AckLost ∷ steps) d (Some round) odd view rounds nears still few =
    open_poll items n steps d round odd view rounds AckLost (comes_to_rest items n zeros steps) nears still.1 few

-- ---- after a history

steps_keep : (items : List Item) (n : ℕ) (steps : List OwnStep) (s : LinkState) → IsInStep items n s → IsInStep items n (state_after_steps items s steps)
steps_keep items n [] s in_step = in_step
steps_keep items n (x ∷ steps) s in_step = steps_keep items n steps (state_after_step items s x) (step_keeps items n s x in_step)

pub rests_after_clean_polls : (items : List Item) (snapshot : List ControlState) (idle : List ℕ) (bus_events : List BusEvent) (rounds : ℕ → ℕ)
    (steps : List OwnStep) → RestsAfterCleanPolls items snapshot idle bus_events rounds steps
rests_after_clean_polls items snapshot idle bus_events rounds steps comes few =
    let n : ℕ = length idle in
    let s : LinkState = state_after_all items (initial_link items snapshot idle) bus_events in
    let in_step : IsInStep items n s =
    history_keeps items n bus_events (initial_link items snapshot idle) comes.each (fresh_cuts items snapshot idle) (fresh_in_step items snapshot idle comes.fits) in
    let pieces : HasPieces items s = lived_pieces items (initial_link items snapshot idle) bus_events tt in
    let near : Nears items n s.reports s.current rounds = record {
      snapshot = in_step.snapshot.each;
      fixed = in_step.fixed.each;
      frames = in_step.frames;
      pieces = pieces;
      enough = comes.enough;
    } in
    let enough : left items n s.current rounds ≤ closed_count (fates_of steps) =
    subst (λ (k : ℕ). left items k s.current rounds ≤ closed_count (fates_of steps)) in_step.frames few in
    let rests : HasNothingToSend items (state_after_steps items s steps) =
    subst (λ (h : Bool). HasNothingToSend items (state_after_steps items (link s.reports s.current s.toggle s.view h) steps)) (sym comes.going)
    (comes_to_rest items n comes.zeros steps s.reports s.current s.toggle s.view rounds near comes.still enough) in
    (rests, nothing_due_agrees items n (state_after_steps items s steps) comes.sent (steps_keep items n steps s in_step) rests)

pub rests_in_time : (k : ℕ) (items : List Item) (snapshot : List ControlState) (idle : List ℕ) (bus_events : List BusEvent) (rounds : ℕ → ℕ)
    (steps : List OwnStep) → RestsInTime k items snapshot idle bus_events rounds steps
rests_in_time k items snapshot idle bus_events rounds steps comes fair few =
    let s : LinkState = state_after_all items (initial_link items snapshot idle) bus_events in
    rests_after_clean_polls items snapshot idle bus_events rounds steps comes
    (clean_in_time k (polls_to_rest items rounds s) (fates_of steps) fair few)
