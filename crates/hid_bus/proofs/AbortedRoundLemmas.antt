-- A report whose round was aborted is due until a round of it opens.
use Rattle.std.proofs.Common.{◌≡◌, ◌<◌, ◌≤◌, ◌+◌, ◌||◌, ◌==◌, ℕ, zero, suc, Bool, true, false, cond, List, [], ◌∷◌, length, get_or, set, replicate, min, Option, Some, None, Result, Ok, Err, refl, ap, sym, ◌∙◌, subst, arith}
use Rattle.std.specs.Prelude.{IfSome}
use Rattle.std.specs.List.{find, range_with_len}
use Rattle.std.proofs.lemmas.Bool.Decides.{nat_tests, Decides-eqb}
use Rattle.std.proofs.lemmas.List.{get_or-set_same, get_or-set_other, length-map, length-replicate}
use Rattle.hid_layout.specs.Controls.{Item}
use Rattle.hid_snapshots.specs.declared.control_state.ControlState.{ControlState}
use Rattle.hid_snapshots.specs.declared.change.Change.{Change}
use Rattle.hid_snapshots.specs.declared.fault.ChangeFault.{ChangeFault}
use Rattle.hid_snapshots.specs.Parts.{is_changed}
use Rattle.hid_snapshots.specs.Snapshots.{snapshot_after}
use Rattle.hid_snapshots.proofs.FillLemmas.{set_length}
use Rattle.usb_transact.specs.declared.transaction.Fate.{Fate}
use Rattle.usb_transact.specs.declared.transaction.Fate.TheVariants.{Clean, TokenLost, ReplyLost, AckLost}
use Rattle.hid_bus.specs.ReportState.{ReportState, after_change, after_frame, due_where, is_due, is_idle_over, most_frames, with_abort}
use Rattle.hid_bus.specs.Rounds.{Changes, Frame, OwnStep, Polls}
use Rattle.hid_bus.specs.LinkState.{LinkState, OpenRound, first_open_piece, initial_link, is_last, open_next, open_report, piece_after, state_after_answer, state_after_step, state_at_token, state_before_answer, with_open_report}
use Rattle.hid_bus.specs.DeviceHistory.{BusEvent, Clears, Configures, Halts, Idles, Own, Resets, state_after, state_after_all}
use Rattle.hid_bus.specs.AbortedRounds.{AreWithoutRound, HasAbortFlags, IsStepWithout, IsWithoutRound, OpensNext, OpensNone, StaysDue, report_to_open}
use Rattle.hid_bus.proofs.HistoryLemmas.{link}

-- a round of this report was cut
abbrev IsCut : ℕ → ReportState → Type 0
IsCut r d = get_or d.aborted r false ≡ true

or_true : (b : Bool) → b || true ≡ true
or_true true = refl
or_true false = refl

cut_is_due : (items : List Item) (d : ReportState) (r : ℕ) → IsCut r d → is_due items d r ≡ true
cut_is_due items d r aborted =
    let other : Bool = is_changed items r d.snapshot d.fixed || is_idle_over (get_or d.idle r 0) (get_or d.frames r 0) in
    ap (λ (b : Bool). other || b) aborted ∙ or_true other

-- what a change makes of a standing, by what comes of it
with_states : (items : List Item) (d : ReportState) (c : Change) (P : ReportState → Type 0)
    → ((states : List ControlState)
    → P (record { snapshot = states; fixed = d.fixed; frames = d.frames; idle = d.idle; aborted = d.aborted })) → P d
    → P (after_change items d c)
with_states items d c P done refused =
    elim (snapshot_after items d.snapshot c) as
    (λ (x : Result (List ControlState) ChangeFault). P
    (elim x as
    (λ _. ReportState) [
      | Ok states ↦
          record { snapshot = states; fixed = d.fixed; frames = d.frames; idle = d.idle; aborted = d.aborted }
      | Err fault ↦
          d
    ]))
    [ Ok states ↦ done states | Err fault ↦ refused ]

-- ---- a cut stays

set_true : (bs : List Bool) (i r : ℕ) → get_or bs r false ≡ true → get_or (set bs i true) r false ≡ true
set_true [] i r h = h
set_true (b ∷ bs) zero zero h = refl
set_true (b ∷ bs) zero (suc r) h = h
set_true (b ∷ bs) (suc i) zero h = h
set_true (b ∷ bs) (suc i) (suc r) h = set_true bs i r h

still_cut : (o : Option ℕ) (d : ReportState) (r : ℕ) → IsCut r d → IsCut r (with_abort o d)
still_cut None d r aborted = aborted
still_cut (Some i) d r aborted = set_true d.aborted i r aborted

opened_by_cut : (items : List Item) (d : ReportState) (odd : Bool) (view : List ControlState) (halted : Bool)
    (due : Option ℕ) (r : ℕ) → IsCut r d → (due ≡ Some r → ⊥)
    → IsCut r (with_open_report items (link d None odd view halted) due).reports
opened_by_cut items d odd view halted None r aborted other = aborted
opened_by_cut items d odd view halted (Some i) r aborted other = get_or-set_other d.aborted i r false false (λ same. other (ap Some (sym same))) ∙ aborted

opened_cut : (items : List Item) (d : ReportState) (current : Option OpenRound) (odd : Bool)
    (view : List ControlState)
    (halted : Bool) (r : ℕ) → IsCut r d
    → (report_to_open items (link d current odd view halted) ≡ Some r → ⊥)
    → IsCut r (state_at_token items (link d current odd view halted)).reports
opened_cut items d (Some round) odd view halted r aborted other = aborted
opened_cut items d None odd view halted r aborted other = opened_by_cut items d odd view halted (due_where items halted d) r aborted other

arrived_cut : (items : List Item) (s : LinkState) (fate : Fate) (r : ℕ) → IsCut r s.reports → OpensNone items r s fate
    → IsCut r (state_before_answer items s fate).reports
arrived_cut items s TokenLost r aborted other = aborted
arrived_cut items s Clean r aborted other = opened_cut items s.reports s.current s.toggle s.view s.halted r aborted other
arrived_cut items s ReplyLost r aborted other = opened_cut items s.reports s.current s.toggle s.view s.halted r aborted other
arrived_cut items s AckLost r aborted other = opened_cut items s.reports s.current s.toggle s.view s.halted r aborted other

-- a poll's answer leaves the device as it stands
answered_stands : (items : List Item) (d : ReportState) (current : Option OpenRound) (odd : Bool)
    (view : List ControlState) (halted : Bool) (fate : Fate)
    → (state_after_answer items (link d current odd view halted) fate).reports ≡ d
answered_stands items d None odd view halted fate = refl
answered_stands items d (Some round) odd view halted Clean = refl
answered_stands items d (Some round) odd view halted TokenLost = refl
answered_stands items d (Some round) odd view halted ReplyLost = refl
answered_stands items d (Some round) odd view halted AckLost = refl

step_cut : (items : List Item) (s : LinkState) (x : OwnStep) (r : ℕ) → IsCut r s.reports → IsStepWithout items r s x
    → IsCut r (state_after_step items s x).reports
step_cut items s (Changes change) r aborted other = with_states items s.reports change (IsCut r) (λ states. aborted) aborted
step_cut items s Frame r aborted other = aborted
step_cut items s (Polls fate) r aborted other =
    let t : LinkState = state_before_answer items s fate in
    subst (IsCut r) (sym (answered_stands items t.reports t.current t.toggle t.view t.halted fate))
    (arrived_cut items s fate r aborted other)

bus_event_cut : (items : List Item) (s : LinkState) (x : BusEvent) (r : ℕ) → IsCut r s.reports
    → IsWithoutRound items r s x → IsCut r (state_after items s x).reports
bus_event_cut items s (Own x) r aborted other = step_cut items s x r aborted other
bus_event_cut items s (Idles idle) r aborted other = aborted
bus_event_cut items s Configures r aborted other = absurd other
bus_event_cut items s Halts r aborted other = still_cut (open_report s.current) s.reports r aborted
bus_event_cut items s Clears r aborted other = still_cut (open_report s.current) s.reports r aborted
bus_event_cut items s Resets r aborted other = absurd other

life_cut : (items : List Item) (bus_events : List BusEvent) (s : LinkState) (r : ℕ) → IsCut r s.reports
    → AreWithoutRound items r s bus_events → IsCut r (state_after_all items s bus_events).reports
life_cut items [] s r aborted others = aborted
life_cut items (x ∷ bus_events) s r aborted others =
    life_cut items bus_events (state_after items s x) r (bus_event_cut items s x r aborted others.0) others.1

-- a halt and a clear cut the round that is open
open_is_cut : (s : LinkState) (round : OpenRound) → s.current ≡ Some round → HasAbortFlags s
    → IsCut round.report (with_abort (open_report s.current) s.reports)
open_is_cut s round is aborts =
    let input : round.report < length s.reports.frames =
    subst (λ (o : Option OpenRound). IfSome o (λ one. one.report < length s.reports.frames)) is aborts.input in
    let within : round.report < length s.reports.aborted = omega (arith, input, aborts.one_each) in
    ap (λ (o : Option OpenRound). get_or (with_abort (open_report o) s.reports).aborted round.report false) is
    ∙ get_or-set_same s.reports.aborted round.report true false within

pub halts_stay : (items : List Item) (s : LinkState) (bus_events : List BusEvent) → StaysDue items s Halts bus_events
halts_stay items s bus_events round is aborts others =
    cut_is_due items (state_after_all items s (Halts ∷ bus_events)).reports round.report
    (life_cut items bus_events (state_after items s Halts) round.report (open_is_cut s round is aborts) others)

pub clears_stay : (items : List Item) (s : LinkState) (bus_events : List BusEvent)
    → StaysDue items s Clears bus_events
clears_stay items s bus_events round is aborts others =
    cut_is_due items (state_after_all items s (Clears ∷ bus_events)).reports round.report
    (life_cut items bus_events (state_after items s Clears) round.report (open_is_cut s round is aborts) others)

-- ---- the next round

-- the first of these numbers that pass a test, where r does
record FindsFirst (p : ℕ → Bool) (a n r : ℕ) : Type 0 where
  first : ℕ
  upto : first ≤ r
  holds : p first ≡ true
  found : find p (range_with_len a n) ≡ Some first

-- what a test tells apart differs
past : (p : ℕ → Bool) (a r : ℕ) → a ≤ r → p a ≡ false → p r ≡ true → a + 1 ≤ r
past p a r from missed holds = by_same (a == r) refl
  where
    by_same : (b : Bool) → (a == r) ≡ b → a + 1 ≤ r
    by_same true e = let same : a ≡ r = (Decides-eqb a r).0 e in let bad : true ≡ false = sym holds ∙ ap p (sym same) ∙ missed in absurd (cc)
    by_same false e = grind (arith, nat_tests, e, from)

find_first : (p : ℕ → Bool) (n a r : ℕ) → a ≤ r → r < a + n → p r ≡ true → FindsFirst p a n r
find_first p zero a r from to holds = absurd (omega (arith, from, to))
find_first p (suc n) a r from to holds = by_test (p a) refl (λ later. find_first p n (a + 1) r later (omega (arith, to)) holds)
  where
    by_test : (b : Bool) → p a ≡ b → (a + 1 ≤ r → FindsFirst p (a + 1) n r) → FindsFirst p a (suc n) r
    by_test true e behind = record { first = a; upto = from; holds = e; found = ap (λ (b : Bool). cond b (Some a) (find p (range_with_len (a + 1) n))) e }
    by_test false e behind =
        let rest : FindsFirst p (a + 1) n r = behind (past p a r from e holds) in
        record {
          first = rest.first;
          upto = rest.upto;
          holds = rest.holds;
          found = ap (λ (b : Bool). cond b (Some a) (find p (range_with_len (a + 1) n))) e ∙ rest.found;
        }

opens_due : (items : List Item) (d : ReportState) (odd : Bool) (view : List ControlState) (r : ℕ)
    → r < length d.frames → is_due items d r ≡ true
    → (first : ℕ) × (first ≤ r) × (is_due items d first ≡ true)
    × ((state_at_token items (link d None odd view false)).current ≡ Some (first_open_piece items first))
opens_due items d odd view r within due =
    let one = find_first (is_due items d) (length d.frames) 0 r (omega arith) (omega (arith, within)) due in (
      one.first,
      one.upto,
      one.holds,
      ap (λ (o : Option ℕ). (with_open_report items (link d None odd view false) o).current) one.found,
    )

pub opens_next : (items : List Item) (s : LinkState) (r : ℕ) → OpensNext items s r
opens_next items s r none_open going within due =
    subst (λ (o : Option OpenRound). (first : ℕ) × (first ≤ r) × (is_due items s.reports first ≡ true)
    × ((state_at_token items (link s.reports o s.toggle s.view s.halted)).current
    ≡ Some (first_open_piece items first))) (sym none_open)
    (subst (λ (h : Bool). (first : ℕ) × (first ≤ r) × (is_due items s.reports first ≡ true)
    × ((state_at_token items (link s.reports None s.toggle s.view h)).current
    ≡ Some (first_open_piece items first))) (sym going)
    (opens_due items s.reports s.toggle s.view r within due))

-- ---- each report has its cut

some_same : (x y : ℕ) → (let o : Option ℕ = Some x in let p : Option ℕ = Some y in o ≡ p) → x ≡ y
some_same x y k = cc

find_within : (p : ℕ → Bool) (n a r : ℕ) → find p (range_with_len a n) ≡ Some r → r < a + n
find_within p zero a r h = absurd (cc)
find_within p (suc n) a r h = by_test (p a) h (find_within p n (a + 1) r)
  where
    by_test : (b : Bool) → cond b (Some a) (find p (range_with_len (a + 1) n)) ≡ Some r → (find p (range_with_len (a + 1) n) ≡ Some r → r < (a + 1) + n) → r < a + suc n
    by_test true e behind = let same : a ≡ r = some_same a r e in omega (arith, same)
    by_test false e behind = let later : r < (a + 1) + n = behind e in omega (arith, later)

opened_by_cuts : (items : List Item) (d : ReportState) (odd : Bool) (view : List ControlState) (halted : Bool)
    (due : Option ℕ) → length d.aborted ≡ length d.frames
    → ((r : ℕ) → due ≡ Some r → r < length d.frames)
    → HasAbortFlags (with_open_report items (link d None odd view halted) due)
opened_by_cuts items d odd view halted None each input = record { one_each = each; input = tt }
opened_by_cuts items d odd view halted (Some r) each input = record {
  one_each = set_length d.aborted r false ∙ each ∙ sym (set_length d.frames r 0);
  input = let within : r < length d.frames = input r refl in omega (arith, within, set_length d.frames r 0);
}

due_within : (items : List Item) (halted : Bool) (d : ReportState) (r : ℕ) → due_where items halted d ≡ Some r
    → r < length d.frames
due_within items true d r h = absurd (cc)
due_within items false d r h = omega (arith, find_within (is_due items d) (length d.frames) 0 r h)

opened_cuts : (items : List Item) (d : ReportState) (current : Option OpenRound) (odd : Bool)
    (view : List ControlState)
    (halted : Bool) → HasAbortFlags (link d current odd view halted)
    → HasAbortFlags (state_at_token items (link d current odd view halted))
opened_cuts items d (Some round) odd view halted aborts = aborts
opened_cuts items d None odd view halted aborts = opened_by_cuts items d odd view halted (due_where items halted d) aborts.one_each (due_within items halted d)

arrived_cuts : (items : List Item) (s : LinkState) (fate : Fate) → HasAbortFlags s
    → HasAbortFlags (state_before_answer items s fate)
arrived_cuts items s TokenLost aborts = aborts
arrived_cuts items s Clean aborts = opened_cuts items s.reports s.current s.toggle s.view s.halted aborts
arrived_cuts items s ReplyLost aborts = opened_cuts items s.reports s.current s.toggle s.view s.halted aborts
arrived_cuts items s AckLost aborts = opened_cuts items s.reports s.current s.toggle s.view s.halted aborts

-- the next piece is of the same report
next_input : (round : OpenRound) (n : ℕ) → round.report < n → IfSome (open_next round) (λ one. one.report < n)
next_input round n h =
    elim (is_last round) as (λ (b : Bool). IfSome (cond b None (Some (piece_after round))) (λ one. one.report < n))
    [ true ↦ tt | false ↦ h ]

answered_cuts : (items : List Item) (d : ReportState) (current : Option OpenRound) (odd : Bool)
    (view : List ControlState)
    (halted : Bool) (fate : Fate) → HasAbortFlags (link d current odd view halted)
    → HasAbortFlags (state_after_answer items (link d current odd view halted) fate)
answered_cuts items d None odd view halted fate aborts = aborts
answered_cuts items d (Some round) odd view halted Clean aborts = record { one_each = aborts.one_each; input = next_input round (length d.frames) aborts.input }
answered_cuts items d (Some round) odd view halted TokenLost aborts = aborts
answered_cuts items d (Some round) odd view halted ReplyLost aborts = aborts
answered_cuts items d (Some round) odd view halted AckLost aborts = record { one_each = aborts.one_each; input = aborts.input }

changed_cuts : (items : List Item) (s : LinkState) (c : Change) → HasAbortFlags s
    → HasAbortFlags (record s { reports = after_change items s.reports c })
changed_cuts items s c aborts =
    with_states items s.reports c (λ (d : ReportState). HasAbortFlags (record s { reports = d }))
    (λ states. record { one_each = aborts.one_each; input = aborts.input }) (record { one_each = aborts.one_each; input = aborts.input })

input_along : (m n : ℕ) (current : Option OpenRound) → n ≡ m → IfSome current (λ round. round.report < m)
    → IfSome current (λ round. round.report < n)
input_along m n current same h = subst (λ (k : ℕ). IfSome current (λ round. round.report < k)) (sym same) h

step_cuts : (items : List Item) (s : LinkState) (x : OwnStep) → HasAbortFlags s
    → HasAbortFlags (state_after_step items s x)
step_cuts items s (Changes change) aborts = changed_cuts items s change aborts
step_cuts items s Frame aborts =
    let same : length (after_frame s.reports).frames ≡ length s.reports.frames =
    length-map s.reports.frames (λ n. min (n + 1) most_frames) in
    record {
      one_each = aborts.one_each ∙ sym same;
      input =
          input_along (length s.reports.frames) (length (after_frame s.reports).frames) s.current same aborts.input;
    }
step_cuts items s (Polls fate) aborts =
    let t : LinkState = state_before_answer items s fate in
    answered_cuts items t.reports t.current t.toggle t.view t.halted fate (arrived_cuts items s fate aborts)

cut_each : (o : Option ℕ) (d : ReportState) → length d.aborted ≡ length d.frames
    → length (with_abort o d).aborted ≡ length (with_abort o d).frames
cut_each None d each = each
cut_each (Some r) d each = set_length d.aborted r true ∙ each

configured_each : (idle : List ℕ) → (let aborted : List Bool = replicate (length idle) false in length aborted) ≡ (let frames : List ℕ = replicate (length idle) 0 in length frames)
configured_each idle = length-replicate (length idle) false ∙ sym (length-replicate (length idle) 0)

bus_event_cuts : (items : List Item) (s : LinkState) (x : BusEvent) → HasAbortFlags s
    → HasAbortFlags (state_after items s x)
bus_event_cuts items s (Own x) aborts = step_cuts items s x aborts
bus_event_cuts items s (Idles idle) aborts = record { one_each = aborts.one_each; input = aborts.input }
bus_event_cuts items s Configures aborts = record { one_each = configured_each s.reports.idle; input = tt }
bus_event_cuts items s Halts aborts =
    record { one_each = cut_each (open_report s.current) s.reports aborts.one_each; input = tt }
bus_event_cuts items s Clears aborts =
    record { one_each = cut_each (open_report s.current) s.reports aborts.one_each; input = tt }
bus_event_cuts items s Resets aborts =
    record { one_each = configured_each (replicate (length s.reports.idle) 0); input = tt }

pub lived_cuts : (items : List Item) (s : LinkState) (bus_events : List BusEvent) → HasAbortFlags s
    → HasAbortFlags (state_after_all items s bus_events)
lived_cuts items s [] aborts = aborts
lived_cuts items s (x ∷ bus_events) aborts =
    lived_cuts items (state_after items s x) bus_events (bus_event_cuts items s x aborts)

pub fresh_cuts : (items : List Item) (snapshot : List ControlState) (idle : List ℕ)
    → HasAbortFlags (initial_link items snapshot idle)
fresh_cuts items snapshot idle = record { one_each = configured_each idle; input = tt }
