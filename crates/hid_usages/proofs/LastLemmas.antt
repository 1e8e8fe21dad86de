-- What is known of the last report of each number goes on holding, whichever report is read next.
use Rattle.std.proofs.Common.{◌≡◌, ◌≢◌, ℕ, ◌+◌, ◌*◌, ◌/◌, ◌%◌, ◌<◌, ◌≤◌, ◌==◌, ◌⊎◌, inl, inr, Bool, true, false, cond, not, List, [], ◌∷◌, ◌++◌, length, map, take, get_or, zero, suc, Option, Some, None, ℤ, refl, sym, ap, ◌∙◌, subst, arith, nat_lt, Result, Ok, Err}
use Rattle.std.specs.List.{slice_get, slice_set, position}
use Rattle.std.specs.Option.{option_and_then}
use Rattle.std.specs.Int.{bit_at}
use Rattle.std.specs.Bool.{OnFalse}
use Rattle.std.proofs.lemmas.List.{get_or-take, length-take-le}
use Rattle.std.proofs.lemmas.Bool.Decides.{nat_tests}
use Rattle.std.proofs.lemmas.Bool.{cases_lt}
use Rattle.std.proofs.lemmas.Option.{slice_get-get_or}
use Rattle.hid_fields.specs.Field.{bit_of}
use Rattle.hid_fields.specs.Value.{is_negative}
use Rattle.hid_report_descriptor.specs.Fields.{is_padding}
use Rattle.hid_layout.specs.declared.main_item.MainItem.{MainItem}
use Rattle.hid_layout.specs.Layout.{Contents}
use Rattle.hid_layout.specs.Reports.{IsLayout, first_bit, report_bytes}
use Rattle.hid_snapshots.specs.declared.control_state.ControlState.{ControlState}
use Rattle.hid_snapshots.specs.declared.event.Event.{Event}
use Rattle.hid_snapshots.specs.declared.fault.ReportFault.{ReportFault}
use Rattle.hid_snapshots.specs.declared.fault.ReportFault.TheVariants.{Short}
use Rattle.hid_snapshots.proofs.CodeLemmas.{both_true}
use Rattle.hid_snapshots.proofs.NumberLemmas.{numbers_in-agree}
use Rattle.hid_usages.specs.declared.changed_bits.BitSpan.{BitSpan}
use Rattle.hid_usages.specs.declared.plan.ReportPlan.{ReportPlan}
use Rattle.hid_usages.specs.declared.planned_report.PlannedReport.{PlannedReport}
use Rattle.hid_usages.specs.declared.report_plans.ReportPlans.{ReportPlans}
use Rattle.hid_usages.specs.ChangedBits.{HoldBits}
use Rattle.hid_usages.specs.Known.{Knows}
use Rattle.hid_usages.specs.Plans.{IsPlan}
use Rattle.hid_usages.specs.PlannedReports.{last_bytes, HasPlan, IsPlannedAnew, ArePlannedAnew, Keeps, IsPlannedReport, IsIndex, ArePlanned, KnowsOutside, without_last}
use Rattle.hid_usages.specs.Reading.{item_numbers, is_data_in, first_byte, is_input_with, whole_report, report_named, report_begun}
use Rattle.hid_usages.specs.Taking.{state_after_report_at, events_of_report_at, state_after_numbers_at, events_of_numbers_at, view_from_item, events_from_item, read_view, read_events}
use Rattle.hid_snapshots.specs.Parts.{IsInput}
use Rattle.hid_snapshots.proofs.FillLemmas.{set_length}
use Rattle.hid_snapshots.proofs.ItemLemmas.{set_here, set_there}
use Rattle.hid_usages.proofs.BitLemmas.{same_number}
use Rattle.hid_usages.proofs.FixedLemmas.{after_item, view_again, view_other}
use Rattle.hid_usages.proofs.TakeLemmas.{found_input}

-- what holds where a test fails
pub holds_off : {P : Type 0} (b : Bool) → OnFalse b P → b ≡ false → P
holds_off false h e = h
holds_off true h e = absurd (cc)

pub bit_of_take : (bytes : List ℕ) (n k : ℕ) → k < 8 * n → bit_of (take n bytes) k ≡ bit_of bytes k
bit_of_take bytes n k within = ap (λ (b : ℕ). bit_at b (k % 8)) (get_or-take n bytes (k / 8) 0 (omega arith))

-- the bits of a report are the same in both
abbrev pub AgreeIn : Contents → ℕ → List ℕ → List ℕ → Type 0
AgreeIn layout r xs ys = (k : ℕ) → k < 8 * report_bytes layout r → bit_of xs k ≡ bit_of ys k

-- the numbers of an item stand in the bytes of its report
same_numbers_in : (layout : Contents) (r : ℕ) (xs ys : List ℕ) (i : ℕ) (m : MainItem) → IsLayout layout → slice_get layout.items i ≡ Some m → m.report ≡ r → AgreeIn layout r xs ys → item_numbers layout xs m ≡ item_numbers layout ys m
same_numbers_in layout r xs ys i m laid listed is agree =
    numbers_in-agree xs ys (first_bit layout + m.offset) m.size (is_negative m.min) m.count
    (λ k low high. agree k (omega (arith, laid.inside i m listed, ap (report_bytes layout) is)))

abbrev told_item : Contents → ℕ → List ℕ → ℕ → Option MainItem → ControlState → List Event
told_item layout r bytes i o state = elim o as (λ _. List Event) [
  | None ↦ []
  | Some m ↦ cond (is_data_in r m) (events_of_numbers_at layout i m state (state_after_numbers_at layout i m state (item_numbers layout bytes m)) (item_numbers layout bytes m)) []
]

-- What an item is read as, and its events, are by these bits alone.
place_agree : (layout : Contents) (r : ℕ) (whole bytes : List ℕ) (i : ℕ) (state : ControlState) → IsLayout layout → AgreeIn layout r whole bytes
    → (state_after_report_at layout r whole i state ≡ state_after_report_at layout r bytes i state) × (events_of_report_at layout r whole i state ≡ events_of_report_at layout r bytes i state)
place_agree layout r whole bytes i state laid agree = of_item (slice_get layout.items i) refl
  where
    of_item : (o : Option MainItem) → slice_get layout.items i ≡ o
        → (after_item layout r whole i o state ≡ after_item layout r bytes i o state) × (told_item layout r whole i o state ≡ told_item layout r bytes i o state)
    of_item None listed = (refl, refl)
    of_item (Some m) listed = of_data (is_data_in r m) refl
      where
        of_data : (b : Bool) → is_data_in r m ≡ b
            → (cond b (state_after_numbers_at layout i m state (item_numbers layout whole m)) state ≡ cond b (state_after_numbers_at layout i m state (item_numbers layout bytes m)) state)
            × (cond b (events_of_numbers_at layout i m state (state_after_numbers_at layout i m state (item_numbers layout whole m)) (item_numbers layout whole m)) []
            ≡ cond b (events_of_numbers_at layout i m state (state_after_numbers_at layout i m state (item_numbers layout bytes m)) (item_numbers layout bytes m)) [])
        of_data false e = (refl, refl)
        of_data true e =
            let is : m.report ≡ r = same_number m.report r (both_true (m.report == r) (not (is_padding m.shape)) e).0 in
            let same = same_numbers_in layout r whole bytes i m laid listed is agree in
            (ap (λ (vs : List ℤ). state_after_numbers_at layout i m state vs) same, ap (λ (vs : List ℤ). events_of_numbers_at layout i m state (state_after_numbers_at layout i m state vs) vs) same)

from_agree : (layout : Contents) (r : ℕ) (whole bytes : List ℕ) (i : ℕ) (states : List ControlState) → IsLayout layout → AgreeIn layout r whole bytes
    → (view_from_item layout r whole i states ≡ view_from_item layout r bytes i states) × (events_from_item layout r whole i states ≡ events_from_item layout r bytes i states)
from_agree layout r whole bytes i [] laid agree = (refl, refl)
from_agree layout r whole bytes i (c ∷ states) laid agree =
    let here = place_agree layout r whole bytes i c laid agree in
    let rest = from_agree layout r whole bytes (i + 1) states laid agree in
    (rw (here.0, rest.0) refl, rw (here.1, rest.1) refl)

-- Bytes that have the same bits in a report are read as the same.
pub view_agree : (layout : Contents) (r : ℕ) (whole bytes : List ℕ) (view : List ControlState) → IsLayout layout → AgreeIn layout r whole bytes
    → (read_view layout r whole view ≡ read_view layout r bytes view) × (read_events layout r whole view ≡ read_events layout r bytes view)
view_agree layout r whole bytes view laid agree = from_agree layout r whole bytes 0 view laid agree

-- what another report leaves of the items of a report tells the same
pub told_other : (layout : Contents) (r s : ℕ) (bytes others : List ℕ) (i : ℕ) (states : List ControlState) → r ≢ s → events_from_item layout r bytes i (view_from_item layout s others i states) ≡ events_from_item layout r bytes i states
told_other layout r s bytes others i [] apart = refl
told_other layout r s bytes others i (c ∷ states) apart = rw (of_item (slice_get layout.items i), told_other layout r s bytes others (i + 1) states apart) refl
  where
    of_item : (o : Option MainItem) → told_item layout r bytes i o (after_item layout s others i o c) ≡ told_item layout r bytes i o c
    of_item None = refl
    of_item (Some m) = of_data (is_data_in r m) (is_data_in s m) refl refl
      where
        tells : ControlState → List Event
        tells state = events_of_numbers_at layout i m state (state_after_numbers_at layout i m state (item_numbers layout bytes m)) (item_numbers layout bytes m)

        of_data : (a b : Bool) → is_data_in r m ≡ a → is_data_in s m ≡ b → cond a (tells (cond b (state_after_numbers_at layout i m c (item_numbers layout others m)) c)) [] ≡ cond a (tells c) []
        of_data false b e g = refl
        of_data true false e g = refl
        of_data true true e g =
            let one : m.report ≡ r = same_number m.report r (both_true (m.report == r) (not (is_padding m.shape)) e).0 in
            let two : m.report ≡ s = same_number m.report s (both_true (m.report == s) (not (is_padding m.shape)) g).0 in
            absurd (apart (sym one ∙ two))

one_or_other : (r s : ℕ) → (r ≡ s) ⊎ (r ≢ s)
one_or_other r s = elim (cases_lt r s) [
  | inl low ↦ inr (λ e. omega (arith, low, e))
  | inr high ↦ elim (cases_lt s r) [
    | inl more ↦ inr (λ e. omega (arith, more, e))
    | inr less ↦ inl (omega (arith, high, less))
  ]
]

not_less : (a b : ℕ) → nat_lt a b ≡ false → b ≤ a
not_less a b h = grind (arith, nat_tests)

-- bytes that name a report fill it
pub named_whole : (layout : Contents) (bytes : List ℕ) (r : ℕ) → report_named layout bytes ≡ Ok r → report_bytes layout r ≤ length bytes
named_whole layout bytes r h = by_numbered layout.numbered h
  where
    of_size : (n : ℕ) (b : Bool) → nat_lt (length bytes) (report_bytes layout n) ≡ b → (let a : Result ℕ ReportFault = Err Short in cond b a (Ok n)) ≡ Ok r → report_bytes layout r ≤ length bytes
    of_size n true t e = absurd (cc)
    of_size n false t e =
        let is : n ≡ r = cc in
        subst (λ (k : ℕ). report_bytes layout k ≤ length bytes) is (not_less (length bytes) (report_bytes layout n) t)

    of_found : (o : Option ℕ) → whole_report layout bytes o ≡ Ok r → report_bytes layout r ≤ length bytes
    of_found None k = absurd (cc)
    of_found (Some n) k = of_size n (nat_lt (length bytes) (report_bytes layout n)) refl k

    of_byte : (o : Option ℕ) → elim o as (λ _. Result ℕ ReportFault) [ None ↦ Err Short | Some id ↦ whole_report layout bytes (position (is_input_with id) layout.reports) ] ≡ Ok r → report_bytes layout r ≤ length bytes
    of_byte None k = absurd (cc)
    of_byte (Some id) k = of_found (position (is_input_with id) layout.reports) k

    by_numbered : (b : Bool) → cond b (elim (first_byte bytes) as (λ _. Result ℕ ReportFault) [ None ↦ Err Short | Some id ↦ whole_report layout bytes (position (is_input_with id) layout.reports) ]) (whole_report layout bytes (position (is_input_with 0) layout.reports)) ≡ Ok r → report_bytes layout r ≤ length bytes
    by_numbered true k = of_byte (first_byte bytes) k
    by_numbered false k = of_found (position (is_input_with 0) layout.reports) k

not_short : (a b : ℕ) → b ≤ a → nat_lt a b ≡ false
not_short a b h = grind (arith, nat_tests)

is_short : (a b : ℕ) → a < b → nat_lt a b ≡ true
is_short a b h = grind (arith, nat_tests)

-- the report that bytes name is the one that they begin
named_as_begun : (layout : Contents) (bytes : List ℕ) (r : ℕ) → report_begun layout bytes ≡ Some r → report_named layout bytes ≡ whole_report layout bytes (Some r)
named_as_begun layout bytes r h = by_numbered layout.numbered h
  where
    of_byte : (o : Option ℕ) → option_and_then (λ id. position (is_input_with id) layout.reports) o ≡ Some r
        → elim o as (λ _. Result ℕ ReportFault) [ None ↦ Err Short | Some id ↦ whole_report layout bytes (position (is_input_with id) layout.reports) ] ≡ whole_report layout bytes (Some r)
    of_byte None k = absurd (cc)
    of_byte (Some id) k = ap (whole_report layout bytes) k

    by_numbered : (b : Bool) → cond b (option_and_then (λ id. position (is_input_with id) layout.reports) (first_byte bytes)) (position (is_input_with 0) layout.reports) ≡ Some r
        → cond b (elim (first_byte bytes) as (λ _. Result ℕ ReportFault) [ None ↦ Err Short | Some id ↦ whole_report layout bytes (position (is_input_with id) layout.reports) ]) (whole_report layout bytes (position (is_input_with 0) layout.reports)) ≡ whole_report layout bytes (Some r)
    by_numbered true k = of_byte (first_byte bytes) k
    by_numbered false k = ap (whole_report layout bytes) k

-- bytes that begin an Input report, and fill it, name it
pub begun_named : (layout : Contents) (bytes : List ℕ) (r : ℕ) → report_begun layout bytes ≡ Some r → report_bytes layout r ≤ length bytes → report_named layout bytes ≡ Ok r
begun_named layout bytes r h long = named_as_begun layout bytes r h ∙ ap (λ (b : Bool). let a : Result ℕ ReportFault = Err Short in cond b a (Ok r)) (not_short (length bytes) (report_bytes layout r) long)

-- fewer are too short
pub begun_short : (layout : Contents) (bytes : List ℕ) (r : ℕ) → report_begun layout bytes ≡ Some r → length bytes < report_bytes layout r → report_named layout bytes ≡ Err Short
begun_short layout bytes r h short = named_as_begun layout bytes r h ∙ ap (λ (b : Bool). let a : Result ℕ ReportFault = Err Short in cond b a (Ok r)) (is_short (length bytes) (report_bytes layout r) short)

pub begun_input : (layout : Contents) (bytes : List ℕ) (r : ℕ) → report_begun layout bytes ≡ Some r → IsInput layout r
begun_input layout bytes r h = by_numbered layout.numbered h
  where
    of_byte : (o : Option ℕ) → option_and_then (λ id. position (is_input_with id) layout.reports) o ≡ Some r → IsInput layout r
    of_byte None k = absurd (cc)
    of_byte (Some id) k = found_input id layout r k

    by_numbered : (b : Bool) → cond b (option_and_then (λ id. position (is_input_with id) layout.reports) (first_byte bytes)) (position (is_input_with 0) layout.reports) ≡ Some r → IsInput layout r
    by_numbered true k = of_byte (first_byte bytes) k
    by_numbered false k = found_input 0 layout r k

-- outside of the bits that changed, those of a report are those of the last one
pub known_by_last : (layout : Contents) (r : ℕ) (view : List ControlState) (planned : PlannedReport) (bytes : List ℕ) (span : BitSpan) → IsLayout layout → IsPlannedReport layout r view planned → planned.room ≤ length bytes
    → KnowsOutside planned (take planned.room bytes) span → Knows layout r bytes planned.last.items span view
known_by_last layout r view planned bytes span laid is long agrees =
    let within : (n : ℕ) → n < 8 * report_bytes layout r → n < 8 * length (take planned.room bytes) = λ n low. omega (arith, low, is.plan.room, length-take-le planned.room bytes long) in
    record {
      same = λ n low outside. sym (bit_of_take bytes planned.room n (omega (arith, low, is.plan.room))) ∙ sym (agrees n (within n low) outside).1;
      left = λ n low outside.
          (view_agree layout r planned.last.items (last_bytes planned) view laid (λ k inside. sym (bit_of_take planned.last.items planned.room k (omega (arith, inside, is.plan.room))))).0
          ∙ is.left (agrees n (within n low) outside).0;
    }

-- a report with the bits of the last one
pub same_bits : (layout : Contents) (r : ℕ) (view : List ControlState) (planned : PlannedReport) (bytes : List ℕ) → IsLayout layout → IsPlannedReport layout r view planned → planned.is_known ≡ true → planned.room ≤ length bytes
    → HoldBits planned.last.items (take planned.room bytes)
    → (read_view layout r bytes view ≡ view) × (planned.is_silent ≡ true → read_events layout r bytes view ≡ [])
same_bits layout r view planned bytes laid is known long agrees =
    let same = view_agree layout r bytes (last_bytes planned) view laid (λ n low.
    let here : n < 8 * planned.room = omega (arith, low, is.plan.room) in
    sym (bit_of_take bytes planned.room n here) ∙ sym (agrees n (omega (arith, here, length-take-le planned.room bytes long))) ∙ sym (bit_of_take planned.last.items planned.room n here)) in
    (same.0 ∙ is.left known, λ e. same.1 ∙ is.silent known e)

-- a report that is read is the last one then
pub planned_read : (layout : Contents) (r : ℕ) (view view' : List ControlState) (planned planned' : PlannedReport) (silent : Bool) (bytes : List ℕ) → IsLayout layout → HasPlan layout r planned → planned.room ≤ length bytes
    → Keeps planned bytes silent planned' → view' ≡ read_view layout r bytes view → (silent ≡ true → read_events layout r bytes view' ≡ []) → IsPlannedReport layout r view' planned'
planned_read layout r view view' planned planned' silent bytes laid plan long keeps read none =
    let agree : AgreeIn layout r (last_bytes planned') bytes = λ k within.
    let low : k < 8 * planned.room = omega (arith, within, plan.room) in
    let kept : k < 8 * length (take planned.room bytes) = omega (arith, low, length-take-le planned.room bytes long) in
    bit_of_take planned'.last.items planned'.room k (omega (arith, low, keeps.room)) ∙ keeps.bits k kept ∙ bit_of_take bytes planned.room k low
    in
    let whole = view_agree layout r (last_bytes planned') bytes view' laid agree in
    record {
      plan = record {
        room = keeps.room ∙ plan.room;
        kept = keeps.kept;
        plan = subst (λ (p : ReportPlan). IsPlan layout r p) (sym keeps.plan) plan.plan;
      };
      left = λ known. whole.0 ∙ subst (λ (v : List ControlState). read_view layout r bytes v ≡ v) (sym read) (view_again layout r bytes view);
      silent = λ known e. whole.1 ∙ none (sym keeps.quiet ∙ e);
    }

-- what is known of the last report goes on holding after another one
planned_other : (layout : Contents) (view : List ControlState) (r s : ℕ) (bytes : List ℕ) (planned : PlannedReport) → IsPlannedReport layout s view planned → r ≢ s → IsPlannedReport layout s (read_view layout r bytes view) planned
planned_other layout view r s bytes planned is apart = record {
  plan = is.plan;
  left = λ known. view_other layout s r (last_bytes planned) bytes view (λ e. apart (sym e)) (is.left known);
  silent = λ known e. told_other layout s r (last_bytes planned) bytes 0 view (λ e. apart (sym e)) ∙ is.silent known e;
}

-- what stands at a place once one is put at a place
set_cases : {A : Type 0} (xs : List A) (r s : ℕ) (new x : A) → r < length xs → slice_get (slice_set xs r new) s ≡ Some x → ((r ≡ s) × (new ≡ x)) ⊎ ((r ≢ s) × (slice_get xs s ≡ Some x))
set_cases xs r s new x within h = elim (one_or_other r s) [
  | inl e ↦
      let here : slice_get (slice_set xs r new) s ≡ Some new = subst (λ (n : ℕ). slice_get (slice_set xs r new) n ≡ Some new) e (set_here xs r new within) in
      let one : Some new ≡ Some x = sym here ∙ h in
      let same : new ≡ x = cc in
      inl (e, same)
  | inr ne ↦ inr (ne, sym (set_there xs r s new ne) ∙ h)
]

-- THE INVARIANT OF ALL REPORTS: what is kept of each leaves the view, whichever one is read next.
pub plans_read : (layout : Contents) (view view' : List ControlState) (plans plans' : ReportPlans) (r : ℕ) (bytes : List ℕ) (planned' : PlannedReport) → ArePlanned layout view plans → r < length plans.reports.items
    → view' ≡ read_view layout r bytes view → IsPlannedReport layout r view' planned' → plans'.index.items ≡ plans.index.items → plans'.reports.items ≡ slice_set plans.reports.items r planned'
    → ArePlanned layout view' plans'
plans_read layout view view' plans plans' r bytes planned' are within read now index reports = record {
  index = subst (λ (xs : List ℕ). IsIndex layout xs) (sym index) are.index;
  there = λ s input. omega (arith, are.there s input, ap (λ (xs : List PlannedReport). length xs) reports, set_length plans.reports.items r planned');
  each = λ s x h. elim (set_cases plans.reports.items r s planned' x within (ap (λ (xs : List PlannedReport). slice_get xs s) (sym reports) ∙ h)) [
    | inl a ↦ subst (λ (n : ℕ). IsPlannedReport layout n view' x) a.0 (subst (λ (p : PlannedReport). IsPlannedReport layout r view' p) a.1 now)
    | inr b ↦ subst (λ (v : List ControlState). IsPlannedReport layout s v x) (sym read) (planned_other layout view r s bytes x (are.each s x b.1) b.0)
  ];
}

-- of a report that none came of nothing is claimed of the view
pub planned_anew : (layout : Contents) (r : ℕ) (view : List ControlState) (planned : PlannedReport) → HasPlan layout r planned → planned.is_known ≡ false → IsPlannedReport layout r view planned
planned_anew layout r view planned plan none = record {
  plan = plan;
  left = λ known. absurd (let e : true ≡ false = sym known ∙ none in cc);
  silent = λ known quiet. absurd (let e : true ≡ false = sym known ∙ none in cc);
}

-- an element of a list with one more
snoc_cases : {A : Type 0} (xs : List A) (x : A) (r : ℕ) (y : A) → slice_get (xs ++ x ∷ []) r ≡ Some y → (slice_get xs r ≡ Some y) ⊎ ((r ≡ length xs) × (x ≡ y))
snoc_cases [] x zero y h = let e : x ≡ y = cc in inr (refl, e)
snoc_cases [] x (suc r) y h = absurd (cc)
snoc_cases (z ∷ xs) x zero y h = inl h
snoc_cases (z ∷ xs) x (suc r) y h = elim (snoc_cases xs x r y h) [
  | inl a ↦ inl a
  | inr b ↦ inr (ap suc b.0, b.1)
]

-- one report more is planned
pub anew_next : (layout : Contents) (reports reports' : List PlannedReport) (n : ℕ) (planned : PlannedReport) → length reports ≡ n → ((r : ℕ) (p : PlannedReport) → slice_get reports r ≡ Some p → IsPlannedAnew layout r p) → IsPlannedAnew layout n planned
    → reports' ≡ reports ++ planned ∷ [] → (r : ℕ) (p : PlannedReport) → slice_get reports' r ≡ Some p → IsPlannedAnew layout r p
anew_next layout reports reports' n planned len each now next r p h = elim (snoc_cases reports planned r p (ap (λ (xs : List PlannedReport). slice_get xs r) (sym next) ∙ h)) [
  | inl a ↦ each r p a
  | inr b ↦ subst (λ (k : ℕ). IsPlannedAnew layout k p) (let e : n ≡ r = omega (arith, len, b.0) in e) (subst (λ (q : PlannedReport). IsPlannedAnew layout n q) b.1 now)
]

-- reports of which none came suit any view
pub all_anew : (layout : Contents) (view : List ControlState) (plans : ReportPlans) → IsIndex layout plans.index.items → ArePlannedAnew layout plans.reports.items → ArePlanned layout view plans
all_anew layout view plans index anew = record {
  index = index;
  there = anew.there;
  each = λ r p h. planned_anew layout r view p (anew.each r p h).plan (anew.each r p h).none;
}

forgotten_from : (reports : List PlannedReport) (r : ℕ) (p : PlannedReport) → slice_get (map without_last reports) r ≡ Some p → (q : PlannedReport) × (slice_get reports r ≡ Some q) × (without_last q ≡ p)
forgotten_from [] r p h = absurd (cc)
forgotten_from (q ∷ reports) zero p h = let e : without_last q ≡ p = cc in (q, refl, e)
forgotten_from (q ∷ reports) (suc r) p h = forgotten_from reports r p h

pub forgotten_length : (reports : List PlannedReport) → length (map without_last reports) ≡ length reports
forgotten_length [] = refl
forgotten_length (p ∷ reports) = ap suc (forgotten_length reports)

-- once they are forgotten they suit any view
pub plans_forgotten : (layout : Contents) (view view' : List ControlState) (plans plans' : ReportPlans) → ArePlanned layout view plans → plans'.index.items ≡ plans.index.items → plans'.reports.items ≡ map without_last plans.reports.items → ArePlanned layout view' plans'
plans_forgotten layout view view' plans plans' are index reports = record {
  index = subst (λ (xs : List ℕ). IsIndex layout xs) (sym index) are.index;
  there = λ s input. omega (arith, are.there s input, ap (λ (xs : List PlannedReport). length xs) reports, forgotten_length plans.reports.items);
  each = λ s x h.
      let from = forgotten_from plans.reports.items s x (ap (λ (xs : List PlannedReport). slice_get xs s) (sym reports) ∙ h) in
      let plan = (are.each s from.0 from.1).plan in
      planned_anew layout s view' x (subst (λ (p : PlannedReport). HasPlan layout s p) from.2 (record { room = plan.room; kept = plan.kept; plan = plan.plan })) (sym (ap (λ (p : PlannedReport). p.is_known) from.2));
}

-- the report that an index has of an ID
pub index_put : (layout : Contents) (index : List ℕ) (id r : ℕ) → IsIndex layout index → id < length index → position (is_input_with id) layout.reports ≡ Some r → IsIndex layout (slice_set index id r)
index_put layout index id r is within found = λ n s h low. elim (set_cases index id n r s within h) [
  | inl a ↦ subst (λ (i : ℕ). position (is_input_with i) layout.reports ≡ Some s) a.0 (found ∙ ap Some a.1)
  | inr b ↦ is n s b.1 low
]

-- the report with its plan at a place
pub planned_there : (layout : Contents) (view : List ControlState) (plans : ReportPlans) (r : ℕ) (planned : PlannedReport) → ArePlanned layout view plans → IsInput layout r → planned ≡ get_or plans.reports.items r planned → slice_get plans.reports.items r ≡ Some planned
planned_there layout view plans r planned are input is = slice_get-get_or plans.reports.items r planned (are.there r input) ∙ ap Some (sym is)

-- plans of which nothing changes
pub plans_same : (layout : Contents) (view : List ControlState) (plans plans' : ReportPlans) → ArePlanned layout view plans → plans'.index.items ≡ plans.index.items → plans'.reports.items ≡ plans.reports.items → ArePlanned layout view plans'
plans_same layout view plans plans' are index reports = record {
  index = subst (λ (xs : List ℕ). IsIndex layout xs) (sym index) are.index;
  there = λ s input. omega (arith, are.there s input, ap (λ (xs : List PlannedReport). length xs) reports);
  each = λ s x h. are.each s x (ap (λ (xs : List PlannedReport). slice_get xs s) (sym reports) ∙ h);
}
