-- The parts of one report.
use Rattle.std.proofs.Common.{◌≡◌, ℕ, suc, ◌+◌, Bool, true, false, cond, nat_eq, List, [], ◌∷◌, ◌++◌, Option, Some, None, ℤ, refl, sym, ap, ◌∙◌, arith}
use Rattle.std.specs.List.{slice_get}
use Rattle.std.proofs.lemmas.Option.{slice_get_within}
use Rattle.std.proofs.lemmas.Bool.Decides.{nat_tests}
use Rattle.hid_layout.specs.declared.main_item.MainItem.{MainItem}
use Rattle.hid_layout.specs.Controls.{Item, items_of, item_of}
use Rattle.hid_snapshots.specs.declared.control_state.ControlState.{ControlState}
use Rattle.hid_snapshots.specs.declared.control_state.ControlState.TheVariants.{Absent}
use Rattle.hid_snapshots.specs.declared.event.Event.{Event}
use Rattle.hid_snapshots.specs.Encoding.{IsData, numbers_at}
use Rattle.hid_snapshots.specs.Events.{change_events}
use Rattle.hid_usages.specs.OneReport.{SamePartsOfReport, SeesOneReport, IsOneReportsOwn, ShowsOneReport}
use Rattle.hid_snapshots.specs.Parts.{is_of, by_item}
use Rattle.hid_snapshots.specs.Views.{seen_state, view_item_after, part_of, form_motions, events_from}
use Rattle.hid_snapshots.proofs.ItemLemmas.{items_from-at, got}
use Rattle.hid_snapshots.proofs.PartLemmas.{item_at-is, of_report}

agree_tail : (r : ℕ) (item : Item) (items : List Item) (p q : ControlState) (ps qs : List ControlState)
    → SamePartsOfReport (item ∷ items) r (p ∷ ps) (q ∷ qs) → SamePartsOfReport items r ps qs
agree_tail r item items p q ps qs agree = record { one_each = (let e = agree.one_each in omega arith); same = λ i it h own. agree.same (suc i) it h own }

agree_head : (r : ℕ) (item : Item) (items : List Item) (p q : ControlState) (ps qs : List ControlState)
    → SamePartsOfReport (item ∷ items) r (p ∷ ps) (q ∷ qs) → is_of r item ≡ true → p ≡ q
agree_head r item items p q ps qs agree own = let e : Some p ≡ Some q = agree.same 0 item refl own in cc

-- what is made of an item's own part alone
own_part : {A : Type 0} (f : ControlState → A) (other : A) (r : ℕ) (item : Item) (p q : ControlState)
    → (is_of r item ≡ true → p ≡ q) → cond (is_of r item) (f p) other ≡ cond (is_of r item) (f q) other
own_part f other r item p q same = by_own (is_of r item) refl
  where
    by_own : (b : Bool) → is_of r item ≡ b → cond b (f p) other ≡ cond b (f q) other
    by_own true e = ap f (same e)
    by_own false e = refl

pub sees_one : SeesOneReport
sees_one [] r view parts others agree = refl
sees_one (item ∷ items) r [] parts others agree = refl
sees_one (item ∷ items) r (v ∷ vs) [] [] agree = refl
sees_one (item ∷ items) r (v ∷ vs) [] (q ∷ qs) agree = absurd (let e = agree.one_each in omega arith)
sees_one (item ∷ items) r (v ∷ vs) (p ∷ ps) [] agree = absurd (let e = agree.one_each in omega arith)
sees_one (item ∷ items) r (v ∷ vs) (p ∷ ps) (q ∷ qs) agree =
    ap (λ (c : ControlState). c ∷ by_item (view_item_after r) items vs ps)
    (own_part (seen_state v) v r item p q (agree_head r item items p q ps qs agree))
    ∙ ap (λ (cs : List ControlState). view_item_after r item v q ∷ cs)
    (sees_one items r vs ps qs (agree_tail r item items p q ps qs agree))

tells_from : (i r : ℕ) (items : List Item) (bs xs ps qs : List ControlState) → SamePartsOfReport items r ps qs
    → events_from i r items bs xs ps ≡ events_from i r items bs xs qs
tells_from i r [] bs xs ps qs agree = refl
tells_from i r (item ∷ items) [] xs ps qs agree = refl
tells_from i r (item ∷ items) (b ∷ bs) [] ps qs agree = refl
tells_from i r (item ∷ items) (b ∷ bs) (a ∷ xs) [] [] agree = refl
tells_from i r (item ∷ items) (b ∷ bs) (a ∷ xs) [] (q ∷ qs) agree = absurd (let e = agree.one_each in omega arith)
tells_from i r (item ∷ items) (b ∷ bs) (a ∷ xs) (p ∷ ps) [] agree = absurd (let e = agree.one_each in omega arith)
tells_from i r (item ∷ items) (b ∷ bs) (a ∷ xs) (p ∷ ps) (q ∷ qs) agree =
    ap (λ (c : ControlState). (change_events i item.form b a ++ form_motions i item.form c)
    ++ events_from (i + 1) r items bs xs ps)
    (own_part (λ c. c) Absent r item p q (agree_head r item items p q ps qs agree))
    ∙ ap (λ (l : List Event). (change_events i item.form b a ++ form_motions i item.form (part_of r item q)) ++ l)
    (tells_from (i + 1) r items bs xs ps qs (agree_tail r item items p q ps qs agree))

pub tells_one : IsOneReportsOwn
tells_one items r before after parts others agree = tells_from 0 r items before after parts others agree

same_number : (a b : ℕ) → a ≡ b → nat_eq a b ≡ true
same_number a b e = grind (arith, nat_tests)

pub shows_one : ShowsOneReport
shows_one layout r parts others bytes laid input agree is = record {
  whole = is.whole;
  shows = record {
    elements =
        λ i m h d. is.shows.elements i m h d
        ∙ ap (λ (o : Option ControlState). elim o as (λ _. List ℤ) [ None ↦ [] | Some state ↦ numbers_at layout i state ])
        (same i m d);
    others = λ n out. is.shows.others n out;
  };
}
  where
    same : (i : ℕ) (m : MainItem) → IsData layout r i m → slice_get parts i ≡ slice_get others i
    same i m d =
        let es = got layout.entries i (omega (arith, laid.entries_there, slice_get_within layout.items i m d.listed)) in
        let there = items_from-at layout layout.items layout.entries i m es.0 d.listed es.1 in
        let test : nat_eq m.report r ≡ true = same_number m.report r d.in_report in
        let own : is_of r (item_of layout m es.0) ≡ true = ap (is_of r) (sym (item_at-is (items_of layout) i (item_of layout m es.0) there)) ∙ sym (of_report layout laid i r m d.listed input) ∙ test in
        agree.same i (item_of layout m es.0) there own
