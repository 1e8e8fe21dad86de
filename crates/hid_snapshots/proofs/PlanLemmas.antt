-- Going over the items of a report by their places, in place of all listed items.
use Rattle.std.proofs.Common.{◌≡◌, ℕ, zero, suc, ◌+◌, ◌≤◌, ◌<◌, ◌==◌, Bool, true, false, cond, List, [], ◌∷◌, length, drop, get_or, Option, Some, None, refl, sym, ap, ◌∙◌, subst, arith}
use Rattle.std.specs.List.{slice_get, All}
use Rattle.std.proofs.lemmas.List.{drop_all}
use Rattle.std.proofs.lemmas.Option.{slice_get_within, slice_get-get_or}
use Rattle.hid_layout.specs.declared.main_item.MainItem.{MainItem}
use Rattle.hid_report_descriptor.specs.declared.report.Report.{Report}
use Rattle.hid_layout.specs.Controls.{is_input_report}
use Rattle.hid_layout.specs.Layout.{Contents}
use Rattle.hid_layout.specs.ArrayCodes.{places_from, plan_of}
use Rattle.hid_snapshots.specs.Parts.{IsInput}
use Rattle.hid_snapshots.proofs.ListLemmas.{drop_at}

-- What holds once the items before a place are gone over goes on holding after an item of another report.
abbrev pub Skips : Contents → ℕ → (ℕ → Type 0) → Type 0
Skips layout r P = (i : ℕ) (item : MainItem) → slice_get layout.items i ≡ Some item → (item.report == r) ≡ false → P i → P (i + 1)

-- The first k places of a plan are gone over: P holds somewhere before the next one, with no item of the report between.
pub record IsAlong (layout : Contents) (r k : ℕ) (P : ℕ → Type 0) : Type 0 where
  pub place : ℕ
  pub within : place ≤ length layout.items
  pub rest : drop k (plan_of layout r) ≡ places_from place r (drop place layout.items)
  pub holds : P place

-- The next place of a plan: an item of the report stands there, and P holds once all items before it are gone over.
pub record IsNext (layout : Contents) (r p : ℕ) (rest : List ℕ) (P : ℕ → Type 0) : Type 0 where
  pub item : MainItem
  pub listed : slice_get layout.items p ≡ Some item
  pub in_report : (item.report == r) ≡ true
  pub behind : rest ≡ places_from (p + 1) r (drop (p + 1) layout.items)
  pub holds : P p

pub along_start : (layout : Contents) (r : ℕ) (P : ℕ → Type 0) → P 0 → IsAlong layout r 0 P
along_start layout r P start = record { place = 0; within = omega arith; rest = refl; holds = start }

-- what stands at a place, and after it
head_of_drop : {A : Type 0} (xs : List A) (i : ℕ) (x : A) (ys : List A) → drop i xs ≡ x ∷ ys → slice_get xs i ≡ Some x
head_of_drop [] zero x ys h = absurd (cc)
head_of_drop [] (suc i) x ys h = absurd (cc)
head_of_drop (y ∷ xs) zero x ys h = let e : y ≡ x = cc in ap Some e
head_of_drop (y ∷ xs) (suc i) x ys h = head_of_drop xs i x ys h

tail_of_drop : {A : Type 0} (xs : List A) (i : ℕ) (x : A) (ys : List A) → drop i xs ≡ x ∷ ys → drop (i + 1) xs ≡ ys
tail_of_drop [] zero x ys h = absurd (cc)
tail_of_drop [] (suc i) x ys h = absurd (cc)
tail_of_drop (y ∷ xs) zero x ys h = let e : xs ≡ ys = cc in e
tail_of_drop (y ∷ xs) (suc i) x ys h = let n : suc i + 1 ≡ suc (i + 1) = omega arith in rw n (tail_of_drop xs i x ys h)

none_left : {A : Type 0} (xs : List A) (i : ℕ) → drop i xs ≡ [] → length xs ≤ i
none_left [] i h = omega arith
none_left (x ∷ xs) zero h = absurd (cc)
none_left (x ∷ xs) (suc i) h = let rest = none_left xs i h in omega (arith, rest)

-- the places of a list's items, by what its first one is
first_place : (i r : ℕ) (item : MainItem) (items : List MainItem) (t : Bool) → (item.report == r) ≡ t → places_from i r (item ∷ items) ≡ cond t (i ∷ places_from (i + 1) r items) (places_from (i + 1) r items)
first_place i r item items t e = ap (λ (b : Bool). cond b (i ∷ places_from (i + 1) r items) (places_from (i + 1) r items)) e

here : (layout : Contents) (r p i : ℕ) (rest : List ℕ) (P : ℕ → Type 0) (item : MainItem) (items : List MainItem) → drop i layout.items ≡ item ∷ items → (item.report == r) ≡ true
    → i ∷ places_from (i + 1) r items ≡ p ∷ rest → P i → IsNext layout r p rest P
here layout r p i rest P item items is t e holds =
    let at : i ≡ p = cc in
    let behind : places_from (i + 1) r items ≡ rest = cc in
    subst (λ (n : ℕ). IsNext layout r n rest P) at (record {
      item = item;
      listed = head_of_drop layout.items i item items is;
      in_report = t;
      behind = sym behind ∙ ap (places_from (i + 1) r) (sym (tail_of_drop layout.items i item items is));
      holds = holds;
    })

walk : (layout : Contents) (r p : ℕ) (rest : List ℕ) (P : ℕ → Type 0) → Skips layout r P → (items : List MainItem) (i : ℕ) → drop i layout.items ≡ items → places_from i r items ≡ p ∷ rest → P i → IsNext layout r p rest P
walk layout r p rest P skips [] i is places holds = absurd (cc)
walk layout r p rest P skips (item ∷ items) i is places holds =
    by_report (item.report == r) refl (λ e t. walk layout r p rest P skips items (i + 1) (tail_of_drop layout.items i item items is) e (skips i item (head_of_drop layout.items i item items is) t holds))
  where
    by_report : (t : Bool) → (item.report == r) ≡ t → (places_from (i + 1) r items ≡ p ∷ rest → (item.report == r) ≡ false → IsNext layout r p rest P) → IsNext layout r p rest P
    by_report true t later = here layout r p i rest P item items is t (sym (first_place i r item items true t) ∙ places) holds
    by_report false t later = later (sym (first_place i r item items false t) ∙ places) t

walk_end : (layout : Contents) (r : ℕ) (P : ℕ → Type 0) → Skips layout r P → (items : List MainItem) (i : ℕ) → drop i layout.items ≡ items → i ≤ length layout.items → places_from i r items ≡ [] → P i → P (length layout.items)
walk_end layout r P skips [] i is within places holds =
    let all : i ≡ length layout.items = omega (arith, none_left layout.items i is) in
    subst P all holds
walk_end layout r P skips (item ∷ items) i is within places holds =
    by_report (item.report == r) refl (λ e t. walk_end layout r P skips items (i + 1) (tail_of_drop layout.items i item items is) (omega (arith, slice_get_within layout.items i item (head_of_drop layout.items i item items is))) e (skips i item (head_of_drop layout.items i item items is) t holds))
  where
    by_report : (t : Bool) → (item.report == r) ≡ t → (places_from (i + 1) r items ≡ [] → (item.report == r) ≡ false → P (length layout.items)) → P (length layout.items)
    by_report true t later = let e : i ∷ places_from (i + 1) r items ≡ [] = sym (first_place i r item items true t) ∙ places in absurd (cc)
    by_report false t later = later (sym (first_place i r item items false t) ∙ places) t

-- the next place
pub along_next : (layout : Contents) (r k : ℕ) (places : List ℕ) (P : ℕ → Type 0) → Skips layout r P → places ≡ plan_of layout r → k < length places → IsAlong layout r k P
    → IsNext layout r (get_or places k 0) (drop (k + 1) (plan_of layout r)) P
along_next layout r k places P skips is within a =
    let there : slice_get (plan_of layout r) k ≡ Some (get_or places k 0) = ap (λ (ps : List ℕ). slice_get ps k) (sym is) ∙ slice_get-get_or places k 0 within in
    walk layout r (get_or places k 0) (drop (k + 1) (plan_of layout r)) P skips (drop a.place layout.items) a.place refl (sym a.rest ∙ drop_at (plan_of layout r) k (get_or places k 0) there) a.holds

-- one place more is gone over
pub along_step : (layout : Contents) (r k p : ℕ) (P Q : ℕ → Type 0) → IsNext layout r p (drop (k + 1) (plan_of layout r)) P → Q (p + 1) → IsAlong layout r (k + 1) Q
along_step layout r k p P Q next done = record {
  place = p + 1;
  within = omega (arith, slice_get_within layout.items p next.item next.listed);
  rest = next.behind;
  holds = done;
}

-- all places are gone over
pub along_end : (layout : Contents) (r k : ℕ) (places : List ℕ) (P : ℕ → Type 0) → Skips layout r P → places ≡ plan_of layout r → length places ≤ k → IsAlong layout r k P → P (length layout.items)
along_end layout r k places P skips is all a =
    walk_end layout r P skips (drop a.place layout.items) a.place refl a.within (sym a.rest ∙ drop_all k (plan_of layout r) (omega (arith, ap length is, all))) a.holds

-- each place is that of a listed item
places_within : (i r k d : ℕ) (items : List MainItem) → k < length (places_from i r items) → get_or (places_from i r items) k d < i + length items
places_within i r k d [] h = absurd (omega arith)
places_within i r k d (item ∷ items) h =
    by_report (item.report == r) refl k h (λ (j : ℕ) (e : j < length (places_from (i + 1) r items)). places_within (i + 1) r j d items e)
  where
    by_report : (t : Bool) → (item.report == r) ≡ t → (k : ℕ) → k < length (places_from i r (item ∷ items))
        → ((j : ℕ) → j < length (places_from (i + 1) r items) → get_or (places_from (i + 1) r items) j d < (i + 1) + length items)
        → get_or (places_from i r (item ∷ items)) k d < i + length (item ∷ items)
    by_report true t zero h later = rw (first_place i r item items true t) (omega arith)
    by_report true t (suc k) h later =
        let l : suc k < suc (length (places_from (i + 1) r items)) = rw (first_place i r item items true t) at h in
        let rest = later k (omega (arith, l)) in
        rw (first_place i r item items true t) (omega (arith, rest))
    by_report false t k h later =
        let rest = later k (rw (first_place i r item items false t) at h) in
        rw (first_place i r item items false t) (omega (arith, rest))

pub plan_within : (layout : Contents) (r : ℕ) → All (λ place. place < length layout.items) (plan_of layout r)
plan_within layout r k d h = omega (arith, places_within 0 r k d layout.items h)

-- an Input report is a report
pub input_there : (layout : Contents) (r : ℕ) → IsInput layout r → r < length layout.reports
input_there layout r input = by_report (slice_get layout.reports r) refl input
  where
    by_report : (o : Option Report) → slice_get layout.reports r ≡ o → is_input_report o ≡ true → r < length layout.reports
    by_report None e h = absurd (cc)
    by_report (Some report) e h = slice_get_within layout.reports r report e

pub ruleset plans = (plan_within, input_there)
