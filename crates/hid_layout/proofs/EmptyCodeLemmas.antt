-- The first place of a usage list that names nothing, entry by entry.
use Rattle.std.proofs.Common.{◌≡◌, ℕ, zero, suc, ◌+◌, ◌-◌, ◌<◌, ◌≤◌, Bool, true, false, not, ◌&&◌, List, [], ◌∷◌, ◌++◌, length, get_or, drop, refl, sym, ap, subst, ◌∙◌, arith, Some, None, Option, inl, inr}
use Rattle.std.specs.Prelude.{◌⊎◌, pos, ◌+ℤ◌, ◌≢◌, is_some}
use Rattle.std.specs.List.{slice_get}
use Rattle.std.proofs.lemmas.Bool.{cases_lt}
use Rattle.hid_report_descriptor.specs.declared.usage.Usage.{Usage}
use Rattle.hid_layout.specs.declared.main_item.MainItem.{MainItem}
use Rattle.hid_report_descriptor.specs.Usages.{is_rollover, Entry, entry_count, usage_list, usages_from}
use Rattle.hid_layout.specs.Controls.{is_encodable, rollover_from}
use Rattle.hid_layout.specs.EmptyCodes.{RollsOverAt, RollsOverIn, is_nothing, usage_at_place, IsFirstNothing, IsFirst}
use Rattle.hid_report_descriptor.proofs.Places.{found, skipped, list_from}

-- the places from a start on are those of the entries that are left
abbrev pub Continues : List Entry → ℕ → ℕ → Type 0
Continues es start j = (k : ℕ) → slice_get (usage_list es) (start + k) ≡ slice_get (usage_list (drop j es)) k

-- no place from one up to another names nothing
abbrev pub AllNamed : List Entry → ℕ → ℕ → Type 0
AllNamed es from next = (k : ℕ) → from ≤ k → k < next → is_nothing k (slice_get (usage_list es) k) ≡ false

-- the usage at a place of the entry that comes next
there : (es : List Entry) (start j k : ℕ) (d : Entry) → Continues es start j → j < length es → start ≤ k → k < start + entry_count (get_or es j d)
    → slice_get (usage_list es) k ≡ Some (usage_at_place (get_or es j d).0 start k)
there es start j k d c l a b =
    ap (slice_get (usage_list es)) (omega (arith, a)) ∙ c (k - start) ∙ found es j (k - start) d l (omega (arith, a, b))

pub still_named : (es : List Entry) (start j from next place : ℕ) (d : Entry) → Continues es start j → j < length es → start ≤ next → AllNamed es from next
    → IsFirstNothing (get_or es j d).0 start next (start + entry_count (get_or es j d)) place → AllNamed es from place
still_named es start j from next place d c l s n is k a b =
    elim (cases_lt k next) [
      | inl lt ↦ n k a lt
      | inr ge ↦
          let inside : k < start + entry_count (get_or es j d) = elim (cases_lt next (start + entry_count (get_or es j d))) [
            | inl lt ↦ omega (arith, b, is.inside (omega (arith, lt)))
            | inr behind ↦ omega (arith, b, ge, is.behind behind)
          ] in
          ap (is_nothing k) (there es start j k d c l (omega (arith, s, ge)) inside) ∙ ap not (is.named k ge b)
    ]

pub found_first : (es : List Entry) (start j from next place : ℕ) (d : Entry) → Continues es start j → j < length es → start ≤ next → from ≤ next → AllNamed es from next
    → IsFirstNothing (get_or es j d).0 start next (start + entry_count (get_or es j d)) place → place < start + entry_count (get_or es j d) → IsFirst (usage_list es) from place
found_first es start j from next place d c l s f n is b = record {
  low_bound = omega (arith, f, is.low_bound);
  nothing = ap (is_nothing place) (there es start j place d c l (omega (arith, s, is.low_bound)) b) ∙ ap not (is.nothing b);
  named = still_named es start j from next place d c l s n is;
}

pub continues_on : (es : List Entry) (start j : ℕ) (d : Entry) → Continues es start j → j < length es → Continues es (start + entry_count (get_or es j d)) (j + 1)
continues_on es start j d c l k =
    let n : ℕ = entry_count (get_or es j d) in
    ap (slice_get (usage_list es)) (omega arith) ∙ c (n + k) ∙ skipped es j (n + k) d l (omega arith) ∙ ap (slice_get (usage_list (drop (j + 1) es))) (omega arith)

pub nothing_left : (es : List Entry) (start j from next : ℕ) → Continues es start j → drop j es ≡ [] → start ≤ next → from ≤ next → AllNamed es from next → IsFirst (usage_list es) from next
nothing_left es start j from next c e s f n = record {
  low_bound = f;
  nothing = ap (is_nothing next) (ap (slice_get (usage_list es)) (omega (arith, s)) ∙ c (next - start) ∙ ap (λ l. slice_get (usage_list l) (next - start)) e);
  named = n;
}

-- the first usage without a name, as the loop over the entries meets it
pub found_first_in : (es : List Entry) (start j from next place n : ℕ) (d : Entry) → n ≡ entry_count (get_or es j d) → Continues es start j → j < length es → start ≤ next → from ≤ next → AllNamed es from next
    → IsFirstNothing (get_or es j d).0 start next (start + n) place → place < start + n → IsFirst (usage_list es) from place
found_first_in es start j from next place n d e c l s f a is b =
    found_first es start j from next place d c l s f a (subst (λ m. IsFirstNothing (get_or es j d).0 start next (start + m) place) e is) (omega (arith, e, b))

pub still_named_in : (es : List Entry) (start j from next place n : ℕ) (d : Entry) → n ≡ entry_count (get_or es j d) → Continues es start j → j < length es → start ≤ next → AllNamed es from next
    → IsFirstNothing (get_or es j d).0 start next (start + n) place → AllNamed es from place
still_named_in es start j from next place n d e c l s a is =
    still_named es start j from next place d c l s a (subst (λ m. IsFirstNothing (get_or es j d).0 start next (start + m) place) e is)

pub continues_in : (es : List Entry) (start j n : ℕ) (d : Entry) → n ≡ entry_count (get_or es j d) → Continues es start j → j < length es → Continues es (start + n) (j + 1)
continues_in es start j n d e c l = subst (λ m. Continues es (start + m) (j + 1)) (sym e) (continues_on es start j d c l)

-- how far a place may go in an entry
pub not_far : (start from n place : ℕ) (low : Usage) → IsFirstNothing low start from (start + n) place → (place ≤ from) ⊎ (place ≤ start + n)
not_far start from n place low is = elim (cases_lt from (start + n)) [
  | inl lt ↦ inr (is.inside (omega (arith, lt)))
  | inr ge ↦ inl (omega (arith, is.behind ge))
]

pub none_left : {A : Type 0} (xs : List A) (j : ℕ) → length xs ≤ j → drop j xs ≡ []
none_left [] zero h = refl
none_left [] (suc j) h = refl
none_left (x ∷ xs) zero h = absurd (omega (arith, h))
none_left (x ∷ xs) (suc j) h = none_left xs j (omega (arith, h))

-- no usage of a range tells a rollover that an element can carry: the search goes on after it
pub rolls_not : (item : MainItem) (page id n place : ℕ) (us : List Usage) → ((k : ℕ) → k < n → (is_rollover (record { page = page; id = id + k }) && is_encodable item (item.min +ℤ pos (place + k))) ≡ false)
    → rollover_from item place (usages_from page id n ++ us) ≡ rollover_from item (place + n) us
unfolding rollover_from
rolls_not item page id zero place us none = ap (λ k. rollover_from item k us) (omega arith)
rolls_not item page id (suc n) place us none =
    let here : (is_rollover (record { page = page; id = id }) && is_encodable item (item.min +ℤ pos place)) ≡ false =
    subst (λ (i : ℕ). (is_rollover (record { page = page; id = i }) && is_encodable item (item.min +ℤ pos place)) ≡ false) (omega arith)
    (subst (λ (p : ℕ). (is_rollover (record { page = page; id = id + 0 }) && is_encodable item (item.min +ℤ pos p)) ≡ false) (omega arith) (none 0 (omega arith))) in
    rw here (rolls_not item page (id + 1) n (place + 1) us (λ k h.
    subst (λ (i : ℕ). (is_rollover (record { page = page; id = i }) && is_encodable item (item.min +ℤ pos (place + 1 + k))) ≡ false) (omega arith)
    (subst (λ (p : ℕ). (is_rollover (record { page = page; id = id + suc k }) && is_encodable item (item.min +ℤ pos p)) ≡ false) (omega arith) (none (suc k) (omega (arith, h)))))
    ∙ ap (λ k. rollover_from item k us) (omega arith))

-- the first usage of a range that tells one is found
pub rolls_at : (item : MainItem) (page id n place after : ℕ) (us : List Usage) → after < n → is_rollover (record { page = page; id = id + after }) ≡ true → is_encodable item (item.min +ℤ pos (place + after)) ≡ true
    → ((k : ℕ) → k < after → is_rollover (record { page = page; id = id + k }) ≡ false)
    → rollover_from item place (usages_from page id n ++ us) ≡ Some (place + after)
unfolding rollover_from
rolls_at item page id zero place after us h r e none = absurd (omega (arith, h))
rolls_at item page id (suc n) place zero us h r e none =
    let here : is_rollover (record { page = page; id = id }) ≡ true = subst (λ (i : ℕ). is_rollover (record { page = page; id = i }) ≡ true) (omega arith) r in
    let there : is_encodable item (item.min +ℤ pos place) ≡ true = subst (λ (p : ℕ). is_encodable item (item.min +ℤ pos p) ≡ true) (omega arith) e in
    rw (here, there) (ap (λ k. Some k) (omega arith))
rolls_at item page id (suc n) place (suc after) us h r e none =
    let here : is_rollover (record { page = page; id = id }) ≡ false = subst (λ (i : ℕ). is_rollover (record { page = page; id = i }) ≡ false) (omega arith) (none 0 (omega arith)) in
    rw here (rolls_at item page (id + 1) n (place + 1) after us (omega (arith, h)) (subst (λ (i : ℕ). is_rollover (record { page = page; id = i }) ≡ true) (omega arith) r)
    (subst (λ (p : ℕ). is_encodable item (item.min +ℤ pos p) ≡ true) (omega arith) e)
    (λ k l. subst (λ (i : ℕ). is_rollover (record { page = page; id = i }) ≡ false) (omega arith) (none (suc k) (omega (arith, l))))
    ∙ ap (λ k. Some k) (omega arith))

at_start : (low : Usage) (start k : ℕ) (b : Bool) → is_rollover (usage_at_place low start (start + k)) ≡ b
    → is_rollover (record { page = low.page; id = low.id + k }) ≡ b
at_start low start k b e = subst (λ (i : ℕ). is_rollover (record { page = low.page; id = low.id + i }) ≡ b) (omega arith) e

neither : (a b : Bool) → a ≡ false → (a && b) ≡ false
neither true b e = absurd cc
neither false b e = refl

nor : (a b : Bool) → b ≡ false → (a && b) ≡ false
nor true b e = e
nor false b e = refl

pub none_rolls : (item : MainItem) (e : Entry) (start : ℕ) → RollsOverAt e start None → (us : List Usage) → RollsOverIn item e start us None
none_rolls item e start none us = rolls_not item e.0.page e.0.id (entry_count e) start us (λ k h. neither _ _ (at_start e.0 start k false (none k h)))

pub some_rolls : (item : MainItem) (e : Entry) (start place : ℕ) → RollsOverAt e start (Some place) → is_encodable item (item.min +ℤ pos place) ≡ true → (us : List Usage) → RollsOverIn item e start us (Some place)
some_rolls item e start place is fits us =
    let there : start + (place - start) ≡ place = omega (arith, is.0) in
    let here : is_rollover (record { page = e.0.page; id = e.0.id + (place - start) }) ≡ true =
    at_start e.0 start (place - start) true
    (subst (λ (p : ℕ). is_rollover (usage_at_place e.0 start p) ≡ true) (sym there) is.2) in
    rolls_at item e.0.page e.0.id (entry_count e) start (place - start) us (omega (arith, is.0, is.1)) here (subst (λ (p : ℕ). is_encodable item (item.min +ℤ pos p) ≡ true) (sym there) fits)
    (λ k h. at_start e.0 start k false (is.3 k (omega (arith, is.0, is.1, h)) (λ same. omega (arith, is.0, same, h)))) ∙ ap (λ p. Some p) there

pub not_carried : (item : MainItem) (e : Entry) (start place : ℕ) → RollsOverAt e start (Some place) → is_encodable item (item.min +ℤ pos place) ≡ false → (us : List Usage) → RollsOverIn item e start us None
not_carried item e start place is fits us = rolls_not item e.0.page e.0.id (entry_count e) start us (λ k h. by_place k (cases_eq (start + k) place) h)
  where
    cases_eq : (a b : ℕ) → (a ≡ b) ⊎ (a ≢ b)
    cases_eq a b = elim (cases_lt a b) [
      | inl lt ↦ inr (λ e. omega (arith, e, lt))
      | inr ge ↦ elim (cases_lt b a) [ inl lt ↦ inr (λ e. omega (arith, e, lt)) | inr le ↦ inl (omega (arith, ge, le)) ]
    ]

    by_place : (k : ℕ) → (start + k ≡ place) ⊎ (start + k ≢ place) → k < entry_count e → (is_rollover (record { page = e.0.page; id = e.0.id + k }) && is_encodable item (item.min +ℤ pos (start + k))) ≡ false
    by_place k (inl same) h = nor _ _ (subst (λ (p : ℕ). is_encodable item (item.min +ℤ pos p) ≡ false) (sym same) fits)
    by_place k (inr other) h = neither _ _ (at_start e.0 start k false (is.3 k h other))

-- the search goes on, or ends, as the loop meets the entries
pub rolls_on : (item : MainItem) (es : List Entry) (start j n : ℕ) (d : Entry) (o : Option ℕ) → n ≡ entry_count (get_or es j d) → j < length es → rollover_from item 0 (usage_list es) ≡ rollover_from item start (usage_list (drop j es))
    → ((us : List Usage) → RollsOverIn item (get_or es j d) start us o) → is_some o ≡ false → rollover_from item 0 (usage_list es) ≡ rollover_from item (start + n) (usage_list (drop (j + 1) es))
rolls_on item es start j n d (Some p) e l so is h = absurd cc
rolls_on item es start j n d None e l so is h = so ∙ ap (rollover_from item start) (list_from es j d l) ∙ is (usage_list (drop (j + 1) es)) ∙ ap (λ m. rollover_from item (start + m) (usage_list (drop (j + 1) es))) (sym e)

pub rolls_here : (item : MainItem) (es : List Entry) (start j : ℕ) (d : Entry) (o : Option ℕ) → j < length es → rollover_from item 0 (usage_list es) ≡ rollover_from item start (usage_list (drop j es))
    → ((us : List Usage) → RollsOverIn item (get_or es j d) start us o) → is_some o ≡ true → o ≡ rollover_from item 0 (usage_list es)
rolls_here item es start j d None l so is h = absurd cc
rolls_here item es start j d (Some p) l so is h = sym (so ∙ ap (rollover_from item start) (list_from es j d l) ∙ is (usage_list (drop (j + 1) es)))

pub rolls_nowhere : (item : MainItem) (es : List Entry) (start j : ℕ) → rollover_from item 0 (usage_list es) ≡ rollover_from item start (usage_list (drop j es)) → length es ≤ j → None ≡ rollover_from item 0 (usage_list es)
unfolding rollover_from
rolls_nowhere item es start j so h = sym (so ∙ ap (λ l. rollover_from item start (usage_list l)) (none_left es j h))
