-- The keys that the elements of an array name.
use Rattle.std.proofs.Common.{◌≡◌, ◌≢◌, ℕ, zero, suc, ◌+◌, ◌<◌, ◌≤◌, ◌⊎◌, inl, inr, ◌&&◌, ◌||◌, Bool, true, false, cond, List, [], ◌∷◌, ◌++◌, length, map, replicate, take, Option, Some, None, ℤ, pos, negsuc, ◌+ℤ◌, ◌-ℤ◌, ◌≤ℤ◌, refl, sym, ap, ◌∙◌, subst, arith}
use Rattle.std.proofs.lemmas.Bool.{cases_Bool}
use Rattle.std.specs.List.{slice_get, slice_set}
use Rattle.std.specs.Ordering.{int_eq}
use Rattle.std.proofs.lemmas.Int.{ints}
use Rattle.std.proofs.lemmas.List.Folds.{list_any-append}
use Rattle.std.proofs.lemmas.Bool.Decides.{Decides-int_eq}
use Rattle.std.proofs.lemmas.Option.{slice_get_within}
use Rattle.hid_layout.specs.declared.main_item.MainItem.{MainItem}
use Rattle.hid_layout.specs.Controls.{Key}
use Rattle.hid_usages.specs.Reading.{at_zero, is_rollover_at, names_rollover, names_key, named_keys_from}
use Rattle.hid_snapshots.proofs.CodeLemmas.{test_true, true_test, both_true}
use Rattle.std.specs.Int.Signed.{le_z}
use Rattle.hid_report_descriptor.specs.declared.usage.Usage.{Usage}
use Rattle.hid_report_descriptor.specs.Usages.{is_rollover}
use Rattle.hid_snapshots.specs.ControlStates.{is_in, switch_count}
use Rattle.std.proofs.Math.Seq.{take-length}
use Rattle.hid_snapshots.proofs.BlankLemmas.{none_pressed}
use Rattle.hid_snapshots.proofs.ListLemmas.{map_at, cons_count, take_at}
use Rattle.hid_snapshots.proofs.ItemLemmas.{got}

-- no number names a key
pub named_none : (item : MainItem) (i : ℕ) (keys : List Key)
    → replicate (length keys) false ≡ named_keys_from item [] i keys
named_none item i [] = refl
named_none item i (key ∷ keys) =
    ap (λ t. false ∷ t) (named_none item (i + 1) keys)
    ∙ ap (λ b. b ∷ named_keys_from item [] (i + 1) keys) (no_key key.is_switch)
  where
    no_key : (b : Bool) → false ≡ (b && false)
    no_key true = refl
    no_key false = refl

pub names_more : (item : MainItem) (vs : List ℤ) (v : ℤ) (i : ℕ) → names_key item (vs ++ v ∷ []) i ≡ (names_key item vs i || int_eq v (item.min +ℤ pos i))
names_more item vs v i = list_any-append (λ w. int_eq w (item.min +ℤ pos i)) vs (v ∷ []) ∙ last (int_eq v (item.min +ℤ pos i)) (names_key item vs i)
  where
    last : (b a : Bool) → (a || (b || false)) ≡ (a || b)
    last true a = refl
    last false a = refl

pub not_named : (item : MainItem) (v : ℤ) (i : ℕ) → v ≢ (item.min +ℤ pos i) → int_eq v (item.min +ℤ pos i) ≡ false
not_named item v i ne = elim (cases_Bool (int_eq v (item.min +ℤ pos i))) [ inl e ↦ absurd (ne ((Decides-int_eq v (item.min +ℤ pos i)).0 e)) | inr e ↦ e ]

-- a number that names no key adds none
pub named_same : (item : MainItem) (vs : List ℤ) (v : ℤ) (i : ℕ) (keys : List Key) → ((j : ℕ) (key : Key) → slice_get keys j ≡ Some key → v ≡ item.min +ℤ pos (i + j) → key.is_switch ≡ false)
    → named_keys_from item vs i keys ≡ named_keys_from item (vs ++ v ∷ []) i keys
named_same item vs v i [] h = refl
named_same item vs v i (key ∷ keys) h =
    let rest = named_same item vs v (i + 1) keys (λ j k g e. h (suc j) k g (let n : i + suc j ≡ (i + 1) + j = omega arith in rw n e)) in
    ap (λ t. (key.is_switch && names_key item vs i) ∷ t) rest
    ∙ ap (λ b. b ∷ named_keys_from item (vs ++ v ∷ []) (i + 1) keys)
    (here (cases_Bool (int_eq v (item.min +ℤ pos i))))
  where
    with_named : (s n : Bool) → s ≡ false → (s && n) ≡ (s && (n || true))
    with_named true n e = absurd (cc)
    with_named false n e = refl

    without : (s n : Bool) → (s && n) ≡ (s && (n || false))
    without true true = refl
    without true false = refl
    without false n = refl

    here : (int_eq v (item.min +ℤ pos i) ≡ true) ⊎ (int_eq v (item.min +ℤ pos i) ≡ false) → (key.is_switch && names_key item vs i) ≡ (key.is_switch && names_key item (vs ++ v ∷ []) i)
    here (inl e) =
        let is : v ≡ item.min +ℤ pos (i + 0) = (let z : i + 0 ≡ i = omega arith in rw z ((Decides-int_eq v (item.min +ℤ pos i)).0 e)) in
        rw (names_more item vs v i, e) (with_named key.is_switch (names_key item vs i) (h 0 key refl is))
    here (inr e) = rw (names_more item vs v i, e) (without key.is_switch (names_key item vs i))

-- a number that names a key adds it
pub named_set : (item : MainItem) (vs : List ℤ) (v : ℤ) (i : ℕ) (keys : List Key) (p : ℕ) (key : Key) → slice_get keys p ≡ Some key → key.is_switch ≡ true → v ≡ item.min +ℤ pos (i + p)
    → slice_set (named_keys_from item vs i keys) p true ≡ named_keys_from item (vs ++ v ∷ []) i keys
named_set item vs v i [] p key h s e = absurd (cc)
named_set item vs v i (k ∷ keys) zero key h s e =
    let same : k ≡ key = cc in
    let is : v ≡ item.min +ℤ pos i = (let z : i + 0 ≡ i = omega arith in rw z at e) in
    let rest = named_same item vs v (i + 1) keys (λ j other g f. absurd (omega (arith, ints))) in
    let named : int_eq v (item.min +ℤ pos i) ≡ true = (Decides-int_eq v (item.min +ℤ pos i)).1 is in
    ap (λ t. true ∷ t) rest
    ∙ ap (λ b. b ∷ named_keys_from item (vs ++ v ∷ []) (i + 1) keys)
    (sym (rw (same, s, names_more item vs v i, named) (both (names_key item vs i))))
  where
    both : (n : Bool) → (n || true) ≡ true
    both true = refl
    both false = refl
named_set item vs v i (k ∷ keys) (suc p) key h s e =
    let is : v ≡ item.min +ℤ pos ((i + 1) + p) = (let n : i + suc p ≡ (i + 1) + p = omega arith in rw n at e) in
    let other : int_eq v (item.min +ℤ pos i) ≡ false = not_named item v i (λ f. omega (arith, ints)) in
    ap (λ t. (k.is_switch && names_key item vs i) ∷ t) (named_set item vs v (i + 1) keys p key h s is)
    ∙ ap (λ b. b ∷ named_keys_from item (vs ++ v ∷ []) (i + 1) keys)
    (rw (names_more item vs v i, other) (without k.is_switch (names_key item vs i)))
  where
    without : (s n : Bool) → (s && n) ≡ (s && (n || false))
    without true true = refl
    without true false = refl
    without false n = refl

-- a number that stands there names no key again
pub named_again : (item : MainItem) (vs : List ℤ) (v : ℤ) (i : ℕ) (keys : List Key)
    → named_keys_from item (vs ++ v ∷ []) i keys ≡ named_keys_from item ((vs ++ v ∷ []) ++ v ∷ []) i keys
named_again item vs v i [] = refl
named_again item vs v i (key ∷ keys) =
    let same : names_key item (vs ++ v ∷ []) i ≡ names_key item ((vs ++ v ∷ []) ++ v ∷ []) i =
    names_more item vs v i ∙ twice (names_key item vs i) (int_eq v (item.min +ℤ pos i))
    ∙ ap (λ (b : Bool). b || int_eq v (item.min +ℤ pos i)) (sym (names_more item vs v i)) ∙ sym (names_more item (vs ++ v ∷ []) v i)
    in
    ap (λ t. (key.is_switch && names_key item (vs ++ v ∷ []) i) ∷ t) (named_again item vs v (i + 1) keys)
    ∙ ap (λ (b : Bool). (key.is_switch && b) ∷ named_keys_from item ((vs ++ v ∷ []) ++ v ∷ []) (i + 1) keys) same
  where
    twice : (n e : Bool) → (n || e) ≡ ((n || e) || e)
    twice true e = refl
    twice false true = refl
    twice false false = refl

pub switch_is : (keys : List Key) (p : ℕ) (b : Bool) (key : Key) → slice_get (map (λ (k : Key). k.is_switch) keys) p ≡ Some b → slice_get keys p ≡ Some key → key.is_switch ≡ b
switch_is keys p b key h k = let e = map_at (λ (x : Key). x.is_switch) keys p key k in cc

pub key_added : (item : MainItem) (vs : List ℤ) (v : ℤ) (keys : List Key) (p : ℕ) → p < length keys → slice_get (map (λ (k : Key). k.is_switch) keys) p ≡ Some true → v ≡ item.min +ℤ pos p
    → slice_set (named_keys_from item vs 0 keys) p true ≡ named_keys_from item (vs ++ v ∷ []) 0 keys
key_added item vs v keys p within h is =
    let key = got keys p within in
    named_set item vs v 0 keys p key.0 key.1 (switch_is keys p true key.0 h key.1) (let n : 0 + p ≡ p = omega arith in rw n is)

pub no_key_added : (item : MainItem) (vs : List ℤ) (v : ℤ) (keys : List Key) (p : ℕ) → slice_get (map (λ (k : Key). k.is_switch) keys) p ≡ Some false → v ≡ item.min +ℤ pos p
    → named_keys_from item vs 0 keys ≡ named_keys_from item (vs ++ v ∷ []) 0 keys
no_key_added item vs v keys p h is =
    named_same item vs v 0 keys (λ j key g e.
    let same : j ≡ p = (let n : v ≡ item.min +ℤ pos (0 + j) = e in omega (arith, ints)) in
    let Q : ℕ → Type 0 = λ n. slice_get keys n ≡ Some key in
    switch_is keys p false key h (subst Q same g))

pub no_place_added : (item : MainItem) (vs : List ℤ) (v : ℤ) (keys : List Key)
    → ((p : ℕ) → p < length keys → v ≢ (item.min +ℤ pos p))
    → named_keys_from item vs 0 keys ≡ named_keys_from item (vs ++ v ∷ []) 0 keys
no_place_added item vs v keys none =
    named_same item vs v 0 keys (λ j key g e. absurd (none j (slice_get_within keys j key g) (let n : 0 + j ≡ j = omega arith in rw n at e)))

-- an element that names a place names ErrorRollOver where that place does
pub rollover_named : (item : MainItem) (us : List Usage) (v : ℤ) (p : ℕ) → v ≡ item.min +ℤ pos p → names_rollover item us v ≡ (le_z v item.max && is_rollover_at us p)
rollover_named item us v p is =
    let low : le_z item.min v ≡ true = test_true (le_z item.min v) ((let h : item.min ≤ℤ v = omega (arith, ints) in h).le) in
    let place : at_zero (v -ℤ item.min) ≡ p = zero_of (v -ℤ item.min) p (omega (arith, ints)) in
    let test : is_in item.min item.max v ≡ le_z v item.max = ap (λ (b : Bool). b && le_z v item.max) low in
    ap (λ (b : Bool). elim (elim (cond b (Some (at_zero (v -ℤ item.min))) None) as (λ _. Option Usage) [ None ↦ None | Some i ↦ slice_get us i ]) as (λ _. Bool) [ None ↦ false | Some u ↦ is_rollover u ]) test
    ∙ by_max (le_z v item.max) place
  where
    zero_of : (z : ℤ) (p : ℕ) → z ≡ pos p → at_zero z ≡ p
    zero_of (pos n) p e = cc
    zero_of (negsuc n) p e = absurd (cc)

    by_max : (b : Bool) → at_zero (v -ℤ item.min) ≡ p
        → (elim (elim (cond b (Some (at_zero (v -ℤ item.min))) None) as (λ _. Option Usage) [ None ↦ None | Some i ↦ slice_get us i ]) as (λ _. Bool) [ None ↦ false | Some u ↦ is_rollover u ]) ≡ (b && is_rollover_at us p)
    by_max true e = rw e refl
    by_max false e = refl

-- an element that names no place doesn't name ErrorRollOver
pub no_rollover_named : (item : MainItem) (us : List Usage) (v : ℤ) → ((p : ℕ) → p < length us → v ≢ (item.min +ℤ pos p)) → names_rollover item us v ≡ false
no_rollover_named item us v none = by_range (is_in item.min item.max v) refl
  where
    to_pos : (z : ℤ) → pos 0 ≤ℤ z → z ≡ pos (at_zero z)
    to_pos (pos n) h = refl
    to_pos (negsuc n) h = absurd (omega (arith, ints))

    by_usage : (o : Option Usage) → slice_get us (at_zero (v -ℤ item.min)) ≡ o → item.min ≤ℤ v → (elim o as (λ _. Bool) [ None ↦ false | Some u ↦ is_rollover u ]) ≡ false
    by_usage None e h = refl
    by_usage (Some u) e h =
        let is = to_pos (v -ℤ item.min) (omega (arith, ints)) in
        absurd (none (at_zero (v -ℤ item.min)) (slice_get_within us (at_zero (v -ℤ item.min)) u e) (omega (arith, ints)))

    by_range : (b : Bool) → is_in item.min item.max v ≡ b
        → (elim (elim (cond b (Some (at_zero (v -ℤ item.min))) None) as (λ _. Option Usage) [ None ↦ None | Some i ↦ slice_get us i ]) as (λ _. Bool) [ None ↦ false | Some u ↦ is_rollover u ]) ≡ false
    by_range false e = refl
    by_range true e = by_usage (slice_get us (at_zero (v -ℤ item.min))) refl (record { le = true_test (le_z item.min v) ((both_true (le_z item.min v) (le_z v item.max) e).0) })

pub and_false : (b : Bool) → (b && false) ≡ false
and_false true = refl
and_false false = refl

-- an element whose number is over the greatest one wherever it names a place doesn't name ErrorRollOver
pub no_rollover_past : (item : MainItem) (us : List Usage) (v : ℤ) → ((p : ℕ) → p < length us → v ≡ item.min +ℤ pos p → le_z v item.max ≡ false) → names_rollover item us v ≡ false
no_rollover_past item us v past = elim (cases_Bool (le_z v item.max)) [
  | inl on ↦ no_rollover_named item us v (λ p h e. let off = past p h e in absurd (cc))
  | inr off ↦
      let out : is_in item.min item.max v ≡ false = ap (λ (b : Bool). le_z item.min v && b) off ∙ and_false (le_z item.min v) in
      ap (λ (b : Bool). elim (elim (cond b (Some (at_zero (v -ℤ item.min))) None) as (λ _. Option Usage) [ None ↦ None | Some i ↦ slice_get us i ]) as (λ _. Bool) [ None ↦ false | Some u ↦ is_rollover u ]) out
]

-- one number names one key more at most
named_few : (item : MainItem) (vs : List ℤ) (v : ℤ) (i : ℕ) (keys : List Key)
    → switch_count (named_keys_from item (vs ++ v ∷ []) i keys) ≤ switch_count (named_keys_from item vs i keys) + 1
named_few item vs v i [] = omega arith
named_few item vs v i (key ∷ keys) = by_test (cases_Bool (int_eq v (item.min +ℤ pos i))) (named_few item vs v (i + 1) keys)
  where
    old : Bool
    old = key.is_switch && names_key item vs i

    new : Bool
    new = key.is_switch && names_key item (vs ++ v ∷ []) i

    without : (s n : Bool) → (s && n) ≡ (s && (n || false))
    without true true = refl
    without true false = refl
    without false n = refl

    few : (b : Bool) → cond b 1 0 ≤ 1
    few true = omega arith
    few false = omega arith

    by_test : (int_eq v (item.min +ℤ pos i) ≡ true) ⊎ (int_eq v (item.min +ℤ pos i) ≡ false)
        → switch_count (named_keys_from item (vs ++ v ∷ []) (i + 1) keys) ≤ switch_count
        (named_keys_from item vs (i + 1) keys) + 1
        → switch_count (new ∷ named_keys_from item (vs ++ v ∷ []) (i + 1) keys) ≤ switch_count
        (old ∷ named_keys_from item vs (i + 1) keys) + 1
    by_test (inl e) rest =
        let is : v ≡ item.min +ℤ pos i = (Decides-int_eq v (item.min +ℤ pos i)).0 e in
        let same = named_same item vs v (i + 1) keys (λ j k g f. absurd (omega (arith, ints))) in
        omega (
          arith,
          cons_count new (named_keys_from item (vs ++ v ∷ []) (i + 1) keys),
          cons_count old (named_keys_from item vs (i + 1) keys),
          ap switch_count same,
          few new,
        )
    by_test (inr e) rest =
        let same : new ≡ old = rw (names_more item vs v i, e) (sym (without key.is_switch (names_key item vs i))) in
        omega (
          arith,
          cons_count new (named_keys_from item (vs ++ v ∷ []) (i + 1) keys),
          cons_count old (named_keys_from item vs (i + 1) keys),
          (let count : Bool → ℕ = λ b. cond b 1 0 in ap count same),
          rest,
        )

named_prefix : (item : MainItem) (keys : List Key) (vs : List ℤ) (n : ℕ) → n ≤ length vs
    → switch_count (named_keys_from item (take n vs) 0 keys) ≤ n
named_prefix item keys vs zero h = omega (arith, ap switch_count (named_none item 0 keys), none_pressed (length keys))
named_prefix item keys vs (suc n) h =
    let v = got vs n (omega arith) in
    let one : suc n ≡ n + 1 = omega arith in
    let next : take (suc n) vs ≡ take n vs ++ v.0 ∷ [] = rw one (take_at vs n v.0 v.1) in
    omega (
      arith,
      ap (λ (l : List ℤ). switch_count (named_keys_from item l 0 keys)) next,
      named_few item (take n vs) v.0 0 keys,
      named_prefix item keys vs n (omega arith),
    )

-- no more keys are named than there are elements
pub named_count : (item : MainItem) (keys : List Key) (vs : List ℤ)
    → switch_count (named_keys_from item vs 0 keys) ≤ length vs
named_count item keys vs =
    let all : take (length vs) vs ≡ vs = take-length vs in
    omega (
      arith,
      named_prefix item keys vs (length vs) (omega arith),
      ap (λ (l : List ℤ). switch_count (named_keys_from item l 0 keys)) all,
    )
