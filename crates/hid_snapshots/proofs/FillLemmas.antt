-- A list that is filled from the front with another.
use Rattle.std.proofs.Common.{◌≡◌, ℕ, zero, suc, ◌+◌, ◌<◌, ◌≤◌, List, [], ◌∷◌, ◌++◌, length, take, drop, map, Some, refl, sym, ap, ◌∙◌, append-nil, arith, Bool, true, false}
use Rattle.std.specs.List.{list_any, list_all, slice_get, slice_set, zip}
use Rattle.std.proofs.Math.Seq.{drop-length, take-length}
use Rattle.std.proofs.lemmas.List.{length-map, drop_all}
use Rattle.hid_snapshots.proofs.ListLemmas.{map_at, zip_at, drop_at}

front : (j : ℕ) → suc j + 1 ≡ suc (j + 1)
front j = omega arith

-- one more place is filled
pub fill_next : {A : Type 0} (target start : List A) (k : ℕ) (v : A) → slice_get target k ≡ Some v → k < length start → slice_set (take k target ++ drop k start) k v ≡ take (k + 1) target ++ drop (k + 1) start
fill_next [] start k v h within = absurd (cc)
fill_next (t ∷ ts) [] k v h within = absurd (omega arith)
fill_next (t ∷ ts) (s ∷ ss) zero v h within = cc
fill_next (t ∷ ts) (s ∷ ss) (suc k) v h within =
    ap (λ x. t ∷ x) (fill_next ts ss k v h (omega arith)) ∙ sym (ap (λ j. take j (t ∷ ts) ++ drop j (s ∷ ss)) (front k))

pub filled : {A : Type 0} (target start : List A) (k : ℕ) → k ≡ length target → length start ≡ length target → take k target ++ drop k start ≡ target
filled target start k e h = rw (e, take-length target, ← h, drop-length start) (append-nil target)

pub map_zip_at : {A B C : Type 0} (f : A × B → C) (xs : List A) (ys : List B) (j : ℕ) (x : A) (y : B) (z : C) → slice_get xs j ≡ Some x → slice_get ys j ≡ Some y → z ≡ f (x, y) → slice_get (map f (zip xs ys)) j ≡ Some z
map_zip_at f xs ys j x y z h k e = map_at f (zip xs ys) j (x, y) (zip_at xs ys j x y h k) ∙ ap Some (sym e)

pub length_map_zip : {A B C : Type 0} (f : A × B → C) (xs : List A) (ys : List B) → length ys ≡ length xs → length (map f (zip xs ys)) ≡ length xs
length_map_zip f [] ys h = refl
length_map_zip f (x ∷ xs) [] h = absurd (omega arith)
length_map_zip f (x ∷ xs) (y ∷ ys) h = ap suc (length_map_zip f xs ys (omega arith))

pub set_length : {A : Type 0} (xs : List A) (k : ℕ) (v : A) → length (slice_set xs k v) ≡ length xs
set_length [] k v = refl
set_length (x ∷ xs) zero v = refl
set_length (x ∷ xs) (suc k) v = ap suc (set_length xs k v)

pub any_from_hit : {A : Type 0} (test : A → Bool) (vs : List A) (k : ℕ) (v : A) → slice_get vs k ≡ Some v → test v ≡ true → list_any test (drop k vs) ≡ true
any_from_hit test vs k v h e = rw (drop_at vs k v h, e) refl

pub any_from_miss : {A : Type 0} (test : A → Bool) (vs : List A) (k : ℕ) (v : A) → slice_get vs k ≡ Some v → test v ≡ false → list_any test (drop k vs) ≡ list_any test (drop (k + 1) vs)
any_from_miss test vs k v h e = rw (drop_at vs k v h, e) refl

-- a place that isn't filled yet
pub unfilled_at : {A : Type 0} (target start : List A) (k : ℕ) (x : A) → length target ≡ length start → slice_get (take k target ++ drop k start) k ≡ Some x → slice_get start k ≡ Some x
unfilled_at [] [] zero x e h = h
unfilled_at [] [] (suc k) x e h = h
unfilled_at [] (s ∷ ss) k x e h = absurd (omega arith)
unfilled_at (t ∷ ts) [] k x e h = absurd (omega arith)
unfilled_at (t ∷ ts) (s ∷ ss) zero x e h = h
unfilled_at (t ∷ ts) (s ∷ ss) (suc k) x e h = unfilled_at ts ss k x (omega arith) h

-- One place more of a list is mapped in place.
pub map_next : {A : Type 0} (f : A → A) (start now : List A) (k : ℕ) (x v : A) → now ≡ take k (map f start) ++ drop k start → slice_get now k ≡ Some x → k < length start → v ≡ f x
    → slice_set now k v ≡ take (k + 1) (map f start) ++ drop (k + 1) start
map_next f start now k x v so_far here within is =
    let there : slice_get start k ≡ Some x = unfilled_at (map f start) start k x (length-map start f) (ap (λ xs. slice_get xs k) (sym so_far) ∙ here) in
    ap (λ xs. slice_set xs k v) so_far ∙ fill_next (map f start) start k v (map_at f start k x there ∙ ap Some (sym is)) within

-- One place more of a list is put together with another's.
pub zip_next : {A B : Type 0} (f : A × B → A) (start now : List A) (others : List B) (k : ℕ) (x : A) (y : B) (v : A) → length start ≡ length others → now ≡ take k (map f (zip start others)) ++ drop k start
    → slice_get now k ≡ Some x → slice_get others k ≡ Some y → k < length start → v ≡ f (x, y)
    → slice_set now k v ≡ take (k + 1) (map f (zip start others)) ++ drop (k + 1) start
zip_next f start now others k x y v same so_far here other within is =
    let there : slice_get start k ≡ Some x = unfilled_at (map f (zip start others)) start k x (length_map_zip f start others (sym same)) (ap (λ xs. slice_get xs k) (sym so_far) ∙ here) in
    ap (λ xs. slice_set xs k v) so_far ∙ fill_next (map f (zip start others)) start k v (map_zip_at f start others k x y v there other is) within

pub zip_there : {A B : Type 0} (f : A × B → A) (start now : List A) (others : List B) (k : ℕ) (x : A) → length start ≡ length others → now ≡ take k (map f (zip start others)) ++ drop k start
    → slice_get now k ≡ Some x → slice_get start k ≡ Some x
zip_there f start now others k x same so_far here =
    unfilled_at (map f (zip start others)) start k x (length_map_zip f start others (sym same)) (ap (λ xs. slice_get xs k) (sym so_far) ∙ here)

pub any_past : {A : Type 0} (test : A → Bool) (vs : List A) (k : ℕ) → length vs ≤ k → list_any test (drop k vs) ≡ false
any_past test vs k h = rw (drop_all k vs h) refl

pub all_from_pass : {A : Type 0} (test : A → Bool) (vs : List A) (k : ℕ) (v : A) → slice_get vs k ≡ Some v → test v ≡ true → list_all test (drop k vs) ≡ list_all test (drop (k + 1) vs)
all_from_pass test vs k v h e = rw (drop_at vs k v h, e) refl

pub all_from_fail : {A : Type 0} (test : A → Bool) (vs : List A) (k : ℕ) (v : A) → slice_get vs k ≡ Some v → test v ≡ false → list_all test (drop k vs) ≡ false
all_from_fail test vs k v h e = rw (drop_at vs k v h, e) refl

pub all_past : {A : Type 0} (test : A → Bool) (vs : List A) (k : ℕ) → length vs ≤ k → list_all test (drop k vs) ≡ true
all_past test vs k h = rw (drop_all k vs h) refl
