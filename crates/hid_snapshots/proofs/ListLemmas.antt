-- Lists that are filled from the front.
use Rattle.std.proofs.Common.{◌≡◌, ℕ, zero, suc, ◌+◌, List, [], ◌∷◌, ◌++◌, map, take, drop, Some, Bool, true, false, cond, refl, sym, ap, ◌∙◌, arith}
use Rattle.std.specs.List.{slice_get, zip}
use Rattle.std.proofs.lemmas.List.Sums.{sum_by-append}
use Rattle.std.proofs.lemmas.Int.{to_z-of_z}
use Rattle.hid_snapshots.specs.ControlStates.{switch_count}

front : (j : ℕ) → suc j + 1 ≡ suc (j + 1)
front j = omega arith

-- a prefix, one longer
pub take_at : {A : Type 0} (xs : List A) (j : ℕ) (x : A) → slice_get xs j ≡ Some x → take (j + 1) xs ≡ take j xs ++ x ∷ []
take_at [] j x h = absurd (cc)
take_at (y ∷ ys) zero x h = cc
take_at (y ∷ ys) (suc j) x h = ap (λ k. take k (y ∷ ys)) (front j) ∙ ap (λ t. y ∷ t) (take_at ys j x h)

pub map_push : {A B : Type 0} (f : A → B) (xs : List A) (x : A) → map f (xs ++ x ∷ []) ≡ map f xs ++ f x ∷ []
map_push f [] x = refl
map_push f (y ∷ ys) x = ap (λ t. f y ∷ t) (map_push f ys x)

pub map_at : {A B : Type 0} (f : A → B) (xs : List A) (j : ℕ) (x : A) → slice_get xs j ≡ Some x → slice_get (map f xs) j ≡ Some (f x)
map_at f [] j x h = absurd (cc)
map_at f (y ∷ ys) zero x h = cc
map_at f (y ∷ ys) (suc j) x h = map_at f ys j x h

-- one more element, mapped
pub mapped_at : {A B : Type 0} (f : A → B) (xs : List A) (done : List B) (j : ℕ) (x : A) (y : B) → slice_get xs j ≡ Some x → y ≡ f x → done ≡ map f (take j xs) → done ++ y ∷ [] ≡ map f (take (j + 1) xs)
mapped_at f xs done j x y h e so_far = rw (take_at xs j x h, map_push f (take j xs) x, so_far, e) refl

-- a number that is kept in 64 bits
pub ruleset kept = (to_z-of_z)

-- a list from one of its elements on
pub drop_at : {A : Type 0} (xs : List A) (j : ℕ) (x : A) → slice_get xs j ≡ Some x → drop j xs ≡ x ∷ drop (j + 1) xs
drop_at [] j x h = absurd (cc)
drop_at (y ∷ ys) zero x h = cc
drop_at (y ∷ ys) (suc j) x h = drop_at ys j x h ∙ ap (λ (k : ℕ). x ∷ drop k (y ∷ ys)) (sym (front j))

pub zip_at : {A B : Type 0} (xs : List A) (ys : List B) (j : ℕ) (x : A) (y : B) → slice_get xs j ≡ Some x → slice_get ys j ≡ Some y → slice_get (zip xs ys) j ≡ Some (x, y)
zip_at [] ys j x y h k = absurd (cc)
zip_at (a ∷ xs) [] j x y h k = absurd (cc)
zip_at (a ∷ xs) (b ∷ ys) zero x y h k = cc
zip_at (a ∷ xs) (b ∷ ys) (suc j) x y h k = zip_at xs ys j x y h k

pub cons_count : (p : Bool) (ps : List Bool) → switch_count (p ∷ ps) ≡ cond p 1 0 + switch_count ps
cons_count true ps = omega (arith, sum_by-append (λ (q : Bool). cond q 1 0) (true ∷ []) ps)
cons_count false ps = omega (arith, sum_by-append (λ (q : Bool). cond q 1 0) (false ∷ []) ps)
