-- What changes of a list leave as it is: the first element that passes a test, and its place.
use Rattle.std.proofs.Common.{◌≡◌, ℕ, zero, suc, ◌+◌, ◌≤◌, ◌≢◌, Bool, List, [], ◌∷◌, ◌++◌, length, drop, map, refl, sym, ap, ◌∙◌, cond, Option, Some, None, true, false, arith}
use Rattle.std.specs.Prelude.{◌||◌, filter, position, slice_set}
use Rattle.std.specs.List.{find, list_any, position_from}
use Rattle.std.proofs.lemmas.Iterator.Adapters.{position_from-zero}

-- ---- a test that passes somewhere

-- a filter loses none that passes
pub find_kept : {X : Type 0} (p q : X → Bool) → ((x : X) → p x ≡ true → q x ≡ true) → (xs : List X) → find p (filter q xs) ≡ find p xs
find_kept p q less [] = refl
find_kept p q less (x ∷ xs) = by (p x) (q x) refl (less x) (find_kept p q less xs)
  where
    by : (b c : Bool) → p x ≡ b → (b ≡ true → c ≡ true) → find p (filter q xs) ≡ find p xs
        → find p (cond c (x ∷ filter q xs) (filter q xs)) ≡ cond b (Some x) (find p xs)
    by true true is l more = ap (λ (u : Bool). cond u (Some x) (find p (filter q xs))) is
    by true false is l more = absurd (let e : false ≡ true = l refl in cc)
    by false true is l more = ap (λ (u : Bool). cond u (Some x) (find p (filter q xs))) is ∙ more
    by false false is l more = more

-- a filter adds none
pub any_filter : {X : Type 0} (p q : X → Bool) (xs : List X) → list_any p xs ≡ false → list_any p (filter q xs) ≡ false
any_filter p q [] none = refl
any_filter p q (x ∷ xs) none = by (p x) (q x) refl none (any_filter p q xs)
  where
    by : (b c : Bool) → p x ≡ b → (b || list_any p xs) ≡ false → (list_any p xs ≡ false → list_any p (filter q xs) ≡ false)
        → list_any p (cond c (x ∷ filter q xs) (filter q xs)) ≡ false
    by true c is n more = absurd cc
    by false true is n more = ap (λ (u : Bool). u || list_any p (filter q xs)) is ∙ more n
    by false false is n more = more n

-- one fewer in front adds none
pub any_behind : {X : Type 0} (p : X → Bool) (xs : List X) → list_any p xs ≡ false → list_any p (drop 1 xs) ≡ false
any_behind p [] none = refl
any_behind p (x ∷ xs) none = by (p x) none
  where
    by : (b : Bool) → (b || list_any p xs) ≡ false → list_any p xs ≡ false
    by true n = absurd cc
    by false n = n

-- ---- the place of the first that passes

map_from : {X : Type 0} (p q : X → Bool) (f : X → X) → ((x : X) → p (f x) ≡ q x) → (i : ℕ) (xs : List X) → position_from p i (map f xs) ≡ position_from q i xs
map_from p q f same i [] = refl
map_from p q f same i (x ∷ xs) =
    ap (λ (b : Bool). cond b (Some i) (position_from p (i + 1) (map f xs))) (same x)
    ∙ ap (λ (r : Option ℕ). cond (q x) (Some i) r) (map_from p q f same (i + 1) xs)

pub position_map : {X : Type 0} (p q : X → Bool) (f : X → X) → ((x : X) → p (f x) ≡ q x) → (xs : List X) → position p (map f xs) ≡ position q xs
position_map p q f same xs = position_from-zero p (map f xs) ∙ map_from p q f same 0 xs ∙ sym (position_from-zero q xs)

-- the place isn't before the first
from_least : {X : Type 0} (p : X → Bool) (i n : ℕ) (xs : List X) → position_from p i xs ≡ Some n → i ≤ n
from_least p i n [] at = absurd cc
from_least p i n (x ∷ xs) at = by (p x) (from_least p (i + 1) n xs) at
  where
    by : (b : Bool) → (position_from p (i + 1) xs ≡ Some n → i + 1 ≤ n) → cond b (Some i) (position_from p (i + 1) xs) ≡ Some n → i ≤ n
    by true more e = let same : i ≡ n = cc in omega arith
    by false more e = let over : i + 1 ≤ n = more e in omega arith

both_from : {X : Type 0} (p q : X → Bool) (i n : ℕ) (xs : List X) → position_from p i xs ≡ Some n → position_from q i xs ≡ Some n
    → (x : X) × (p x ≡ true) × (q x ≡ true)
both_from p q i n [] at there = absurd cc
both_from {X} p q i n (x ∷ xs) at there = by (p x) (q x) refl refl (both_from p q (i + 1) n xs) at there
  where
    by : (b c : Bool) → p x ≡ b → q x ≡ c
        → (position_from p (i + 1) xs ≡ Some n → position_from q (i + 1) xs ≡ Some n → (y : X) × (p y ≡ true) × (q y ≡ true))
        → cond b (Some i) (position_from p (i + 1) xs) ≡ Some n → cond c (Some i) (position_from q (i + 1) xs) ≡ Some n
        → (y : X) × (p y ≡ true) × (q y ≡ true)
    by true true is is' more first second = (x, is, is')
    by true false is is' more first second =
        let same : i ≡ n = cc in let over : i + 1 ≤ n = from_least q (i + 1) n xs second in absurd (omega arith)
    by false true is is' more first second =
        let same : i ≡ n = cc in let over : i + 1 ≤ n = from_least p (i + 1) n xs first in absurd (omega arith)
    by false false is is' more first second = more first second

-- two tests with one place pass at the same element
pub both_at : {X : Type 0} (p q : X → Bool) (n : ℕ) (xs : List X) → position p xs ≡ Some n → position q xs ≡ Some n → (x : X) × (p x ≡ true) × (q x ≡ true)
both_at p q n xs at there =
    both_from p q 0 n xs (sym (position_from-zero p xs) ∙ at) (sym (position_from-zero q xs) ∙ there)

none_from : {X : Type 0} (p q : X → Bool) → ((x : X) → q x ≡ true → p x ≡ true) → (i : ℕ) (xs : List X) → position_from p i xs ≡ None → position_from q i xs ≡ None
none_from p q less i [] none = refl
none_from p q less i (x ∷ xs) none = by (p x) (q x) (less x) (none_from p q less (i + 1) xs) none
  where
    by : (b c : Bool) → (c ≡ true → b ≡ true) → (position_from p (i + 1) xs ≡ None → position_from q (i + 1) xs ≡ None)
        → cond b (Some i) (position_from p (i + 1) xs) ≡ None → cond c (Some i) (position_from q (i + 1) xs) ≡ None
    by true c l more e = absurd cc
    by false true l more e = absurd (let wrong : false ≡ true = l refl in cc)
    by false false l more e = more e

-- where a test passes nowhere, one that it implies passes nowhere
pub position_none : {X : Type 0} (p q : X → Bool) → ((x : X) → q x ≡ true → p x ≡ true) → (xs : List X) → position p xs ≡ None → position q xs ≡ None
position_none p q less xs none =
    position_from-zero q xs ∙ none_from p q less 0 xs (sym (position_from-zero p xs) ∙ none)

append_from : {X : Type 0} (p : X → Bool) (i n : ℕ) (xs ys : List X) → position_from p i xs ≡ Some n → position_from p i (xs ++ ys) ≡ Some n
append_from p i n [] ys at = absurd cc
append_from p i n (x ∷ xs) ys at = by (p x) (append_from p (i + 1) n xs ys) at
  where
    by : (b : Bool) → (position_from p (i + 1) xs ≡ Some n → position_from p (i + 1) (xs ++ ys) ≡ Some n)
        → cond b (Some i) (position_from p (i + 1) xs) ≡ Some n → cond b (Some i) (position_from p (i + 1) (xs ++ ys)) ≡ Some n
    by true more e = e
    by false more e = more e

-- more behind change nothing
pub position_append : {X : Type 0} (p : X → Bool) (n : ℕ) (xs ys : List X) → position p xs ≡ Some n → position p (xs ++ ys) ≡ Some n
position_append p n xs ys at =
    position_from-zero p (xs ++ ys) ∙ append_from p 0 n xs ys (sym (position_from-zero p xs) ∙ at)

push_from : {X : Type 0} (p : X → Bool) (i : ℕ) (xs : List X) (y : X) → position_from p i xs ≡ None → p y ≡ true → position_from p i (xs ++ y ∷ []) ≡ Some (i + length xs)
push_from p i [] y none is = ap (λ (b : Bool). cond b (Some i) None) is ∙ ap Some (omega arith)
push_from p i (x ∷ xs) y none is = by (p x) (λ e. push_from p (i + 1) xs y e is) none
  where
    by : (b : Bool) → (position_from p (i + 1) xs ≡ None → position_from p (i + 1) (xs ++ y ∷ []) ≡ Some (i + 1 + length xs))
        → cond b (Some i) (position_from p (i + 1) xs) ≡ None → cond b (Some i) (position_from p (i + 1) (xs ++ y ∷ [])) ≡ Some (i + suc (length xs))
    by true more e = absurd cc
    by false more e = more e ∙ ap Some (omega arith)

-- the first that passes comes last
pub position_push : {X : Type 0} (p : X → Bool) (xs : List X) (y : X) → position p xs ≡ None → p y ≡ true → position p (xs ++ y ∷ []) ≡ Some (length xs)
position_push p xs y none is =
    position_from-zero p (xs ++ y ∷ []) ∙ push_from p 0 xs y (sym (position_from-zero p xs) ∙ none) is ∙ ap Some (omega arith)

set_from : {X : Type 0} (p : X → Bool) (i n m : ℕ) (xs : List X) (y : X) → position_from p i xs ≡ Some n → p y ≡ false → i + m ≢ n → position_from p i (slice_set xs m y) ≡ Some n
set_from p i n m [] y at other apart = at
set_from p i n zero (x ∷ xs) y at other apart = by (p x) at
  where
    by : (b : Bool) → cond b (Some i) (position_from p (i + 1) xs) ≡ Some n → cond (p y) (Some i) (position_from p (i + 1) xs) ≡ Some n
    by true e = absurd (let same : i ≡ n = cc in apart (omega arith))
    by false e = ap (λ (u : Bool). cond u (Some i) (position_from p (i + 1) xs)) other ∙ e
set_from p i n (suc m) (x ∷ xs) y at other apart = by (p x) (λ e. set_from p (i + 1) n m xs y e other (λ same. apart (omega arith))) at
  where
    by : (b : Bool) → (position_from p (i + 1) xs ≡ Some n → position_from p (i + 1) (slice_set xs m y) ≡ Some n)
        → cond b (Some i) (position_from p (i + 1) xs) ≡ Some n → cond b (Some i) (position_from p (i + 1) (slice_set xs m y)) ≡ Some n
    by true more e = e
    by false more e = more e

-- another element at another place changes nothing
pub position_set : {X : Type 0} (p : X → Bool) (n m : ℕ) (xs : List X) (y : X) → position p xs ≡ Some n → p y ≡ false → m ≢ n → position p (slice_set xs m y) ≡ Some n
position_set p n m xs y at other apart =
    position_from-zero p (slice_set xs m y)
    ∙ set_from p 0 n m xs y (sym (position_from-zero p xs) ∙ at) other (λ same. apart (omega arith))
