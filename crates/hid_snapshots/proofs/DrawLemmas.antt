-- Numbers that are drawn one after another.
use Rattle.std.proofs.Common.{◌≡◌, ℕ, zero, suc, ◌+◌, ◌<◌, ◌≤◌, List, [], ◌∷◌, ◌++◌, length, map, drop, get_or, Bool, false, Some, ℤ, pos, ◌+ℤ◌, Fits, w64, sym, ap, ◌∙◌, arith}
use Rattle.std.specs.List.{slice_get}
use Rattle.std.proofs.lemmas.List.{length-drop}
use Rattle.hid_snapshots.specs.Words.{is_on, IsFirst}
use Rattle.hid_snapshots.specs.Sending.{pressed_places_from}
use Rattle.hid_snapshots.proofs.ListLemmas.{drop_at}
use Rattle.hid_snapshots.proofs.PlaceLemmas.{placed_next, placed_none}

front : (k : ℕ) → suc k + 1 ≡ suc (k + 1)
front k = omega arith

-- where some are left, the next one is there
pub left_within : {A : Type 0} (xs : List A) (k n : ℕ) → n ≡ length (drop k xs) → 0 < n → k < length xs
left_within xs k n is some = omega (arith, is, some, length-drop k xs)

-- the place after one of at most 131,072 is one that a program can count
pub next_fits : (k n : ℕ) → k < n → n ≤ 131072 → Fits w64 (k + 1)
next_fits k n within few = omega arith

-- what is drawn from a list's rest
pub drawn_at : {A : Type 0} (xs rest : List A) (k : ℕ) (x d : A) → drop k xs ≡ x ∷ rest → (get_or xs k d ≡ x) × (rest ≡ drop (k + 1) xs)
drawn_at [] rest zero x d h = absurd (cc)
drawn_at [] rest (suc k) x d h = absurd (cc)
drawn_at (y ∷ ys) rest zero x d h = (cc, cc)
drawn_at (y ∷ ys) rest (suc k) x d h =
    let next = drawn_at ys rest k x d h in
    (next.0, next.1 ∙ ap (λ i. drop i (y ∷ ys)) (sym (front k)))

-- one element, mapped
pub map_drawn : {A B : Type 0} (f : A → B) (xs : List A) (i : ℕ) (x : A) (y : B) → slice_get xs i ≡ Some x → y ≡ f x → map f (drop i xs) ≡ y ∷ map f (drop (i + 1) xs)
map_drawn f xs i x y there is = rw is (ap (map f) (drop_at xs i x there))

-- a pressed key, before what is repeated
pub key_drawn : (min least n : ℤ) (ps : List Bool) (from place : ℕ) (then : List ℤ) → IsFirst (is_on ps) from (length ps) place → least ≡ min → n ≡ min +ℤ pos place
    → pressed_places_from min from (drop from ps) ++ then ≡ n
    ∷ (pressed_places_from least (place + 1) (drop (place + 1) ps) ++ then)
key_drawn min least n ps from place then first same is = rw (same, is) (ap (λ (t : List ℤ). t ++ then) (placed_next min ps from place first))

-- no pressed key is left
pub keys_drawn : (min : ℤ) (ps : List Bool) (from : ℕ) (then : List ℤ) → ((i : ℕ) → from ≤ i → i < length ps → is_on ps i ≡ false)
    → pressed_places_from min from (drop from ps) ++ then ≡ then
keys_drawn min ps from then none = ap (λ (t : List ℤ). t ++ then) (placed_none min ps from none)
