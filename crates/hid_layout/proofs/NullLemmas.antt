-- The number of a null.
use Rattle.std.proofs.Common.{◌≡◌, ℕ, ◌^◌, ◌<◌, ◌&&◌, not, Bool, true, false, Some, None, ℤ, refl, ap, inl, inr, arith, T, ◌⊎◌}
use Rattle.std.specs.Option.{option_map}
use Rattle.std.specs.Int.Signed.{le_z}
use Rattle.hid_fields.specs.Value.{value_of, is_negative, IsWithin, IsLeastOutside}
use Rattle.hid_layout.specs.declared.main_item.MainItem.{MainItem}
use Rattle.hid_layout.specs.Codes.{is_in, null_number, number_of_pattern}
use Rattle.hid_layout.proofs.PatternLemmas.{first_is, none_passes}

pub test_true : (b : Bool) → T b → b ≡ true
test_true true h = refl
test_true false h = absurd h

pub true_test : (b : Bool) → b ≡ true → T b
true_test true h = tt
true_test false h = absurd (cc)

pub bool_cases : (b : Bool) → (b ≡ true) ⊎ (b ≡ false)
bool_cases true = inl refl
bool_cases false = inr refl

pub both_true : (a b : Bool) → (a && b) ≡ true → (a ≡ true) × (b ≡ true)
both_true true b h = (refl, h)
both_true false b h = absurd (cc)

pub within_true : (min max v : ℤ) → IsWithin min max v → is_in min max v ≡ true
within_true min max v h = rw (test_true (le_z min v) (h.0.le), test_true (le_z v max) (h.1.le)) refl

pub true_within : (min max v : ℤ) → is_in min max v ≡ true → IsWithin min max v
true_within min max v h = (record { le = true_test (le_z min v) ((both_true _ _ h).0) }, record { le = true_test (le_z v max) ((both_true _ _ h).1) })

pub outside_false : (min max v : ℤ) → ¬ IsWithin min max v → is_in min max v ≡ false
outside_false min max v h = elim (bool_cases (is_in min max v)) [ inl e ↦ absurd (h (true_within min max v e)) | inr e ↦ e ]

pub null_found : (item : MainItem) (pattern : ℕ) → IsLeastOutside item.size item.min item.max pattern
    → null_number item ≡ Some (number_of_pattern item pattern)
null_found item pattern h =
    ap (option_map (number_of_pattern item))
    (first_is (λ p. not (is_in item.min item.max (number_of_pattern item p))) pattern 0 (2 ^ item.size)
    (omega arith) (omega (arith, h.fits))
    (ap not (outside_false item.min item.max (number_of_pattern item pattern) h.outside))
    (λ lower a b. ap not (within_true item.min item.max (number_of_pattern item lower) (h.least lower b))))

pub null_not_found : (item : MainItem) → ((pattern : ℕ) → pattern < 2 ^ item.size → IsWithin item.min item.max (value_of pattern item.size (is_negative item.min))) → null_number item ≡ None
null_not_found item all =
    ap (option_map (number_of_pattern item))
    (none_passes (λ p. not (is_in item.min item.max (number_of_pattern item p))) 0 (2 ^ item.size)
    (λ n a b. ap not (within_true item.min item.max (number_of_pattern item n) (all n (omega arith)))))

pub ruleset codes = (null_found, null_not_found)
