-- Switches side by side are written as one pattern.
use Rattle.std.proofs.Common.{◌≡◌, ℕ, zero, suc, ◌+◌, ◌*◌, ◌<◌, ◌≤◌, Bool, true, false, cond, ℤ, pos, List, [], ◌∷◌, length, map, get_or, take, All, unwrap_or, refl, sym, ap, ◌∙◌, subst, arith}
use Rattle.std.specs.List.{slice_get}
use Rattle.std.specs.Int.{bit_at, div_ceil}
use Rattle.std.specs.Simd.Lanes.{mask_l}
use Rattle.std.proofs.lemmas.Simd.{bit_mask_l}
use Rattle.std.proofs.lemmas.Int.{ints}
use Rattle.std.proofs.lemmas.List.{get_or-map, length-map, take_all}
use Rattle.hid_fields.specs.Field.{bit_of, pattern_of}
use Rattle.hid_fields.specs.Value.{value_of, FitsField}
use Rattle.hid_fields.proofs.WordLemmas.{bit_at-pattern_of}
use Rattle.hid_snapshots.specs.Words.{switch_words, words_in}
use Rattle.hid_snapshots.proofs.WordLemmas.{enough}
use Rattle.hid_snapshots.specs.Numbers.{number_at, numbers_in}
use Rattle.hid_snapshots.specs.Sending.{switch_number, IsPatternOf}
use Rattle.hid_snapshots.proofs.NumberLemmas.{written}

no_place : (ps : List Bool) → length ps ≤ 0 → 0 ≡ mask_l ps
no_place [] h = refl
no_place (p ∷ ps) h = absurd (omega arith)

-- the first word of up to 32 places is their pattern
pub first_word : (ps : List Bool) → length ps ≤ 32 → unwrap_or (slice_get (switch_words ps) 0) 0 ≡ mask_l ps
unfolding words_in
first_word ps few = of_words (div_ceil (length ps) 64) (enough (length ps))
  where
    of_words : (k : ℕ) → length ps ≤ 64 * k → unwrap_or (slice_get (words_in k ps) 0) 0 ≡ mask_l ps
    of_words zero h = no_place ps (omega arith)
    of_words (suc k) h = ap mask_l (take_all 64 ps (omega arith))

-- the number of a bit is that of its switch, where that can be carried
switch_value : (signed b : Bool) → FitsField (switch_number b) 1 signed → value_of (cond b 1 0) 1 signed ≡ switch_number b
switch_value true true fits = absurd (omega (arith, ints, fits.1))
switch_value true false fits = refl
switch_value false true fits = refl
switch_value false false fits = refl

-- the number of one of the fields
switch_at : (bytes : List ℕ) (at n : ℕ) (signed : Bool) (ps : List Bool) → n < length ps → pattern_of bytes at (length ps) ≡ mask_l ps
    → FitsField (switch_number (get_or ps n false)) 1 signed → number_at bytes (at + 1 * n) 1 signed ≡ switch_number (get_or ps n false)
switch_at bytes at n signed ps within is fits =
    let here : at + 1 * n + 0 ≡ at + n = omega arith in
    let bit : bit_of bytes (at + n) ≡ cond (get_or ps n false) 1 0
    = sym (bit_at-pattern_of bytes at (length ps) n within) ∙ ap (λ (w : ℕ). bit_at w n) is ∙ bit_mask_l ps n in
    let pattern : pattern_of bytes (at + 1 * n) 1 ≡ cond (get_or ps n false) 1 0 = omega (arith, ap (bit_of bytes) here, bit) in
    ap (λ (p : ℕ). value_of p 1 signed) pattern ∙ switch_value signed (get_or ps n false) fits

-- the fields have the numbers of the switches
switches_in : (bytes : List ℕ) (at : ℕ) (signed : Bool) (ps : List Bool) → pattern_of bytes at (length ps) ≡ mask_l ps
    → All (λ v. FitsField v 1 signed) (map switch_number ps) → numbers_in bytes at 1 signed (length ps) ≡ map switch_number ps
switches_in bytes at signed ps is fits = so_far (length ps) (omega arith) ∙ take_all (length ps) (map switch_number ps) (omega (arith, length-map ps switch_number))
  where
    so_far : (n : ℕ) → n ≤ length ps → numbers_in bytes at 1 signed n ≡ take n (map switch_number ps)
    so_far zero h = refl
    so_far (suc n) h =
        let next : suc n ≡ n + 1 = omega arith in
        let within : n < length ps = omega arith in
        let inside : n < length (map switch_number ps) = omega (arith, length-map ps switch_number) in
        let of_switch : get_or (map switch_number ps) n (pos 0) ≡ switch_number (get_or ps n false) = get_or-map switch_number ps n false (pos 0) within in
        let fit : FitsField (switch_number (get_or ps n false)) 1 signed = subst (λ (v : ℤ). FitsField v 1 signed) of_switch (fits n (pos 0) inside) in
        subst (λ (k : ℕ). numbers_in bytes at 1 signed k ≡ take k (map switch_number ps)) (sym next)
        (written bytes bytes at 1 signed n (map switch_number ps) (switch_number (get_or ps n false)) (pos 0) inside of_switch (λ m outside. refl)
        (switch_at bytes at n signed ps within is fit) (so_far n (omega arith)))

-- as many as their pattern has bits
pub pattern_count : (numbers : List ℤ) (pattern : ℕ) (it : IsPatternOf numbers pattern) → length numbers ≡ length it.places
pattern_count numbers pattern it = ap length it.numbers_are ∙ length-map it.places switch_number

-- fields of one bit whose pattern is that of switches have their numbers
pub pattern_sent : (bytes : List ℕ) (numbers : List ℤ) (at width count pattern : ℕ) (signed : Bool) → width ≡ 1 → IsPatternOf numbers pattern → length numbers ≡ count
    → pattern_of bytes at count ≡ pattern → All (λ v. FitsField v width signed) numbers → numbers_in bytes at width signed count ≡ numbers
pattern_sent bytes numbers at width count pattern signed one it all field fits =
    let many : count ≡ length it.places = sym all ∙ pattern_count numbers pattern it in
    let there : pattern_of bytes at (length it.places) ≡ mask_l it.places = ap (λ (n : ℕ). pattern_of bytes at n) (sym many) ∙ field ∙ it.is in
    let fit : All (λ v. FitsField v 1 signed) (map switch_number it.places)
    = subst (λ (ns : List ℤ). All (λ v. FitsField v 1 signed) ns) it.numbers_are (subst (λ (w : ℕ). All (λ v. FitsField v w signed) numbers) one fits) in
    rw (one, many) (switches_in bytes at signed it.places there fit ∙ sym it.numbers_are)
