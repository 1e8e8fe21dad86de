-- The numbers of patterns.
use Rattle.std.proofs.Common.{◌≡◌, ℕ, zero, suc, ◌+◌, ◌-◌, ◌*◌, ◌/◌, ◌^◌, ◌<◌, ◌≤◌, inl, inr, lit<, Bool, true, false, refl, sym, ◌∙◌, bit_and, arith, ℤ, pos, negsuc, ◌+ℤ◌, ◌-ℤ◌, ◌≤ℤ◌, ◌<ℤ◌, neg_ℤ}
use Rattle.std.specs.Int.{bit_at}
use Rattle.std.proofs.lemmas.Int.{ints}
use Rattle.std.proofs.lemmas.Nat.Bits.{bit_at_above}
use Rattle.std.proofs.lemmas.Nat.{and_mask, shr_high, pow_pos}
use Rattle.std.proofs.Math.Nat.{pow-suc, pow-le-pow_right}
use Rattle.std.proofs.lemmas.Bool.{cases_lt}
use Rattle.hid_fields.specs.Value.{value_of, pattern_for, is_negative, FitsField, FitsEitherSign, IsWithin, IsLeastOutside}

-- twice the weight of the top bit
pub twice_half : (w : ℕ) → 0 < w → 2 ^ w ≡ 2 ^ (w - 1) + 2 ^ (w - 1)
twice_half zero h = absurd (omega arith)
twice_half (suc w) h =
    let e : suc w - 1 ≡ w = omega arith in
    rw (e, pow-suc 2 w) (omega arith)

pub value_of-low : (p w : ℕ) (signed : Bool) → p < 2 ^ (w - 1) → value_of p w signed ≡ pos p
value_of-low p w true h = rw (bit_at_above p (w - 1) (w - 1) h (omega arith)) refl
value_of-low p w false h = refl

top_bit : (p k : ℕ) → 2 ^ k ≤ p → p < 2 ^ k + 2 ^ k → bit_at p k ≡ 1
top_bit p k low high =
    let rest = p - 2 ^ k in
    let e : p ≡ 1 * 2 ^ k + rest = omega arith in
    let small : rest < 2 ^ k = omega arith in
    rw (e, shr_high 1 k rest small) refl

pub value_of-high : (p w : ℕ) → 0 < w → 2 ^ (w - 1) ≤ p → p < 2 ^ w
    → value_of p w true ≡ pos p -ℤ pos (2 ^ w)
value_of-high p w some low high =
    let below : p < 2 ^ (w - 1) + 2 ^ (w - 1) = omega (arith, twice_half w some) in
    rw (top_bit p (w - 1) low below) refl

-- the number of a number's pattern
pub value_of-pattern_for : (v : ℤ) (w : ℕ) (signed : Bool) → 0 < w → FitsField v w signed
    → value_of (pattern_for v w) w signed ≡ v
value_of-pattern_for (pos n) w true some fits = value_of-low n w true (omega (arith, ints))
value_of-pattern_for (pos n) w false some fits = refl
value_of-pattern_for (negsuc n) w true some fits =
    let low : n + 1 ≤ 2 ^ (w - 1) = omega (arith, ints) in
    let twice = twice_half w some in
    let at_least : 2 ^ (w - 1) ≤ 2 ^ w - 1 - n = omega arith in
    let below : 2 ^ w - 1 - n < 2 ^ w = omega arith in
    value_of-high (2 ^ w - 1 - n) w some at_least below ∙ omega (arith, ints)
value_of-pattern_for (negsuc n) w false some fits = absurd (omega (arith, ints))

pattern_for-below : (v : ℤ) (p w : ℕ) → p < 2 ^ w → (pos p -ℤ pos (2 ^ w)) ≡ v → pattern_for v w ≡ p
pattern_for-below (pos n) p w fits is = absurd (omega (arith, ints))
pattern_for-below (negsuc n) p w fits is = omega (arith, ints)

-- a number has no other pattern
pub pattern_for-only : (v : ℤ) (w : ℕ) (signed : Bool) (p : ℕ) → 0 < w → p < 2 ^ w
    → value_of p w signed ≡ v → pattern_for v w ≡ p
pattern_for-only v w false p some fits is = rw (← is) refl
pattern_for-only v w true p some fits is =
    elim (cases_lt p (2 ^ (w - 1))) [
      | inl low ↦ let e : pos p ≡ v = rw (value_of-low p w true low) at is in rw (← e) refl
      | inr high ↦
          pattern_for-below v p w fits (rw (value_of-high p w some high fits) at is)
    ]

pub pattern_for-lt : (v : ℤ) (w : ℕ) → 0 < w → FitsEitherSign v w → pattern_for v w < 2 ^ w
pattern_for-lt (pos n) w some fits = omega (arith, ints)
pattern_for-lt (negsuc n) w some fits = omega (arith, ints, twice_half w some)

-- by its top bit, as it is read
pub value_of-top : (p w : ℕ) (signed : Bool) → signed ≡ true → bit_and (p / 2 ^ (w - 1)) 1 ≡ 1
    → value_of p w signed ≡ pos p -ℤ pos (2 ^ w)
value_of-top p w true is top = rw (sym (and_mask (p / 2 ^ (w - 1)) 1) ∙ top) refl
value_of-top p w false is top = absurd (cc)

-- the pattern of a number that is known
pub pattern_for-pos : (v : ℤ) (w n : ℕ) → v ≡ pos n → pattern_for v w ≡ n
pattern_for-pos (pos m) w n is = omega (arith, ints)
pattern_for-pos (negsuc m) w n is = absurd (omega (arith, ints))

pub pattern_for-neg : (v : ℤ) (w n : ℕ) → v <ℤ pos 0 → (v +ℤ pos (2 ^ w)) ≡ pos n → pattern_for v w ≡ n
pattern_for-neg (pos m) w n below is = absurd (omega (arith, ints))
pattern_for-neg (negsuc m) w n below is = omega (arith, ints)

pub width_fits : (w : ℕ) → w ≤ 32 → 2 ^ w ≤ 2 ^ 32
width_fits w width = pow-le-pow_right {n = 2} (lit< tt) {i = w} {j = 32} width

-- The least pattern out of a range that goes below 0: one of the lower half that is over the
-- maximum, or the first of the upper half.
pub first_of_lower : (w p : ℕ) (min max : ℤ) → 0 < w → min <ℤ pos 0 → p < 2 ^ (w - 1) → max <ℤ pos p
    → ((lower : ℕ) → lower < p → pos lower ≤ℤ max) → IsLeastOutside w min max p
first_of_lower w p min max some below half over least = record {
  fits = omega (arith, twice_half w some);
  outside = λ h. let e = value_of-low p w (is_negative min) half in let h1 : pos p ≤ℤ max = rw (← e) h.1 in omega (arith, ints);
  least = λ lower h. let e = value_of-low lower w (is_negative min) (omega arith) in rw e (omega (arith, ints), least lower h);
}

sign : (min : ℤ) → min <ℤ pos 0 → is_negative min ≡ true
sign (pos n) h = absurd (omega (arith, ints))
sign (negsuc n) h = refl

pub first_of_upper : (w p : ℕ) (min max : ℤ) → 0 < w → min <ℤ pos 0 → p ≡ 2 ^ (w - 1)
    → neg_ℤ (pos (2 ^ (w - 1))) <ℤ min → ((lower : ℕ) → lower < 2 ^ (w - 1) → pos lower ≤ℤ max)
    → IsLeastOutside w min max p
first_of_upper w p min max some below e under least = record {
  fits = omega (arith, twice_half w some, pow_pos (w - 1));
  outside = λ h.
      let v : value_of p w (is_negative min) ≡ pos p -ℤ pos (2 ^ w) = rw (sign min below) (value_of-high p w some (omega arith) (omega (arith, twice_half w some, pow_pos (w - 1)))) in
      let h0 : min ≤ℤ (pos p -ℤ pos (2 ^ w)) = rw (← v) h.0 in
      omega (arith, ints, twice_half w some);
  least = λ lower h. let v = value_of-low lower w (is_negative min) (omega arith) in rw v (omega (arith, ints), least lower (omega arith));
}

pub all_within : (w : ℕ) (min max : ℤ) → 0 < w → min <ℤ pos 0 → min ≤ℤ neg_ℤ (pos (2 ^ (w - 1)))
    → ((lower : ℕ) → lower < 2 ^ (w - 1) → pos lower ≤ℤ max)
    → (p : ℕ) → p < 2 ^ w → IsWithin min max (value_of p w (is_negative min))
all_within w min max some below least lower p fits =
    elim (cases_lt p (2 ^ (w - 1))) [
      | inl low ↦ let v = value_of-low p w (is_negative min) low in rw v (omega (arith, ints), lower p low)
      | inr high ↦
          let v : value_of p w (is_negative min) ≡ pos p -ℤ pos (2 ^ w) = rw (sign min below) (value_of-high p w some high fits) in
          let zero_is : pos 0 ≤ℤ max = lower 0 (pow_pos (w - 1)) in
          rw v (omega (arith, ints, twice_half w some), omega (arith, ints))
    ]
