-- Numbers that are read digit by digit, and usages.
use Rattle.std.proofs.Common.{◌≡◌, ℕ, zero, suc, ◌+◌, ◌-◌, ◌*◌, ◌^◌, ◌<◌, ◌≤◌, min, Bool, true, false, List, [], ◌∷◌, length, take, get_or, refl, sym, ap, ◌∙◌, arith, ⊎_elim, nat_lt, cond, Option, None, Some, subst, lt_of_lt_of_le, drop, pos, neg_ℤ, ◌-ℤ◌, to_z, of_z, SFits, w64, nat_eq}
use Rattle.std.proofs.Math.Nat.{pow-le-pow_right}
use Rattle.std.proofs.Math.IntN.{+ℤ_idl}
use Rattle.std.specs.Prelude.{position}
use Rattle.std.specs.Option.{option_map}
use Rattle.std.specs.List.{list_all}
use Rattle.std.specs.Str.Parse.{digits_value, AllDigits}
use Rattle.std.specs.Char.{digit_value}
use Rattle.std.proofs.lemmas.List.Folds.{list_all_more}
use Rattle.std.proofs.lemmas.Int.Digits.{digits_value_more, digits_value-lt}
use Rattle.std.proofs.lemmas.List.{take_all, length-drop}
use Rattle.std.proofs.lemmas.Int.{to_z_pos, to_z-of_z}
use Rattle.std.proofs.lemmas.Bool.{cases_lt, and_from, and_parts, lt-ltb, ltb-true, cond-true, cond-false, eq-eqb, ne_eqb}
use native.Mathlib.Nat.{mul-suc}
use Rattle.hid_text.specs.Numbers.{number_of, hex_number_of, is_colon, usage_from, usage_at, usage_of_word, short_number_of, signed_of_word}

grows : (n b : ℕ) → 1 ≤ b → n ≤ n * b
grows n zero some = absurd (omega arith)
grows n (suc b) some = rw mul-suc (omega arith)

-- a number that is cut at m goes on by a digit
capped : (v b d m : ℕ) → 1 ≤ b → min (min (min v m * b) m + d) m ≡ min (v * b + d) m
capped v b d m some = ⊎_elim
    (λ (over : m < v). let cut : min v m ≡ m = omega arith in rw cut (omega (arith, grows m b some, grows v b some)))
    (λ (under : v ≤ m). let whole : min v m ≡ v = omega arith in rw whole (omega arith))
    (cases_lt m v)

pub one_digit_more : (base : ℕ) (word : List ℕ) (i value product next : ℕ) → 2 ≤ base → i < length word
    → list_all (λ c. nat_lt (digit_value c) base) (take i word) ≡ true → value ≡ min (digits_value base (take i word)) (2 ^ 64 - 1) → digit_value (get_or word i 0) < base
    → product ≡ min (value * base) (2 ^ 64 - 1) → next ≡ min (product + digit_value (get_or word i 0)) (2 ^ 64 - 1)
    → (list_all (λ c. nat_lt (digit_value c) base) (take (i + 1) word) ≡ true) × (next ≡ min (digits_value base (take (i + 1) word)) (2 ^ 64 - 1))
one_digit_more base word i value product next large below all is digit times plus = (
  list_all_more (λ c. nat_lt (digit_value c) base) word i 0 below ∙ and_from _ _ all (lt-ltb _ _ digit),
  plus ∙ rw (times, is) (capped (digits_value base (take i word)) base (digit_value (get_or word i 0)) (2 ^ 64 - 1) (omega arith) ∙ ap (λ n. min n (2 ^ 64 - 1)) (sym (digits_value_more base word i below))),
)

all_digits : (base : ℕ) (word : List ℕ) → list_all (λ c. nat_lt (digit_value c) base) word ≡ true → AllDigits base word
all_digits base [] all = tt
all_digits base (c ∷ word) all = let parts = and_parts _ _ all in (ltb-true _ _ parts.0, all_digits base word parts.1)

encoded : (b : Bool) (v n : ℕ) → cond b (Some v) None ≡ Some n → (b ≡ true) × (v ≡ n)
encoded true v n e = (refl, cc)
encoded false v n e = cc

number_below : (base : ℕ) (word : List ℕ) (n : ℕ) → number_of base word ≡ Some n → n < base ^ length word
unfolding number_of
number_below base word n e =
    let found = encoded _ _ _ e in
    subst (λ m. m < base ^ length word) found.1 (digits_value-lt base word (all_digits base word (and_parts _ _ found.0).1))

cut_number : (o : Option ℕ) (m bound value : ℕ) → ((n : ℕ) → o ≡ Some n → n < bound) → bound ≤ m → option_map (λ n. min n m) o ≡ Some value → (o ≡ Some value) × (value < bound)
cut_number None m bound value below small e = cc
cut_number (Some n) m bound value below small e =
    let same : min n m ≡ value = cc in
    let less = below n refl in
    let whole : n ≡ value = omega arith in
    (ap (λ v. Some v) whole, omega arith)

-- a number of few digits isn't cut
pub short_number : (base k : ℕ) (word : List ℕ) (r : Option ℕ) (value : ℕ) → 0 < base → length word ≤ k → base ^ k ≤ 2 ^ 64 - 1 → r ≡ option_map (λ n. min n (2 ^ 64 - 1)) (number_of base word) → r ≡ Some value
    → (number_of base word ≡ Some value) × (value < base ^ k)
short_number base k word r value some short small is e =
    cut_number (number_of base word) (2 ^ 64 - 1) (base ^ k) value
    (λ n found. lt_of_lt_of_le (number_below base word n found) (pow-le-pow_right some short)) small (sym is ∙ e)

-- ---- a number with a minus before it, and one without

-- a number of 18 digits is read as itself where it is signed
pub short_value : (n : ℕ) → n < 10 ^ 18 → to_z w64 n ≡ pos n
short_value n small = to_z_pos w64 n (omega (arith, small))

-- the negative of a number of 18 digits fits where it is signed
minus_fits : (n : ℕ) → n < 10 ^ 18 → SFits w64 (neg_ℤ (pos n))
minus_fits zero small = omega arith
minus_fits (suc n) small = omega (arith, small)

-- taken from zero it is its negative
pub short_minus : (n : ℕ) → n < 10 ^ 18 → to_z w64 (of_z w64 (pos 0 -ℤ to_z w64 n)) ≡ neg_ℤ (pos n)
short_minus n small =
    let is : pos 0 -ℤ to_z w64 n ≡ neg_ℤ (pos n) = ap (λ z. pos 0 -ℤ z) (short_value n small) ∙ +ℤ_idl (neg_ℤ (pos n)) in
    ap (λ z. to_z w64 (of_z w64 z)) is ∙ to_z-of_z w64 (neg_ℤ (pos n)) (minus_fits n small)

-- the digits after a minus
pub minus_number : (word : List ℕ) (digits : Option ℕ) → 1 ≤ length word → get_or word 0 0 ≡ 45
    → digits ≡ short_number_of (take (length word - 1) (drop 1 word))
    → option_map (λ n. neg_ℤ (pos n)) digits ≡ signed_of_word word
unfolding signed_of_word
minus_number [] digits some first is = absurd (omega arith)
minus_number (c ∷ word) digits some first is =
    ap (option_map (λ n. neg_ℤ (pos n))) (is ∙ ap short_number_of (take_all (length (c ∷ word) - 1) word (omega arith))) ∙ sym (cond-true (nat_eq c 45) _ _ (eq-eqb c 45 first))

-- digits without one
pub plain_number : (word : List ℕ) (digits : Option ℕ) → 1 ≤ length word → (get_or word 0 0 ≡ 45 → ⊥)
    → digits ≡ short_number_of word → option_map pos digits ≡ signed_of_word word
unfolding signed_of_word
plain_number [] digits some other is = absurd (omega arith)
plain_number (c ∷ word) digits some other is = ap (option_map pos) is ∙ sym (cond-false (nat_eq c 45) _ _ (ne_eqb c 45 other))

-- ---- a usage

-- what stands on the two sides of a colon
pub usage_parts : (word : List ℕ) (colon : ℕ) (page id : Option ℕ) → position is_colon word ≡ Some colon → page ≡ hex_number_of (take colon word)
    → id ≡ hex_number_of (take (length word - (colon + 1)) (drop (colon + 1) word))
    → usage_from page id ≡ usage_of_word word
unfolding usage_of_word
usage_parts word colon page id at before behind =
    ap (usage_from page) (behind ∙ ap hex_number_of (take_all (length word - (colon + 1)) (drop (colon + 1) word) (omega (arith, length-drop (colon + 1) word))))
    ∙ ap (λ p. usage_from p (hex_number_of (drop (colon + 1) word))) before ∙ sym (ap (usage_at word) at)

-- no number before it
pub no_page : (word : List ℕ) (colon : ℕ) → position is_colon word ≡ Some colon
    → None ≡ hex_number_of (take colon word) → None ≡ usage_of_word word
unfolding usage_of_word
no_page word colon at none = ap (λ p. usage_from p (hex_number_of (drop (colon + 1) word))) none ∙ sym (ap (usage_at word) at)
