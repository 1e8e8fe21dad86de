-- The least pattern that names nothing, by the numbers that patterns stand for.
use Rattle.std.proofs.Common.{◌≡◌, ℕ, zero, suc, ◌+◌, ◌-◌, ◌^◌, ◌<◌, ◌≤◌, Bool, true, false, cond, List, refl, sym, ap, subst, ◌∙◌, arith, Some, None, Option, inl, inr}
use Rattle.std.specs.Prelude.{IfSome, IfNone, is_some, ℤ, pos, negsuc, neg_ℤ, ◌+ℤ◌, ◌-ℤ◌, ◌≤ℤ◌, ◌<ℤ◌, int_lt}
use Rattle.std.specs.Option.{option_map}
use Rattle.std.proofs.lemmas.Int.{ints}
use Rattle.std.proofs.lemmas.Bool.{cases_lt}
use Rattle.std.proofs.lemmas.Nat.{pow_pos}
use Rattle.hid_fields.specs.Value.{value_of, is_negative}
use Rattle.hid_fields.proofs.ValueLemmas.{value_of-low, value_of-high, twice_half}
use Rattle.hid_layout.specs.declared.main_item.MainItem.{MainItem}
use Rattle.hid_report_descriptor.specs.declared.usage.Usage.{Usage}
use Rattle.hid_report_descriptor.specs.Faults.{least_value, greatest_value}
use Rattle.hid_layout.specs.Codes.{first_passing, names_nothing, number_of_pattern, empty_number}
use Rattle.hid_layout.specs.EmptyCodes.{IsLeastNothing, NamesAll}

-- the least number that passes, found
pub first_is : (test : ℕ → Bool) (n from count : ℕ) → from ≤ n → n < from + count → test n ≡ true → ((lower : ℕ) → from ≤ lower → lower < n → test lower ≡ false) → first_passing test from count ≡ Some n
unfolding first_passing
first_is test n from zero low high yes_n lower = absurd (omega arith)
first_is test n from (suc count) low high yes_n lower =
    elim (cases_lt from n) [
      | inl lt ↦ rw (lower from (omega arith) lt) (first_is test n (from + 1) count (omega arith) (omega arith) yes_n (λ k a b. lower k (omega arith) b))
      | inr ge ↦ let e : from ≡ n = omega arith in rw (e, yes_n) refl
    ]

-- none passes
pub none_passes : (test : ℕ → Bool) (from count : ℕ) → ((n : ℕ) → from ≤ n → n < from + count → test n ≡ false) → first_passing test from count ≡ None
unfolding first_passing
none_passes test from zero fails = refl
none_passes test from (suc count) fails = rw (fails from (omega arith) (omega arith)) (none_passes test (from + 1) count (λ n a b. fails n (omega arith) (omega arith)))

-- the code of this pattern, which stands for this number
code_is : (item : MainItem) (us : List Usage) (p : ℕ) (v : ℤ) → p < 2 ^ item.size → number_of_pattern item p ≡ v
    → names_nothing item us v ≡ true → ((k : ℕ) → k < p → names_nothing item us (number_of_pattern item k) ≡ false)
    → empty_number item us ≡ Some v
code_is item us p v fits is nothing lower =
    ap (option_map (number_of_pattern item))
    (first_is (λ k. names_nothing item us (number_of_pattern item k)) p 0 (2 ^ item.size) (omega arith)
    (omega (arith, fits)) (ap (names_nothing item us) is ∙ nothing) (λ k a b. lower k b))
    ∙ ap (λ z. Some z) is

no_code : (item : MainItem) (us : List Usage)
    → ((k : ℕ) → k < 2 ^ item.size → names_nothing item us (number_of_pattern item k) ≡ false)
    → empty_number item us ≡ None
no_code item us all =
    ap (option_map (number_of_pattern item))
    (none_passes (λ k. names_nothing item us (number_of_pattern item k)) 0 (2 ^ item.size)
    (λ k a b. all k (omega (arith, b))))

sign_of : (min : ℤ) → int_lt min (pos 0) ≡ is_negative min
sign_of (pos n) = grind (arith, ints)
sign_of (negsuc n) = refl

pub greatest_at : (min : ℤ) (w : ℕ) (s : Bool) → is_negative min ≡ s → greatest_value min w ≡ cond s (pos (2 ^ (w - 1) - 1)) (pos (2 ^ w - 1))
greatest_at min w s e = ap (λ b. cond b (pos (2 ^ (w - 1) - 1)) (pos (2 ^ w - 1))) (sign_of min ∙ e)

pub least_at : (min : ℤ) (w : ℕ) (s : Bool) → is_negative min ≡ s → least_value min w ≡ cond s (neg_ℤ (pos (2 ^ (w - 1)))) (pos 0)
least_at min w s e = ap (λ b. cond b (neg_ℤ (pos (2 ^ (w - 1)))) (pos 0)) (sign_of min ∙ e)

pub plain : (item : MainItem) (k : ℕ) → is_negative item.min ≡ false → number_of_pattern item k ≡ pos k
plain item k e = ap (value_of k item.size) e

pub high : (item : MainItem) (k : ℕ) → is_negative item.min ≡ true → 0 < item.size → 2 ^ (item.size - 1) ≤ k
    → k < 2 ^ item.size → number_of_pattern item k ≡ pos k -ℤ pos (2 ^ item.size)
high item k e some a b = ap (value_of k item.size) e ∙ value_of-high k item.size some a b

pub low : (item : MainItem) (k : ℕ) → k < 2 ^ (item.size - 1) → number_of_pattern item k ≡ pos k
low item k h = value_of-low k item.size (is_negative item.min) h

-- a number from 0 on is found
pub found_from_zero : (item : MainItem) (us : List Usage) (v : ℤ) → 0 < item.size → IsLeastNothing item us (pos 0) (greatest_value item.min item.size +ℤ pos 1) v → empty_number item us ≡ Some v
found_from_zero item us (negsuc n) some is = absurd (omega (arith, ints, is.low))
found_from_zero item us (pos n) some is = by_sign (is_negative item.min) refl
  where
    by_sign : (s : Bool) → is_negative item.min ≡ s → empty_number item us ≡ Some (pos n)
    by_sign false e =
        let fits : n < 2 ^ item.size = omega (arith, ints, greatest_at item.min item.size false e, is.high, pow_pos item.size) in
        code_is item us n (pos n) fits (plain item n e) is.nothing (λ k h. ap (names_nothing item us) (plain item k e) ∙ is.below (pos k) (omega (arith, ints)) (omega (arith, ints, h)))
    by_sign true e =
        let fits : n < 2 ^ (item.size - 1) = omega (arith, ints, greatest_at item.min item.size true e, is.high, pow_pos (item.size - 1)) in
        code_is item us n (pos n) (omega (arith, fits, twice_half item.size some)) (low item n fits) is.nothing
        (λ k h. ap (names_nothing item us) (low item k (omega (arith, h, fits))) ∙ is.below (pos k) (omega (arith, ints)) (omega (arith, ints, h)))

-- one below 0 is found
pub found_below_zero : (item : MainItem) (us : List Usage) (v : ℤ) → 0 < item.size → is_negative item.min ≡ true → NamesAll item us (pos 0) (greatest_value item.min item.size +ℤ pos 1)
    → IsLeastNothing item us (least_value item.min item.size) (pos 0) v → empty_number item us ≡ Some v
found_below_zero item us (pos n) some e all is = absurd (omega (arith, ints, is.high))
found_below_zero item us (negsuc m) some e all is =
    let half : 2 ^ item.size ≡ 2 ^ (item.size - 1) + 2 ^ (item.size - 1) = twice_half item.size some in
    let few : m < 2 ^ (item.size - 1) = omega (arith, ints, least_at item.min item.size true e, is.low) in
    let p : ℕ = 2 ^ item.size - 1 - m in
    let number : number_of_pattern item p ≡ negsuc m =
    high item p e some (omega (arith, half, few)) (omega (arith, half, few)) ∙ omega (arith, ints, half, few) in
    code_is item us p (negsuc m) (omega (arith, half, few)) number is.nothing (λ k h. lower p (omega (arith, half, few)) (omega (arith, ints, half, few)) k h)
  where
    lower : (p : ℕ) → p < 2 ^ item.size → (pos p -ℤ pos (2 ^ item.size)) ≡ negsuc m → (k : ℕ) → k < p
        → names_nothing item us (number_of_pattern item k) ≡ false
    lower p fits number k h = elim (cases_lt k (2 ^ (item.size - 1))) [
      | inl small ↦ ap (names_nothing item us) (low item k small) ∙ all (pos k) (omega (arith, ints)) (omega (arith, ints, small, greatest_at item.min item.size true e))
      | inr large ↦ ap (names_nothing item us) (high item k e some large (omega (arith, h, fits)))
          ∙ is.below (pos k -ℤ pos (2 ^ item.size)) (omega (arith, ints, large, twice_half item.size some, least_at item.min item.size true e)) (omega (arith, ints, h, number))
    ]

-- none is found
pub none_from_zero : (item : MainItem) (us : List Usage) → is_negative item.min ≡ false → NamesAll item us (pos 0) (greatest_value item.min item.size +ℤ pos 1) → empty_number item us ≡ None
none_from_zero item us e all = no_code item us (λ k h. ap (names_nothing item us) (plain item k e) ∙ all (pos k) (omega (arith, ints)) (omega (arith, ints, h, greatest_at item.min item.size false e)))

pub none_below_zero : (item : MainItem) (us : List Usage) → 0 < item.size → is_negative item.min ≡ true → NamesAll item us (pos 0) (greatest_value item.min item.size +ℤ pos 1)
    → NamesAll item us (least_value item.min item.size) (pos 0) → empty_number item us ≡ None
none_below_zero item us some e all below = no_code item us lower
  where
    lower : (k : ℕ) → k < 2 ^ item.size → names_nothing item us (number_of_pattern item k) ≡ false
    lower k h = elim (cases_lt k (2 ^ (item.size - 1))) [
      | inl small ↦ ap (names_nothing item us) (low item k small) ∙ all (pos k) (omega (arith, ints)) (omega (arith, ints, small, greatest_at item.min item.size true e))
      | inr large ↦ ap (names_nothing item us) (high item k e some large h)
          ∙ below (pos k -ℤ pos (2 ^ item.size)) (omega (arith, ints, large, twice_half item.size some, least_at item.min item.size true e)) (omega (arith, ints, h))
    ]

pub greatest_from_zero : (min : ℤ) (w : ℕ) → pos 0 ≤ℤ greatest_value min w
greatest_from_zero min w = by_sign (int_lt min (pos 0)) (pow_pos (w - 1)) (pow_pos w)
  where
    by_sign : (b : Bool) → 0 < 2 ^ (w - 1) → 0 < 2 ^ w → pos 0 ≤ℤ cond b (pos (2 ^ (w - 1) - 1)) (pos (2 ^ w - 1))
    by_sign true h k = omega (arith, ints, h)
    by_sign false h k = omega (arith, ints, k)

pub least_to_zero : (min : ℤ) (w : ℕ) → least_value min w ≤ℤ pos 0
least_to_zero min w = by_sign (int_lt min (pos 0))
  where
    by_sign : (b : Bool) → cond b (neg_ℤ (pos (2 ^ (w - 1)))) (pos 0) ≤ℤ pos 0
    by_sign true = omega (arith, ints)
    by_sign false = omega (arith, ints)

pub negative : (min : ℤ) → min <ℤ pos 0 → is_negative min ≡ true
negative (pos n) h = absurd (omega (arith, ints, h))
negative (negsuc n) h = refl

pub not_negative : (min : ℤ) → pos 0 ≤ℤ min → is_negative min ≡ false
not_negative (pos n) h = refl
not_negative (negsuc n) h = absurd (omega (arith, ints, h))

pub least_below_zero : (min : ℤ) (w : ℕ) → is_negative min ≡ true → least_value min w <ℤ pos 0
least_below_zero min w e = let h : 0 < 2 ^ (w - 1) = pow_pos (w - 1) in omega (arith, ints, least_at min w true e, h)

-- the search in the numbers from 0 on, and then in those below 0
pub by_first : (item : MainItem) (us : List Usage) (first end : ℤ) (o : Option ℤ) → 0 < item.size → first ≡ pos 0 → end ≡ (greatest_value item.min item.size +ℤ pos 1)
    → IfSome o (λ v. IsLeastNothing item us first end v) → is_some o ≡ true → o ≡ empty_number item us
by_first item us first end (Some v) some f e found h = sym (found_from_zero item us v some (subst (λ (z : ℤ). IsLeastNothing item us z (greatest_value item.min item.size +ℤ pos 1) v) f (subst (λ (z : ℤ). IsLeastNothing item us first z v) e found)))
by_first item us first end None some f e found h = absurd cc

from_start : (item : MainItem) (us : List Usage) (first end : ℤ) → first ≡ pos 0 → end ≡ (greatest_value item.min item.size +ℤ pos 1) → NamesAll item us first end → NamesAll item us (pos 0) (greatest_value item.min item.size +ℤ pos 1)
from_start item us first end f e all v a b = all v (omega (arith, ints, f, a)) (omega (arith, ints, e, b))

pub by_none : (item : MainItem) (us : List Usage) (first end : ℤ) (o : Option ℤ) → first ≡ pos 0 → end ≡ (greatest_value item.min item.size +ℤ pos 1)
    → IfNone o (NamesAll item us first end) → is_some o ≡ false → is_negative item.min ≡ false → o ≡ empty_number item us
by_none item us first end (Some v) f e all h s = absurd cc
by_none item us first end None f e all h s = sym (none_from_zero item us s (from_start item us first end f e all))

pub by_second : (item : MainItem) (us : List Usage) (first end least stop : ℤ) (o p : Option ℤ) → 0 < item.size → first ≡ pos 0 → end ≡ (greatest_value item.min item.size +ℤ pos 1) → least ≡ least_value item.min item.size → stop ≡ pos 0
    → IfNone o (NamesAll item us first end) → is_some o ≡ false → is_negative item.min ≡ true → IfSome p (λ v. IsLeastNothing item us least stop v) → IfNone p (NamesAll item us least stop) → p ≡ empty_number item us
by_second item us first end least stop (Some v) p some f e l z all h s found none = absurd cc
by_second item us first end least stop None (Some v) some f e l z all h s found none =
    sym (found_below_zero item us v some s (from_start item us first end f e all) (subst (λ (x : ℤ). IsLeastNothing item us x (pos 0) v) l (subst (λ (x : ℤ). IsLeastNothing item us least x v) z found)))
by_second item us first end least stop None None some f e l z all h s found none =
    sym (none_below_zero item us some s (from_start item us first end f e all) (λ v a b. none v (omega (arith, ints, l, a)) (omega (arith, ints, z, b))))
