-- Numbers that digits encode, digit by digit.
use Rattle.std.proofs.Common.{◌≡◌, ℕ, ◌+◌, ◌*◌, ◌<◌, ◌≤◌, true, List, length, get_or, take, inl, inr, sym, ap, ◌∙◌, arith}
use Rattle.std.specs.Prelude.{min, ◌&&◌, nat_le, nat_lt}
use Rattle.std.specs.List.{list_all}
use Rattle.std.specs.Char.{digit_value}
use Rattle.std.specs.Str.Parse.{digits_value}
use Rattle.std.proofs.Math.Nat.{mul-le-mul_left}
use Rattle.std.proofs.lemmas.Bool.{cases_lt, and_parts, and_from, leb-true}
use Rattle.std.proofs.lemmas.Int.Digits.{digits_value_more}
use Rattle.std.proofs.lemmas.List.Folds.{list_all_more}
use Rattle.hid_input.specs.Words.{is_digit_of}

-- what is over the greatest number stays over it
pub capped : (value base digit most : ℕ) → 1 ≤ base → min (min (min value most * base) most + digit) most ≡ min (value * base + digit) most
capped value base digit most some =
    elim (cases_lt value most) [
      | inl below ↦
          let same : min value most ≡ value = omega arith in
          rw same (omega arith)
      | inr above ↦
          let same : min value most ≡ most = omega arith in
          let more : most * 1 ≤ most * base = mul-le-mul_left most some in
          let greater : value * 1 ≤ value * base = mul-le-mul_left value some in
          rw same (omega arith)
    ]

pub digit_step : (base : ℕ) (word : List ℕ) (i number digit most : ℕ) → i < length word
    → is_digit_of base (get_or word i 0) ≡ true → digit_value (get_or word i 0) ≡ digit
    → list_all (is_digit_of base) (take i word) ≡ true → number ≡ min (digits_value base (take i word)) most
    → (list_all (is_digit_of base) (take (i + 1) word) ≡ true) × (min (min (number * base) most + digit) most ≡ min (digits_value base (take (i + 1) word)) most)
digit_step base word i number digit most below is value all so_far =
    let two : 2 ≤ base = leb-true 2 base (and_parts (nat_le 2 base) (nat_le base 36 && nat_lt (digit_value (get_or word i 0)) base) is).0 in
    let step = ap (λ (n : ℕ). min (min (n * base) most + digit) most) so_far in
    let cap = capped (digits_value base (take i word)) base digit most (omega arith) in
    let more = digits_value_more base word i below in (
      list_all_more (is_digit_of base) word i 0 below ∙ and_from _ _ all is,
      step ∙ (cap ∙ (ap (λ (d : ℕ). min (digits_value base (take i word) * base + d) most) (sym value) ∙ ap (λ (n : ℕ). min n most) (sym more))),
    )
