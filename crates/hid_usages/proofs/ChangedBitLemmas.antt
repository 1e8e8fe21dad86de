-- The words of a report are compared one by one.
use Rattle.std.proofs.Common.{[], ◌∷◌, drop, get_or, zero, suc, ◌==◌, Bool, true, false, max, bit_or, ◌≡◌, ℕ, ◌+◌, ◌-◌, ◌*◌, ◌/◌, ◌%◌, ◌^◌, ◌<◌, ◌≤◌, inl, inr, List, length, bit_xor, add_comm, refl, sym, ap, ◌∙◌, subst, arith}
use Rattle.std.specs.Int.{bit_at, to_le_bytes, trailing_zeros, leading_zeros}
use Rattle.std.proofs.lemmas.Bool.{cases_lt}
use Rattle.std.proofs.lemmas.List.{get_or_append_left}
use Rattle.std.proofs.lemmas.Nat.{leading_length, shr_high}
use Rattle.std.proofs.lemmas.Nat.Bits.{bit_at-lt, bit_at-zero, bit_at_xor, bit_at_or, bit_at_above, bit_at_cat_low, bit_at_cat_high, same_from_bits, bit_at-trailing_zeros}
use Rattle.std.specs.Bool.{OnTrue}
use Rattle.std.specs.List.{slice_set}
use Rattle.std.proofs.Math.Nat.{pow-suc}
use Rattle.hid_usages.proofs.BitLemmas.{same_number}
use Rattle.std.proofs.Common.{w64}
use Rattle.hid_fields.specs.Field.{bit_of, pattern_of}
use Rattle.hid_fields.proofs.FieldLemmas.{pattern_of-lt}
use Rattle.hid_fields.proofs.WordLemmas.{HasBytes, scattered, bit_at-pattern_of, pattern_of-add}
use Rattle.hid_usages.specs.declared.changed_bits.BitSpan.{BitSpan}
use Rattle.hid_usages.specs.ChangedBits.{IsOutsideSpan, SameFrom, SameOutside, HoldBits, Grows}
use Rattle.hid_usages.specs.SameWords.{AreSameWords}

even_same : (x y : ℕ) → x < 2 → y < 2 → (x + y) % 2 ≡ 0 → x ≡ y
even_same x y a b h = omega arith

-- a bit that is 0 in the difference of two words is the same in both
pub same_bit : (v w i : ℕ) → bit_at (bit_xor v w) i ≡ 0 → bit_at v i ≡ bit_at w i
same_bit v w i h = even_same (bit_at v i) (bit_at w i) (bit_at-lt v i) (bit_at-lt w i) (sym (bit_at_xor v w i) ∙ h)

-- words without a difference have the same bits
pub no_difference : (v w i : ℕ) → bit_xor v w ≡ 0 → bit_at v i ≡ bit_at w i
no_difference v w i h = same_bit v w i (ap (λ (n : ℕ). bit_at n i) h ∙ bit_at-zero i)

unlike_below : (u i : ℕ) → 0 < u → u < 2 ^ 64 → i < trailing_zeros w64 u → bit_at u i ≡ 0
unlike_below u i some fits h = (bit_at-trailing_zeros w64 u some fits).2 i h

unlike_above : (u i : ℕ) → u < 2 ^ 64 → 64 - leading_zeros w64 u ≤ i → bit_at u i ≡ 0
unlike_above u i fits h =
    let top = leading_length 64 u fits in
    bit_at_above u top.0 i top.2 (omega (arith, top.1, h))

clash : (x : ℕ) → x ≡ 1 → x ≡ 0 → ⊥
clash x a b = omega arith

lowest_under : (u : ℕ) → 0 < u → u < 2 ^ 64 → trailing_zeros w64 u < 64 - leading_zeros w64 u
lowest_under u some fits =
    elim (cases_lt (trailing_zeros w64 u) (64 - leading_zeros w64 u)) [
      | inl lt ↦ lt
      | inr ge ↦ absurd (clash _ (bit_at-trailing_zeros w64 u some fits).1 (unlike_above u (trailing_zeros w64 u) fits ge))
    ]

-- a span with the lowest and the highest bit of the difference grows by it
pub grows : (span grown : BitSpan) (index old now : ℕ) → 0 < bit_xor old now → bit_xor old now < 2 ^ 64
    → span.first ≤ span.end → span.end ≤ 64 * index
    → (span.end ≡ 0 → grown.first ≡ 64 * index + trailing_zeros w64 (bit_xor old now)) → (0 < span.end → grown.first ≡ span.first)
    → grown.end ≡ 64 * index + (64 - leading_zeros w64 (bit_xor old now)) → Grows span grown index old now
grows span grown index old now some fits order within empty begun last =
    let u = bit_xor old now in
    let t = trailing_zeros w64 u in
    let l = leading_zeros w64 u in
    let under : t < 64 - l = lowest_under u some fits in
    record {
      here = λ b low outside. same_bit old now b (elim outside [
        | inl before ↦ elim (cases_lt 0 span.end) [
          | inl more ↦ absurd (omega (arith, begun more, before, order, within))
          | inr none ↦
              let zero_end : span.end ≡ 0 = omega arith in
              unlike_below u b some fits (omega (arith, empty zero_end, before))
        ]
        | inr behind ↦ unlike_above u b fits (omega (arith, last, behind))
      ]);
      before = λ n low outside. elim (cases_lt 0 span.end) [
        | inl more ↦ elim outside [
          | inl before ↦ inl (omega (arith, begun more, before))
          | inr behind ↦ absurd (omega (arith, last, behind, low, under))
        ]
        | inr none ↦ inr (omega arith)
      ];
      order = elim (cases_lt 0 span.end) [
        | inl more ↦ omega (arith, begun more, order, within, last, under)
        | inr none ↦
            let zero_end : span.end ≡ 0 = omega arith in
            omega (arith, empty zero_end, last, under)
      ];
      end = omega (arith, last);
    }

-- the bits of a whole word, and of the last one
pub word_bits : (bytes : List ℕ) (k width now b : ℕ) → now ≡ pattern_of bytes (64 * k) width → b < width → bit_at now b ≡ bit_of bytes (64 * k + b)
word_bits bytes k width now b is low = ap (λ (w : ℕ). bit_at w b) is ∙ bit_at-pattern_of bytes (64 * k) width b low

-- a span to which nothing was added
pub stays : (span : BitSpan) (index old now : ℕ) → bit_xor old now ≡ 0 → span.first ≤ span.end → span.end ≤ 64 * index → Grows span span index old now
stays span index old now none order within = record {
  here = λ b low outside. no_difference old now b none;
  before = λ n low outside. outside;
  order = order;
  end = omega arith;
}

-- The words before one are compared, and the span has the bits that aren't the same.
pub record AreCompared (last bytes : List ℕ) (k : ℕ) (span : BitSpan) : Type 0 where
  pub agrees : (n : ℕ) → n < 64 * k → n < 8 * length bytes → IsOutsideSpan span n → bit_of last n ≡ bit_of bytes n
  pub order : span.first ≤ span.end
  pub end : span.end ≤ 64 * k

pub none_compared : (last bytes : List ℕ) → AreCompared last bytes 0 (record { first = 0; end = 0 })
none_compared last bytes = record {
  agrees = λ n low within outside. absurd (omega arith);
  order = omega arith;
  end = omega arith;
}

-- one word more
pub compared_next : (last bytes : List ℕ) (k before now width : ℕ) (span grown : BitSpan) → AreCompared last bytes k span → before ≡ pattern_of last (64 * k) 64 → now ≡ pattern_of bytes (64 * k) width
    → ((b : ℕ) → b < 64 → 64 * k + b < 8 * length bytes → b < width) → Grows span grown k before now → AreCompared last bytes (k + 1) grown
compared_next last bytes k before now width span grown so_far was is wide grow = record {
  agrees = λ n low inside outside. elim (cases_lt n (64 * k)) [
    | inl earlier ↦ so_far.agrees n earlier inside (grow.before n earlier outside)
    | inr from ↦
        let at : 64 * k + (n - 64 * k) ≡ n = omega arith in
        let small : n - 64 * k < 64 = omega arith in
        ap (bit_of last) (sym at) ∙ sym (word_bits last k 64 before (n - 64 * k) was small)
        ∙ grow.here (n - 64 * k) small (subst (IsOutsideSpan grown) (sym at) outside)
        ∙ word_bits bytes k width now (n - 64 * k) is (wide (n - 64 * k) small (omega (arith, at, inside))) ∙ ap (bit_of bytes) at
  ];
  order = grow.order;
  end = omega (arith, grow.end);
}

-- words that are the same add nothing to the span
pub compared_over : (last bytes : List ℕ) (from k : ℕ) (span : BitSpan) → from ≤ k → AreSameWords last bytes from k → AreCompared last bytes from span → AreCompared last bytes k span
compared_over last bytes from k span order same so_far = record {
  agrees = λ n earlier inside outside. elim (cases_lt n (64 * from)) [
    | inl low ↦ so_far.agrees n low inside outside
    | inr high ↦
        let at : 64 * (n / 64) + n % 64 ≡ n = omega arith in
        let low : from ≤ n / 64 = omega arith in
        let here : n / 64 < k = omega arith in
        let small : n % 64 < 64 = omega arith in
        ap (bit_of last) (sym at) ∙ sym (bit_at-pattern_of last (64 * (n / 64)) 64 (n % 64) small)
        ∙ ap (λ (w : ℕ). bit_at w (n % 64)) (same (n / 64) low here) ∙ bit_at-pattern_of bytes (64 * (n / 64)) 64 (n % 64) small ∙ ap (bit_of bytes) at
  ];
  order = so_far.order;
  end = omega (arith, so_far.end);
}

-- the high part of a field
pub high_part : (bytes : List ℕ) (at low high : ℕ) → pattern_of bytes at (low + high) / 2 ^ low ≡ pattern_of bytes (at + low) high
high_part bytes at low high =
    rw (pattern_of-add bytes at low high, add_comm (pattern_of bytes at low) (pattern_of bytes (at + low) high * 2 ^ low))
    (shr_high (pattern_of bytes (at + low) high) low (pattern_of bytes at low) (pattern_of-lt bytes at low))

pub all_compared : (last bytes : List ℕ) (k : ℕ) (span : BitSpan) → 8 * length bytes ≤ 64 * k → AreCompared last bytes k span → SameOutside last bytes span
all_compared last bytes k span all done = λ n inside outside. done.agrees n (omega arith) inside outside

-- the bytes of a word have its bits
word_bytes : (from : List ℕ) (word n : ℕ) → from ≡ to_le_bytes w64 word → word < 2 ^ 64 → n < 64 → bit_of from n ≡ bit_at word n
word_bytes from word n is fits low =
    let len : length from ≡ 8 = ap (λ (bs : List ℕ). length bs) is in
    let lowest : word % 256 ≡ word / 1 % 256 = omega arith in
    let has : HasBytes from word 8 = rw is ((((((((tt, lowest), refl), refl), refl), refl), refl), refl), refl) in
    let all : 8 * length from ≡ 64 = omega (arith, len) in
    let whole : pattern_of from 0 64 ≡ word =
    ap (pattern_of from 0) (sym all) ∙ scattered from word 8 len (subst (λ (m : ℕ). word < 2 ^ m) (sym all) fits) has in
    let here : 0 + n ≡ n = omega arith in
    ap (bit_of from) (sym here) ∙ sym (bit_at-pattern_of from 0 64 n low) ∙ ap (λ (w : ℕ). bit_at w n) whole

-- eight bytes that are written one by one
eight_set : (ys : List ℕ) (a b c d e f g h : ℕ) → 8 ≤ length ys → slice_set (slice_set (slice_set (slice_set (slice_set (slice_set (slice_set (slice_set ys 0 a) 1 b) 2 c) 3 d) 4 e) 5 f) 6 g) 7 h ≡ a ∷ b ∷ c ∷ d ∷ e ∷ f ∷ g ∷ h ∷ drop 8 ys
eight_set [] a b c d e f g h long = absurd (omega (arith, long))
eight_set (y0 ∷ []) a b c d e f g h long = absurd (omega (arith, long))
eight_set (y0 ∷ (y1 ∷ [])) a b c d e f g h long = absurd (omega (arith, long))
eight_set (y0 ∷ (y1 ∷ (y2 ∷ []))) a b c d e f g h long = absurd (omega (arith, long))
eight_set (y0 ∷ (y1 ∷ (y2 ∷ (y3 ∷ [])))) a b c d e f g h long = absurd (omega (arith, long))
eight_set (y0 ∷ (y1 ∷ (y2 ∷ (y3 ∷ (y4 ∷ []))))) a b c d e f g h long = absurd (omega (arith, long))
eight_set (y0 ∷ (y1 ∷ (y2 ∷ (y3 ∷ (y4 ∷ (y5 ∷ [])))))) a b c d e f g h long = absurd (omega (arith, long))
eight_set (y0 ∷ (y1 ∷ (y2 ∷ (y3 ∷ (y4 ∷ (y5 ∷ (y6 ∷ []))))))) a b c d e f g h long = absurd (omega (arith, long))
eight_set (y0 ∷ (y1 ∷ (y2 ∷ (y3 ∷ (y4 ∷ (y5 ∷ (y6 ∷ (y7 ∷ ys)))))))) a b c d e f g h long = refl

-- so have those that are written in the place of the first eight
pub word_put : (ys zs : List ℕ) (word n : ℕ) → zs ≡ to_le_bytes w64 word → word < 2 ^ 64 → 8 ≤ length ys → n < 64
    → bit_of (slice_set (slice_set (slice_set (slice_set (slice_set (slice_set (slice_set (slice_set ys 0 (get_or zs 0 0)) 1 (get_or zs 1 0)) 2 (get_or zs 2 0)) 3 (get_or zs 3 0)) 4 (get_or zs 4 0)) 5 (get_or zs 5 0)) 6 (get_or zs 6 0)) 7 (get_or zs 7 0)) n ≡ bit_at word n
word_put ys zs word n is fits long low =
    let from = to_le_bytes w64 word in
    let len : length from ≡ 8 = refl in
    subst (λ (zs : List ℕ). bit_of (slice_set (slice_set (slice_set (slice_set (slice_set (slice_set (slice_set (slice_set ys 0 (get_or zs 0 0)) 1 (get_or zs 1 0)) 2 (get_or zs 2 0)) 3 (get_or zs 3 0)) 4 (get_or zs 4 0)) 5 (get_or zs 5 0)) 6 (get_or zs 6 0)) 7 (get_or zs 7 0)) n ≡ bit_at word n) (sym is)
    (ap (λ (bs : List ℕ). bit_of bs n) (eight_set ys (get_or from 0 0) (get_or from 1 0) (get_or from 2 0) (get_or from 3 0) (get_or from 4 0) (get_or from 5 0) (get_or from 6 0) (get_or from 7 0) long)
    ∙ ap (λ (b : ℕ). bit_at b (n % 8)) (get_or_append_left from (drop 8 ys) 0 (n / 8) (omega (arith, len, low))) ∙ word_bytes from word n refl fits low)

-- eight bytes that are the same as a word have the same bits
pub same_eight : (last bytes : List ℕ) (first a b : ℕ) → a ≡ pattern_of last (8 * first) 64 → b ≡ pattern_of bytes (8 * first) 64 → a ≡ b → SameFrom last bytes (8 * first) (8 * first + 64)
same_eight last bytes first a b was now same = λ n low high.
    let at : 8 * first + (n - 8 * first) ≡ n = omega (arith, low) in
    let small : n - 8 * first < 64 = omega (arith, low, high) in
    ap (bit_of last) (sym at) ∙ sym (bit_at-pattern_of last (8 * first) 64 (n - 8 * first) small)
    ∙ ap (λ (w : ℕ). bit_at w (n - 8 * first)) (sym was ∙ same ∙ now) ∙ bit_at-pattern_of bytes (8 * first) 64 (n - 8 * first) small ∙ ap (bit_of bytes) at

-- up to eight bytes that are the same as a word
pub same_one : (last bytes : List ℕ) (a b : ℕ) → a ≡ pattern_of last 0 64 → b ≡ pattern_of bytes 0 (8 * length bytes) → a ≡ b → length bytes ≤ 8 → HoldBits last bytes
same_one last bytes a b was now same few = λ n within.
    let small : n < 64 = omega (arith, within, few) in
    let start : 0 + n ≡ n = omega arith in
    ap (bit_of last) (sym start) ∙ sym (bit_at-pattern_of last 0 64 n small) ∙ ap (λ (w : ℕ). bit_at w n) (sym was ∙ same ∙ now)
    ∙ bit_at-pattern_of bytes 0 (8 * length bytes) n within ∙ ap (bit_of bytes) start

of_test : {P : Type 0} (r : Bool) → (r ≡ true → P) → OnTrue r P
of_test true h = h refl
of_test false h = tt

-- where a test of two numbers passes, they are the same
pub on_same : {P : Type 0} (a b : ℕ) → (a ≡ b → P) → OnTrue (a == b) P
on_same a b h = of_test (a == b) (λ e. h (same_number a b e))

pow_some : (k : ℕ) → 0 < 2 ^ k
pow_some zero = omega arith
pow_some (suc k) = omega (arith, pow_some k, pow-suc 2 k)

most_zero : (x : ℕ) → max x 0 ≡ x
most_zero x = omega arith

most_other : (x : ℕ) → max 0 x ≡ x
most_other x = omega arith

most_same : (x : ℕ) → max x x ≡ x
most_same x = omega arith

-- four bytes and the last four of up to eight are all of them
pub two_fours : (bytes : List ℕ) (low high k : ℕ) → k ≤ 32 → low ≡ pattern_of bytes 0 32 → high ≡ pattern_of bytes k 32 → bit_or low (high * 2 ^ k) ≡ pattern_of bytes 0 (k + 32)
two_fours bytes low high k few first last = same_from_bits (bit_or low (high * 2 ^ k)) (pattern_of bytes 0 (k + 32)) each
  where
    small : low < 2 ^ 32
    small = subst (λ (n : ℕ). n < 2 ^ 32) (sym first) (pattern_of-lt bytes 0 32)

    top : high < 2 ^ 32
    top = subst (λ (n : ℕ). n < 2 ^ 32) (sym last) (pattern_of-lt bytes k 32)

    sum : high * 2 ^ k + 0 ≡ high * 2 ^ k
    sum = omega arith

    in_low : (i : ℕ) → i < 32 → bit_at low i ≡ bit_of bytes i
    in_low i h = ap (λ (w : ℕ). bit_at w i) first ∙ bit_at-pattern_of bytes 0 32 i h ∙ ap (bit_of bytes) (omega arith)

    in_all : (i : ℕ) → i < k + 32 → bit_at (pattern_of bytes 0 (k + 32)) i ≡ bit_of bytes i
    in_all i h = bit_at-pattern_of bytes 0 (k + 32) i h ∙ ap (bit_of bytes) (omega arith)

    under : (i : ℕ) → i < k → bit_at (high * 2 ^ k) i ≡ 0
    under i h = ap (λ (w : ℕ). bit_at w i) (sym sum) ∙ bit_at_cat_low high k 0 i h ∙ bit_at-zero i

    over : (i : ℕ) → k ≤ i → bit_at (high * 2 ^ k) i ≡ bit_at high (i - k)
    over i h = ap (λ (w : ℕ). bit_at w i) (sym sum) ∙ bit_at_cat_high high k 0 i (pow_some k) h

    in_high : (i : ℕ) → k ≤ i → i < k + 32 → bit_at (high * 2 ^ k) i ≡ bit_of bytes i
    in_high i low' high' =
        let at : k + (i - k) ≡ i = omega (arith, low') in
        over i low' ∙ ap (λ (w : ℕ). bit_at w (i - k)) last ∙ bit_at-pattern_of bytes k 32 (i - k) (omega (arith, low', high')) ∙ ap (bit_of bytes) at

    each : (i : ℕ) → bit_at (bit_or low (high * 2 ^ k)) i ≡ bit_at (pattern_of bytes 0 (k + 32)) i
    each i = bit_at_or low (high * 2 ^ k) i ∙ elim (cases_lt i 32) [
      | inl in_first ↦ elim (cases_lt i k) [
        | inl before ↦ rw (under i before) (most_zero (bit_at low i) ∙ in_low i in_first ∙ sym (in_all i (omega (arith, in_first))))
        | inr from ↦ rw (in_high i from (omega (arith, in_first)), in_low i in_first) (most_same (bit_of bytes i) ∙ sym (in_all i (omega (arith, in_first))))
      ]
      | inr after ↦ rw (bit_at_above low 32 i small after) (most_other (bit_at (high * 2 ^ k) i) ∙ elim (cases_lt i (k + 32)) [
        | inl within ↦ in_high i (omega (arith, after, few)) within ∙ sym (in_all i within)
        | inr past ↦ over i (omega (arith, past)) ∙ bit_at_above high 32 (i - k) top (omega (arith, past)) ∙ sym (bit_at_above (pattern_of bytes 0 (k + 32)) (k + 32) i (pattern_of-lt bytes 0 (k + 32)) past)
      ])
    ]
