-- Bits of bytes.
use Rattle.std.proofs.Common.{◌≡◌, ℕ, zero, suc, ◌+◌, ◌*◌, ◌/◌, ◌%◌, ◌^◌, ◌<◌, ◌≤◌, ◌≢◌, ◌==◌, if◌then◌else◌, inl, inr, length, List, get_or, set, get_or-set_same, get_or-set_other, refl, sym, ◌∙◌, bit_and, bit_or, add_comm, add-one, one-add, arith}
use Rattle.std.specs.Int.{bit_at}
use Rattle.std.proofs.lemmas.Nat.Bits.{shr_and_one, bit_at-lt}
use Rattle.std.proofs.lemmas.Nat.{or_comm, or_shifted, pow_below, mod-pow-add}
use Rattle.std.proofs.Math.Nat.{mod-eq_of_lt, pow-suc}
use Rattle.std.proofs.lemmas.Bool.{cases_eq}
use Rattle.std.proofs.lemmas.Grind.{get_or-set_at}
use Rattle.hid_fields.specs.Field.{bit_of, pattern_of}

pub bit_times : (b x : ℕ) → b < 2 → b * x ≤ x
bit_times zero x h = omega arith
bit_times (suc zero) x h = omega arith
bit_times (suc (suc b)) x h = omega arith

pub with_bit : (k p b : ℕ) → p < 2 ^ k → b < 2 → k < 32
    → bit_or p (b * 2 ^ k % 2 ^ 32) ≡ p + b * 2 ^ k
with_bit k p b p_fits b_fits k_fits =
    let small : b * 2 ^ k < 2 ^ 32 = omega (arith, bit_times b (2 ^ k) b_fits, pow_below k 32 k_fits) in
    rw (mod-eq_of_lt small) (or_comm p (b * 2 ^ k) ∙ or_shifted b k p p_fits ∙ add_comm (b * 2 ^ k) p)

pub pattern_of-lt : (bytes : List ℕ) (at w : ℕ) → pattern_of bytes at w < 2 ^ w
pattern_of-lt bytes at zero = omega arith
pattern_of-lt bytes at (suc w) =
    rw (pow-suc 2 w)
    (omega (arith, pattern_of-lt bytes at w, bit_times (bit_of bytes (at + w)) (2 ^ w) (bit_at-lt _ _)))

-- the next bit of a pattern that is read
pub pattern_of-next : (bytes : List ℕ) (at k bit : ℕ) → k < 32 → bit ≡ bit_of bytes (at + k)
    → bit_or (pattern_of bytes at k) (bit * 2 ^ k % 2 ^ 32) ≡ pattern_of bytes at (k + 1)
pattern_of-next bytes at k bit h is =
    rw (is, add-one)
    (with_bit k (pattern_of bytes at k) (bit_of bytes (at + k)) (pattern_of-lt bytes at k) (bit_at-lt _ _) h)

-- a byte that is replaced by x
pub bit_of-set_same : (bytes : List ℕ) (byte bit x : ℕ) → byte < length bytes → bit < 8
    → bit_of (set bytes byte x) (8 * byte + bit) ≡ bit_at x bit
bit_of-set_same bytes byte bit x in_bounds small =
    let e : (8 * byte + bit) / 8 ≡ byte = omega arith in
    let f : (8 * byte + bit) % 8 ≡ bit = omega arith in
    rw (e, f, get_or-set_same) refl

pub bit_of-set_other : (bytes : List ℕ) (byte bit x : ℕ) → byte < length bytes → bit < 8
    → ((i : ℕ) → i < 8 → i ≢ bit → bit_at x i ≡ bit_at (get_or bytes byte 0) i)
    → (n : ℕ) → n ≢ 8 * byte + bit → bit_of (set bytes byte x) n ≡ bit_of bytes n
bit_of-set_other bytes byte bit x in_bounds small same n other =
    elim (cases_eq (n / 8) byte) [
      | inl e ↦
          let ne : n % 8 ≢ bit = omega arith in
          let lt : n % 8 < 8 = omega arith in
          rw (get_or-set_at bytes byte (n / 8) x 0 e in_bounds, e) (same (n % 8) lt ne)
      | inr ne ↦ rw get_or-set_other refl
    ]

-- two fields with the same bits have one pattern
pub pattern_of-same : (xs ys : List ℕ) (at there w : ℕ)
    → ((k : ℕ) → k < w → bit_of xs (at + k) ≡ bit_of ys (there + k))
    → pattern_of xs at w ≡ pattern_of ys there w
pattern_of-same xs ys at there zero same = refl
pattern_of-same xs ys at there (suc w) same =
    rw (pattern_of-same xs ys at there w (λ k h. same k (omega arith)), same w (omega arith)) refl

pub if_one : (b : ℕ) → b < 2 → (if b == 1 then 1 else 0) ≡ b
if_one zero h = refl
if_one (suc zero) h = refl
if_one (suc (suc b)) h = absurd (omega arith)

-- the next bit of a pattern that is written
pub pattern_of-written : (xs ys : List ℕ) (at k pattern place : ℕ) → place ≡ at + k
    → bit_of ys place ≡ (if bit_and (pattern / 2 ^ k) 1 == 1 then 1 else 0)
    → ((n : ℕ) → n ≢ place → bit_of ys n ≡ bit_of xs n)
    → pattern_of xs at k ≡ pattern % 2 ^ k
    → pattern_of ys at (k + 1) ≡ pattern % 2 ^ (k + 1)
pattern_of-written xs ys at k pattern place here bit others so_far =
    let bit_is : bit_of ys (at + k) ≡ bit_at pattern k =
    rw (← here) (bit ∙ rw (shr_and_one pattern k) (if_one (bit_at pattern k) (bit_at-lt pattern k)))
    in
    let below : pattern_of ys at k ≡ pattern % 2 ^ k =
    pattern_of-same ys xs at at k (λ j h. others (at + j) (omega arith)) ∙ so_far
    in
    let split = rw (one-add k) at (mod-pow-add pattern 1 k) in
    rw (add-one, below, bit_is) (add_comm _ _ ∙ sym split)

pub ruleset pattern_fits = (pattern_of-lt)
