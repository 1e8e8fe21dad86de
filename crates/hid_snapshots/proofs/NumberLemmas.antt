-- Runs of fields.
use Rattle.std.proofs.Common.{◌≡◌, ℕ, zero, suc, ◌+◌, ◌*◌, ◌<◌, ◌≤◌, ◌-◌, min, Bool, false, ℤ, pos, List, [], ◌∷◌, ◌++◌, length, length-append, get_or, take, Some, refl, sym, ap, ◌∙◌, add-one, inl, inr, arith}
use Rattle.std.specs.List.{slice_get, between}
use Rattle.std.proofs.Math.Nat.{mul-le-mul_left, mul-suc}
use Rattle.std.proofs.lemmas.Bool.{cases_lt}
use Rattle.hid_fields.proofs.PartLemmas.{pattern_of-between}
use Rattle.std.proofs.lemmas.Grind.{common_steps}
use Rattle.hid_fields.specs.Field.{bit_of, pattern_of, IsOutside}
use Rattle.hid_fields.specs.Value.{value_of}
use Rattle.std.proofs.lemmas.Nat.Bits.{bit_at_above}
use Rattle.hid_fields.proofs.FieldLemmas.{pattern_of-lt}
use Rattle.hid_fields.proofs.WordLemmas.{bit_at-pattern_of}
use Rattle.hid_snapshots.specs.Numbers.{number_at, numbers_in, IsWordOf}

pub numbers_in-length : (bytes : List ℕ) (at w : ℕ) (signed : Bool) (n : ℕ) → length (numbers_in bytes at w signed n) ≡ n
numbers_in-length bytes at w signed zero = refl
numbers_in-length bytes at w signed (suc n) = grind (arith, length-append, numbers_in-length bytes at w signed n)

pub numbers_in-next : (bytes : List ℕ) (at w : ℕ) (signed : Bool) (n : ℕ) → numbers_in bytes at w signed n ++ number_at bytes (at + w * n) w signed ∷ [] ≡ numbers_in bytes at w signed (n + 1)
numbers_in-next bytes at w signed n = rw add-one refl

get-front : {A : Type 0} (xs ys : List A) (j : ℕ) → j < length xs → slice_get (xs ++ ys) j ≡ slice_get xs j
get-front [] ys j h = absurd (omega arith)
get-front (x ∷ xs) ys zero h = refl
get-front (x ∷ xs) ys (suc j) h = get-front xs ys j (omega arith)

get-last : {A : Type 0} (xs : List A) (y : A) (j : ℕ) → length xs ≡ j → slice_get (xs ++ y ∷ []) j ≡ Some y
get-last [] y zero h = refl
get-last [] y (suc j) h = absurd (omega arith)
get-last (x ∷ xs) y zero h = absurd (omega arith)
get-last (x ∷ xs) y (suc j) h = get-last xs y j (omega arith)

-- the number of an element, of all that are read
pub numbers_in-at : (bytes : List ℕ) (at w : ℕ) (signed : Bool) (n j : ℕ) → j < n → slice_get (numbers_in bytes at w signed n) j ≡ Some (number_at bytes (at + w * j) w signed)
numbers_in-at bytes at w signed zero j h = absurd (omega arith)
numbers_in-at bytes at w signed (suc n) j h = elim (cases_lt j n) [
  | inl lt ↦ get-front (numbers_in bytes at w signed n) _ j (omega (arith, numbers_in-length bytes at w signed n)) ∙ numbers_in-at bytes at w signed n j lt
  | inr ge ↦ let e : j ≡ n = omega arith in rw e (get-last (numbers_in bytes at w signed n) _ n (numbers_in-length bytes at w signed n))
]

-- the numbers of a run of fields, one by one
pub ruleset run_numbers = (numbers_in-at, numbers_in-length)

pub within_run : (bytes : List ℕ) (at w : ℕ) (signed : Bool) (n j : ℕ) (vs : List ℤ) → numbers_in bytes at w signed n ≡ vs → j < length vs → j < n
within_run bytes at w signed n j vs is h = omega (arith, ap length is, numbers_in-length bytes at w signed n)

pub number_of_run : (bytes : List ℕ) (at w : ℕ) (signed : Bool) (n j : ℕ) (vs : List ℤ) (v : ℤ) → numbers_in bytes at w signed n ≡ vs → j < length vs → v ≡ number_at bytes (at + w * j) w signed → slice_get vs j ≡ Some v
number_of_run bytes at w signed n j vs v is h e = ap (λ l. slice_get l j) (sym is) ∙ numbers_in-at bytes at w signed n j (within_run bytes at w signed n j vs is h) ∙ ap Some (sym e)

-- a field that is one of several ends where they do, or earlier
pub step_within : (w k n : ℕ) → k < n → w * k + w ≤ w * n
step_within w k n h = omega (arith, mul-le-mul_left {m = suc k} {n = n} w h, mul-suc w k)

-- a field of one bit is that bit
pub one_bit : (bytes : List ℕ) (b : ℕ) → number_at bytes b 1 false ≡ pos (bit_of bytes b)
one_bit bytes b =
    let here : b + 0 ≡ b = omega arith in
    let is : pattern_of bytes b 1 ≡ bit_of bytes b = omega (arith, ap (bit_of bytes) here) in
    ap pos is

-- the pattern of fields of one bit is a word of their numbers
pub word_is : (bytes : List ℕ) (at count index n : ℕ) → n ≡ min (count - 64 * index) 64
    → IsWordOf (numbers_in bytes at 1 false count) index (pattern_of bytes (at + 64 * index) n)
word_is bytes at count index n is =
    let long = numbers_in-length bytes at 1 false count in
    record {
      bits = λ j low within.
          let inside : 64 * index + j < count = omega arith in
          let place : at + 1 * (64 * index + j) ≡ (at + 64 * index) + j = omega arith in
          numbers_in-at bytes at 1 false count (64 * index + j) inside
          ∙ ap (λ (v : ℤ). Some v)
          (ap (λ (b : ℕ). number_at bytes b 1 false) place ∙ one_bit bytes ((at + 64 * index) + j)
          ∙ ap pos (sym (bit_at-pattern_of bytes (at + 64 * index) n j (omega arith))));
      behind = λ j past. bit_at_above (pattern_of bytes (at + 64 * index) n) n j (pattern_of-lt bytes (at + 64 * index) n) (omega arith);
    }

-- a field's pattern is that of its bits
pub pattern_of-agree : (xs ys : List ℕ) (at w : ℕ) → ((n : ℕ) → at ≤ n → n < at + w → bit_of xs n ≡ bit_of ys n) → pattern_of xs at w ≡ pattern_of ys at w
pattern_of-agree xs ys at zero same = refl
pattern_of-agree xs ys at (suc w) same = rw (pattern_of-agree xs ys at w (λ n a b. same n a (omega arith)), same (at + w) (omega arith) (omega arith)) refl

pub numbers_in-agree : (xs ys : List ℕ) (at w : ℕ) (signed : Bool) (n : ℕ) → ((m : ℕ) → at ≤ m → m < at + w * n → bit_of xs m ≡ bit_of ys m) → numbers_in xs at w signed n ≡ numbers_in ys at w signed n
numbers_in-agree xs ys at w signed zero same = refl
numbers_in-agree xs ys at w signed (suc n) same =
    let e : w * suc n ≡ w * n + w = omega arith in
    rw (numbers_in-agree xs ys at w signed n (λ m a b. same m a (omega arith)), pattern_of-agree xs ys (at + w * n) w (λ m a b. same m (omega arith) (omega arith))) refl

-- one more number is written after those that stand
pub written : (xs ys : List ℕ) (at w : ℕ) (signed : Bool) (n : ℕ) (numbers : List ℤ) (v d : ℤ) → n < length numbers → get_or numbers n d ≡ v
    → ((m : ℕ) → IsOutside (at + w * n) w m → bit_of ys m ≡ bit_of xs m)
    → number_at ys (at + w * n) w signed ≡ v
    → numbers_in xs at w signed n ≡ take n numbers → numbers_in ys at w signed (n + 1) ≡ take (n + 1) numbers
written xs ys at w signed n numbers v d within is others there so_far =
    sym (numbers_in-next ys at w signed n)
    ∙ rw (numbers_in-agree ys xs at w signed n (λ m a b. others m (inl b)), so_far, there, ← is) (grind (arith, common_steps))

pub others_written : (xs ys zs : List ℕ) (at w n m : ℕ) → ((k : ℕ) → IsOutside (at + w * n) w k → bit_of zs k ≡ bit_of ys k)
    → ((k : ℕ) → IsOutside at (w * n) k → bit_of ys k ≡ bit_of xs k) → IsOutside at (w * (n + 1)) m → bit_of zs m ≡ bit_of xs m
others_written xs ys zs at w n m last before (inl below) = last m (inl (omega arith)) ∙ before m (inl below)
others_written xs ys zs at w n m last before (inr above) =
    let e : w * (n + 1) ≡ w * n + w = omega arith in
    last m (inr (omega arith)) ∙ before m (inr (omega arith))

-- fields of a byte each are those of their part of the bytes
pub part_numbers : (bytes : List ℕ) (first last : ℕ) (signed : Bool) (n : ℕ) → n ≤ last - first → numbers_in bytes (8 * first) 8 signed n ≡ numbers_in (between first last bytes) 0 8 signed n
part_numbers bytes first last signed zero within = refl
part_numbers bytes first last signed (suc n) within =
    let place : 8 * first + 8 * n ≡ 8 * first + (0 + 8 * n) = omega arith in
    let pattern = ap (λ (b : ℕ). pattern_of bytes b 8) place ∙ sym (pattern_of-between bytes first last (0 + 8 * n) 8 (omega arith)) in
    ap (λ (vs : List ℤ). vs ++ number_at bytes (8 * first + 8 * n) 8 signed ∷ []) (part_numbers bytes first last signed n (omega arith))
    ∙ ap (λ (p : ℕ). numbers_in (between first last bytes) 0 8 signed n ++ value_of p 8 signed ∷ []) pattern
