-- Words of 64 bits, and the places that they keep.
use Rattle.std.proofs.Common.{◌≡◌, ◌≢◌, ℕ, zero, suc, ◌+◌, ◌-◌, ◌*◌, ◌/◌, ◌%◌, ◌^◌, ◌<◌, ◌≤◌, ◌==◌, ◌⊎◌, inl, inr, ◌&&◌, not, min, Bool, true, false, cond, List, [], ◌∷◌, ◌++◌, length, take, drop, replicate, get_or, Option, Some, None, unwrap_or, nat_eq, bit_and, bit_xor, refl, sym, ap, ◌∙◌, subst, arith}
use Rattle.std.specs.List.{slice_get, slice_set, sum_by, count_by}
use Rattle.std.specs.Int.{bit_at, bit_not, trailing_zeros, div_ceil}
use mir.Syntax.{w64}
use Rattle.std.specs.Cmp.Lexicographic.{pointwise}
use Rattle.std.specs.Bool.{beq}
use Rattle.std.specs.Cmp.{booleans_Decides}
use Rattle.std.proofs.lemmas.Slice.Eq.{slice_eq-Decides}
use Rattle.std.proofs.lemmas.Bool.Decides.{Decides-eqb, nat_tests}
use Rattle.std.proofs.lemmas.Option.{slice_get-get_or, unwrap_or-slice_get, get_or_from_slice_get}
use Rattle.std.proofs.lemmas.Nat.{shr-shr, shr_le}
use Rattle.std.specs.Option.{IfSome}
use Rattle.std.specs.Int.RustNames.{count_ones}
use Rattle.std.specs.Simd.Lanes.{mask_l}
use Rattle.std.proofs.lemmas.List.{take_all, length-take, length-drop, get_or-drop, get_or-take, take-set-le, drop-set-lt, drop-set-add, get_or-set_same, get_or-set_other, map-id, drop-replicate, length-replicate}
use Rattle.std.proofs.lemmas.List.Sums.{sum_by-cons, sum_by-take-drop, count_by-le-length}
use Rattle.std.proofs.lemmas.Simd.{mask_l-lt, bit_mask_l, ones-mask_l}
use Rattle.std.proofs.lemmas.Nat.Bits.{same_from_bits_below, bit_at-lt, bit_at-zero, bit_at-suc, bit_at_lowest, bit_at_and, bit_at_xor, bit_at_not, bit_at_above, bit_at-trailing_zeros}
use Rattle.std.proofs.Math.Pow.{pow_mono}
use Rattle.std.proofs.Math.Nat.{pow-suc}
use Rattle.std.proofs.lemmas.Bool.{cases_lt, cases_eq}
use Rattle.hid_snapshots.proofs.FillLemmas.{set_length}
use Rattle.hid_snapshots.specs.Words.{words_in, switch_words, bits_in, places_in, AreWords, is_on, is_alone, is_unlike, is_bit, are_alone, IsFirst, FindsFirst}

pub bits_in-word : (ps : List Bool) → bits_in (length ps) (mask_l ps) ≡ ps
unfolding bits_in
bits_in-word [] = refl
bits_in-word (true ∷ ps) =
    let e : ((1 + 2 * mask_l ps) % 2) ≡ 1 = omega arith in
    let h : ((1 + 2 * mask_l ps) / 2) ≡ mask_l ps = omega arith in
    rw (e, h, bits_in-word ps) refl
bits_in-word (false ∷ ps) =
    let e : ((zero + 2 * mask_l ps) % 2) ≡ 0 = omega arith in
    let h : ((zero + 2 * mask_l ps) / 2) ≡ mask_l ps = omega arith in
    rw (e, h, bits_in-word ps) refl

-- one of the lowest bits of a word
pub bits_in-at : (n w j : ℕ) → j < n → slice_get (bits_in n w) j ≡ Some (bit_at w j == 1)
unfolding bits_in
bits_in-at zero w j h = absurd (omega arith)
bits_in-at (suc n) w zero h = ap (λ (b : ℕ). Some (b == 1)) (sym (bit_at_lowest w))
bits_in-at (suc n) w (suc j) h = bits_in-at n (w / 2) j (omega arith) ∙ ap (λ (b : ℕ). Some (b == 1)) (sym (bit_at-suc w j))

pub bits_in-length : (n w : ℕ) → length (bits_in n w) ≡ n
unfolding bits_in
bits_in-length zero w = refl
bits_in-length (suc n) w = ap suc (bits_in-length n (w / 2))

take_drop : {A : Type 0} (n : ℕ) (xs : List A) → take n xs ++ drop n xs ≡ xs
take_drop zero xs = refl
take_drop (suc n) [] = refl
take_drop (suc n) (x ∷ xs) = ap (λ t. x ∷ t) (take_drop n xs)

pub places_back : (k : ℕ) (ps : List Bool) → length ps ≤ 64 * k → places_in (words_in k ps) (length ps) ≡ ps
unfolding words_in places_in
places_back zero [] h = refl
places_back zero (p ∷ ps) h = absurd (omega arith)
places_back (suc k) ps h =
    let m : min (length ps) 64 ≡ length (take 64 ps) = omega (arith, length-take 64 ps) in
    let d : length ps - 64 ≡ length (drop 64 ps) = sym (length-drop 64 ps) in
    let within : length (drop 64 ps) ≤ 64 * k = omega (arith, length-drop 64 ps) in
    rw (m, d, bits_in-word (take 64 ps), places_back k (drop 64 ps) within) (take_drop 64 ps)

-- Up to 64 places are the lowest bits of their word.
pub word_keeps : (ps : List Bool) (w : ℕ) → length ps ≤ 64 → slice_get (switch_words ps) 0 ≡ Some w
    → bits_in (length ps) w ≡ ps
unfolding words_in
word_keeps ps w few here = of_words (div_ceil (length ps) 64) here
  where
    of_words : (k : ℕ) → slice_get (words_in k ps) 0 ≡ Some w → bits_in (length ps) w ≡ ps
    of_words zero e = absurd (cc)
    of_words (suc k) e =
        let is : mask_l (take 64 ps) ≡ w = cc in
        let all : take 64 ps ≡ ps = take_all 64 ps few in
        ap (bits_in (length ps)) (sym is ∙ ap mask_l all) ∙ bits_in-word ps

pub words_in-length : (k : ℕ) (ps : List Bool) → length (words_in k ps) ≡ k
unfolding words_in
words_in-length zero ps = refl
words_in-length (suc k) ps = ap suc (words_in-length k (drop 64 ps))

pub enough : (n : ℕ) → n ≤ 64 * div_ceil n 64
enough n = omega arith

-- words that are made from places keep them
pub kept : (ws : List ℕ) (n : ℕ) (ps : List Bool) → ws ≡ switch_words ps → n ≡ length ps → n < 2 ^ 64
    → (places_in ws n ≡ ps) × AreWords ws n
kept ws n ps e l small =
    (back, record { words = e ∙ ap switch_words (sym back); places = ap length back ∙ sym l; small = small })
  where
    back : places_in ws n ≡ ps
    back = rw (e, l) (places_back (div_ceil (length ps) 64) ps (enough (length ps)))

-- a place is in the first word, or after it
split_place : (i : ℕ) → (i < 64) ⊎ ((j : ℕ) × (i ≡ 64 + j))
split_place i = elim (cases_lt i 64) [ inl low ↦ inl low | inr high ↦ inr (i - 64, (let e : i ≡ 64 + (i - 64) = omega arith in e)) ]

-- bit i mod 64 of word i div 64 is place i
pub word_bit : (k : ℕ) (ps : List Bool) (i : ℕ) → i < 64 * k → bit_at (get_or (words_in k ps) (i / 64) 0) (i % 64) ≡ cond (get_or ps i false) 1 0
unfolding words_in
word_bit zero ps i h = absurd (omega arith)
word_bit (suc k) ps i h = by_place (split_place i) (λ j. word_bit k (drop 64 ps) j)
  where
    by_place : (i < 64) ⊎ ((j : ℕ) × (i ≡ 64 + j)) → ((j : ℕ) → j < 64 * k → bit_at (get_or (words_in k (drop 64 ps)) (j / 64) 0) (j % 64) ≡ cond (get_or (drop 64 ps) j false) 1 0)
        → bit_at (get_or (words_in (suc k) ps) (i / 64) 0) (i % 64) ≡ cond (get_or ps i false) 1 0
    by_place (inl low) rest =
        let q : i / 64 ≡ 0 = omega arith in
        let r : i % 64 ≡ i = omega arith in
        rw (q, r) (bit_mask_l (take 64 ps) i ∙ ap (λ (b : Bool). cond b 1 0) (get_or-take 64 ps i false low))
    by_place (inr (j, e)) rest =
        let q : i / 64 ≡ suc (j / 64) = omega arith in
        let r : i % 64 ≡ j % 64 = omega arith in
        rw (q, r, e) (rest j (omega arith) ∙ ap (λ (b : Bool). cond b 1 0) (get_or-drop 64 ps j false))

word_lt : (ps : List Bool) → mask_l (take 64 ps) < 2 ^ 64
word_lt ps = omega (arith, mask_l-lt (take 64 ps), pow_mono {i = length (take 64 ps)} {j = 64} (omega (arith, length-take 64 ps)))

pub words_small : (m : ℕ) (ps : List Bool) (k : ℕ) → unwrap_or (slice_get (words_in m ps) k) 0 < 2 ^ 64
unfolding words_in
words_small zero ps k = omega arith
words_small (suc m) ps zero = word_lt ps
words_small (suc m) ps (suc k) = words_small m (drop 64 ps) k

-- the first word with one place set
first_set : (ps : List Bool) (i : ℕ) (p : Bool) (w : ℕ) → i < 64 → i < length ps → w < 2 ^ 64 → bit_at w i ≡ cond p 1 0 → ((b : ℕ) → b < 64 → b ≢ i → bit_at w b ≡ bit_at (mask_l (take 64 ps)) b)
    → w ≡ mask_l (take 64 (slice_set ps i p))
first_set ps i p w low within small here others = same_from_bits_below 64 w (mask_l (take 64 (slice_set ps i p))) small (word_lt (slice_set ps i p)) each
  where
    at_bit : (b : ℕ) → b < 64 → bit_at (mask_l (take 64 (slice_set ps i p))) b ≡ cond (get_or (slice_set ps i p) b false) 1 0
    at_bit b h = bit_mask_l (take 64 (slice_set ps i p)) b ∙ ap (λ (t : Bool). cond t 1 0) (get_or-take 64 (slice_set ps i p) b false h)

    each : (b : ℕ) → b < 64 → bit_at w b ≡ bit_at (mask_l (take 64 (slice_set ps i p))) b
    each b h = elim (cases_eq b i) [
      | inl e ↦ ap (bit_at w) e ∙ here ∙ sym (ap (λ (t : Bool). cond t 1 0) (ap (λ k. get_or (slice_set ps i p) k false) e ∙ get_or-set_same ps i p false within)) ∙ sym (at_bit b h)
      | inr ne ↦ others b h ne ∙ bit_mask_l (take 64 ps) b ∙ ap (λ (t : Bool). cond t 1 0) (get_or-take 64 ps b false h ∙ sym (get_or-set_other ps i b p false ne)) ∙ sym (at_bit b h)
    ]

-- one place is set by one bit
pub set_word : (k : ℕ) (ps : List Bool) (i : ℕ) (p : Bool) (w : ℕ) → i < 64 * k → i < length ps → w < 2 ^ 64 → bit_at w (i % 64) ≡ cond p 1 0
    → ((b : ℕ) → b < 64 → b ≢ i % 64 → bit_at w b ≡ bit_at (get_or (words_in k ps) (i / 64) 0) b) → slice_set (words_in k ps) (i / 64) w ≡ words_in k (slice_set ps i p)
unfolding words_in
set_word zero ps i p w h within small here others = absurd (omega arith)
set_word (suc k) ps i p w h within small here others = by_place (split_place i) (λ j. set_word k (drop 64 ps) j p w)
  where
    by_place : (i < 64) ⊎ ((j : ℕ) × (i ≡ 64 + j))
        → ((j : ℕ) → j < 64 * k → j < length (drop 64 ps) → w < 2 ^ 64 → bit_at w (j % 64) ≡ cond p 1 0 → ((b : ℕ) → b < 64 → b ≢ j % 64 → bit_at w b ≡ bit_at (get_or (words_in k (drop 64 ps)) (j / 64) 0) b) → slice_set (words_in k (drop 64 ps)) (j / 64) w ≡ words_in k (slice_set (drop 64 ps) j p))
        → slice_set (words_in (suc k) ps) (i / 64) w ≡ words_in (suc k) (slice_set ps i p)
    by_place (inl low) rest =
        let q : i / 64 ≡ 0 = omega arith in
        let r : i % 64 ≡ i = omega arith in
        let tail : drop 64 (slice_set ps i p) ≡ drop 64 ps = drop-set-lt 64 ps i p low in
        let bit = subst (λ (j : ℕ). bit_at w j ≡ cond p 1 0) r here in
        let rest_bits : (b : ℕ) → b < 64 → b ≢ i → bit_at w b ≡ bit_at (mask_l (take 64 ps)) b = λ b l ne. others b l (λ e. ne (e ∙ r)) ∙ ap (λ (j : ℕ). bit_at (get_or (mask_l (take 64 ps) ∷ words_in k (drop 64 ps)) j 0) b) q in
        rw (q, tail) (ap (λ (v : ℕ). v ∷ words_in k (drop 64 ps)) (first_set ps i p w low within small bit rest_bits))
    by_place (inr (j, e)) rest =
        let q : i / 64 ≡ suc (j / 64) = omega arith in
        let r : i % 64 ≡ j % 64 = omega arith in
        let s : slice_set ps i p ≡ slice_set ps (64 + j) p = ap (λ n. slice_set ps n p) e in
        let head : take 64 (slice_set ps (64 + j) p) ≡ take 64 ps = take-set-le 64 ps (64 + j) p (omega arith) in
        let tail : drop 64 (slice_set ps (64 + j) p) ≡ slice_set (drop 64 ps) j p = drop-set-add 64 ps j p in
        let bit = subst (λ (n : ℕ). bit_at w n ≡ cond p 1 0) r here in
        let rest_bits : (b : ℕ) → b < 64 → b ≢ j % 64 → bit_at w b ≡ bit_at (get_or (words_in k (drop 64 ps)) (j / 64) 0) b = λ b l ne. others b l (λ f. ne (f ∙ r)) ∙ ap (λ (n : ℕ). bit_at (get_or (mask_l (take 64 ps) ∷ words_in k (drop 64 ps)) n 0) b) q in
        rw (q, s, head, tail) (ap (λ t. mask_l (take 64 ps) ∷ t) (rest j (omega arith) (omega (arith, length-drop 64 ps)) small bit rest_bits))

-- as many ones as pressed places
pub ones : (k : ℕ) (ps : List Bool) → length ps ≤ 64 * k → sum_by count_ones (words_in k ps) ≡ count_by (λ p. p) ps
unfolding words_in
ones zero [] h = refl
ones zero (p ∷ ps) h = absurd (omega arith)
ones (suc k) ps h =
    let one : count_ones (mask_l (take 64 ps)) ≡ count_by (λ p. p) (take 64 ps) = ap (λ (t : List Bool). count_ones (mask_l t)) (sym (map-id (take 64 ps))) ∙ ones-mask_l (λ p. p) (take 64 ps) in
    omega (arith, sum_by-cons count_ones (mask_l (take 64 ps)) (words_in k (drop 64 ps)), one, ones k (drop 64 ps) (omega (arith, length-drop 64 ps)), sum_by-take-drop (λ (p : Bool). cond p 1 0) ps 64)

no_bits : (j n : ℕ) → mask_l (take j (replicate n false)) ≡ 0
no_bits zero n = refl
no_bits (suc j) zero = refl
no_bits (suc j) (suc n) = rw (no_bits j n) refl

pub none_on : (k n : ℕ) → words_in k (replicate n false) ≡ replicate k 0
unfolding words_in
none_on zero n = refl
none_on (suc k) n = rw (no_bits 64 n, drop-replicate 64 n false, none_on k (n - 64)) refl

-- what a value with words tells of them
pub told : (ws : List ℕ) (n : ℕ) (ps : List Bool) → AreWords ws n → places_in ws n ≡ ps
    → (ws ≡ switch_words ps) × (n ≡ length ps) × (length ws ≡ div_ceil n 64)
told ws n ps are e =
    let made : ws ≡ switch_words ps = are.words ∙ ap switch_words e in
    let long : n ≡ length ps = sym are.places ∙ ap length e in
    (made, long, ap length made ∙ words_in-length (div_ceil (length ps) 64) ps ∙ ap (λ m. div_ceil m 64) (sym long))

pub bit_on : (b : Bool) → (cond b 1 0 == 1) ≡ b
bit_on true = refl
bit_on false = refl

pub cleared : (ws : List ℕ) (n : ℕ) → ws ≡ replicate (div_ceil n 64) 0 → n < 2 ^ 64 → (places_in ws n ≡ replicate n false) × AreWords ws n
cleared ws n e small = kept ws n (replicate n false) (e ∙ sym (ap (λ m. words_in (div_ceil m 64) (replicate n false)) (length-replicate n false) ∙ none_on (div_ceil n 64) n)) (sym (length-replicate n false)) small

-- a bit, counted through the words, is the place
pub bit_is_on : (k : ℕ) (ps : List Bool) (i : ℕ) → length ps ≤ 64 * k → is_bit (words_in k ps) i ≡ is_on ps i
bit_is_on k ps i enough_words = elim (cases_lt i (64 * k)) [
  | inl within ↦
      ap (λ (w : ℕ). bit_at w (i % 64) == 1) (unwrap_or-slice_get (words_in k ps) (i / 64) 0)
      ∙ ap (λ (b : ℕ). b == 1) (word_bit k ps i within)
      ∙ bit_on (get_or ps i false)
      ∙ sym (unwrap_or-slice_get ps i false)
  | inr past ↦
      ap (λ (w : ℕ). bit_at w (i % 64) == 1) (unwrap_or-slice_get (words_in k ps) (i / 64) 0 ∙ get_or_past (words_in k ps) (i / 64) 0 (let e = words_in-length k ps in omega arith))
      ∙ ap (λ (b : ℕ). b == 1) (bit_at-zero (i % 64))
      ∙ sym (unwrap_or-slice_get ps i false ∙ get_or_past ps i false (omega arith))
]
  where
    get_or_past : {A : Type 0} (xs : List A) (j : ℕ) (d : A) → length xs ≤ j → get_or xs j d ≡ d
    get_or_past [] j d h = refl
    get_or_past (x ∷ xs) zero d h = absurd (omega arith)
    get_or_past (x ∷ xs) (suc j) d h = get_or_past xs j d (omega arith)

pub bit_on_at : (ws : List ℕ) (n : ℕ) (ps : List Bool) (i : ℕ) → AreWords ws n → places_in ws n ≡ ps → is_bit ws i ≡ is_on ps i
bit_on_at ws n ps i are e = ap (λ (vs : List ℕ). is_bit vs i) (told ws n ps are e).0 ∙ bit_is_on (div_ceil (length ps) 64) ps i (enough (length ps))

pub no_bit : (i : ℕ) → is_bit [] i ≡ false
no_bit i = ap (λ (b : ℕ). b == 1) (bit_at-zero (i % 64))

pub on_within : (ps : List Bool) (i : ℕ) → is_on ps i ≡ true → i < length ps
on_within [] i h = absurd (cc)
on_within (p ∷ ps) zero h = omega arith
on_within (p ∷ ps) (suc i) h = let below = on_within ps i h in omega arith

pub word_there : (ws : List ℕ) (n : ℕ) (ps : List Bool) (i : ℕ) → AreWords ws n → places_in ws n ≡ ps → i < length ps → i / 64 < length ws
word_there ws n ps i are e h = let t = told ws n ps are e in omega arith

pub place_read : (ws : List ℕ) (n : ℕ) (ps : List Bool) (i : ℕ) (b : Bool) → AreWords ws n → places_in ws n ≡ ps → i < length ps → b ≡ is_bit ws i → slice_get ps i ≡ Some b
place_read ws n ps i b are e h is = slice_get-get_or ps i false h ∙ ap Some (sym (unwrap_or-slice_get ps i false) ∙ sym (bit_on_at ws n ps i are e) ∙ sym is)

-- one place is set by one bit of its word
pub place_set : (ws : List ℕ) (n : ℕ) (ps : List Bool) (i : ℕ) (p : Bool) (w : ℕ) → AreWords ws n → places_in ws n ≡ ps → i < length ps → w < 2 ^ 64 → bit_at w (i % 64) ≡ cond p 1 0
    → ((b : ℕ) → b < 64 → b ≢ i % 64 → bit_at w b ≡ bit_at (get_or ws (i / 64) 0) b) → (places_in (slice_set ws (i / 64) w) n ≡ slice_set ps i p) × AreWords (slice_set ws (i / 64) w) n
place_set ws n ps i p w are e h small here others =
    let t = told ws n ps are e in
    let k = div_ceil (length ps) 64 in
    let same : (b : ℕ) → b < 64 → b ≢ i % 64 → bit_at w b ≡ bit_at (get_or (words_in k ps) (i / 64) 0) b = λ b l ne. others b l ne ∙ ap (λ (vs : List ℕ). bit_at (get_or vs (i / 64) 0) b) t.0 in
    let made : slice_set ws (i / 64) w ≡ switch_words (slice_set ps i p) =
    ap (λ (vs : List ℕ). slice_set vs (i / 64) w) t.0 ∙ set_word k ps i p w (omega arith) h small here same ∙ ap (λ (m : ℕ). words_in (div_ceil m 64) (slice_set ps i p)) (sym (set_length ps i p)) in
    kept (slice_set ws (i / 64) w) n (slice_set ps i p) made (t.1 ∙ sym (set_length ps i p)) are.small

-- one bit of one word and not of another
pub bits_apart : (x y : ℕ) → x < 2 → y < 2 → (min x (1 - y) == 1) ≡ ((x == 1) && not (y == 1))
bits_apart zero zero h k = refl
bits_apart zero (suc zero) h k = refl
bits_apart (suc zero) zero h k = refl
bits_apart (suc zero) (suc zero) h k = refl
bits_apart (suc (suc x)) y h k = absurd (omega arith)
bits_apart zero (suc (suc y)) h k = absurd (omega arith)
bits_apart (suc zero) (suc (suc y)) h k = absurd (omega arith)

pub word_apart : (ws vs : List ℕ) (k b w v : ℕ) → b < 64 → slice_get ws k ≡ Some w → v ≡ unwrap_or (slice_get vs k) 0 → v < 2 ^ 64 → (bit_at (bit_and w (bit_not w64 v)) b == 1) ≡ are_alone ws vs (64 * k + b)
word_apart ws vs k b w v h is is' small =
    let q : (64 * k + b) / 64 ≡ k = omega arith in
    let r : (64 * k + b) % 64 ≡ b = omega arith in
    let both : bit_at (bit_and w (bit_not w64 v)) b ≡ min (bit_at w b) (1 - bit_at v b) = bit_at_and w (bit_not w64 v) b ∙ ap (min (bit_at w b)) (bit_at_not w64 v b small h) in
    rw (q, r, is, ← is') (ap (λ (n : ℕ). n == 1) both ∙ bits_apart (bit_at w b) (bit_at v b) (bit_at-lt w b) (bit_at-lt v b))

shifted : (n k j : ℕ) → bit_at (n / 2 ^ k) j ≡ bit_at n (k + j)
shifted n k j = ap (λ (m : ℕ). m % 2) (shr-shr n k j)

-- no bit is 1 from one on where what is left is 0
pub none_left : (w from i : ℕ) → w / 2 ^ from ≡ 0 → from ≤ i → (bit_at w i == 1) ≡ false
none_left w from i e h =
    let j : from + (i - from) ≡ i = omega arith in
    ap (λ (b : ℕ). b == 1) (ap (bit_at w) (sym j) ∙ sym (shifted w from (i - from)) ∙ ap (λ (m : ℕ). bit_at m (i - from)) e ∙ bit_at-zero (i - from))

pub lowest_left : (w from : ℕ) → from < 64 → w < 2 ^ 64 → w / 2 ^ from ≢ 0 → IsFirst (λ b. bit_at w b == 1) from 64 (from + trailing_zeros w64 (w / 2 ^ from))
lowest_left w from h small ne =
    let rest = w / 2 ^ from in
    let t = trailing_zeros w64 rest in
    let some : 0 < rest = omega arith in
    let facts = bit_at-trailing_zeros w64 rest some (omega (arith, shr_le w from)) in
    let hit : bit_at w (from + t) ≡ 1 = sym (shifted w from t) ∙ facts.1 in
    record {
      low = omega arith;
      high = elim (cases_lt (from + t) 64) [ inl below ↦ below | inr above ↦ (let none : bit_at w (from + t) ≡ 0 = bit_at_above w 64 (from + t) small above in omega arith) ];
      before = λ i a b.
          let j : from + (i - from) ≡ i = omega arith in
          ap (λ (n : ℕ). n == 1) (ap (bit_at w) (sym j) ∙ sym (shifted w from (i - from)) ∙ facts.2 (i - from) (omega arith));
      hit = ap (λ (n : ℕ). n == 1) hit;
    }

-- what is found by one test is found by another that passes at the same places, up to an end past which none passes
pub found_along : (s t : ℕ → Bool) (from end end' : ℕ) (r : Option ℕ) → ((i : ℕ) → s i ≡ t i) → end' ≤ end → ((i : ℕ) → t i ≡ true → i < end') → FindsFirst s from end r → FindsFirst t from end' r
found_along s t from end end' None same less within none = λ i a b. sym (same i) ∙ none i a (omega arith)
found_along s t from end end' (Some p) same less within first =
    record { low = first.low; high = within p (sym (same p) ∙ first.hit); before = λ i a b. sym (same i) ∙ first.before i a b; hit = sym (same p) ∙ first.hit }

-- where none before a word passes, nor any of its bits, none before the next word does
pub none_in_word : (s t : ℕ → Bool) (from start k : ℕ) → start ≡ from - 64 * k → ((b : ℕ) → b < 64 → s b ≡ t (64 * k + b)) → ((i : ℕ) → from ≤ i → i < 64 * k → t i ≡ false)
    → ((b : ℕ) → start ≤ b → b < 64 → s b ≡ false) → (i : ℕ) → from ≤ i → i < 64 * (k + 1) → t i ≡ false
none_in_word s t from start k e same before none i a b =
    elim (cases_lt i (64 * k)) [
      | inl lt ↦ before i a lt
      | inr ge ↦
          let at : 64 * k + (i - 64 * k) ≡ i = omega (arith, ge) in
          ap t (sym at) ∙ sym (same (i - 64 * k) (omega (arith, b, ge))) ∙ none (i - 64 * k) (omega (arith, e, a)) (omega (arith, b, ge))
    ]

-- where none before a word passes, the first of its bits that passes is the first of all
pub found_in_word : (s t : ℕ → Bool) (from start k n bit : ℕ) → start ≡ from - 64 * k → k < n → ((b : ℕ) → b < 64 → s b ≡ t (64 * k + b)) → ((i : ℕ) → from ≤ i → i < 64 * k → t i ≡ false)
    → IsFirst s start 64 bit → IsFirst t from (64 * n) (64 * k + bit)
found_in_word s t from start k n bit e lt same before first =
    let low : start ≤ bit = first.low in
    let high : bit < 64 = first.high in
    record {
      low = omega (arith, e);
      high = omega (arith, lt);
      before = λ i a b. elim (cases_lt i (64 * k)) [
        | inl lt ↦ before i a lt
        | inr ge ↦
            let at : 64 * k + (i - 64 * k) ≡ i = omega (arith, ge) in
            ap t (sym at) ∙ sym (same (i - 64 * k) (omega (arith, b, ge))) ∙ first.before (i - 64 * k) (omega (arith, e, a)) (omega (arith, b, ge))
      ];
      hit = sym (same bit high) ∙ first.hit;
    }

both_on : (a b : Bool) → (a && b) ≡ true → a ≡ true
both_on true b h = refl
both_on false b h = absurd (cc)

and_not_false : (a : Bool) → (a && not false) ≡ a
and_not_false true = refl
and_not_false false = refl

pub found_next : (ws : List ℕ) (n : ℕ) (ps : List Bool) (from : ℕ) (r : Option ℕ) → AreWords ws n → places_in ws n ≡ ps → FindsFirst (are_alone ws []) from (64 * length ws) r → FindsFirst (is_on ps) from (length ps) r
found_next ws n ps from r are e found =
    let t = told ws n ps are e in
    found_along (are_alone ws []) (is_on ps) from (64 * length ws) (length ps) r
    (λ i. ap (λ (b : Bool). is_bit ws i && not b) (no_bit i) ∙ and_not_false (is_bit ws i) ∙ bit_on_at ws n ps i are e)
    (omega arith) (λ i h. on_within ps i h) found

pub found_next_alone : (ws vs : List ℕ) (n : ℕ) (ps qs : List Bool) (from : ℕ) (r : Option ℕ) → AreWords ws n → places_in ws n ≡ ps → vs ≡ switch_words qs
    → FindsFirst (are_alone ws vs) from (64 * length ws) r → FindsFirst (is_alone ps qs) from (length ps) r
found_next_alone ws vs n ps qs from r are e same found =
    let t = told ws n ps are e in
    found_along (are_alone ws vs) (is_alone ps qs) from (64 * length ws) (length ps) r
    (λ i.
    ap (λ (b : Bool). b && not (is_bit vs i)) (bit_on_at ws n ps i are e)
    ∙ ap (λ (b : Bool). is_on ps i && not b) (ap (λ (xs : List ℕ). is_bit xs i) same ∙ bit_is_on (div_ceil (length qs) 64) qs i (enough (length qs))))
    (omega arith) (λ i h. on_within ps i (both_on (is_on ps i) (not (is_on qs i)) h)) found

same_tests : (r s : Bool) → (r ≡ true → s ≡ true) → (s ≡ true → r ≡ true) → r ≡ s
same_tests true true f g = refl
same_tests true false f g = sym (f refl)
same_tests false true f g = g refl
same_tests false false f g = refl

-- equal words keep equal places
pub same_words : (ws vs : List ℕ) (n m : ℕ) (ps qs : List Bool) (r : Bool) → AreWords ws n → places_in ws n ≡ ps → AreWords vs m → places_in vs m ≡ qs → n ≡ m → r ≡ pointwise nat_eq ws vs → r ≡ pointwise beq ps qs
same_words ws vs n m ps qs r are e are' e' long is =
    let words = slice_eq-Decides Decides-eqb ws vs r is in
    let places = slice_eq-Decides booleans_Decides ps qs (pointwise beq ps qs) refl in
    same_tests r (pointwise beq ps qs)
    (λ h. places.1 (sym e ∙ ap (λ (xs : List ℕ). places_in xs n) (words.0 h) ∙ ap (places_in vs) long ∙ e'))
    (λ h. words.1 ((told ws n ps are e).0 ∙ ap switch_words (places.0 h) ∙ sym (told vs m qs are' e').0))

pub other_words : (ws vs : List ℕ) (n m : ℕ) (ps qs : List Bool) → AreWords ws n → places_in ws n ≡ ps → AreWords vs m → places_in vs m ≡ qs → n ≢ m → false ≡ pointwise beq ps qs
other_words ws vs n m ps qs are e are' e' apart =
    let places = slice_eq-Decides booleans_Decides ps qs (pointwise beq ps qs) refl in
    same_tests false (pointwise beq ps qs) (λ h. absurd (cc))
    (λ h. absurd (apart ((told ws n ps are e).1 ∙ ap length (places.0 h) ∙ sym (told vs m qs are' e').1)))

-- as many ones as pressed places, at most all
pub ones_few : (ps : List Bool) → sum_by count_ones (switch_words ps) ≤ length ps
ones_few ps = omega (arith, ones (div_ceil (length ps) 64) ps (enough (length ps)), count_by-le-length (λ (p : Bool). p) ps)

pub same_at : (ws : List ℕ) (k w old r : ℕ) → k < length ws → old ≡ get_or ws k old → ((b : ℕ) → b < 64 → b ≢ r → bit_at w b ≡ bit_at old b) → (b : ℕ) → b < 64 → b ≢ r → bit_at w b ≡ bit_at (get_or ws k 0) b
same_at ws k w old r h is others b l ne = others b l ne ∙ ap (λ (v : ℕ). bit_at v b) (sym (get_or_from_slice_get ws k old 0 (slice_get-get_or ws k old h ∙ ap Some (sym is))))

-- a number is left after what is found below an end
pub found_behind : (test : ℕ → Bool) (from n : ℕ) (ps : List Bool) (ws : List ℕ) (r : Option ℕ) → AreWords ws n → places_in ws n ≡ ps → FindsFirst test from (length ps) r → IfSome r (λ place. place + 1 < 2 ^ 64)
found_behind test from n ps ws None are e found = tt
found_behind test from n ps ws (Some p) are e found =
    let t = told ws n ps are e in
    let small = are.small in
    let high = found.high in
    omega arith

-- bits that aren't the same in two words
bits_unlike : (x y : ℕ) → x < 2 → y < 2 → ((x + y) % 2 == 1) ≡ not (beq (x == 1) (y == 1))
bits_unlike zero zero h k = refl
bits_unlike zero (suc zero) h k = refl
bits_unlike (suc zero) zero h k = refl
bits_unlike (suc zero) (suc zero) h k = refl
bits_unlike (suc (suc x)) y h k = absurd (omega arith)
bits_unlike zero (suc (suc y)) h k = absurd (omega arith)
bits_unlike (suc zero) (suc (suc y)) h k = absurd (omega arith)

-- a bit of a word of places and of another one
pub unlike_at : (ps : List Bool) (index v w b : ℕ) → v ≡ unwrap_or (slice_get (switch_words ps) index) 0 → b < 64 → (bit_at (bit_xor v w) b == 1) ≡ is_unlike ps index w b
unlike_at ps index v w b is low =
    let q : (64 * index + b) / 64 ≡ index = omega arith in
    let r : (64 * index + b) % 64 ≡ b = omega arith in
    let here : is_bit (switch_words ps) (64 * index + b) ≡ (bit_at v b == 1) = rw (q, r, ← is) refl in
    ap (λ (x : ℕ). x == 1) (bit_at_xor v w b) ∙ bits_unlike (bit_at v b) (bit_at w b) (bit_at-lt v b) (bit_at-lt w b)
    ∙ ap (λ (x : Bool). not (beq x (bit_at w b == 1))) (sym here ∙ bit_is_on (div_ceil (length ps) 64) ps (64 * index + b) (enough (length ps)))

-- tests that pass alike find the same
pub found_below : (s t : ℕ → Bool) (from end : ℕ) (r : Option ℕ) → ((i : ℕ) → i < end → s i ≡ t i) → FindsFirst s from end r → FindsFirst t from end r
found_below s t from end None same none = λ i a b. sym (same i b) ∙ none i a b
found_below s t from end (Some p) same first =
    let high = first.high in
    record { low = first.low; high = first.high; before = λ i a b. sym (same i (omega arith)) ∙ first.before i a b; hit = sym (same p high) ∙ first.hit }

mask_bits : (n w : ℕ) → w < 2 ^ n → mask_l (bits_in n w) ≡ w
unfolding bits_in
mask_bits zero w h = omega arith
mask_bits (suc n) w h =
    let rest = mask_bits n (w / 2) (omega (arith, h, pow-suc 2 n)) in
    by_lowest (w % 2 == 1) refl rest
  where
    by_lowest : (b : Bool) → (w % 2 == 1) ≡ b → mask_l (bits_in n (w / 2)) ≡ w / 2 → (cond b 1 0 + 2 * mask_l (bits_in n (w / 2))) ≡ w
    by_lowest true e rest = let one : w % 2 ≡ 1 = grind (arith, nat_tests) in omega (arith, rest, one)
    by_lowest false e rest = let none : w % 2 ≡ 0 = grind (arith, nat_tests) in omega (arith, rest, none)

-- up to 64 places are the bits of their one word
pub one_word : (ws : List ℕ) (n : ℕ) (ps : List Bool) (w : ℕ) → AreWords ws n → places_in ws n ≡ ps → length ps ≤ 64 → 0 < length ws → w < 2 ^ length ps
    → (places_in (slice_set ws 0 w) n ≡ bits_in (length ps) w) × AreWords (slice_set ws 0 w) n
unfolding words_in
one_word ws n ps w are is few some fits =
    let was = told ws n ps are is in
    let one : div_ceil n 64 ≡ 1 = omega (arith, was.1, was.2, few, some, enough n) in
    let all : take 64 (bits_in (length ps) w) ≡ bits_in (length ps) w = take_all 64 (bits_in (length ps) w) (omega (arith, bits_in-length (length ps) w)) in
    kept (slice_set ws 0 w) n (bits_in (length ps) w)
    (single ws w (was.2 ∙ one) ∙ ap (λ (v : ℕ). v ∷ []) (sym (ap mask_l all ∙ mask_bits (length ps) w fits)) ∙ ap (λ (k : ℕ). words_in k (bits_in (length ps) w)) (sym (ap (λ (m : ℕ). div_ceil m 64) (bits_in-length (length ps) w ∙ sym was.1) ∙ one)))
    (was.1 ∙ sym (bits_in-length (length ps) w)) are.small
  where
    single : (xs : List ℕ) (v : ℕ) → length xs ≡ 1 → slice_set xs 0 v ≡ v ∷ []
    single [] v h = absurd (omega arith)
    single (x ∷ []) v h = refl
    single (x ∷ y ∷ xs) v h = absurd (omega arith)

-- no word holds no places
pub no_word : (ws : List ℕ) (n : ℕ) (ps : List Bool) (w : ℕ) → AreWords ws n → places_in ws n ≡ ps → length ws ≡ 0 → ps ≡ bits_in (length ps) w
unfolding bits_in
no_word ws n ps w are is none =
    let was = told ws n ps are is in
    of_length ps (omega (arith, was.1, was.2, none, enough n))
  where
    of_length : (qs : List Bool) → length qs ≡ 0 → qs ≡ bits_in (length qs) w
    of_length [] h = refl
    of_length (q ∷ qs) h = absurd (omega arith)
