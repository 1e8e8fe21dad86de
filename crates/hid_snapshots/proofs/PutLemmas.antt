-- One word of places is written, bit by bit.
use Rattle.std.proofs.Common.{◌≡◌, ◌≢◌, ℕ, zero, suc, ◌+◌, ◌*◌, ◌/◌, ◌%◌, ◌^◌, ◌<◌, ◌≤◌, ◌==◌, inl, inr, ◌&&◌, not, min, Bool, false, cond, List, [], ◌∷◌, length, refl, sym, ap, ◌∙◌, subst, arith, bit_and, eq-eqb}
use Rattle.std.specs.List.{slice_set}
use Rattle.std.specs.Int.{bit_at, bit_not, div_ceil}
use mir.Syntax.{w64}
use Rattle.std.proofs.lemmas.Bool.{cases_eq, ne_eqb}
use Rattle.std.proofs.lemmas.Nat.Bits.{same_from_bits_below, bit_at-lt, bit_at_and, bit_at_not}
use Rattle.hid_snapshots.proofs.FillLemmas.{set_length}
use Rattle.hid_snapshots.proofs.WordLemmas.{kept, told, enough, words_in-length, words_small, bits_apart, bit_is_on, bit_on_at}
use Rattle.hid_snapshots.proofs.NoteLemmas.{same_by, set_here, set_other}
use Rattle.hid_snapshots.specs.Words.{places_in, switch_words, word_at, is_on, is_bit, AreWords}

-- as many places as are asked for, pressed where a test passes
unfoldable pub placed : (ℕ → Bool) → ℕ → List Bool
placed f zero = []
placed f (suc n) = f 0 ∷ placed (λ i. f (suc i)) n

pub placed_length : (f : ℕ → Bool) (n : ℕ) → length (placed f n) ≡ n
unfolding placed
placed_length f zero = refl
placed_length f (suc n) = ap suc (placed_length (λ i. f (suc i)) n)

pub placed_on : (f : ℕ → Bool) (n i : ℕ) → ((j : ℕ) → n ≤ j → f j ≡ false) → is_on (placed f n) i ≡ f i
unfolding placed
placed_on f zero i past = sym (past i (omega arith))
placed_on f (suc n) zero past = refl
placed_on f (suc n) (suc i) past = placed_on (λ j. f (suc j)) n i (λ j h. past (suc j) (omega arith))

same_bit : (x y : ℕ) → x < 2 → y < 2 → (x == 1) ≡ (y == 1) → x ≡ y
same_bit zero zero h k e = refl
same_bit zero (suc zero) h k e = absurd (cc)
same_bit (suc zero) zero h k e = absurd (cc)
same_bit (suc zero) (suc zero) h k e = refl
same_bit (suc (suc x)) y h k e = absurd (omega arith)
same_bit zero (suc (suc y)) h k e = absurd (omega arith)
same_bit (suc zero) (suc (suc y)) h k e = absurd (omega arith)

-- a bit of a word, counted through the words
bit_counted : (ws : List ℕ) (k b : ℕ) → b < 64 → is_bit ws (64 * k + b) ≡ (bit_at (word_at ws k) b == 1)
bit_counted ws k b h =
    let q : (64 * k + b) / 64 ≡ k = omega arith in
    let r : (64 * k + b) % 64 ≡ b = omega arith in
    ap (λ (j : ℕ). bit_at (word_at ws j) ((64 * k + b) % 64) == 1) q ∙ ap (λ (j : ℕ). bit_at (word_at ws k) j == 1) r

-- words whose bits are the places keep them
pub words_made : (ws : List ℕ) (ps : List Bool) → length ws ≡ div_ceil (length ps) 64 → ((k : ℕ) → k < length ws → word_at ws k < 2 ^ 64) → ((i : ℕ) → is_bit ws i ≡ is_on ps i) → ws ≡ switch_words ps
words_made ws ps long small same =
    same_by ws (switch_words ps) (long ∙ sym (words_in-length (div_ceil (length ps) 64) ps))
    (λ k h. same_from_bits_below 64 (word_at ws k) (word_at (switch_words ps) k) (small k h) (words_small (div_ceil (length ps) 64) ps k)
    (λ b low. same_bit (bit_at (word_at ws k) b) (bit_at (word_at (switch_words ps) k) b) (bit_at-lt (word_at ws k) b) (bit_at-lt (word_at (switch_words ps) k) b)
    (sym (bit_counted ws k b low) ∙ same (64 * k + b) ∙ sym (bit_is_on (div_ceil (length ps) 64) ps (64 * k + b) (enough (length ps))) ∙ bit_counted (switch_words ps) k b low)))

off_past : (ps : List Bool) (i : ℕ) → length ps ≤ i → is_on ps i ≡ false
off_past [] i h = refl
off_past (p ∷ ps) zero h = absurd (omega arith)
off_past (p ∷ ps) (suc i) h = off_past ps i (omega arith)

-- whether a place is pressed once the word at an index is written
unfoldable pub put_at : List Bool → ℕ → ℕ → ℕ → Bool
put_at ps k w i = cond (i / 64 == k) (bit_at w (i % 64) == 1) (is_on ps i)

pub put_here : (ps : List Bool) (k w b : ℕ) → b < 64 → put_at ps k w (64 * k + b) ≡ (bit_at w b == 1)
unfolding put_at
put_here ps k w b h =
    let q : (64 * k + b) / 64 ≡ k = omega arith in
    let r : (64 * k + b) % 64 ≡ b = omega arith in
    ap (λ (t : Bool). cond t (bit_at w ((64 * k + b) % 64) == 1) (is_on ps (64 * k + b))) (eq-eqb ((64 * k + b) / 64) k q) ∙ ap (λ (j : ℕ). bit_at w j == 1) r

pub put_other : (ps : List Bool) (k w i : ℕ) → i / 64 ≢ k → put_at ps k w i ≡ is_on ps i
unfolding put_at
put_other ps k w i ne = ap (λ (t : Bool). cond t (bit_at w (i % 64) == 1) (is_on ps i)) (ne_eqb (i / 64) k ne)

pub put_past : (ps : List Bool) (k w i : ℕ) → ((b : ℕ) → b < 64 → length ps ≤ 64 * k + b → (bit_at w b == 1) ≡ false) → length ps ≤ i → put_at ps k w i ≡ false
put_past ps k w i fits h = elim (cases_eq (i / 64) k) [
  | inl e ↦
      let at : 64 * k + i % 64 ≡ i = omega arith in
      ap (put_at ps k w) (sym at) ∙ put_here ps k w (i % 64) (omega arith) ∙ fits (i % 64) (omega arith) (omega arith)
  | inr ne ↦ put_other ps k w i ne ∙ off_past ps i h
]

-- one word is written: the places are pressed where its bits are 1, and the others stay
pub word_put : (ws : List ℕ) (n : ℕ) (ps : List Bool) (k w : ℕ) → AreWords ws n → places_in ws n ≡ ps → k < length ws → w < 2 ^ 64
    → ((b : ℕ) → b < 64 → length ps ≤ 64 * k + b → (bit_at w b == 1) ≡ false) → (places_in (slice_set ws k w) n ≡ placed (put_at ps k w) (length ps)) × AreWords (slice_set ws k w) n
word_put ws n ps k w are e within small fits =
    let t = told ws n ps are e in
    let long : length (placed (put_at ps k w) (length ps)) ≡ length ps = placed_length (put_at ps k w) (length ps) in
    kept (slice_set ws k w) n (placed (put_at ps k w) (length ps))
    (words_made (slice_set ws k w) (placed (put_at ps k w) (length ps)) (set_length ws k w ∙ t.2 ∙ ap (λ (m : ℕ). div_ceil m 64) (t.1 ∙ sym long)) each bits)
    (t.1 ∙ sym long) are.small
  where
    each : (j : ℕ) → j < length (slice_set ws k w) → word_at (slice_set ws k w) j < 2 ^ 64
    each j h = elim (cases_eq j k) [
      | inl same ↦ subst (λ (v : ℕ). v < 2 ^ 64) (sym (ap (word_at (slice_set ws k w)) same ∙ set_here ws k w within)) small
      | inr ne ↦
          subst (λ (v : ℕ). v < 2 ^ 64) (sym (set_other ws k w j ne ∙ ap (λ (xs : List ℕ). word_at xs j) (told ws n ps are e).0))
          (words_small (div_ceil (length ps) 64) ps j)
    ]

    bits : (i : ℕ) → is_bit (slice_set ws k w) i ≡ is_on (placed (put_at ps k w) (length ps)) i
    bits i = elim (cases_eq (i / 64) k) [
      | inl here ↦
          let at : 64 * k + i % 64 ≡ i = omega arith in
          ap (λ (j : ℕ). bit_at (word_at (slice_set ws k w) j) (i % 64) == 1) here ∙ ap (λ (v : ℕ). bit_at v (i % 64) == 1) (set_here ws k w within)
          ∙ sym (put_here ps k w (i % 64) (omega arith)) ∙ ap (put_at ps k w) at ∙ sym (placed_on (put_at ps k w) (length ps) i (λ j h. put_past ps k w j fits h))
      | inr ne ↦
          ap (λ (v : ℕ). bit_at v (i % 64) == 1) (set_other ws k w (i / 64) ne) ∙ bit_on_at ws n ps i are e ∙ sym (put_other ps k w i ne)
          ∙ sym (placed_on (put_at ps k w) (length ps) i (λ j h. put_past ps k w j fits h))
    ]

-- what is read of the places once a word is written
pub put_read : (ps : List Bool) (k w b : ℕ) → ((b : ℕ) → b < 64 → length ps ≤ 64 * k + b → (bit_at w b == 1) ≡ false) → b < 64 → is_on (placed (put_at ps k w) (length ps)) (64 * k + b) ≡ (bit_at w b == 1)
put_read ps k w b fits h = placed_on (put_at ps k w) (length ps) (64 * k + b) (λ j g. put_past ps k w j fits g) ∙ put_here ps k w b h

pub put_left : (ps : List Bool) (k w i : ℕ) → ((b : ℕ) → b < 64 → length ps ≤ 64 * k + b → (bit_at w b == 1) ≡ false) → i / 64 ≢ k → is_on (placed (put_at ps k w) (length ps)) i ≡ is_on ps i
put_left ps k w i fits ne = placed_on (put_at ps k w) (length ps) i (λ j g. put_past ps k w j fits g) ∙ put_other ps k w i ne

-- a bit of the word at an index is whether its place is pressed
pub word_read : (ps : List Bool) (k b v : ℕ) → v ≡ word_at (switch_words ps) k → b < 64 → (bit_at v b == 1) ≡ is_on ps (64 * k + b)
word_read ps k b v is h =
    ap (λ (x : ℕ). bit_at x b == 1) is ∙ sym (bit_counted (switch_words ps) k b h) ∙ bit_is_on (div_ceil (length ps) 64) ps (64 * k + b) (enough (length ps))

pub bits_alone : (w v b : ℕ) (p q : Bool) → b < 64 → v < 2 ^ 64 → (bit_at w b == 1) ≡ p → (bit_at v b == 1) ≡ q → (bit_at (bit_and w (bit_not w64 v)) b == 1) ≡ (p && not q)
bits_alone w v b p q h small e f =
    ap (λ (x : ℕ). x == 1) (bit_at_and w (bit_not w64 v) b ∙ ap (min (bit_at w b)) (bit_at_not w64 v b small h))
    ∙ bits_apart (bit_at w b) (bit_at v b) (bit_at-lt w b) (bit_at-lt v b) ∙ ap (λ (x : Bool). x && not (bit_at v b == 1)) e ∙ ap (λ (x : Bool). p && not x) f

both_bits : (x y : ℕ) → x < 2 → y < 2 → (min x y == 1) ≡ ((x == 1) && (y == 1))
both_bits zero zero h k = refl
both_bits zero (suc zero) h k = refl
both_bits (suc zero) zero h k = refl
both_bits (suc zero) (suc zero) h k = refl
both_bits (suc (suc x)) y h k = absurd (omega arith)
both_bits zero (suc (suc y)) h k = absurd (omega arith)
both_bits (suc zero) (suc (suc y)) h k = absurd (omega arith)

pub bits_common : (w v b : ℕ) (p q : Bool) → (bit_at w b == 1) ≡ p → (bit_at v b == 1) ≡ q → (bit_at (bit_and w v) b == 1) ≡ (p && q)
bits_common w v b p q e f =
    ap (λ (x : ℕ). x == 1) (bit_at_and w v b) ∙ both_bits (bit_at w b) (bit_at v b) (bit_at-lt w b) (bit_at-lt v b)
    ∙ ap (λ (x : Bool). x && (bit_at v b == 1)) e ∙ ap (λ (x : Bool). p && x) f
