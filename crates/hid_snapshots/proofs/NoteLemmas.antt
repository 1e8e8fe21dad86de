-- Words of places, and after them the notes of which are filled.
use Rattle.std.proofs.Common.{◌≡◌, ◌≢◌, ℕ, zero, suc, ◌+◌, ◌*◌, ◌/◌, ◌%◌, ◌^◌, ◌<◌, ◌≤◌, ◌==◌, inl, inr, ◌&&◌, not, Bool, true, false, List, [], ◌∷◌, length, take, drop, replicate, Option, refl, sym, ap, ◌∙◌, subst, arith}
use Rattle.std.specs.List.{slice_set}
use Rattle.std.specs.Int.{bit_at, div_ceil}
use Rattle.std.proofs.Math.Seq.{take-set-lt}
use Rattle.std.proofs.lemmas.Bool.{cases_eq}
use Rattle.std.proofs.lemmas.Bool.Decides.{nat_tests}
use Rattle.std.proofs.lemmas.List.{get_or-drop, get_or-take, get_or-set_same, get_or-set_other, drop-set-lt, take-replicate, length-take-le, length-replicate}
use Rattle.std.proofs.lemmas.Nat.Bits.{bit_at-zero}
use Rattle.std.proofs.lemmas.Option.{unwrap_or-slice_get}
use Rattle.hid_snapshots.proofs.FillLemmas.{set_length}
use Rattle.hid_snapshots.proofs.WordLemmas.{cleared, one_word}
use Rattle.hid_snapshots.specs.Words.{places_in, words_of, word_at, bits_in, is_bit, is_group, are_alone, FindsFirst, HasNotes, AreGroups, AreNoted, AreWords, AreFlags}

-- ---- words, by index

pub at_first : (ws : List ℕ) (c k : ℕ) → k < c → word_at (take c ws) k ≡ word_at ws k
at_first ws c k h = unwrap_or-slice_get (take c ws) k 0 ∙ get_or-take c ws k 0 h ∙ sym (unwrap_or-slice_get ws k 0)

pub at_behind : (ws : List ℕ) (c k : ℕ) → word_at (drop c ws) k ≡ word_at ws (c + k)
at_behind ws c k = unwrap_or-slice_get (drop c ws) k 0 ∙ get_or-drop c ws k 0 ∙ sym (unwrap_or-slice_get ws (c + k) 0)

pub bit_first : (ws : List ℕ) (c i : ℕ) → i / 64 < c → is_bit (take c ws) i ≡ is_bit ws i
bit_first ws c i h = ap (λ (w : ℕ). bit_at w (i % 64) == 1) (at_first ws c (i / 64) h)

-- a word of which no bit is 1
pub bit_of_zero : (ws : List ℕ) (i : ℕ) → word_at ws (i / 64) ≡ 0 → is_bit ws i ≡ false
bit_of_zero ws i e = ap (λ (w : ℕ). bit_at w (i % 64) == 1) e ∙ ap (λ (b : ℕ). b == 1) (bit_at-zero (i % 64))

pub set_here : (ws : List ℕ) (k w : ℕ) → k < length ws → word_at (slice_set ws k w) k ≡ w
set_here ws k w h = unwrap_or-slice_get (slice_set ws k w) k 0 ∙ get_or-set_same ws k w 0 h

pub set_other : (ws : List ℕ) (k w i : ℕ) → i ≢ k → word_at (slice_set ws k w) i ≡ word_at ws i
set_other ws k w i ne = unwrap_or-slice_get (slice_set ws k w) i 0 ∙ get_or-set_other ws k i w 0 ne ∙ sym (unwrap_or-slice_get ws i 0)

set_zero : (ws : List ℕ) (k : ℕ) → word_at (slice_set ws k 0) k ≡ 0
set_zero [] k = refl
set_zero (w ∷ ws) zero = refl
set_zero (w ∷ ws) (suc k) = set_zero ws k

-- one word more is 0
pub zeros_more : (ws : List ℕ) (k i : ℕ) → ((j : ℕ) → j < k → word_at ws j ≡ 0) → i < k + 1 → word_at (slice_set ws k 0) i ≡ 0
zeros_more ws k i zeros h = elim (cases_eq i k) [
  | inl same ↦ ap (word_at (slice_set ws k 0)) same ∙ set_zero ws k
  | inr ne ↦ set_other ws k 0 i ne ∙ zeros i (omega arith)
]

pub all_zero : (ws : List ℕ) (n : ℕ) → length ws ≡ n → ((i : ℕ) → i < n → word_at ws i ≡ 0) → ws ≡ replicate n 0
all_zero [] zero e zeros = refl
all_zero [] (suc n) e zeros = absurd (omega arith)
all_zero (w ∷ ws) zero e zeros = absurd (omega arith)
all_zero (w ∷ ws) (suc n) e zeros =
    let first : w ≡ 0 = zeros 0 (omega arith) in
    rw (first, ← all_zero ws n (omega arith) (λ i h. zeros (suc i) (omega arith))) refl

-- words that are the same at each index
pub same_by : (xs ys : List ℕ) → length xs ≡ length ys → ((i : ℕ) → i < length xs → word_at xs i ≡ word_at ys i) → xs ≡ ys
same_by [] [] e same = refl
same_by [] (y ∷ ys) e same = absurd (omega arith)
same_by (x ∷ xs) [] e same = absurd (omega arith)
same_by (x ∷ xs) (y ∷ ys) e same =
    let first : x ≡ y = same 0 (omega arith) in
    ap (λ (w : ℕ). w ∷ xs) first ∙ ap (λ (t : List ℕ). y ∷ t) (same_by xs ys (omega arith) (λ i h. same (suc i) (omega arith)))

zero_in : (n i : ℕ) → word_at (replicate n 0) i ≡ 0
zero_in zero i = refl
zero_in (suc n) zero = refl
zero_in (suc n) (suc i) = zero_in n i

pub empty_word : (w : ℕ) → not (w == 0) ≡ false → w ≡ 0
empty_word w e = of_test (w == 0) refl e
  where
    of_test : (b : Bool) → (w == 0) ≡ b → not b ≡ false → w ≡ 0
    of_test true is h = grind (arith, nat_tests)
    of_test false is h = absurd (cc)

-- ---- notes

-- a word is written, and whether it is filled is noted
pub noted_here : (ws notes notes' : List ℕ) (top top' k w : ℕ) (p : Bool) → AreNoted ws notes top → k < length ws → (p ≡ false → w ≡ 0) → is_bit notes' k ≡ p
    → ((i : ℕ) → i ≢ k → is_bit notes' i ≡ is_bit notes i) → (AreGroups notes top → AreGroups notes' top') → AreNoted (slice_set ws k w) notes' top'
noted_here ws notes notes' top top' k w p noted within empty here others groups =
    record { filled = each; groups = groups noted.groups }
  where
    each : (i : ℕ) → 0 < i → is_bit notes' i ≡ false → word_at (slice_set ws k w) i ≡ 0
    each i some e = elim (cases_eq i k) [
      | inl same ↦ ap (word_at (slice_set ws k w)) same ∙ set_here ws k w within ∙ empty (sym here ∙ ap (is_bit notes') (sym same) ∙ e)
      | inr ne ↦ set_other ws k w i ne ∙ noted.filled i some (sym (others i ne) ∙ e)
    ]

-- the first word is written, of which no note is kept
pub noted_first : (ws notes : List ℕ) (top k w : ℕ) → k ≡ 0 → AreNoted ws notes top → AreNoted (slice_set ws k w) notes top
noted_first ws notes top k w e noted =
    record { filled = λ i some none. set_other ws k w i (λ same. absurd (omega arith)) ∙ noted.filled i some none; groups = noted.groups }

-- a word that is filled is written, which has its note
pub noted_again : (ws notes : List ℕ) (top k w : ℕ) → word_at ws k ≢ 0 → AreNoted ws notes top → AreNoted (slice_set ws k w) notes top
noted_again ws notes top k w filled noted = record {
  filled = λ i some none. elim (cases_eq i k) [
    | inl same ↦ absurd (filled (ap (word_at ws) (sym same) ∙ noted.filled i some none))
    | inr ne ↦ set_other ws k w i ne ∙ noted.filled i some none
  ];
  groups = noted.groups;
}

-- a word is 0 that has no note, or is in a group without a bit
pub unfilled : (ws notes : List ℕ) (top k i word : ℕ) → AreNoted ws notes top → word ≡ word_at notes (k / 64) → 0 < k → k ≤ i
    → (i / 64 ≡ k / 64 → (bit_at word (i % 64) == 1) ≡ false) → (i / 64 ≢ k / 64 → is_group top (i / 64) ≡ false) → word_at ws i ≡ 0
unfilled ws notes top k i word noted is some after here later = noted.filled i (omega arith) none
  where
    none : is_bit notes i ≡ false
    none = elim (cases_eq (i / 64) (k / 64)) [
      | inl same ↦ ap (λ (j : ℕ). bit_at (word_at notes j) (i % 64) == 1) same ∙ ap (λ (w : ℕ). bit_at w (i % 64) == 1) (sym is) ∙ here same
      | inr ne ↦ bit_of_zero notes i (noted.groups (i / 64) (later ne))
    ]

-- all words but the first are 0 where no group has a bit
pub none_filled : (ws notes : List ℕ) (top k : ℕ) → AreNoted ws notes top → top ≡ 0 → 0 < k → word_at ws k ≡ 0
none_filled ws notes top k noted none some =
    let group : is_group top (k / 64) ≡ false = ap (λ (t : ℕ). is_group t (k / 64)) none ∙ ap (λ (b : ℕ). b == 1) (bit_at-zero _) in
    noted.filled k some (bit_of_zero notes k (noted.groups (k / 64) group))

-- a bit of a word that is 0 isn't alone
pub none_alone : (ws vs : List ℕ) (i : ℕ) → word_at ws (i / 64) ≡ 0 → are_alone ws vs i ≡ false
none_alone ws vs i e = ap (λ (b : Bool). b && not (is_bit vs i)) (bit_of_zero ws i e)

pub alone_first : (ws vs : List ℕ) (c i : ℕ) → i / 64 < c → are_alone (take c ws) vs i ≡ are_alone ws vs i
alone_first ws vs c i h = ap (λ (b : Bool). b && not (is_bit vs i)) (bit_first ws c i h)

-- ---- flags

-- as many words as the places need come first
pub words_long : (ws : List ℕ) (n top : ℕ) → AreFlags ws n top → length (words_of ws n) ≡ div_ceil n 64
words_long ws n top are = length-take-le (div_ceil n 64) ws (omega (arith, are.notes))

-- none of the places is pressed
pub no_flags : (ws : List ℕ) (n top : ℕ) → HasNotes ws (div_ceil n 64) → words_of ws n ≡ replicate (div_ceil n 64) 0 → AreNoted (words_of ws n) (drop (div_ceil n 64) ws) top → n < 2 ^ 64
    → (places_in (words_of ws n) n ≡ replicate n false) × AreFlags ws n top
no_flags ws n top notes zeros noted small =
    let places = cleared (words_of ws n) n zeros small in
    (places.0, record { words = places.1; notes = notes; noted = noted })

-- new flags
pub new_flags : (ws : List ℕ) (n : ℕ) → ws ≡ replicate (div_ceil n 64 + div_ceil (div_ceil n 64) 64) 0 → n < 2 ^ 64
    → (places_in (words_of ws n) n ≡ replicate n false) × AreFlags ws n 0
new_flags ws n e small =
    let c = div_ceil n 64 in
    let all = c + div_ceil c 64 in
    let first : take c ws ≡ replicate c 0 = ap (take c) e ∙ take-replicate c all 0 (omega arith) in
    no_flags ws n 0 (ap length e ∙ length-replicate all 0) first
    (record {
      filled = λ k some none. ap (λ (xs : List ℕ). word_at xs k) first ∙ zero_in c k;
      groups = λ j none. at_behind ws c j ∙ ap (λ (xs : List ℕ). word_at xs (c + j)) e ∙ zero_in all (c + j);
    })
    small

-- flags whose words are written
pub flags_written : (ws vs made : List ℕ) (n top count : ℕ) → count ≡ div_ceil n 64 → length vs ≡ length ws → HasNotes ws (div_ceil n 64) → take count vs ≡ made → AreWords made n
    → AreNoted (take count vs) (drop count vs) top → AreFlags vs n top
flags_written ws vs made n top count e long notes is are noted = record {
  words = subst (λ (xs : List ℕ). AreWords xs n) (sym (ap (λ (k : ℕ). take k vs) (sym e) ∙ is)) are;
  notes = long ∙ notes;
  noted = subst (λ (k : ℕ). AreNoted (take k vs) (drop k vs) top) e noted;
}

-- the one word of up to 64 places is written
pub word_written : (ws : List ℕ) (n top : ℕ) (ps : List Bool) (w : ℕ) → AreFlags ws n top → places_in (words_of ws n) n ≡ ps → length ps ≤ 64 → 0 < length ws → w < 2 ^ length ps
    → (places_in (words_of (slice_set ws 0 w) n) n ≡ bits_in (length ps) w) × AreFlags (slice_set ws 0 w) n top
word_written ws n top ps w are e few some fits =
    let c = div_ceil n 64 in
    let words : 0 < c = omega (arith, are.notes) in
    let first : take c (slice_set ws 0 w) ≡ slice_set (take c ws) 0 w = take-set-lt c ws 0 w words in
    let one = one_word (take c ws) n ps w are.words e few (omega (arith, words_long ws n top are)) fits in
    let noted : AreNoted (slice_set (take c ws) 0 w) (drop c ws) top = noted_first (take c ws) (drop c ws) top 0 w refl are.noted in
    let before : AreNoted (take c (slice_set ws 0 w)) (drop c ws) top = subst (λ (xs : List ℕ). AreNoted xs (drop c ws) top) (sym first) noted in (
      ap (λ (xs : List ℕ). places_in xs n) first ∙ one.0,
      record {
        words = subst (λ (xs : List ℕ). AreWords xs n) (sym first) one.1;
        notes = set_length ws 0 w ∙ are.notes;
        noted = subst (λ (xs : List ℕ). AreNoted (take c (slice_set ws 0 w)) xs top) (sym (drop-set-lt c ws 0 w words)) before;
      },
    )

-- what a search of all words finds, of the words that it is called with
pub found_first : (ws ds vs : List ℕ) (n top count from : ℕ) (r : Option ℕ) → AreFlags ws n top → ds ≡ ws → count ≡ div_ceil n 64 → FindsFirst (are_alone (take count ds) vs) from (64 * count) r
    → FindsFirst (are_alone (words_of ws n) vs) from (64 * length (words_of ws n)) r
found_first ws ds vs n top count from r are same e found =
    let here : FindsFirst (are_alone (take count ws) vs) from (64 * count) r = subst (λ (xs : List ℕ). FindsFirst (are_alone (take count xs) vs) from (64 * count) r) same found in
    let all : FindsFirst (are_alone (words_of ws n) vs) from (64 * div_ceil n 64) r = subst (λ (k : ℕ). FindsFirst (are_alone (take k ws) vs) from (64 * k) r) e here in
    subst (λ (k : ℕ). FindsFirst (are_alone (words_of ws n) vs) from (64 * k) r) (sym (words_long ws n top are)) all
