-- The words that a text begins with, and those of tables.
use Rattle.std.proofs.Common.{◌≡◌, ℕ, zero, suc, ◌%◌, ◌<◌, ◌≤◌, Bool, true, false, List, [], ◌∷◌, length, take, drop, refl, sym, ap, subst, ◌∙◌, not, nat_eq, nat_lt, cond, None, Some, Err, arith, inl, inr, ◌⊎◌, ⊎_elim}
use Rattle.std.proofs.lemmas.Bool.{cases_Bool, cases_lt, cond-true, cond-false, lt-ltb, le-ltb, ne_eqb}
use Rattle.std.proofs.lemmas.Slice.Eq.{bytes_eq-Decides}
use Rattle.std.proofs.Math.Numerals.{one-add}
use Rattle.std.specs.Prelude.{filter, is_ok, slice_index}
use Rattle.std.specs.List.{slice_split, onto_first, prefix_len, position_or_len}
use Rattle.std.specs.Str.{bytes_eq}
use Rattle.hex.specs.Hex.{decode_of, decode_pairs}
use Rattle.hex.specs.declared.error.FromHexError.TheVariants.{OddLength}
use Rattle.hid_text.specs.Words.{Word, is_blank, is_no_blank, words_of, after_word, look_up}
use Rattle.hid_text.proofs.LineLemmas.{some_part}
use Rattle.hid_text.proofs.PartLemmas.{no_word, one_word}
use Rattle.lab_lines.specs.Typing.{trim}

-- ---- tables

-- what holds of each word of a table
abbrev pub EachWord : {X : Type 0} → (Word → Type 0) → List (Word × X) → Type 0
EachWord Q [] = Unit {0}
EachWord Q (entry ∷ more) = Q entry.0 × EachWord Q more

pub same_word : (a b : Word) → bytes_eq a b ≡ true → a ≡ b
same_word a b e = (bytes_eq-Decides a b).0 e

here_or_below : {X : Type 0} (Q : Word → Type 0) (entry : Word × X) (more : List (Word × X)) (word : Word) (x : X) (is : Bool) → bytes_eq word entry.0 ≡ is
    → cond is (Some entry.1) (look_up more word) ≡ Some x → Q entry.0 → (look_up more word ≡ Some x → Q word) → Q word
here_or_below Q entry more word x true is found here below = subst Q (sym (same_word word entry.0 is)) here
here_or_below Q entry more word x false is found here below = below found

-- a word that is found in a table is one of its words
pub each_found : {X : Type 0} (Q : Word → Type 0) (table : List (Word × X)) (word : Word) (x : X) → look_up table word ≡ Some x → EachWord Q table → Q word
each_found Q [] word x found each = absurd (cc)
each_found Q (entry ∷ more) word x found each =
    here_or_below Q entry more word x (bytes_eq word entry.0) refl found each.0 (λ below. each_found Q more word x below each.1)

-- ---- the first word of a text

-- a text has no word, or a first one, before those of the text behind it
pub first_or_none : (text : List ℕ) → (words_of text ≡ []) ⊎ ((word : Word) × (words_of text ≡ word ∷ words_of (after_word text)))
first_or_none text =
    let n = position_or_len is_no_blank text in
    ⊎_elim
    (λ (below : n < length text). inr (_, (one_word text (drop n text) n (cond-true (nat_lt n (length text)) (Some n) None (lt-ltb n (length text) below)) refl).0))
    (λ (all : length text ≤ n). inl (no_word text (cond-false (nat_lt n (length text)) (Some n) None (le-ltb n (length text) all))))
    (cases_lt n (length text))

-- blanks before the first word are none of it
skip_blanks : (text : List ℕ) → words_of text ≡ words_of (drop (prefix_len is_blank text) text)
skip_blanks [] = refl
skip_blanks (b ∷ text) = ⊎_elim
    (λ (blank : is_blank b ≡ true). rw blank (skip_blanks text ∙ ap (λ k. words_of (drop k (b ∷ text))) (sym (one-add (prefix_len is_blank text)))))
    (λ (byte : is_blank b ≡ false). rw byte (rw byte refl)) (cases_Bool (is_blank b))

-- a first byte that is no blank begins the first word
byte_word : (b : ℕ) (text : List ℕ) → is_blank b ≡ false → (word : Word) × (more : List Word) × (words_of (b ∷ text) ≡ (b ∷ word) ∷ more)
byte_word b text byte =
    let part = some_part is_blank text in
    let split : slice_split is_blank (b ∷ text) ≡ (b ∷ part.0) ∷ part.1 = rw byte (ap (onto_first b) part.2) in
    let some : not (nat_eq (length (b ∷ part.0)) 0) ≡ true = ap not (ne_eqb (length (b ∷ part.0)) 0 (λ e. omega (arith, e))) in
    (part.0, filter (λ word. not (nat_eq (length word) 0)) part.1, ap (λ parts. filter (λ word. not (nat_eq (length word) 0)) parts) split ∙ rw some refl)

-- what a part of a text begins with begins the text
first_kept : (n : ℕ) (text : List ℕ) → slice_index (take n text) 0 ≡ 64 → (rest : List ℕ) × (text ≡ 64 ∷ rest)
first_kept zero text first = absurd (omega arith)
first_kept (suc n) [] first = absurd (omega arith)
first_kept (suc n) (b ∷ text) first = (text, ap (λ x. x ∷ text) first)

-- what begins with @, blanks aside, has a first word that begins with it
pub at_word : (text : List ℕ) → slice_index (trim text) 0 ≡ 64 → (word : Word) × (more : List Word) × (words_of text ≡ (64 ∷ word) ∷ more)
at_word text first =
    let front = drop (prefix_len is_blank text) text in
    let begun = first_kept _ front first in
    let word = byte_word 64 begun.0 refl in
    (word.0, word.1, skip_blanks text ∙ ap words_of begun.1 ∙ word.2)

no_digit : (odd : Bool) (word : Word) → is_ok (cond odd (Err OddLength) (decode_pairs 0 (64 ∷ word))) ≡ false
unfolding decode_pairs
no_digit true word = refl
no_digit false [] = refl
no_digit false (b ∷ word) = refl

-- a word that begins with @ is no hex
pub at_no_hex : (word : Word) → is_ok (decode_of (64 ∷ word)) ≡ false
at_no_hex word = no_digit (nat_eq (length (64 ∷ word) % 2) 1) word
