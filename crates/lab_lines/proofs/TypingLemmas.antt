-- Typed texts, character by character, and the blanks round a text.
use Rattle.std.proofs.Common.{◌≡◌, ℕ, ◌+◌, ◌-◌, ◌<◌, ◌≤◌, Bool, true, false, List, [], ◌∷◌, length, drop, reverse, get_or, Option, None, Some, cond, nat_eq, refl, sym, ap, subst, ◌∙◌, arith}
use Rattle.std.proofs.lemmas.Bool.{cond-true}
use Rattle.std.proofs.lemmas.List.{at_drop_more, at_drop_all, get_or-reverse, length-reverse}
use Rattle.std.specs.Prelude.{MatchOption, is_some}
use Rattle.std.specs.List.{prefix_len, suffix_len}
use Rattle.hid_text.specs.Words.{is_blank}
use Rattle.lab_lines.specs.Keys.{key_of}
use Rattle.lab_lines.specs.Typing.{escape_of, next_typed, characters_of, untyped_rest, quote_at}

either_typed : (t : Bool) (x b : ℕ) (text more : List ℕ) → MatchOption {T = ℕ × List ℕ} (cond t (Some (x, text)) (Some (b, more))) (cond t (x ∷ characters_of text) (b ∷ characters_of more) ≡ []) (λ s. cond t (x ∷ characters_of text) (b ∷ characters_of more) ≡ s.0 ∷ characters_of s.1)
either_typed true x b text more = refl
either_typed false x b text more = refl

-- the characters of a text are its first one and those after it
typed_next : (text : List ℕ) → MatchOption {T = ℕ × List ℕ} (next_typed text) (characters_of text ≡ []) (λ s. characters_of text ≡ s.0 ∷ characters_of s.1)
unfolding characters_of
typed_next [] = refl
typed_next (b ∷ []) = refl
typed_next (b ∷ c ∷ text) = either_typed (nat_eq b 92) (escape_of c) b text (c ∷ text)

pub typed_none : (text : List ℕ) → None ≡ next_typed text → characters_of text ≡ []
typed_none text is = subst (λ o. MatchOption {T = ℕ × List ℕ} o (characters_of text ≡ []) (λ s. characters_of text ≡ s.0 ∷ characters_of s.1)) (sym is) (typed_next text)

pub typed_some : (text : List ℕ) (character : ℕ) (more : List ℕ) → Some (character, more) ≡ next_typed text → characters_of text ≡ character ∷ characters_of more
typed_some text character more is = subst (λ o. MatchOption {T = ℕ × List ℕ} o (characters_of text ≡ []) (λ s. characters_of text ≡ s.0 ∷ characters_of s.1)) (sym is) (typed_next text)

-- whether a character has a key, and what is untyped then
abbrev left_of : List ℕ → ℕ × List ℕ → Option (List ℕ)
left_of text next = cond (is_some (key_of next.0)) (untyped_rest next.1) (Some text)

either_untyped : (t : Bool) (x b : ℕ) (text more all : List ℕ) → MatchOption {T = ℕ × List ℕ} (cond t (Some (x, text)) (Some (b, more)))
    (cond t (cond (is_some (key_of x)) (untyped_rest text) (Some all)) (cond (is_some (key_of b)) (untyped_rest more) (Some all)) ≡ None)
    (λ s. cond t (cond (is_some (key_of x)) (untyped_rest text) (Some all)) (cond (is_some (key_of b)) (untyped_rest more) (Some all)) ≡ left_of all s)
either_untyped true x b text more all = refl
either_untyped false x b text more all = refl

untyped_next : (text : List ℕ) → MatchOption {T = ℕ × List ℕ} (next_typed text) (untyped_rest text ≡ None) (λ s. untyped_rest text ≡ left_of text s)
unfolding untyped_rest
untyped_next [] = refl
untyped_next (b ∷ []) = refl
untyped_next (b ∷ c ∷ text) = either_untyped (nat_eq b 92) (escape_of c) b text (c ∷ text) (b ∷ c ∷ text)

-- nothing is left to type
pub untyped_end : (text : List ℕ) → None ≡ next_typed text → untyped_rest text ≡ None
untyped_end text is = subst (λ o. MatchOption {T = ℕ × List ℕ} o (untyped_rest text ≡ None) (λ s. untyped_rest text ≡ left_of text s)) (sym is) (untyped_next text)

untyped_some : (text : List ℕ) (character : ℕ) (more : List ℕ) → Some (character, more) ≡ next_typed text → untyped_rest text ≡ left_of text (character, more)
untyped_some text character more is = subst (λ o. MatchOption {T = ℕ × List ℕ} o (untyped_rest text ≡ None) (λ s. untyped_rest text ≡ left_of text s)) (sym is) (untyped_next text)

-- a character with a key
pub untyped_passed : (text : List ℕ) (character : ℕ) (more : List ℕ) → Some (character, more) ≡ next_typed text → is_some (key_of character) ≡ true → untyped_rest more ≡ untyped_rest text
untyped_passed text character more is some = sym (untyped_some text character more is ∙ ap (λ t. cond t (untyped_rest more) (Some text)) some)

-- a character without a key
pub untyped_found : (text : List ℕ) (character : ℕ) (more : List ℕ) → Some (character, more) ≡ next_typed text → is_some (key_of character) ≡ false → untyped_rest text ≡ Some text
untyped_found text character more is none = untyped_some text character more is ∙ ap (λ t. cond t (untyped_rest more) (Some text)) none

either_shorter : (t : Bool) (x b c : ℕ) (text : List ℕ) → MatchOption {T = ℕ × List ℕ} (cond t (Some (x, text)) (Some (b, c ∷ text))) (Unit {0}) (λ s. length s.1 < length (b ∷ c ∷ text))
either_shorter true x b c text = omega arith
either_shorter false x b c text = omega arith

shorter_next : (text : List ℕ) → MatchOption {T = ℕ × List ℕ} (next_typed text) (Unit {0}) (λ s. length s.1 < length text)
shorter_next [] = tt
shorter_next (b ∷ []) = omega arith
shorter_next (b ∷ c ∷ text) = either_shorter (nat_eq b 92) (escape_of c) b c text

-- what stands after a character is shorter
pub typed_shorter : (text : List ℕ) (character : ℕ) (more : List ℕ) → Some (character, more) ≡ next_typed text → length more < length text
typed_shorter text character more is = subst (λ o. MatchOption {T = ℕ × List ℕ} o (Unit {0}) (λ s. length s.1 < length text)) (sym is) (shorter_next text)

-- ---- quotes

-- what stands before the first bare quote of a text, if its first character is another one
abbrev Further : List ℕ → ℕ × List ℕ → Type 0
Further text next = nat_eq (get_or text 0 0) 34 ≡ false → quote_at text + length next.1 ≡ length text + quote_at next.1

two_further : (q t : Bool) (x b c : ℕ) (text : List ℕ) → MatchOption {T = ℕ × List ℕ} (cond t (Some (x, text)) (Some (b, c ∷ text)))
    ((cond q 0 (cond t (2 + quote_at text) (1 + quote_at (c ∷ text))) ≡ 0) × (length (b ∷ c ∷ text) ≡ 0))
    (λ s. q ≡ false → cond q 0 (cond t (2 + quote_at text) (1 + quote_at (c ∷ text))) + length s.1 ≡ length (b ∷ c ∷ text) + quote_at s.1)
two_further true true x b c text = λ none. absurd (cc)
two_further true false x b c text = λ none. absurd (cc)
two_further false true x b c text = λ none. omega arith
two_further false false x b c text = λ none. omega arith

further_next : (text : List ℕ) → MatchOption {T = ℕ × List ℕ} (next_typed text) ((quote_at text ≡ 0) × (length text ≡ 0)) (Further text)
unfolding quote_at
further_next [] = (refl, refl)
further_next (b ∷ []) = λ other. ap (λ q. cond q 0 1 + 0) other
further_next (b ∷ c ∷ text) = two_further (nat_eq b 34) (nat_eq b 92) (escape_of c) b c text

-- no bare quote is left
pub quote_end : (text : List ℕ) → None ≡ next_typed text → (quote_at text ≡ 0) × (length text ≡ 0)
quote_end text is = subst (λ o. MatchOption {T = ℕ × List ℕ} o ((quote_at text ≡ 0) × (length text ≡ 0)) (Further text)) (sym is) (further_next text)

-- another character
pub quote_further : (text : List ℕ) (character : ℕ) (more : List ℕ) → Some (character, more) ≡ next_typed text
    → nat_eq (get_or text 0 0) 34 ≡ false → quote_at text + length more ≡ length text + quote_at more
quote_further text character more is = subst (λ o. MatchOption {T = ℕ × List ℕ} o ((quote_at text ≡ 0) × (length text ≡ 0)) (Further text)) (sym is) (further_next text)

-- a bare quote
pub quote_here : (text : List ℕ) → nat_eq (get_or text 0 0) 34 ≡ true → quote_at text ≡ 0
unfolding quote_at
quote_here [] is = refl
quote_here (b ∷ []) is = cond-true (nat_eq b 34) 0 1 is
quote_here (b ∷ c ∷ text) is = cond-true (nat_eq b 34) 0 (cond (nat_eq b 92) (2 + quote_at text) (1 + quote_at (c ∷ text))) is

-- ---- blanks

-- a byte that is no blank, from the end
pub blanks_stop : (text : List ℕ) (i : ℕ) (here : Bool) → suffix_len is_blank text ≡ i + prefix_len is_blank (drop i (reverse text)) → i < length text
    → here ≡ is_blank (get_or text (length text - 1 - i) 0) → here ≡ false → i ≡ suffix_len is_blank text
blanks_stop text i here is below byte other =
    let last : is_blank (get_or (reverse text) i 0) ≡ false = ap is_blank (get_or-reverse text i 0 below) ∙ sym byte ∙ other in
    let stop : prefix_len is_blank (drop i (reverse text)) ≡ 0 =
    at_drop_more (prefix_len is_blank) (reverse text) i 0 (omega (arith, length-reverse text, below)) ∙ ap (λ t. cond t (1 + prefix_len is_blank (drop (i + 1) (reverse text))) 0) last in
    omega (arith, is, stop)

-- a blank, from the end
pub blanks_go_on : (text : List ℕ) (i : ℕ) (here : Bool) → suffix_len is_blank text ≡ i + prefix_len is_blank (drop i (reverse text)) → i < length text
    → here ≡ is_blank (get_or text (length text - 1 - i) 0) → here ≡ true → suffix_len is_blank text ≡ (i + 1) + prefix_len is_blank (drop (i + 1) (reverse text))
blanks_go_on text i here is below byte blank =
    let last : is_blank (get_or (reverse text) i 0) ≡ true = ap is_blank (get_or-reverse text i 0 below) ∙ sym byte ∙ blank in
    let more : prefix_len is_blank (drop i (reverse text)) ≡ 1 + prefix_len is_blank (drop (i + 1) (reverse text)) =
    at_drop_more (prefix_len is_blank) (reverse text) i 0 (omega (arith, length-reverse text, below)) ∙ ap (λ t. cond t (1 + prefix_len is_blank (drop (i + 1) (reverse text))) 0) last in
    omega (arith, is, more)

-- all bytes are blanks
pub blanks_all : (text : List ℕ) (i : ℕ) → suffix_len is_blank text ≡ i + prefix_len is_blank (drop i (reverse text)) → length text ≤ i → i ≤ length text → length text ≡ suffix_len is_blank text
blanks_all text i is past within =
    let none : prefix_len is_blank (drop i (reverse text)) ≡ 0 = at_drop_all (prefix_len is_blank) (reverse text) i (omega (arith, length-reverse text, past)) in
    omega (arith, is, none)
