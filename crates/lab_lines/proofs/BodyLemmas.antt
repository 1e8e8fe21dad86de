-- The text that is to come of a body, round by round.
use Rattle.std.proofs.Common.{◌≡◌, ℕ, zero, suc, ◌+◌, ◌-◌, ◌<◌, ◌≤◌, Bool, true, false, List, [], ◌∷◌, ◌++◌, length, drop, take, refl, sym, ap, ◌∙◌, subst, arith, append-nil, append_assoc, length-append, drop_of_length-le, slice_range}
use Rattle.std.proofs.lemmas.List.{drop-drop, take-append-drop}
use Rattle.lab_lines.specs.Copies.{copies}

-- after the last byte of a round the next one comes
pub next_round : (at left : ℕ) (text : List ℕ) → length text ≤ at → 1 < left
    → drop 0 text ++ copies ((left - 1) - 1) text ≡ drop at text ++ copies (left - 1) text
unfolding copies
next_round at left text whole more =
    let one : left - 1 ≡ suc ((left - 1) - 1) = omega (arith, more) in
    sym (ap (λ l. l ++ copies (left - 1) text) (drop_of_length-le text whole) ∙ ap (λ n. copies n text) one)

no_copies : (n : ℕ) (text : List ℕ) → text ≡ [] → copies n text ≡ []
unfolding copies
no_copies zero text none = refl
no_copies (suc n) text none = ap (λ l. l ++ copies n text) none ∙ no_copies n text none

-- no text is to come after the last round
pub no_round : (at left : ℕ) (text : List ℕ) → length text ≤ at → left ≤ 1 → drop at text ++ copies (left - 1) text ≡ []
unfolding copies
no_round at left text whole last =
    let none : left - 1 ≡ 0 = omega (arith, last) in
    ap (λ l. l ++ copies (left - 1) text) (drop_of_length-le text whole) ∙ ap (λ n. copies n text) none

-- no text is to come of a body without lines
pub no_text : (at left : ℕ) (text : List ℕ) → length text ≤ at → text ≡ [] → drop at text ++ copies (left - 1) text ≡ []
no_text at left text whole none = ap (λ l. l ++ copies (left - 1) text) (drop_of_length-le text whole) ∙ no_copies (left - 1) text none

pub none_of : (xs : List ℕ) → length xs ≡ 0 → xs ≡ []
none_of [] none = refl
none_of (x ∷ xs) none = absurd (omega (arith, none))

-- more of the text was given
pub gives_more : (before mid after given part old now new : List ℕ) → before ≡ given ++ mid → mid ≡ part ++ after → now ≡ old ++ given → new ≡ now ++ part
    → (before ≡ (given ++ part) ++ after) × (new ≡ old ++ (given ++ part))
gives_more before mid after given part old now new b m n w =
    (b ∙ ap (λ l. given ++ l) m ∙ sym (append_assoc given part after), w ∙ ap (λ l. l ++ part) n ∙ append_assoc old given part)

-- a part of a round
pub part_of : (at end : ℕ) (text others : List ℕ) → at ≤ end → end ≤ length text → drop at text ++ others ≡ slice_range text at end ++ (drop end text ++ others)
part_of at end text others order within =
    ap (λ l. l ++ others) (sym (take_drop_range at end text order)) ∙ append_assoc (slice_range text at end) (drop end text) others
  where
    take_drop_range : (a b : ℕ) (xs : List ℕ) → a ≤ b → slice_range xs a b ++ drop b xs ≡ drop a xs
    take_drop_range a b xs h =
        let same : a + (b - a) ≡ b = omega (arith, h) in
        ap (λ l. slice_range xs a b ++ l) (sym (drop-drop (b - a) a xs ∙ ap (λ n. drop n xs) same)) ∙ take-append-drop (b - a) (drop a xs)

-- a text so often, in two parts
pub copies_sum : (a b : ℕ) (text : List ℕ) → copies (a + b) text ≡ copies a text ++ copies b text
unfolding copies
copies_sum zero b text = let e : 0 + b ≡ b = omega arith in ap (λ n. copies n text) e
copies_sum (suc a) b text =
    let e : suc a + b ≡ suc (a + b) = omega arith in
    ap (λ n. copies n text) e ∙ ap (λ l. text ++ l) (copies_sum a b text) ∙ sym (append_assoc text (copies a text) (copies b text))

-- a text once
pub copies_once : (text : List ℕ) → text ≡ copies 1 text
unfolding copies
copies_once text = sym (append-nil text)

-- whole rounds come first, where several are to come
pub rounds_first : (left rounds : ℕ) (text : List ℕ) → rounds < left
    → drop 0 text ++ copies (left - 1) text ≡ copies rounds text ++ (drop 0 text ++ copies ((left - rounds) - 1) text)
unfolding copies
rounds_first left rounds text less =
    let e : suc (left - 1) ≡ rounds + suc ((left - rounds) - 1) = omega (arith, less) in
    ap (λ n. copies n text) e ∙ copies_sum rounds (suc ((left - rounds) - 1)) text

-- a text with a byte, once at least, isn't empty
pub copies_some : (n : ℕ) (text : List ℕ) → 0 < n → 0 < length text → copies n text ≡ [] → ⊥
unfolding copies
copies_some zero text some bytes none = absurd (omega (arith, some))
copies_some (suc n) text some bytes none = absurd (omega (arith, bytes, length-append text (copies n text), ap length none))
