-- The first word of a text, and the words after it.
use Rattle.std.proofs.Common.{◌≡◌, ℕ, ◌-◌, ◌<◌, ◌≤◌, Bool, true, false, List, [], ◌∷◌, length, take, drop, nat_lt, refl, sym, ap, subst, ◌∙◌, arith, not, nat_eq, cond, None, Some, get_or, ⊎_elim}
use Rattle.std.proofs.lemmas.Bool.{cases_Bool, cases_lt, cond-true, lt-ltb, ltb-true, ne_eqb, true≢false}
use Rattle.std.proofs.lemmas.Option.{cond_some}
use Rattle.std.proofs.lemmas.List.{length-take-le, length-drop, get_or-drop, take_all}
use Rattle.std.proofs.lemmas.List.Sums.{passes_at_first, prefix_len-le-length}
use Rattle.std.proofs.Math.ListN.{drop_of_length-le}
use Rattle.std.proofs.Math.Numerals.{one-add}
use Rattle.std.proofs.Math.Nat.{add-zero}
use Rattle.std.specs.Prelude.{filter, position}
use Rattle.std.specs.Option.{unwrap_or}
use Rattle.std.specs.List.{slice_split, onto_first, position_or_len}
use Rattle.hid_input.proofs.SplitLemmas.{part_end}
use Rattle.hid_input.specs.declared.words.Parting.{Parting}
use Rattle.hid_input.specs.Words.{is_separator, is_no_separator, words_of}

-- blanks before the first word are none of it
behind_separators : (r : Parting) → (text : List ℕ) → words_of r text ≡ words_of r (drop (position_or_len (is_no_separator r) text) text)
behind_separators r [] = refl
behind_separators r (b ∷ text) = ⊎_elim
    (λ (blank : is_separator r b ≡ true). rw blank (behind_separators r text ∙ ap (λ k. words_of r (drop k (b ∷ text))) (sym (one-add (position_or_len (is_no_separator r) text)))))
    (λ (byte : is_separator r b ≡ false). rw byte (rw byte refl)) (cases_Bool (is_separator r b))

-- the part up to the first blank, and the words after that
pub first_part : (r : Parting) → (text : List ℕ) → (parts : List (List ℕ)) × (slice_split (is_separator r) text ≡ take (position_or_len (is_separator r) text) text ∷ parts)
    × (filter (λ word. not (nat_eq (length word) 0)) parts ≡ words_of r (drop (position_or_len (is_separator r) text) text))
first_part r [] = ([], refl, refl)
first_part r (b ∷ text) = ⊎_elim
    (λ (blank : is_separator r b ≡ true). rw blank (slice_split (is_separator r) text, refl, rw blank refl))
    (λ (byte : is_separator r b ≡ false).
    let rest = first_part r text in
    let more = sym (one-add (position_or_len (is_separator r) text)) in
    rw byte (
      rest.0,
      subst (λ k. onto_first b (slice_split (is_separator r) text) ≡ take k (b ∷ text) ∷ rest.0) more (ap (onto_first b) rest.1),
      subst (λ k. filter (λ word. not (nat_eq (length word) 0)) rest.0 ≡ words_of r (drop k (b ∷ text))) more rest.2,
    )) (cases_Bool (is_separator r b))

none_passes : (b : Bool) (n : ℕ) → cond b (Some n) None ≡ None → b ≡ false
none_passes true n e = cc
none_passes false n e = refl

-- a text of blanks has no word
pub no_word : (r : Parting) → (text : List ℕ) → position (is_no_separator r) text ≡ None → words_of r text ≡ []
no_word r text none =
    let n = position_or_len (is_no_separator r) text in
    let all : length text ≤ n = ⊎_elim (λ (below : n < length text). absurd (true≢false (sym (lt-ltb n (length text) below) ∙ none_passes _ n none))) (λ h. h) (cases_lt n (length text)) in
    behind_separators r text ∙ ap (λ rest. words_of r rest) (drop_of_length-le text all)

-- a first byte that is no blank begins a word
some_part : (r : Parting) → (text : List ℕ) → 0 < length text → (is_no_separator r) (get_or text 0 0) ≡ true → 0 < position_or_len (is_separator r) text
some_part r [] some byte = absurd (omega arith)
some_part r (b ∷ text) some byte = ⊎_elim
    (λ (blank : is_separator r b ≡ true). cc)
    (λ (no : is_separator r b ≡ false). rw no (omega arith)) (cases_Bool (is_separator r b))

pub some_byte : (word : List ℕ) → 0 < length word → not (nat_eq (length word) 0) ≡ true
some_byte [] some = absurd (omega arith)
some_byte (b ∷ word) some = rw (ne_eqb (length (b ∷ word)) 0 (λ e. omega (arith, some, e))) refl

-- the first word, where a text has one, and the words after it
pub one_word : (r : Parting) → (text rest : List ℕ) (start : ℕ) → position (is_no_separator r) text ≡ Some start → rest ≡ drop start text
    → (words_of r text ≡ take (position_or_len (is_separator r) rest) rest ∷ words_of r (drop (position_or_len (is_separator r) rest) rest)) × (0 < position_or_len (is_separator r) rest)
one_word r text rest start found is =
    let n = position_or_len (is_no_separator r) text in
    let at = cond_some (nat_lt n (length text)) n start found in
    let below : n < length text = ltb-true n (length text) at.0 in
    let byte : (is_no_separator r) (get_or (drop n text) 0 0) ≡ true = rw (get_or-drop n text 0 0, add-zero n) (passes_at_first (is_no_separator r) text 0 below) in
    let same : rest ≡ drop n text = is ∙ ap (λ k. drop k text) (sym at.1) in
    let some : 0 < position_or_len (is_separator r) rest = subst (λ q. 0 < position_or_len (is_separator r) q) (sym same) (some_part r (drop n text) (omega (arith, length-drop n text)) byte) in
    let part = first_part r rest in
    let long : 0 < length (take (position_or_len (is_separator r) rest) rest) = omega (arith, length-take-le (position_or_len (is_separator r) rest) rest (prefix_len-le-length _ rest), some) in (
      behind_separators r text ∙ ap (λ q. words_of r q) (sym same) ∙ ap (λ parts. filter (λ word. not (nat_eq (length word) 0)) parts) part.1
          ∙ cond-true (not (nat_eq (length (take (position_or_len (is_separator r) rest) rest)) 0)) _ _ (some_byte _ long)
          ∙ ap (λ words. take (position_or_len (is_separator r) rest) rest ∷ words) part.2,
      some,
    )

-- a word that is found by the place of its first byte and by the blank after it
pub found_word : (r : Parting) → (text part : List ℕ) (start end : ℕ) → position (is_no_separator r) text ≡ Some start → part ≡ take (length text - start) (drop start text)
    → end ≡ unwrap_or (position (is_separator r) part) (length part)
    → (words_of r text ≡ take end part ∷ words_of r (take (length part - end) (drop end part))) × (0 < length (take end part))
found_word r text part start end found is ends =
    let rest : part ≡ drop start text = is ∙ take_all (length text - start) (drop start text) (omega (arith, length-drop start text)) in
    let more : take (length part - end) (drop end part) ≡ drop end part = take_all (length part - end) (drop end part) (omega (arith, length-drop end part)) in
    let at : end ≡ position_or_len (is_separator r) part = part_end (is_separator r) part end ends in
    let word = one_word r text part start found rest in
    (rw (more, at) word.0, omega (arith, at, word.1, length-take-le end part (omega (arith, at, prefix_len-le-length (λ b. not (is_separator r b)) part))))
