-- The parts of a text, by the place of what ends the first one.
use Rattle.std.proofs.Common.{◌≡◌, ℕ, ◌+◌, ◌-◌, ◌<◌, ◌≤◌, Bool, true, false, List, [], ◌∷◌, length, take, drop, nat_lt, refl, sym, ap, subst, ◌∙◌, arith, Option, None, Some, ⊎_elim}
use Rattle.std.proofs.lemmas.Bool.{cases_Bool, cases_lt, cond-true, cond-false, lt-ltb, le-ltb, ltb-true, true≢false}
use Rattle.std.proofs.lemmas.Option.{cond_some}
use Rattle.std.proofs.lemmas.List.{take_all, length-drop}
use Rattle.std.proofs.lemmas.List.Sums.{prefix_len-le-length}
use Rattle.std.proofs.lemmas.List.Splits.{slice_split_first}
use Rattle.std.specs.Prelude.{position, not, cond}
use Rattle.std.specs.Option.{unwrap_or}
use Rattle.std.specs.List.{slice_split, onto_first, position_or_len}

-- the first part ends at the first element that passes
pub split_first : (p : ℕ → Bool) (text : List ℕ) (place : ℕ) → position p text ≡ Some place
    → slice_split p text ≡ take place text ∷ slice_split p (drop (place + 1) text)
split_first p text place found =
    let n = position_or_len p text in
    let at = cond_some (nat_lt n (length text)) n place found in
    let below : n < length text = ltb-true n (length text) at.0 in
    subst (λ k. slice_split p text ≡ take k text ∷ slice_split p (drop (k + 1) text)) at.1 (slice_split_first p text 0 below)

none_passes : (b : Bool) (n : ℕ) → cond b (Some n) None ≡ None → b ≡ false
none_passes true n e = cc
none_passes false n e = refl

pub all_before : (p : ℕ → Bool) (text : List ℕ) → position p text ≡ None → length text ≤ position_or_len p text
all_before p text none =
    let n = position_or_len p text in
    ⊎_elim (λ (below : n < length text). absurd (true≢false (sym (lt-ltb n (length text) below) ∙ none_passes _ n none))) (λ h. h) (cases_lt n (length text))

split_all : (p : ℕ → Bool) (text : List ℕ) → length text ≤ position_or_len p text → slice_split p text ≡ text ∷ []
split_all p [] all = refl
split_all p (b ∷ text) all = ⊎_elim
    (λ (passes : p b ≡ true). absurd (let h : length (b ∷ text) ≤ 0 = rw passes at all in omega arith))
    (λ (no : p b ≡ false). rw no (ap (onto_first b) (split_all p text (let h : length (b ∷ text) ≤ 1 + position_or_len p text = rw no at all in omega arith)))) (cases_Bool (p b))

-- where no element passes, the text is its one part
pub split_none : (p : ℕ → Bool) (text : List ℕ) → position p text ≡ None → slice_split p text ≡ text ∷ []
split_none p text none = split_all p text (all_before p text none)

-- where a part ends
pub part_end : (p : ℕ → Bool) (text : List ℕ) (end : ℕ) → end ≡ unwrap_or (position p text) (length text) → end ≡ position_or_len p text
part_end p text end is =
    let n = position_or_len p text in
    ⊎_elim (λ (below : n < length text). is ∙ ap (λ o. unwrap_or o (length text)) (cond-true (nat_lt n (length text)) (Some n) None (lt-ltb n (length text) below)))
    (λ (all : length text ≤ n). is ∙ ap (λ o. unwrap_or o (length text)) (cond-false (nat_lt n (length text)) (Some n) None (le-ltb n (length text) all)) ∙ (omega (arith, all, prefix_len-le-length (λ b. not (p b)) text)))
    (cases_lt n (length text))

-- the rest of a text from a place on
pub rest_from : (text : List ℕ) (i : ℕ) → take (length text - i) (drop i text) ≡ drop i text
rest_from text i = take_all (length text - i) (drop i text) (omega (arith, length-drop i text))

-- how long a text is, with one more if there is one
abbrev pub length_of : Option (List ℕ) → ℕ
length_of None = 0
length_of (Some text) = length text + 1
