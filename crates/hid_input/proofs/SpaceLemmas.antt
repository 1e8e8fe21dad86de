-- White space in front of a text, and pairs of characters behind it.
use Rattle.std.proofs.Common.{◌≡◌, ℕ, ◌≤◌, true, false, List, [], ◌∷◌, length, drop, refl, sym, ap, ◌∙◌, arith, ⊎_elim}
use Rattle.std.proofs.lemmas.Bool.{cases_Bool}
use Rattle.std.proofs.lemmas.List.{length-drop}
use Rattle.std.proofs.Math.Numerals.{one-add}
use Rattle.std.specs.List.{prefix_len}
use Rattle.std.specs.Char.{is_ascii_whitespace}
use Rattle.hid_input.specs.Text.{without_space}

pub space_first : (first : ℕ) (text : List ℕ) → is_ascii_whitespace first ≡ true → without_space (first ∷ text) ≡ without_space text
space_first first text is = rw is (ap (λ k. drop k (first ∷ text)) (one-add (prefix_len is_ascii_whitespace text)))

pub other_first : (first : ℕ) (text : List ℕ) → is_ascii_whitespace first ≡ false → without_space (first ∷ text) ≡ first ∷ text
other_first first text is = rw is refl

-- what is left of a text isn't longer
pub length-without_space : (text : List ℕ) → length (without_space text) ≤ length text
length-without_space text = omega (arith, length-drop (prefix_len is_ascii_whitespace text) text)

-- no white space is left in front
pub space_again : (text : List ℕ) → without_space (without_space text) ≡ without_space text
space_again [] = refl
space_again (first ∷ text) = ⊎_elim
    (λ (is : is_ascii_whitespace first ≡ true). rw (space_first first text is) (space_again text))
    (λ (no : is_ascii_whitespace first ≡ false). rw (other_first first text no) (other_first first text no)) (cases_Bool (is_ascii_whitespace first))

-- a text that begins with no white space
pub first_is_other : (first : ℕ) (text : List ℕ) → without_space (first ∷ text) ≡ first ∷ text → is_ascii_whitespace first ≡ false
first_is_other first text same = ⊎_elim
    (λ (is : is_ascii_whitespace first ≡ true). absurd (omega (arith, ap length (sym (space_first first text is) ∙ same), length-without_space text)))
    (λ (no : is_ascii_whitespace first ≡ false). no) (cases_Bool (is_ascii_whitespace first))
