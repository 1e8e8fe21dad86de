-- Pairs of hex digits between white space, counted one after the other.
use Rattle.std.proofs.Common.{◌≡◌, ℕ, ◌+◌, ◌<◌, ◌≤◌, true, false, List, [], ◌∷◌, length, take, drop, refl, arith, ⊎_elim}
use Rattle.std.specs.Prelude.{is_some}
use Rattle.std.proofs.lemmas.Bool.{cases_Bool}
use Rattle.std.specs.Char.{is_ascii_whitespace}
use Rattle.hid_input.specs.Text.{without_space}
use Rattle.hid_input.specs.Words.{byte_of_pair}
use Rattle.hid_input.specs.Recorded.{pairs_before}
use Rattle.hid_input.proofs.SpaceLemmas.{space_first, other_first, first_is_other}

pub pairs_behind_space : (text : List ℕ) → pairs_before (without_space text) ≡ pairs_before text
pairs_behind_space [] = refl
pairs_behind_space (high ∷ []) = ⊎_elim
    (λ (is : is_ascii_whitespace high ≡ true). rw (space_first high [] is) refl)
    (λ (no : is_ascii_whitespace high ≡ false). rw (other_first high [] no) refl) (cases_Bool (is_ascii_whitespace high))
pairs_behind_space (high ∷ low ∷ text) = ⊎_elim
    (λ (is : is_ascii_whitespace high ≡ true). rw (space_first high (low ∷ text) is) (rw is (pairs_behind_space (low ∷ text))))
    (λ (no : is_ascii_whitespace high ≡ false). rw (other_first high (low ∷ text) no) refl) (cases_Bool (is_ascii_whitespace high))

-- one more pair, or none
pub pair_more : (text : List ℕ) → 2 ≤ length text → without_space text ≡ text
    → (is_some (byte_of_pair (take 2 text)) ≡ true → pairs_before text ≡ pairs_before (drop 2 text) + 1)
    × (is_some (byte_of_pair (take 2 text)) ≡ false → pairs_before text ≡ 0)
pair_more [] some begins = absurd (omega arith)
pair_more (high ∷ []) some begins = absurd (omega arith)
pair_more (high ∷ low ∷ text) some begins =
    let no = first_is_other high (low ∷ text) begins in
    ((λ is. rw no (rw is refl)), (λ is. rw no (rw is refl)))

pub no_pair : (text : List ℕ) → length text < 2 → pairs_before text ≡ 0
no_pair [] few = refl
no_pair (high ∷ []) few = refl
no_pair (high ∷ low ∷ text) few = absurd (omega arith)
