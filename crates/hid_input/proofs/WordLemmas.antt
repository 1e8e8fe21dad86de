-- Bytes of words, one word after the other.
use Rattle.std.proofs.Common.{◌≡◌, ℕ, Bool, true, false, ⊎_elim, ◌<◌, ◌≤◌, List, [], ◌∷◌, ◌++◌, length, take, drop, Option, None, Some, refl, sym, ap, ◌∙◌, arith}
use Rattle.std.specs.Prelude.{◌==◌, ◌&&◌, if◌then◌else◌}
use Rattle.std.proofs.lemmas.Bool.{cases_Bool}
use Rattle.std.proofs.lemmas.List.{append-nil, append_assoc}
use Rattle.hid_input.specs.Words.{both, all_bytes, single_byte, byte_of_pair, run_bytes, is_joint, after_joint}

pub both_assoc : (a b c : Option (List ℕ)) → both (both a b) c ≡ both a (both b c)
both_assoc None b c = refl
both_assoc (Some a) None c = refl
both_assoc (Some a) (Some b) None = refl
both_assoc (Some a) (Some b) (Some c) = ap Some (append_assoc a b c)

pub both_none : (a : Option (List ℕ)) → both a (Some []) ≡ a
both_none None = refl
both_none (Some a) = ap Some (append-nil a)

pub both_nothing : (more : Option (List ℕ)) → both (Some []) more ≡ more
both_nothing None = refl
both_nothing (Some more) = refl

-- one more word of all, which has bytes
pub word_added : (bytes_of : List ℕ → Option (List ℕ)) (words : List (List ℕ)) (word : List ℕ) (others : List (List ℕ)) (before after : List ℕ) (all : Option (List ℕ))
    → words ≡ word ∷ others → both (Some before) (bytes_of word) ≡ Some after → both (Some before) (all_bytes bytes_of words) ≡ all
    → both (Some after) (all_bytes bytes_of others) ≡ all
word_added bytes_of words word others before after all is added so_far =
    let rest = all_bytes bytes_of others in
    ap (λ (o : Option (List ℕ)). both o rest) (sym added)
    ∙ (both_assoc (Some before) (bytes_of word) rest
    ∙ (sym (ap (λ (ws : List (List ℕ)). both (Some before) (all_bytes bytes_of ws)) is) ∙ so_far))

-- one word that has none
pub word_refused : (bytes_of : List ℕ → Option (List ℕ)) (words : List (List ℕ)) (word : List ℕ) (others : List (List ℕ)) (before : List ℕ) (all : Option (List ℕ))
    → words ≡ word ∷ others → both (Some before) (bytes_of word) ≡ None → both (Some before) (all_bytes bytes_of words) ≡ all → all ≡ None
word_refused bytes_of words word others before all is refused so_far =
    let rest = all_bytes bytes_of others in
    sym so_far ∙ (ap (λ (ws : List (List ℕ)). both (Some before) (all_bytes bytes_of ws)) is
    ∙ (sym (both_assoc (Some before) (bytes_of word) rest) ∙ ap (λ (o : Option (List ℕ)). both o rest) refused))

-- no more words
pub words_end : (bytes_of : List ℕ → Option (List ℕ)) (words : List (List ℕ)) (before : List ℕ) (all : Option (List ℕ)) → words ≡ []
    → both (Some before) (all_bytes bytes_of words) ≡ all → all ≡ Some before
words_end bytes_of words before all none so_far =
    sym so_far ∙ (ap (λ (ws : List (List ℕ)). both (Some before) (all_bytes bytes_of ws)) none ∙ ap Some (append-nil before))

-- a run, pair by pair
pub run_step : (j : Bool) (run : List ℕ) → 2 ≤ length run → run_bytes j run ≡ both (single_byte (byte_of_pair (take 2 run))) (run_bytes j (after_joint j (drop 2 run)))
run_step j [] some = absurd (omega arith)
run_step j (digit ∷ []) some = absurd (omega arith)
run_step j (high ∷ low ∷ []) some = sym (both_none (single_byte (byte_of_pair (high ∷ low ∷ []))))
run_step j (high ∷ low ∷ joint ∷ more) some = ⊎_elim
    (λ (is : (j && is_joint joint) ≡ true). rw is refl)
    (λ (no : (j && is_joint joint) ≡ false). rw no refl) (cases_Bool (j && is_joint joint))

pub pair_added : (j : Bool) (run : List ℕ) (byte : ℕ) (before : List ℕ) (all : Option (List ℕ)) → 2 ≤ length run → byte_of_pair (take 2 run) ≡ Some byte
    → both (Some before) (run_bytes j run) ≡ all → both (Some (before ++ byte ∷ [])) (run_bytes j (after_joint j (drop 2 run))) ≡ all
pair_added j run byte before all some is so_far =
    let rest = run_bytes j (after_joint j (drop 2 run)) in
    both_assoc (Some before) (Some (byte ∷ [])) rest
    ∙ (ap (λ (o : Option ℕ). both (Some before) (both (single_byte o) rest)) (sym is)
    ∙ (ap (both (Some before)) (sym (run_step j run some)) ∙ so_far))

pub pair_refused : (j : Bool) (run : List ℕ) (before : List ℕ) (all : Option (List ℕ)) → 2 ≤ length run → byte_of_pair (take 2 run) ≡ None
    → both (Some before) (run_bytes j run) ≡ all → all ≡ None
pair_refused j run before all some is so_far =
    sym so_far ∙ (ap (both (Some before)) (run_step j run some) ∙ ap (λ (o : Option ℕ). both (Some before) (both (single_byte o) (run_bytes j (after_joint j (drop 2 run))))) is)

pub run_end : (j : Bool) (run : List ℕ) (before : List ℕ) (all : Option (List ℕ)) → length run < 2
    → both (Some before) (run_bytes j run) ≡ all → all ≡ (if length run == 0 then Some before else None)
run_end j [] before all few so_far = sym so_far ∙ ap Some (append-nil before)
run_end j (digit ∷ []) before all few so_far = sym so_far
run_end j (high ∷ low ∷ more) before all few so_far = absurd (omega arith)
