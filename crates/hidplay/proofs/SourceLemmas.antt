-- Lines that say nothing.
use Rattle.std.proofs.Common.{◌≡◌, refl, ℕ, suc, true, List, [], ◌∷◌, ◌++◌, length, drop, Option, None, Some, is_some, MatchOption, All, ap, sym, subst, ◌∙◌, append_assoc, ⊎_elim, tests, arith}
use Rattle.std.specs.Io.KnownBytes.{Consumes}
use Rattle.std.specs.List.{flat_map}
use Rattle.std.proofs.lemmas.Grind.{flat_map-append}
use Rattle.std.proofs.lemmas.Bool.{eqb-false}
use Rattle.std.proofs.lemmas.List.{drop_at}
use Rattle.std.proofs.lemmas.List.Elements.{All-append}
use Rattle.hid_text.specs.Lines.{IsUnbroken}
use Rattle.hidplay.specs.Source.{IsSilent, with_end, IsAfterPassed, SaysSomething}

-- one line more
pub one_more : (text : List ℕ) (passed : List (List ℕ)) (rest line behind : List ℕ) → text ≡ flat_map with_end passed ++ rest → rest ≡ line ++ 10 ∷ behind
    → text ≡ flat_map with_end (passed ++ line ∷ []) ++ behind
one_more text passed rest line behind is parts =
    let done = flat_map with_end passed in
    let last : flat_map with_end (line ∷ []) ++ behind ≡ line ++ 10 ∷ behind = append_assoc (with_end line) [] behind ∙ append_assoc line (10 ∷ []) behind in
    is ∙ ap (λ l. done ++ l) (parts ∙ sym last) ∙ sym (append_assoc done (flat_map with_end (line ∷ [])) behind)
    ∙ ap (λ l. l ++ behind) (sym (flat_map-append with_end passed (line ∷ [])))

-- what stands after lines that say nothing, and after more of them
pub further : (text : List ℕ) (passed : List (List ℕ)) (rest behind : List ℕ) → All IsSilent passed → text ≡ flat_map with_end passed ++ rest
    → IsAfterPassed rest behind → IsAfterPassed text behind
further text passed rest behind silent is more = (
  passed ++ more.0,
  All-append IsSilent passed more.0 silent more.1,
  is ∙ ap (λ l. flat_map with_end passed ++ l) more.2 ∙ sym (append_assoc (flat_map with_end passed) (flat_map with_end more.0) behind)
      ∙ ap (λ l. l ++ behind) (sym (flat_map-append with_end passed more.0)),
  more.3,
)

-- what stands after all lines that say nothing, of a text of which some are known
pub behind_all : (text : List ℕ) (passed : List (List ℕ)) (rest behind : List ℕ) (start : ℕ) → All IsSilent passed → text ≡ flat_map with_end passed ++ rest
    → length (flat_map with_end passed) ≡ start → IsAfterPassed (drop start text) behind → IsAfterPassed text behind
behind_all text passed rest behind start silent is long more =
    further text passed rest behind silent is
    (subst (λ l. IsAfterPassed l behind) (ap (drop start) is ∙ drop_at (flat_map with_end passed) rest start long) more)

-- a line ends in what has a line feed
broken : (line after : List ℕ) → IsUnbroken (line ++ 10 ∷ after) → ⊥
broken [] after u = eqb-false 10 10 (u 0 0 (omega arith)) refl
broken (b ∷ line) after u = broken line after (λ k d less. u (suc k) d (omega arith))

-- where a line ends after the lines that say nothing, it says something
pub says : {X : Type 0} (text behind : List ℕ) (found : Option X) (line after : X → List ℕ) → is_some found ≡ true
    → MatchOption found (IsUnbroken behind) (λ parts. IsUnbroken (line parts) × (behind ≡ line parts ++ 10 ∷ after parts)) → IsAfterPassed text behind → SaysSomething text
says text behind None line after some parts all = search tests
says text behind (Some x) line after some parts all =
    (all.0, behind, all.1, all.2, ⊎_elim (λ unbroken. absurd (broken (line x) (after x) (subst IsUnbroken parts.1 unbroken))) (λ begins. begins) all.3)

-- one read more
pub read_again : (left next later : Option (List ℕ)) (first second : List ℕ) → Consumes left next first → Consumes next later second
    → Consumes left later (first ++ second)
read_again None next later first second k m = tt
read_again (Some xs) None later first second k m = absurd k
read_again (Some xs) (Some ys) None first second k m = absurd m
read_again (Some xs) (Some ys) (Some zs) first second k m = k ∙ ap (λ l. first ++ l) m ∙ sym (append_assoc first second zs)
