-- Words that spell names, byte by byte, and the places where a text stands.
use Rattle.std.proofs.Common.{◌≡◌, ◌≢◌, ℕ, ◌+◌, ◌-◌, ◌<◌, ◌≤◌, suc, Bool, true, false, ◌&&◌, List, [], ◌∷◌, ◌++◌, length, map, take, drop, get_or, Option, None, Some, cond, nat_eq, nat_lt, refl, sym, ap, ◌∙◌, arith, min, ◌^◌, ⊎_elim}
use Rattle.std.proofs.lemmas.List.{at_drop_more, at_drop_all, length-append, length-take}
use Rattle.std.proofs.lemmas.Bool.{cases_Bool, ne_eqb, eq-eqb, eqb-true}
use Rattle.std.proofs.lemmas.Grind.{common_steps}
use Rattle.std.specs.List.{starts_with}
use Rattle.std.specs.Option.{option_map}
use Rattle.lab_lines.specs.Names.{fold, spells, place_of, are_number}

and_false : (b : Bool) → (b && false) ≡ false
and_false true = refl
and_false false = refl

and_assoc : (a b c : Bool) → ((a && b) && c) ≡ (a && (b && c))
and_assoc true b c = refl
and_assoc false b c = refl

-- texts of two lengths are spelled differently
pub spells_lengths : (name word : List ℕ) → length name ≢ length word → spells name word ≡ false
unfolding spells
spells_lengths [] [] other = absurd (other refl)
spells_lengths [] (w ∷ word) other = refl
spells_lengths (b ∷ name) [] other = refl
spells_lengths (b ∷ name) (w ∷ word) other = ap (λ r. nat_eq (fold b) (fold w) && r) (spells_lengths name word (λ e. other (omega arith))) ∙ and_false (nat_eq (fold b) (fold w))

one_step : (b w : ℕ) (name word : List ℕ) → spells (b ∷ name) (w ∷ word) ≡ (nat_eq (fold b) (fold w) && spells name word)
unfolding spells
one_step b w name word = refl

pub nothing_spelled : spells [] [] ≡ true
unfolding spells
nothing_spelled = refl

-- one byte of a name and of a word
pub spells_step : (name word : List ℕ) (i : ℕ) → i < length name → length name ≡ length word
    → spells (drop i name) (drop i word) ≡ (nat_eq (fold (get_or name i 0)) (fold (get_or word i 0)) && spells (drop (i + 1) name) (drop (i + 1) word))
spells_step name word i below same =
    at_drop_more (λ n. spells n (drop i word)) name i 0 below
    ∙ at_drop_more (λ w. spells (get_or name i 0 ∷ drop (i + 1) name) w) word i 0 (omega arith)
    ∙ one_step (get_or name i 0) (get_or word i 0) (drop (i + 1) name) (drop (i + 1) word)

pub spells_end : (name word : List ℕ) (i : ℕ) → length name ≤ i → length name ≡ length word → spells (drop i name) (drop i word) ≡ true
spells_end name word i all same =
    at_drop_all (λ n. spells n (drop i word)) name i all ∙ at_drop_all (λ w. spells [] w) word i (omega arith) ∙ nothing_spelled

-- a word spells two texts, one after the other
pub spells_both : (first second word : List ℕ) → spells (first ++ second) word ≡ (spells first (take (length first) word) && spells second (drop (length first) word))
unfolding spells
spells_both [] second word = refl
spells_both (b ∷ first) second [] = refl
spells_both (b ∷ first) second (w ∷ word) = ap (λ r. nat_eq (fold b) (fold w) && r) (spells_both first second word) ∙ sym (and_assoc (nat_eq (fold b) (fold w)) _ _)

differs : (a b : ℕ) (r : Bool) → a ≢ b → (nat_eq a b && r) ≡ false
differs a b r other = ap (λ t. t && r) (ne_eqb a b other)

agrees : (a b : ℕ) (r : Bool) → a ≡ b → (nat_eq a b && r) ≡ r
agrees a b r same = ap (λ t. t && r) (eq-eqb a b same)

-- a byte that differs
pub spells_other : (name word : List ℕ) (i : ℕ) (all : Bool) (a b : ℕ) → spells (drop i name) (drop i word) ≡ all → i < length name → length name ≡ length word
    → a ≡ fold (get_or name i 0) → b ≡ fold (get_or word i 0) → a ≢ b → false ≡ all
spells_other name word i all a b is below same first second other =
    sym (sym is ∙ spells_step name word i below same ∙ differs _ _ _ (λ e. other (first ∙ e ∙ sym second)))

-- a byte that is the same
pub spells_more : (name word : List ℕ) (i : ℕ) (all : Bool) (a b : ℕ) → spells (drop i name) (drop i word) ≡ all → i < length name → length name ≡ length word
    → a ≡ fold (get_or name i 0) → b ≡ fold (get_or word i 0) → a ≡ b → spells (drop (i + 1) name) (drop (i + 1) word) ≡ all
spells_more name word i all a b is below same first second e =
    sym (agrees _ _ _ (sym first ∙ e ∙ second)) ∙ sym (spells_step name word i below same) ∙ is

-- a word that is shorter than its front
pub spells_short : (first second word : List ℕ) → length word < length first → spells (first ++ second) word ≡ false
spells_short first second word short = spells_lengths (first ++ second) word (λ e. omega (arith, length-append first second, e, short))

pub front_short : (front word : List ℕ) → length word < length front → spells front (take (length front) word) ≡ false
front_short front word short = spells_lengths front (take (length front) word) (λ e. omega (arith, length-take (length front) word, e, short))

pub both_first : (first second word : List ℕ) (a b : Bool) → a ≡ spells first (take (length first) word) → a ≡ true → b ≡ spells second (drop (length first) word)
    → b ≡ spells (first ++ second) word
both_first first second word a b one is two = two ∙ sym (spells_both first second word ∙ ap (λ t. t && spells second (drop (length first) word)) (sym one ∙ is))

pub both_none : (first second word : List ℕ) (a : Bool) → a ≡ spells first (take (length first) word) → a ≡ false → a ≡ spells (first ++ second) word
both_none first second word a one is = is ∙ sym (spells_both first second word ∙ ap (λ t. t && spells second (drop (length first) word)) (sym one ∙ is))

-- ---- places

place_one : (text : List ℕ) (b : ℕ) (name : List ℕ) → place_of text (b ∷ name) ≡ cond (starts_with nat_eq (b ∷ name) text) (Some 0) (option_map suc (place_of text name))
unfolding place_of
place_one text b name = refl

place_none : (text : List ℕ) → place_of text [] ≡ None
unfolding place_of
place_none text = refl

moved : (i : ℕ) (o : Option ℕ) → option_map (λ k. i + k) (option_map suc o) ≡ option_map (λ k. (i + 1) + k) o
moved i None = refl
moved i (Some k) = ap Some (omega arith)

-- a text doesn't stand at a place
pub place_passed : (text name : List ℕ) (i : ℕ) (is : Option ℕ) → is ≡ option_map (λ k. i + k) (place_of text (drop i name)) → i < length name
    → starts_with nat_eq (drop i name) text ≡ false → is ≡ option_map (λ k. (i + 1) + k) (place_of text (drop (i + 1) name))
place_passed text name i is at below other =
    let here = at_drop_more (λ n. starts_with nat_eq n text) name i 0 below in
    at ∙ ap (λ o. option_map (λ k. i + k) o)
    (at_drop_more (place_of text) name i 0 below ∙ place_one text (get_or name i 0) (drop (i + 1) name)
    ∙ ap (λ t. cond t (Some 0) (option_map suc (place_of text (drop (i + 1) name)))) (sym here ∙ other))
    ∙ moved i (place_of text (drop (i + 1) name))

-- a text stands at a place
pub place_found : (text name : List ℕ) (i : ℕ) (is : Option ℕ) → is ≡ option_map (λ k. i + k) (place_of text (drop i name)) → i < length name
    → starts_with nat_eq (drop i name) text ≡ true → Some i ≡ is
place_found text name i is at below found =
    let here = at_drop_more (λ n. starts_with nat_eq n text) name i 0 below in
    sym (at ∙ ap (λ o. option_map (λ k. i + k) o)
    (at_drop_more (place_of text) name i 0 below ∙ place_one text (get_or name i 0) (drop (i + 1) name)
    ∙ ap (λ t. cond t (Some 0) (option_map suc (place_of text (drop (i + 1) name)))) (sym here ∙ found))
    ∙ ap Some (omega arith))

pub place_end : (text name : List ℕ) (i : ℕ) (is : Option ℕ) → is ≡ option_map (λ k. i + k) (place_of text (drop i name)) → length name ≤ i → None ≡ is
place_end text name i is at all = sym (at ∙ ap (λ o. option_map (λ k. i + k) o) (at_drop_all (place_of text) name i all ∙ place_none text))
