-- Words that are expected, one after the other.
use Rattle.std.proofs.Common.{◌≡◌, Bool, true, false, ◌&&◌, List, [], ◌∷◌, sym, ap, ◌∙◌}
use Rattle.hid_text.specs.Words.{Word}
use Rattle.lab_expectations.specs.Matching.{is_word, are_words}

-- one more word that is the expected one
pub word_met : (wanted words : List Word) (expected word : Word) (others more : List Word) (all met : Bool) → are_words wanted words ≡ all → wanted ≡ expected ∷ others → words ≡ word ∷ more
    → met ≡ is_word expected word → met ≡ true → are_words others more ≡ all
word_met wanted words expected word others more all met is first second here agrees =
    sym (ap (λ w. are_words w words) first ∙ ap (are_words (expected ∷ others)) second ∙ ap (λ t. t && are_words others more) (sym here ∙ agrees)) ∙ is

-- a word that isn't the expected one
pub word_unmet : (wanted words : List Word) (expected word : Word) (others more : List Word) (all met : Bool) → are_words wanted words ≡ all → wanted ≡ expected ∷ others → words ≡ word ∷ more
    → met ≡ is_word expected word → met ≡ false → false ≡ all
word_unmet wanted words expected word others more all met is first second here differs =
    sym (ap (λ w. are_words w words) first ∙ ap (are_words (expected ∷ others)) second ∙ ap (λ t. t && are_words others more) (sym here ∙ differs)) ∙ is

-- a word that wasn't printed
pub word_missing : (wanted words : List Word) (expected : Word) (others : List Word) (all : Bool) → are_words wanted words ≡ all → wanted ≡ expected ∷ others → words ≡ [] → false ≡ all
word_missing wanted words expected others all is first none = sym (ap (λ w. are_words w words) first ∙ ap (are_words (expected ∷ others)) none) ∙ is

-- no word is expected any more
pub none_expected : (wanted : List Word) (all : Bool) → are_words wanted [] ≡ all → wanted ≡ [] → true ≡ all
none_expected wanted all is none = sym (ap (λ w. are_words w []) none) ∙ is

-- no word is expected any more, though one was printed
pub more_printed : (wanted words : List Word) (word : Word) (more : List Word) (all : Bool) → are_words wanted words ≡ all → wanted ≡ [] → words ≡ word ∷ more → false ≡ all
more_printed wanted words word more all is none first = sym (ap (λ w. are_words w words) none ∙ ap (are_words []) first) ∙ is
