-- The characters of strings, one after the other.
use Rattle.std.proofs.Common.{◌≡◌, ℕ, List, ◌∷◌, ◌++◌, Option, None, Some, refl, sym, ap, ◌∙◌}
use Rattle.std.specs.Prelude.{option_to_list}
use Rattle.hid_input.specs.declared.strings.Spot.{Spot}
use Rattle.hid_input.specs.Words.{both}
use Rattle.hid_input.specs.Strings.{spot_after, escapes_from}
use Rattle.hid_input.proofs.WordLemmas.{both_assoc}

-- what one more character adds
abbrev pub after : Option (Spot × Option ℕ) → List ℕ → Option (List ℕ)
after None text = None
after (Some next) text = both (Some (option_to_list next.1)) (escapes_from next.0 text)

pub first_escape : (spot : Spot) (byte : ℕ) (text : List ℕ) → escapes_from spot (byte ∷ text) ≡ after (spot_after spot byte) text
first_escape spot byte text = elim (spot_after spot byte) as (λ o. elim o as (λ _. Option (List ℕ)) [
  | None ↦ None
  | Some next ↦ both (Some (option_to_list next.1)) (escapes_from next.0 text)
] ≡ after o text) [
  | None ↦ refl
  | Some next ↦ refl
]

-- one more character
pub escape_read : (spot next : Spot) (byte : ℕ) (found : Option ℕ) (bytes : List ℕ) (text : List ℕ) → spot_after spot byte ≡ Some (next, found)
    → both (Some (bytes ++ option_to_list found)) (escapes_from next text) ≡ both (Some bytes) (escapes_from spot (byte ∷ text))
escape_read spot next byte found bytes text is =
    both_assoc (Some bytes) (Some (option_to_list found)) (escapes_from next text)
    ∙ ap (both (Some bytes)) (sym (first_escape spot byte text ∙ ap (λ (o : Option (Spot × Option ℕ)). after o text) is))
