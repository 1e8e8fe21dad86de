-- What escaped words hold.
use Rattle.std.proofs.Common.{◌≡◌, ◌∷◌, [], ℕ, List, true, arith, refl, ◌∙◌}
use Rattle.std.proofs.lemmas.Bool.Decides.{nat_tests}
use Rattle.std.proofs.lemmas.List.Folds.{list_all-append}
use Rattle.std.specs.List.{list_all}
use Rattle.hid_drawing.specs.Escape.{escape_of, escaped_words, is_inert}

inert_byte : (byte : ℕ) → list_all is_inert (escape_of byte) ≡ true
inert_byte byte = grind (arith, nat_tests)

pub inert_words : (words : List ℕ) → list_all is_inert (escaped_words words) ≡ true
inert_words [] = refl
inert_words (byte ∷ words) =
    list_all-append is_inert (escape_of byte) (escaped_words words) ∙ rw (inert_byte byte, inert_words words) refl
