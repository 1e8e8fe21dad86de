-- The first line of a text that says something.
use Rattle.std.proofs.Common.{◌≡◌, ℕ, Bool, false, List, ◌∷◌, ◌++◌, ap, sym, ◌∙◌, refl, nat_eq, Option, None, Some}
use Rattle.std.specs.Option.{unwrap_or}
use Rattle.std.proofs.lemmas.List.Splits.{slice_split_at, slice_split_none}
use Rattle.hid_text.specs.Lines.{IsUnbroken}
use Rattle.hid_text.specs.Words.{words_of}
use Rattle.hidplay.specs.Other.{begins_script, are_script, is_script}

-- what a line that has ended says, before others
first_line : (text line behind : List ℕ) → IsUnbroken line → text ≡ line ++ 10 ∷ behind → is_script text ≡ begins_script (words_of line) (is_script behind)
unfolding are_script
first_line text line behind unbroken is = ap is_script is ∙ ap are_script (slice_split_at (λ b. nat_eq b 10) line 10 behind unbroken refl)

-- what the last line says
pub last_line : (line : List ℕ) (said : Option Bool) → IsUnbroken line → ((later : Bool) → unwrap_or said later ≡ begins_script (words_of line) later)
    → unwrap_or said false ≡ is_script line
unfolding are_script
last_line line said unbroken means = means false ∙ sym (ap are_script (slice_split_none (λ b. nat_eq b 10) line unbroken))

-- a line that says nothing is passed over
pub passed_over : (text line behind : List ℕ) (said : Option Bool) → IsUnbroken line → text ≡ line ++ 10 ∷ behind
    → ((later : Bool) → unwrap_or said later ≡ begins_script (words_of line) later) → said ≡ None → is_script text ≡ is_script behind
passed_over text line behind said unbroken is means none =
    first_line text line behind unbroken is ∙ sym (means (is_script behind)) ∙ ap (λ o. unwrap_or o (is_script behind)) none

-- a line that says something says it all
pub said_there : (text line behind : List ℕ) (said : Option Bool) (is_one : Bool) → IsUnbroken line → text ≡ line ++ 10 ∷ behind
    → ((later : Bool) → unwrap_or said later ≡ begins_script (words_of line) later) → said ≡ Some is_one → is_one ≡ is_script text
said_there text line behind said is_one unbroken is means some =
    ap (λ o. unwrap_or o (is_script behind)) (sym some) ∙ means (is_script behind) ∙ sym (first_line text line behind unbroken is)
