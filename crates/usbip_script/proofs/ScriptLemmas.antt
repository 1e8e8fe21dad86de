-- The first line of some bytes, and the lines after it.
use Rattle.std.proofs.Common.{◌≡◌, ◌∙◌, ◌<◌, ℕ, List, [], ◌∷◌, ◌++◌, ap, sym, length, append-nil}
use Rattle.std.specs.Str.Lines.{lines, strip_carriage_return}
use Rattle.hid_text.specs.Lines.{IsUnbroken}
use Rattle.hid_text.proofs.LineLemmas.{lines_first}
use Rattle.hid_text.proofs.PieceLemmas.{last_line}

-- a line that a line feed ends
pub first_of : (bytes line later : List ℕ) → IsUnbroken line → bytes ≡ line ++ 10 ∷ later
    → lines bytes ≡ strip_carriage_return line ∷ lines later
first_of bytes line later whole is = ap lines is ∙ lines_first line later whole

-- the last line, which none ends
pub only_of : (bytes : List ℕ) → IsUnbroken bytes → 0 < length bytes → lines bytes ≡ bytes ∷ lines []
only_of bytes whole some = ap lines (sym (append-nil bytes)) ∙ last_line bytes whole some
