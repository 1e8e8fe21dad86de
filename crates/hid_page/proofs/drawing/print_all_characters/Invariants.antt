use Rattle.std.proofs.Common.{◌≡◌, ◌++◌, [], ◌∷◌}
use Rattle.std.specs.Prelude.{string_bytes}
use Rattle.hid_notation.specs.Text.{concat_below}
use Rattle.hid_page.specs.Page.{characters_of}
use Rattle.hid_page.proofs.drawing.print_all_characters.Given as goal

-- the reports so far
abbrev pub invariant-loop-r : goal.invariant-loop-r
invariant-loop-r l =
    string_bytes l.text
    ≡ string_bytes l.fn.text ++ concat_below l.r (λ r. characters_of l.width l.layout l.items l.mains r ++ 10 ∷ [])
