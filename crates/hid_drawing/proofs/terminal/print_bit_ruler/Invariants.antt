use Rattle.std.proofs.Common.{◌≡◌, ◌++◌, ◌-◌, [], ◌∷◌}
use Rattle.std.specs.Prelude.{string_bytes, codes}
use Rattle.hid_notation.specs.Text.{concat_below}
use Rattle.hid_drawing.specs.Terminal.{padded_words}
use Rattle.hid_drawing.proofs.terminal.print_bit_ruler.Given as goal

-- the numbers so far
abbrev pub invariant-loop-i : goal.invariant-loop-i
invariant-loop-i l =
    string_bytes l.text
    ≡ ((string_bytes l.fn.text ++ codes "    ") ++ padded_words (codes "bit 7") l.columns)
    ++ concat_below l.i (λ i. padded_words ((54 - i) ∷ []) l.columns)
