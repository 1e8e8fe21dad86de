use Rattle.std.proofs.Common.{◌≡◌, ◌++◌}
use Rattle.std.specs.Prelude.{string_bytes, slice_get}
use Rattle.hid_notation.specs.Text.{concat_below}
use Rattle.hid_drawing.specs.Svg.{bracket_backdrop}
use Rattle.hid_drawing.proofs.svg.print_brackets.Given as goal

-- the brackets so far
abbrev pub invariant-loop-k : goal.invariant-loop-k
invariant-loop-k l =
    string_bytes l.text
    ≡ string_bytes l.fn.text
    ++ concat_below l.k (λ k. bracket_backdrop l.layout l.depth l.rows l.brackets k (slice_get l.brackets k))
