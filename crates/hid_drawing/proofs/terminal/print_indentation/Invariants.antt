use Rattle.std.proofs.Common.{◌≡◌, ◌++◌}
use Rattle.std.specs.Prelude.{string_bytes, codes}
use Rattle.hid_notation.specs.Text.{concat_below}
use Rattle.hid_drawing.proofs.terminal.print_indentation.Given as goal

-- the steps so far
abbrev pub invariant-loop-i : goal.invariant-loop-i
invariant-loop-i l =
    string_bytes l.text ≡ string_bytes l.fn.text ++ concat_below l._i (λ i. codes "  ")
