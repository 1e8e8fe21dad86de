use Rattle.std.proofs.Common.{◌≡◌, ◌++◌, ◌-◌}
use Rattle.std.specs.Prelude.{string_bytes}
use Rattle.hid_notation.specs.Text.{concat_below}
use Rattle.hid_drawing.specs.Terminal.{bit_line, corner_at}
use Rattle.hid_drawing.proofs.terminal.print_edge_line.Given as goal

-- the bits so far
abbrev pub invariant-loop-i : goal.invariant-loop-i
invariant-loop-i l =
    string_bytes l.text
    ≡ string_bytes l.fn.text ++ concat_below l.i (λ i. corner_at l.pieces l.byte (8 - i) ++ bit_line l.columns)
