use Rattle.std.proofs.Common.{◌≡◌, ◌++◌, ◌-◌}
use Rattle.std.specs.Prelude.{string_bytes}
use Rattle.hid_notation.specs.Text.{concat_below}
use Rattle.hid_drawing.specs.Terminal.{side_at}
use Rattle.hid_drawing.proofs.terminal.print_sides.Given as goal

-- the brackets so far
abbrev pub invariant-loop-i : goal.invariant-loop-i
invariant-loop-i l =
    string_bytes l.text ≡ string_bytes l.fn.text ++ concat_below l.i (λ i. side_at l.brackets (l.depth - i) l.byte)
