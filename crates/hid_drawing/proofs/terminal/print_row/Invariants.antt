use Rattle.std.proofs.Common.{◌≡◌, ◌++◌}
use Rattle.std.specs.Prelude.{string_bytes}
use Rattle.hid_notation.specs.Text.{concat_below}
use Rattle.hid_drawing.specs.Terminal.{line_above, row_line}
use Rattle.hid_drawing.proofs.terminal.print_row.Given as goal

-- the line above, and the lines so far
abbrev pub invariant-loop-k : goal.invariant-loop-k
invariant-loop-k l =
    string_bytes l.text
    ≡ (string_bytes l.fn.text ++ line_above l.columns l.byte l.brackets l.pieces)
    ++ concat_below l.k (row_line l.columns l.layout l.r l.bytes l.byte l.brackets l.pieces)
