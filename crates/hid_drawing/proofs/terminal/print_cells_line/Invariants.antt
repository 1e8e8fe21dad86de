use Rattle.std.proofs.Common.{◌≡◌, ◌++◌, ◌-◌, length}
use Rattle.std.specs.Prelude.{string_bytes, slice_get}
use Rattle.hid_notation.specs.Text.{concat_below}
use Rattle.hid_drawing.specs.Terminal.{byte_cell}
use Rattle.hid_drawing.proofs.terminal.print_cells_line.Given as goal

-- the cells so far
abbrev pub invariant-loop-i : goal.invariant-loop-i
invariant-loop-i l =
    string_bytes l.text
    ≡ string_bytes l.fn.text
    ++ concat_below l.i (λ i. byte_cell l.columns l.layout l.r l.k l.byte (slice_get l.pieces ((length l.pieces - 1) - i)))
