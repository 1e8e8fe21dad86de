use Rattle.std.proofs.Common.{◌≡◌, ◌++◌}
use Rattle.std.specs.Prelude.{string_bytes}
use Rattle.hid_notation.specs.Text.{concat_below}
use Rattle.hid_drawing.specs.Terminal.{row_text}
use Rattle.hid_drawing.proofs.terminal.print_rows.Given as goal

-- the rows so far
abbrev pub invariant-loop-byte : goal.invariant-loop-byte
invariant-loop-byte l =
    string_bytes l.text ≡ string_bytes l.fn.text
    ++ concat_below l.byte (row_text l.columns l.layout l.r l.bytes l.brackets l.pieces)
