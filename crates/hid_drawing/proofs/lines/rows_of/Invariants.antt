use Rattle.std.proofs.Common.{◌≡◌}
use Rattle.hid_drawing.specs.Lines.{rows_of}
use Rattle.hid_drawing.proofs.lines.rows_of.Given as goal

-- the rows so far
abbrev pub invariant-loop-byte : goal.invariant-loop-byte
invariant-loop-byte l = l.rows.items ≡ rows_of l.layout l.r l.byte l.brackets l.pieces
