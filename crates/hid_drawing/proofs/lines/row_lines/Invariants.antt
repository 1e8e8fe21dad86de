use Rattle.std.proofs.Common.{◌≡◌, drop}
use Rattle.hid_drawing.specs.Lines.{most_lines, row_lines}
use Rattle.hid_drawing.proofs.lines.row_lines.Given as goal

-- what the rest of the pieces gives is what all give
abbrev pub invariant-loop-piece : goal.invariant-loop-piece
invariant-loop-piece l =
    most_lines l.layout l.r l.medium l.byte l.lines (drop l.piece-index l.pieces)
    ≡ row_lines l.layout l.r l.medium l.byte l.pieces
