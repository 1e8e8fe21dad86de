use Rattle.std.proofs.Common.{◌≡◌}
use Rattle.hid_drawing.specs.Lines.{lines_in_front}
use Rattle.hid_drawing.proofs.lines.lines_in_front.Given as goal

-- the lines so far
abbrev pub invariant-loop-k : goal.invariant-loop-k
invariant-loop-k l = l.lines ≡ lines_in_front l.layout l.brackets l.byte l.k
