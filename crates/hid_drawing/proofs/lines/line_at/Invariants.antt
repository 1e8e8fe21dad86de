use Rattle.std.proofs.Common.{◌≡◌}
use Rattle.hid_drawing.specs.Lines.{after_lines}
use Rattle.hid_drawing.proofs.lines.line_at.Given as goal

-- what stands after the lines so far
abbrev pub invariant-loop-i : goal.invariant-loop-i
invariant-loop-i l = l.rest ≡ after_lines l.words l.columns l._i
