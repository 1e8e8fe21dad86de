use Rattle.std.proofs.Common.{◌≡◌}
use Rattle.hid_drawing.specs.Lines.{after_lines, lines_below}
use Rattle.hid_drawing.proofs.lines.line_count.Given as goal

-- the lines so far, and what stands after them
abbrev pub invariant-loop-i : goal.invariant-loop-i
invariant-loop-i l = record {
  behind : l.rest ≡ after_lines l.words l.columns l._i;
  lines : l.count ≡ lines_below l.words l.columns l._i;
}
