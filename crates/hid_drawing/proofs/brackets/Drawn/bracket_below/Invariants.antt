use Rattle.std.proofs.Common.{◌≡◌}
use Rattle.hid_drawing.specs.Brackets.{bracket_below}
use Rattle.hid_drawing.proofs.brackets.Drawn.bracket_below.Given as goal

-- the bracket so far
abbrev pub invariant-loop-i : goal.invariant-loop-i
invariant-loop-i l =
    l.bracket ≡ bracket_below l.self.layout.now l.self.items.now l.self.mains.now l.self.report l.c l.i
