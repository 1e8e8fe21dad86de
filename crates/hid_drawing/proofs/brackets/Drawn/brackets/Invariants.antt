use Rattle.std.proofs.Common.{◌≡◌}
use Rattle.hid_drawing.specs.Brackets.{brackets_below}
use Rattle.hid_drawing.proofs.brackets.Drawn.brackets.Given as goal

-- the brackets so far
abbrev pub invariant-loop-c : goal.invariant-loop-c
invariant-loop-c l =
    l.brackets.items ≡ brackets_below l.self.layout.now l.self.items.now l.self.mains.now l.self.report l.c
