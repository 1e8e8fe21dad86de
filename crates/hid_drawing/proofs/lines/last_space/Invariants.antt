use Rattle.std.proofs.Common.{◌≡◌}
use Rattle.hid_drawing.specs.Lines.{last_space}
use Rattle.hid_drawing.proofs.lines.last_space.Given as goal

-- the last one so far
abbrev pub invariant-loop-n : goal.invariant-loop-n
invariant-loop-n l = l.place ≡ last_space l.words l.n
