use Rattle.std.proofs.Common.{◌≡◌, ◌-◌}
use Rattle.hid_drawing.specs.Origins.{locals_start}
use Rattle.hid_drawing.proofs.origins.locals_start.Given as goal

-- what the rest of the items answer is what all answer
abbrev pub invariant-loop-back : goal.invariant-loop-back
invariant-loop-back l = locals_start l.items (l.m - l.back) ≡ locals_start l.items l.m
