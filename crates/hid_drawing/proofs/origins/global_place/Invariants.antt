use Rattle.std.proofs.Common.{◌≡◌, ◌-◌, ◌≤◌}
use Rattle.hid_drawing.specs.Origins.{nearest_place, global_place}
use Rattle.hid_drawing.proofs.origins.global_place.Given as goal

-- what the rest of the items answer is what all answer
abbrev pub invariant-loop-back : goal.invariant-loop-back
invariant-loop-back l = record {
  same : nearest_place l.items l.prefix l.waiting (l.m - l.back) ≡ global_place l.items l.m l.prefix;
  bound : l.waiting ≤ l.back;
}
