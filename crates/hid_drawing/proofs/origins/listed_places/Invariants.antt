use Rattle.std.proofs.Common.{◌≡◌}
use Rattle.hid_drawing.specs.Origins.{listed_places}
use Rattle.hid_drawing.proofs.origins.listed_places.Given as goal

-- the places so far
abbrev pub invariant-loop-m : goal.invariant-loop-m
invariant-loop-m l = l.places.items ≡ listed_places l.items l.m
