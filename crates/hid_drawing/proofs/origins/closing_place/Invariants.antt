use Rattle.std.proofs.Common.{◌≡◌, ◌+◌, ◌≤◌, drop}
use Rattle.hid_drawing.specs.Origins.{closing_place}
use Rattle.hid_drawing.proofs.origins.closing_place.Given as goal

-- what the rest of the items answer is what all answer
abbrev pub invariant-loop-item : goal.invariant-loop-item
invariant-loop-item l = record {
  same : closing_place l.waiting l.at (drop l.item-index l.rest) ≡ closing_place 0 l.place l.rest;
  place : l.at ≡ l.place + l.item-index;
  bound : l.waiting ≤ l.item-index;
}
