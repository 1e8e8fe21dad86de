use Rattle.std.proofs.Common.{◌≡◌, ◌≤◌}
use Rattle.hid_drawing.specs.Brackets.{open_below}
use Rattle.hid_drawing.proofs.brackets.open_below.Given as goal

-- those open so far
abbrev pub invariant-loop-k : goal.invariant-loop-k
invariant-loop-k l = record { same : l.count ≡ open_below l.items l.k; few : l.count ≤ l.k }
