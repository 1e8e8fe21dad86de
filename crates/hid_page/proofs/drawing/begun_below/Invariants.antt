use Rattle.std.proofs.Common.{◌≡◌, ◌≤◌}
use Rattle.hid_page.specs.Drawing.{begin_count}
use Rattle.hid_page.proofs.drawing.begun_below.Given as goal

-- the count so far
abbrev pub invariant-loop-k : goal.invariant-loop-k
invariant-loop-k l = record { same : l.count ≡ begin_count l.items l.at l.k; few : l.count ≤ l.k }
