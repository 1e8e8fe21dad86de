use Rattle.std.proofs.Common.{◌≡◌, ◌≤◌, ◌+◌, ◌*◌}
use Rattle.hid_drawing.specs.Areas.{row_top}
use Rattle.hid_drawing.proofs.areas.row_top.Given as goal

-- below the bytes so far
abbrev pub invariant-loop-b : goal.invariant-loop-b
invariant-loop-b l = record { same : l.top ≡ row_top l.depth l.rows l.b; low : l.top ≤ 1000 + 2000000 * l.b }
