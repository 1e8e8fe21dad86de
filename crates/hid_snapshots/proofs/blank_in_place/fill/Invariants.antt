use Rattle.std.proofs.Common.{◌≡◌, ◌++◌, length, replicate, take, drop}
use Rattle.hid_snapshots.proofs.blank_in_place.fill.Given as goal

abbrev pub invariant-loop-j : goal.invariant-loop-j
invariant-loop-j l = l.values ≡ take l.j (replicate (length l.fn.values) l.value) ++ drop l.j l.fn.values
