use Rattle.std.proofs.Common.{◌≡◌, ◌++◌, take, drop}
use Rattle.hid_snapshots.specs.Parts.{differences}
use Rattle.hid_snapshots.proofs.control_state.subtract_all.Given as goal

abbrev pub invariant-loop-index : goal.invariant-loop-index
invariant-loop-index l = l.amounts ≡ take l.index (differences l.fn.amounts l.others) ++ drop l.index l.fn.amounts
