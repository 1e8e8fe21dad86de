use Rattle.std.proofs.Common.{◌≡◌, ◌++◌, take, drop, map}
use Rattle.hid_snapshots.specs.Parts.{clamp}
use Rattle.hid_snapshots.proofs.control_state.clamp_all.Given as goal

abbrev pub invariant-loop-index : goal.invariant-loop-index
invariant-loop-index l = l.amounts ≡ take l.index (map (clamp l.least l.greatest) l.fn.amounts) ++ drop l.index l.fn.amounts
