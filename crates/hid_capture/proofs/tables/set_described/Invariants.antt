use Rattle.std.proofs.Common.{◌≡◌, ◌++◌, take, drop, map}
use Rattle.hid_capture.specs.Tracking.{with_described}
use Rattle.hid_capture.proofs.tables.set_described.Given as goal

-- the interfaces so far are as they should be
abbrev pub invariant-loop-tracked : goal.invariant-loop-tracked
invariant-loop-tracked l = l.interfaces ≡ map (with_described l.bus l.device l.interface l.is_described) (take l.tracked-index l.fn.interfaces) ++ drop l.tracked-index l.fn.interfaces
