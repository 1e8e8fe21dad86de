use Rattle.std.proofs.Common.{◌≡◌, ◌++◌, take, drop, map}
use Rattle.hid_capture.specs.Tracking.{without_descriptor_on}
use Rattle.hid_capture.proofs.tables.forget_descriptors.Given as goal

-- the interfaces so far are as they should be
abbrev pub invariant-loop-tracked : goal.invariant-loop-tracked
invariant-loop-tracked l = l.interfaces ≡ map (without_descriptor_on l.bus l.device) (take l.tracked-index l.fn.interfaces) ++ drop l.tracked-index l.fn.interfaces
