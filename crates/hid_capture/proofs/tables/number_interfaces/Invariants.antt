use Rattle.std.proofs.Common.{◌≡◌, ◌++◌, take, drop, map}
use Rattle.hid_capture.specs.Tracking.{with_interface_in}
use Rattle.hid_capture.proofs.tables.number_interfaces.Given as goal

-- the interfaces so far have their numbers
abbrev pub invariant-loop-tracked : goal.invariant-loop-tracked
invariant-loop-tracked l = l.interfaces ≡ map (with_interface_in l.active_configurations l.endpoints) (take l.tracked-index l.fn.interfaces) ++ drop l.tracked-index l.fn.interfaces
