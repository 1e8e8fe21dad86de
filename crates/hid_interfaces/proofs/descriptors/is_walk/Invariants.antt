use Rattle.std.proofs.Common.{◌↔◌, length}
use Rattle.usb_control.specs.Descriptors.{HasWalk}
use Rattle.hid_interfaces.proofs.descriptors.is_walk.Given as goal

abbrev pub invariant-loop-behind : goal.invariant-loop-behind
invariant-loop-behind l = HasWalk l.bytes ↔ HasWalk l.rest

abbrev pub decreases-loop-behind : goal.decreases-loop-behind
decreases-loop-behind l = length l.rest
