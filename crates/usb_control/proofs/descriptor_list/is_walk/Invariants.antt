use Rattle.std.proofs.Common.{◌↔◌, length}
use Rattle.usb_control.specs.Descriptors.{HasWalk}
use Rattle.usb_control.proofs.descriptor_list.is_walk.Given as goal

abbrev pub invariant-loop-behind : goal.invariant-loop-behind
invariant-loop-behind l = HasWalk l.bytes ↔ HasWalk l.rest

abbrev pub decreases-loop-behind : goal.decreases-loop-behind
decreases-loop-behind l = length l.rest
