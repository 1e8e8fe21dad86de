use Rattle.std.proofs.Common.{◌≡◌, ◌++◌, take, drop, map}
use Rattle.hid_bus.specs.Rounds.{Frame}
use Rattle.hid_stack.specs.Members.{Member, Scheduled, member_after}
use Rattle.hid_stack.proofs.rig.frame_all.Given as goal

abbrev pub invariant-loop-slot : goal.invariant-loop-slot
invariant-loop-slot l = l.slots ≡ map (λ (m : Member). member_after m (Scheduled Frame)) (take l.slot-index l.fn.slots) ++ drop l.slot-index l.fn.slots
