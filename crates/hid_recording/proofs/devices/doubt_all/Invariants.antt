use Rattle.std.proofs.Common.{◌≡◌, ◌++◌, take, drop, map}
use Rattle.hid_recording.specs.Joining.{slot_after_doubt}
use Rattle.hid_recording.proofs.devices.doubt_all.Given as goal

-- the slots so far are in doubt
abbrev pub invariant-loop-slot : goal.invariant-loop-slot
invariant-loop-slot l = l.slots ≡ map slot_after_doubt (take l.slot-index l.fn.slots) ++ drop l.slot-index l.fn.slots
