use Rattle.std.proofs.Common.{◌≡◌, ◌++◌, take, drop, map}
use Rattle.hid_capture.specs.Undescribed.{with_transfer}
use Rattle.hid_capture.proofs.undescribed.count_known.Given as goal

-- the endpoints so far are as they should be
abbrev pub invariant-loop-one : goal.invariant-loop-one
invariant-loop-one l = l.known ≡ map (with_transfer l.bus l.device l.endpoint l.is_hid) (take l.one-index l.fn.known) ++ drop l.one-index l.fn.known
