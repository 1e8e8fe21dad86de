use Rattle.std.proofs.Common.{◌≡◌, ◌+◌, ◌++◌, map, min, take, drop}
use Rattle.hid_bus.specs.ReportState.{most_frames}
use Rattle.hid_device.proofs.frames.count_frame.Given as goal

abbrev pub invariant-loop-count : goal.invariant-loop-count
invariant-loop-count l = l.frames ≡ map (λ n. min (n + 1) most_frames) (take l.count-index l.fn.frames) ++ drop l.count-index l.fn.frames
