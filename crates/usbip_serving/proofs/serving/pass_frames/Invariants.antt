use Rattle.std.proofs.Common.{◌≡◌}
use Rattle.usbip_serving.specs.Turns.{after_frames}
use Rattle.usbip_serving.proofs.serving.pass_frames.Given as goal

abbrev pub invariant-loop-passed : goal.invariant-loop-passed
invariant-loop-passed l = l.device ≡ after_frames l.passed l.initial.device
