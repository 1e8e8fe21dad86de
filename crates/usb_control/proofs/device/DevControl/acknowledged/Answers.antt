use Rattle.std.proofs.Common.{arith}
use Rattle.std.proofs.lemmas.Grind.{common_steps}
use Rattle.usb_control.proofs.device.DevControl.acknowledged.Goals as goal

pub overflow_add-sent : goal.overflow_add-sent
overflow_add-sent g c = grind (arith, common_steps)
