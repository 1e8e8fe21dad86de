use Rattle.std.proofs.Common.{arith}
use Rattle.std.proofs.lemmas.Grind.{common_steps}
use Rattle.hid_drawing.proofs.pieces.push_element.Goals as goal

pub overflow_add-first_bit : goal.overflow_add-first_bit
overflow_add-first_bit c = grind (arith, common_steps)
