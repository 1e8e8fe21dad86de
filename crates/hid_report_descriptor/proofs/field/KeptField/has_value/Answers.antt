use Rattle.std.proofs.Common.{arith}
use Rattle.std.proofs.lemmas.Grind.{common_steps}
use Rattle.hid_report_descriptor.proofs.field.KeptField.has_value.Goals as goal

pub returns-then-least_value-self : goal.returns-then-least_value-self
returns-then-least_value-self c = grind (arith, common_steps)

pub returns-else-least_value-self : goal.returns-else-least_value-self
returns-else-least_value-self c = grind (arith, common_steps)
