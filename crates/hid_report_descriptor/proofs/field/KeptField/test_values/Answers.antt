use Rattle.std.proofs.Common.{arith}
use Rattle.std.proofs.lemmas.Grind.{common_steps}
use Rattle.hid_report_descriptor.proofs.field.KeptField.test_values.Goals as goal

pub returns-then-self-eq0 : goal.returns-then-self-eq0
returns-then-self-eq0 c = grind (arith, common_steps)

pub returns-then-has_value : goal.returns-then-has_value
returns-then-has_value c = grind (arith, common_steps)

pub returns-else-has_value : goal.returns-else-has_value
returns-else-has_value c = grind (arith, common_steps)

pub returns-then-is_empty : goal.returns-then-is_empty
returns-then-is_empty c = grind (arith, common_steps)
