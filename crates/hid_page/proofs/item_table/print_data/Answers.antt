use Rattle.std.proofs.Common.{arith}
use Rattle.std.proofs.lemmas.Grind.{common_steps}
use Rattle.hid_page.specs.ItemTable.{data_text}
use Rattle.hid_page.proofs.item_table.print_data.Goals as goal

pub returns-then-is_field : goal.returns-then-is_field
unfolding data_text
returns-then-is_field c = grind (arith, common_steps)

pub returns-then-prefix : goal.returns-then-prefix
unfolding data_text
returns-then-prefix c = grind (arith, common_steps)

pub returns-then-is_usage : goal.returns-then-is_usage
unfolding data_text
returns-then-is_usage c = grind (arith, common_steps)

pub returns : goal.returns
unfolding data_text
returns c = grind (arith, common_steps)
