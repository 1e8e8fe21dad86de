use Rattle.std.proofs.Common.{append_assoc}
use Rattle.hid_page.specs.Page.{number_cell}
use Rattle.hid_page.proofs.field_table.print_number_cell.Goals as goal

pub returns : goal.returns
unfolding number_cell
returns c = simp append_assoc c.write.ensures.bytes
