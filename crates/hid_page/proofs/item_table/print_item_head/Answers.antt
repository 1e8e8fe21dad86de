use Rattle.std.proofs.Common.{append_assoc}
use Rattle.hid_page.specs.ItemTable.{item_row_head}
use Rattle.hid_page.proofs.item_table.print_item_head.Goals as goal

pub returns : goal.returns
unfolding item_row_head
returns c = simp append_assoc c.write.ensures.bytes
