use Rattle.std.proofs.Common.{append_assoc}
use Rattle.hid_page.specs.Page.{mark_head}
use Rattle.hid_page.proofs.field_table.print_mark_head.Goals as goal

pub returns : goal.returns
unfolding mark_head
returns c = simp append_assoc c.write.ensures.bytes
