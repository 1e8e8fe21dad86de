use Rattle.std.proofs.Common.{append_assoc}
use Rattle.hid_page.specs.ItemTable.{item_row}
use Rattle.hid_drawing.proofs.TextLemmas.{last_added}
use Rattle.hid_page.proofs.item_table.print_item_row.Goals as goal

pub returns : goal.returns
unfolding item_row
returns c =
    last_added _ _ _ _ _ c.push_str-2.ensures.bytes
    (simp (c.in_ok-print_item_words.ensures, c.in_ok-push_str.ensures.bytes, c.in_ok-print_bytes.ensures, c.in_ok-print_item_head.ensures, append_assoc))
