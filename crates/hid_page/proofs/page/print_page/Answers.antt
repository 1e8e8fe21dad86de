use Rattle.std.proofs.Common.{append_assoc}
use Rattle.hid_page.specs.Page.{page_of}
use Rattle.hid_drawing.proofs.TextLemmas.{last_added}
use Rattle.hid_page.proofs.page.print_page.Goals as goal

pub returns : goal.returns
unfolding page_of
returns c =
    last_added _ _ _ _ _ c.push_str-3.ensures.bytes
    (simp (c.in_ok-print_item_table.ensures, c.in_ok-print_sections.ensures, c.in_ok-push_str-2.ensures.bytes, c.in_ok-print_mark_rules.ensures, c.in_ok-push_str.ensures.bytes, append_assoc))
