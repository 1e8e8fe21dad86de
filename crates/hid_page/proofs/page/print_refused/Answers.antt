use Rattle.std.proofs.Common.{append_assoc, arith}
use Rattle.std.proofs.lemmas.Grind.{common_steps}
use Rattle.hid_page.specs.Page.{refused_page}
use Rattle.hid_drawing.proofs.TextLemmas.{last_added}
use Rattle.hid_page.proofs.page.print_refused.Goals as goal

pub print_item_table-requires : goal.print_item_table-requires
print_item_table-requires c = grind (arith, common_steps)

pub returns : goal.returns
unfolding refused_page
returns c =
    last_added _ _ _ _ _ c.push_str-3.ensures.bytes
    (simp (c.in_ok-print_item_table.ensures, c.in_ok-print_refusal.ensures, c.in_ok-push_str-2.ensures.bytes, c.in_ok-push_str.ensures.bytes, append_assoc))
