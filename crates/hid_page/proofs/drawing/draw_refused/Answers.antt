use Rattle.hid_drawing.proofs.ItemLemmas.{same_whole}
use Rattle.hid_page.proofs.drawing.draw_refused.Goals as goal

pub print_refused-requires-clause-whole : goal.print_refused-requires-clause-whole
print_refused-requires-clause-whole c = same_whole _ _ c.deref-2.ensures.value c.in_ok-items.ensures.placed
