use Rattle.hid_drawing.proofs.ItemLemmas.{same_whole}
use Rattle.hid_page.proofs.drawing.draw.Goals as goal

pub draw_form-requires : goal.draw_form-requires
draw_form-requires c = same_whole _ _ c.deref-2.ensures.value c.in_ok-items.ensures.placed
