use Rattle.std.proofs.Common.{append_assoc}
use Rattle.hid_drawing.specs.Svg.{picture_head}
use Rattle.hid_drawing.proofs.TextLemmas.{last_added}
use Rattle.hid_drawing.proofs.svg.print_head.Goals as goal

pub returns : goal.returns
unfolding picture_head
returns c =
    last_added _ _ _ _ _ c.push_str-3.ensures.bytes
    (simp (c.in_ok-push_str-2.ensures.bytes, c.in_ok-push_str.ensures.bytes, c.in_ok-print_description.ensures, c.in_ok-print_opening.ensures, c.name_left.ensures.value, c.row_top.ensures.value, c.from.ensures, append_assoc))
