use Rattle.std.proofs.Common.{append_assoc}
use Rattle.hid_drawing.specs.Svg.{area_text}
use Rattle.hid_drawing.proofs.svg.print_area.Goals as goal

pub returns : goal.returns
unfolding area_text
returns c = simp append_assoc c.write.ensures.bytes
