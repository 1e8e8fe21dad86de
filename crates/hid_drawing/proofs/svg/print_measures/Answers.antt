use Rattle.std.proofs.Common.{append_assoc}
use Rattle.hid_drawing.specs.Svg.{measures}
use Rattle.hid_drawing.proofs.svg.print_measures.Goals as goal

pub returns : goal.returns
unfolding measures
returns c = simp append_assoc c.write.ensures.bytes
