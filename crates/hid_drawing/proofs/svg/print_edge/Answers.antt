use Rattle.std.proofs.Common.{append_assoc}
use Rattle.hid_drawing.specs.Svg.{edge_text}
use Rattle.hid_drawing.proofs.TextLemmas.{last_added}
use Rattle.hid_drawing.proofs.svg.print_edge.Goals as goal

pub returns : goal.returns
unfolding edge_text
returns c =
    last_added _ _ _ _ _ c.push_str-2.ensures.bytes
    (simp (c.in_ok-write.ensures.bytes, c.in_ok-push_str.ensures.bytes, c.saturating_sub-inner.ensures, append_assoc))
