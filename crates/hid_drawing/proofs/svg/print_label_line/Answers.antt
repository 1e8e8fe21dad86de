use Rattle.std.proofs.Common.{append_assoc}
use Rattle.hid_drawing.specs.Svg.{label_line}
use Rattle.hid_drawing.proofs.TextLemmas.{last_added}
use Rattle.hid_drawing.proofs.svg.print_label_line.Goals as goal

pub returns : goal.returns
unfolding label_line
returns c =
    last_added _ _ _ _ _ c.push_str.ensures.bytes
    (simp (c.in_ok-push_escaped.ensures, c.in_ok-print_label_head.ensures, c.line_of.ensures, c.name_left.ensures.value, c.from.ensures, append_assoc))
