use Rattle.std.proofs.Common.{append_assoc}
use Rattle.hid_drawing.proofs.TextLemmas.{last_added}
use Rattle.hid_page.specs.Windows.{window}
use Rattle.hid_page.proofs.windows.print_window.Goals as goal

pub returns : goal.returns
unfolding window
returns c =
    last_added _ _ _ _ _ c.push_str-2.ensures.bytes
    (simp (c.in_ok-print_use.ensures, c.in_ok-print_box.ensures, c.in_ok-push_str.ensures.bytes, c.cut_above-top.ensures, c.cut_above-end.ensures, c.name_left.ensures.value, c.saturating_sub.ensures, c.from.ensures, c.from-2.ensures, c.from-3.ensures, c.from-4.ensures, append_assoc))
