use Rattle.hid_text.specs.NamedText.{named_value_at}
use Rattle.hid_text.proofs.LayoutLemmas.{joined_next}
use Rattle.hid_text.proofs.named_text.print_named_elements.Goals as goal

pub loop-j-preserved : goal.loop-j-preserved
loop-j-preserved c = joined_next (named_value_at c.args.layout.now c.args.bytes.now c.args.i) c.loop-j.j _ _ _ c.loop-j.invariant c.in_ok-print_named_element.ensures
