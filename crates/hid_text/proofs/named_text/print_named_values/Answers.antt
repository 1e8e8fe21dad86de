use Rattle.hid_text.specs.NamedText.{named_values_at}
use Rattle.hid_text.proofs.LayoutLemmas.{joined_next}
use Rattle.hid_text.proofs.named_text.print_named_values.Goals as goal

pub loop-i-preserved : goal.loop-i-preserved
loop-i-preserved c = joined_next (named_values_at c.args.layout.now c.args.r c.args.bytes.now) c.loop-i.i _ _ _ c.loop-i.invariant c.in_ok-print_named_values_at.ensures
