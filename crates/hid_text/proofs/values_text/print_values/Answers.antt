use Rattle.hid_text.specs.ValuesText.{values_at}
use Rattle.hid_text.proofs.LayoutLemmas.{joined_next}
use Rattle.hid_text.proofs.values_text.print_values.Goals as goal

pub loop-i-preserved : goal.loop-i-preserved
loop-i-preserved c = joined_next (values_at c.args.layout.now c.args.r c.args.bytes.now) c.loop-i.i _ _ _ c.loop-i.invariant c.in_ok-print_values_at.ensures
