use Rattle.std.proofs.Common.{◌∙◌, arith}
use Rattle.hid_snapshots.proofs.ResetLemmas.{fill_more}
use Rattle.hid_snapshots.proofs.blank_in_place.fill.Goals as goal

pub loop-j-preserved : goal.loop-j-preserved
loop-j-preserved c = c.set.ensures ∙ fill_more c.args.values.now c.loop-j.values c.loop-j.j c.args.value c.loop-j.invariant (omega arith)
