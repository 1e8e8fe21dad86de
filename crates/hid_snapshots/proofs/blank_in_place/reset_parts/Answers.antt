use Rattle.std.proofs.Common.{arith}
use Rattle.hid_layout.specs.Controls.{items_of}
use Rattle.hid_snapshots.proofs.ResetLemmas.{reset_next}
use Rattle.hid_snapshots.proofs.blank_in_place.reset_parts.Goals as goal

pub loop-i-preserved : goal.loop-i-preserved
loop-i-preserved c =
    reset_next (items_of c.args.layout.now) c.args.parts.now c.loop-i.parts c.loop-i.i c.reset_part.new.part c.requires.one_each c.loop-i.invariant (omega arith) c.reset_part.ensures
