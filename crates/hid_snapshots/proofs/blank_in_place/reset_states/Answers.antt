use Rattle.std.proofs.Common.{arith}
use Rattle.hid_layout.specs.Controls.{items_of}
use Rattle.hid_snapshots.proofs.ResetLemmas.{blank_next}
use Rattle.hid_snapshots.proofs.blank_in_place.reset_states.Goals as goal

pub loop-i-preserved : goal.loop-i-preserved
loop-i-preserved c =
    blank_next (items_of c.args.layout.now) c.args.states.now c.loop-i.states c.loop-i.i c.reset_state.new.state c.requires.one_each c.loop-i.invariant (omega arith) c.reset_state.ensures
