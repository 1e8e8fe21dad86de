use Rattle.std.proofs.Common.{◌≡◌, ◌++◌, take, drop}
use Rattle.hid_layout.specs.Controls.{items_of}
use Rattle.hid_snapshots.specs.ControlStates.{blank}
use Rattle.hid_snapshots.proofs.blank_in_place.reset_states.Given as goal

abbrev pub invariant-loop-i : goal.invariant-loop-i
invariant-loop-i l = l.states ≡ take l.i (blank (items_of l.layout)) ++ drop l.i l.fn.states
