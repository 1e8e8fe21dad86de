use Rattle.std.proofs.Common.{◌≡◌, take, length, vec_capacity}
use Rattle.hid_layout.specs.Controls.{items_of}
use Rattle.hid_snapshots.specs.ControlStates.{blank}
use Rattle.hid_snapshots.proofs.blank.blank_states.Given as goal

abbrev pub invariant-loop-i : goal.invariant-loop-i
invariant-loop-i l = record {
  states : l.states.items ≡ blank (take l.i (items_of l.layout));
  count_is : l.count ≡ length (items_of l.layout);
  long : length l.states.items ≡ l.i;
  room : vec_capacity l.states ≡ l.count;
}
