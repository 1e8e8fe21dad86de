use Rattle.std.proofs.Common.{◌≡◌, ◌≤◌, ◌+◌, ◌++◌, length, drop, vec_len, vec_capacity}
use Rattle.hid_layout.specs.Controls.{items_of}
use Rattle.hid_snapshots.specs.ControlStates.{blank}
use Rattle.hid_usages.specs.Dropping.{drops_from}
use Rattle.hid_usages.proofs.reset_events.all_changes_back_and_drops.Given as goal

abbrev pub invariant-loop-i : goal.invariant-loop-i
invariant-loop-i l =
    let items = items_of l.dropped.layout.now in
    let left = drops_from l.i l.dropped.report (drop l.i items) (drop l.i l.before) (drop l.i (blank items)) (drop l.i l.dropped.shown.now) in
    record {
      events : l.out.items ++ left ≡ l.fn.out.items ++ drops_from 0 l.dropped.report items l.before (blank items) l.dropped.shown.now;
      room : vec_len l.out + length left ≤ vec_capacity l.out;
      same_room : vec_capacity l.out ≡ vec_capacity l.fn.out;
    }
