use Rattle.std.proofs.Common.{◌≡◌, ◌≤◌, ◌+◌, ◌++◌, length, drop, vec_len, vec_capacity}
use Rattle.hid_layout.specs.Controls.{items_of}
use Rattle.hid_snapshots.specs.Views.{changes_from, changes_between}
use Rattle.hid_usages.proofs.view_changes.all_changes.Given as goal

abbrev pub invariant-loop-i : goal.invariant-loop-i
invariant-loop-i l =
    let left = changes_from l.i (drop l.i (items_of l.layout)) (drop l.i l.before) (drop l.i l.after) in
    record {
      events : l.out.items ++ left ≡ l.fn.out.items ++ changes_between (items_of l.layout) l.before l.after;
      room : vec_len l.out + length left ≤ vec_capacity l.out;
      same_room : vec_capacity l.out ≡ vec_capacity l.fn.out;
    }
