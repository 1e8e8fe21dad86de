use Rattle.std.proofs.Common.{◌≡◌, take, length, vec_capacity}
use Rattle.hid_snapshots.proofs.exact_capacity.full_from.Given as goal

abbrev pub invariant-loop-item : goal.invariant-loop-item
invariant-loop-item g l = record {
  items : l.items.items ≡ take l.item-index l.from;
  room : vec_capacity l.items ≡ length l.from;
}
