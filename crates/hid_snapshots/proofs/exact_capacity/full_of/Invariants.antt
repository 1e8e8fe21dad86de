use Rattle.std.proofs.Common.{◌≡◌, replicate, vec_capacity}
use Rattle.hid_snapshots.proofs.exact_capacity.full_of.Given as goal

abbrev pub invariant-loop : goal.invariant-loop
invariant-loop g l = record {
  items : l.items.items ≡ replicate l.counter l.item;
  room : vec_capacity l.items ≡ l.count;
}
