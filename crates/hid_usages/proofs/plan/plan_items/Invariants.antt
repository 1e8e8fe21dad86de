use Rattle.std.proofs.Common.{◌≡◌, All, length, map, take, vec_len, vec_capacity}
use Rattle.hid_usages.specs.Plans.{place_of, IsPlannedItem}
use Rattle.hid_usages.proofs.plan.plan_items.Given as goal

abbrev pub invariant-loop-place : goal.invariant-loop-place
invariant-loop-place l = record {
  places : map place_of l.items.items ≡ take l.place-index l.places;
  each : All (IsPlannedItem l.layout) l.items.items;
  count : vec_len l.items ≡ l.place-index;
  room : vec_capacity l.items ≡ length l.places;
}
