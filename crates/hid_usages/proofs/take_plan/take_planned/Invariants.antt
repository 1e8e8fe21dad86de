use Rattle.std.proofs.Common.{◌≡◌, ◌≤◌, ◌-◌, length, vec_len, vec_capacity}
use Rattle.hid_snapshots.proofs.PlanLemmas.{IsAlong}
use Rattle.hid_usages.proofs.TakeLemmas.{HasTaken}
use Rattle.hid_usages.proofs.take_plan.take_planned.Given as goal

abbrev pub invariant-loop-k : goal.invariant-loop-k
invariant-loop-k g l = record {
  along : IsAlong l.received.layout.now l.received.report l.from (HasTaken l.received.layout.now l.received.report l.received.bytes.now l.fn.states l.states l.fn.out.items l.out.items (vec_len l.out) (vec_capacity l.out));
  named : l.named ≡ l.fn.named;
  same_room : vec_capacity l.out ≡ vec_capacity l.fn.out;
  within : l.from ≤ length l.plan.items.items;
}

abbrev pub decreases-loop-k : goal.decreases-loop-k
decreases-loop-k g l = length l.plan.items.items - l.from
