use Rattle.std.proofs.Common.{◌≡◌, vec_len, vec_capacity}
use Rattle.hid_snapshots.proofs.PlanLemmas.{IsAlong}
use Rattle.hid_usages.proofs.TakeLemmas.{HasTaken}
use Rattle.hid_usages.proofs.take.take_items.Given as goal

abbrev pub invariant-loop-place : goal.invariant-loop-place
invariant-loop-place g l = record {
  along : IsAlong l.received.layout.now l.received.report l.place-index (HasTaken l.received.layout.now l.received.report l.received.bytes.now l.fn.states l.states l.fn.out.items l.out.items (vec_len l.out) (vec_capacity l.out));
  named : l.named ≡ l.fn.named;
  same_room : vec_capacity l.out ≡ vec_capacity l.fn.out;
}
