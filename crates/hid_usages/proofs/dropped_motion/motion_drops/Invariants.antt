use Rattle.std.proofs.Common.{◌≡◌, ◌≤◌, ◌+◌, ◌++◌, length, drop, vec_len, vec_capacity}
use Rattle.hid_snapshots.specs.Events.{usages_at, control_at, element_list_events}
use Rattle.hid_snapshots.specs.Snapshots.{state_at}
use Rattle.hid_usages.specs.Dropping.{motions_in, drop_event, drop_events}
use Rattle.hid_usages.proofs.dropped_motion.motion_drops.Given as goal

abbrev pub invariant-loop-index : goal.invariant-loop-index
invariant-loop-index l =
    let us = usages_at l.dropped.layout.now l.item in
    let ms = motions_in (state_at l.dropped.shown.now l.item) in
    let left =
    element_list_events (λ j u m. drop_event (control_at l.item j) u m) l.index (drop l.index us) (drop l.index ms) in
    record {
      events : l.out.items ++ left ≡ l.fn.out.items ++ drop_events l.item us ms;
      room : vec_len l.out + length left ≤ vec_capacity l.out;
      same_room : vec_capacity l.out ≡ vec_capacity l.fn.out;
    }
