use Rattle.std.proofs.Common.{◌≡◌, ◌≤◌, ◌+◌, ◌-◌, ◌++◌, length, drop, vec_len, vec_capacity}
use Rattle.std.specs.List.{zip}
use Rattle.hid_snapshots.specs.Events.{usages_at, control_at, down_event, downs, element_list_events}
use Rattle.hid_usages.proofs.view_changes.presses.Given as goal

abbrev pub invariant-loop-index : goal.invariant-loop-index
invariant-loop-index l =
    let us = usages_at l.layout l.item in
    let left =
    element_list_events (λ j u p. down_event (control_at l.item j) u p.0 p.1) l.from (drop l.from us)
    (drop l.from (zip l.before l.after)) in
    record {
      within : l.from ≤ length us;
      events : l.out.items ++ left ≡ l.fn.out.items ++ downs l.item us l.before l.after;
      room : vec_len l.out + length left ≤ vec_capacity l.out;
      same_room : vec_capacity l.out ≡ vec_capacity l.fn.out;
    }

abbrev pub decreases-loop-index : goal.decreases-loop-index
decreases-loop-index l = length (usages_at l.layout l.item) - l.from
