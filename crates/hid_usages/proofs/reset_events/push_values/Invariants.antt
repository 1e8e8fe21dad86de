use Rattle.std.proofs.Common.{◌≡◌, ◌≤◌, ◌+◌, ◌++◌, length, replicate, drop, vec_len, vec_capacity}
use Rattle.std.specs.List.{zip}
use Rattle.hid_snapshots.specs.Events.{usages_at, control_at, value_event, value_events, element_list_events}
use Rattle.hid_usages.proofs.reset_events.push_values.Given as goal

abbrev pub invariant-loop-index : goal.invariant-loop-index
invariant-loop-index l =
    let us = usages_at l.layout l.item in
    let left =
    element_list_events (λ j u p. value_event (control_at l.item j) u p.0 p.1) l.index (drop l.index us)
    (drop l.index (zip l.before (replicate (length l.before) l.after))) in
    record {
      events : l.out.items ++ left ≡ l.fn.out.items ++ value_events l.item us l.before (replicate (length l.before) l.after);
      room : vec_len l.out + length left ≤ vec_capacity l.out;
      same_room : vec_capacity l.out ≡ vec_capacity l.fn.out;
    }
