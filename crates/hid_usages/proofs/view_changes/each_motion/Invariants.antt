use Rattle.std.proofs.Common.{◌≡◌, ◌≤◌, ◌+◌, ◌++◌, length, drop, vec_len, vec_capacity, map}
use Rattle.hid_usages.specs.Reading.{read_motion}
use Rattle.hid_snapshots.specs.Events.{usages_at, control_at, motion_event, motion_events, element_list_events}
use Rattle.hid_usages.proofs.view_changes.each_motion.Given as goal

abbrev pub invariant-loop-index : goal.invariant-loop-index
invariant-loop-index g l =
    let us = usages_at l.source.layout.now l.source.item in
    let left =
    element_list_events (λ j u m. motion_event (control_at l.source.item j) u m) l.index (drop l.index us)
    (drop l.index (map (read_motion l.bounds.least l.bounds.greatest) l.numbers)) in
    record {
      events : l.out.items ++ left ≡ l.fn.out.items ++ motion_events l.source.item us (map (read_motion l.bounds.least l.bounds.greatest) l.numbers);
      room : vec_len l.out + length left ≤ vec_capacity l.out;
      same_room : vec_capacity l.out ≡ vec_capacity l.fn.out;
    }
