use Rattle.std.proofs.Common.{◌≡◌, ◌≤◌, ◌+◌, ◌-◌, ◌++◌, length, drop, vec_len, vec_capacity}
use Rattle.std.specs.List.{zip}
use Rattle.hid_snapshots.specs.Words.{bits_in}
use Rattle.hid_snapshots.specs.Events.{usages_at, control_at, switch_event, switch_events, element_list_events}
use Rattle.hid_usages.proofs.bits.push_bits.Given as goal

abbrev pub invariant-loop-index : goal.invariant-loop-index
invariant-loop-index l =
    let us = usages_at l.source.layout.now l.source.item in
    let target = bits_in (length l.held) l.pattern in
    let left =
    element_list_events (λ j u p. switch_event (control_at l.source.item j) u p.0 p.1) l.from (drop l.from us)
    (drop l.from (zip l.held target)) in
    record {
      within : l.from ≤ length us;
      events : l.out.items ++ left ≡ l.fn.out.items ++ switch_events l.source.item us l.held target;
      room : vec_len l.out + length left ≤ vec_capacity l.out;
      same_room : vec_capacity l.out ≡ vec_capacity l.fn.out;
    }

abbrev pub decreases-loop-index : goal.decreases-loop-index
decreases-loop-index l = length (usages_at l.source.layout.now l.source.item) - l.from
