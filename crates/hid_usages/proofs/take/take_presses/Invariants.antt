use Rattle.std.proofs.Common.{◌≡◌, ℕ, ◌+◌, ◌-◌, ◌*◌, ◌<◌, ◌≤◌, ◌++◌, false, length, drop, vec_len, vec_capacity}
use Rattle.std.specs.Int.{div_ceil}
use Rattle.std.specs.List.{zip}
use Rattle.hid_snapshots.specs.Events.{usages_at, control_at, down_event, downs, element_list_events}
use Rattle.hid_snapshots.specs.Words.{is_on}
use Rattle.hid_usages.proofs.take.take_presses.Given as goal

abbrev pub invariant-loop-k : goal.invariant-loop-k
invariant-loop-k l =
    let us = usages_at l.layout l.place in
    let left = element_list_events (λ j u p. down_event (control_at l.place j) u p.0 p.1) (64 * l.k) (drop (64 * l.k) us) (drop (64 * l.k) (zip l.fn.held l.fn.named)) in
    record {
      events : l.out.items ++ left ≡ l.fn.out.items ++ downs l.place us l.fn.held l.fn.named;
      room : vec_len l.out + length left ≤ vec_capacity l.out;
      same_room : vec_capacity l.out ≡ vec_capacity l.fn.out;
      before : (i : ℕ) → i < 64 * l.k → is_on l.held i ≡ is_on l.fn.named i;
      after : (i : ℕ) → 64 * l.k ≤ i → is_on l.held i ≡ is_on l.fn.held i;
      len : length l.held ≡ length l.fn.held;
      none : (i : ℕ) → i < 64 * l.k → is_on l.named i ≡ false;
      rest : (i : ℕ) → 64 * l.k ≤ i → is_on l.named i ≡ is_on l.fn.named i;
      named_len : length l.named ≡ length l.fn.named;
    }

abbrev pub decreases-loop-k : goal.decreases-loop-k
decreases-loop-k l = div_ceil (length l.fn.held) 64 - l.k

abbrev pub invariant-loop-bit : goal.invariant-loop-bit
invariant-loop-bit l =
    let us = usages_at l.layout l.place in
    let left = element_list_events (λ j u p. down_event (control_at l.place j) u p.0 p.1) (64 * l.k + l.from) (drop (64 * l.k + l.from) us) (drop (64 * l.k + l.from) (zip l.fn.held l.fn.named)) in
    record {
      high : l.from ≤ 64;
      events : l.out.items ++ left ≡ l.fn.out.items ++ downs l.place us l.fn.held l.fn.named;
      room : vec_len l.out + length left ≤ vec_capacity l.out;
      same_room : vec_capacity l.out ≡ vec_capacity l.fn.out;
    }

abbrev pub decreases-loop-bit : goal.decreases-loop-bit
decreases-loop-bit l = 64 - l.from
