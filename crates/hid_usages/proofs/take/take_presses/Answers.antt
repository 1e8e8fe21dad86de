use Rattle.std.proofs.Common.{◌≡◌, ◌∙◌, ◌+◌, ◌-◌, ◌*◌, ◌<◌, ◌≤◌, ◌==◌, ◌&&◌, inl, inr, not, sym, ap, ℕ, Bool, false, List, [], ◌∷◌, ◌++◌, take, drop, length, replicate, vec_len, vec_capacity, arith}
use Rattle.std.specs.Int.{bit_at}
use Rattle.std.specs.List.{zip}
use Rattle.std.proofs.lemmas.Bool.{cases_lt}
use Rattle.std.proofs.lemmas.Nat.Bits.{bit_at-zero}
use Rattle.std.proofs.lemmas.List.{length-take, length-replicate}
use Rattle.hid_snapshots.specs.declared.event.Event.{Event}
use Rattle.hid_snapshots.specs.declared.event.Event.TheVariants as event
use Rattle.hid_snapshots.specs.Words.{is_on, is_alone, IsFirst}
use Rattle.hid_snapshots.specs.Events.{usages_at, control_at, down_event, element_list_events}
use Rattle.hid_usages.proofs.EventLemmas.{each_next, each_until, downs_by, room_for, room_left, told}
use Rattle.hid_usages.proofs.HeldLemmas.{bit_first, bits_none, same_places, on_first}
use Rattle.hid_usages.proofs.RoomLemmas.{alone_within, off_past, off_at}
use Rattle.hid_usages.proofs.take.take_presses.Goals as goal

pub push_reserved-requires : goal.push_reserved-requires
push_reserved-requires c =
    let us = usages_at c.args.layout.now c.args.place in
    let place = c.args.place in
    let held = c.args.held.now in
    let named = c.args.named.now in
    let k = c.loop-k.k in
    let long : length us ≤ length named = omega (arith, c.requires.held, c.requires.places) in
    let same : (b : ℕ) → b < 64 → (bit_at c.alone-alone.result b == 1) ≡ is_alone named held (64 * k + b) = λ b h.
    c.alone-alone.ensures b h ∙ ap (λ (x : Bool). x && not (is_on c.loop-k.held (64 * k + b))) (c.loop-k.invariant.rest (64 * k + b) (omega arith))
    ∙ ap (λ (x : Bool). is_on named (64 * k + b) && not x) (c.loop-k.invariant.after (64 * k + b) (omega arith))
    in
    let from = c.loop-bit.from in
    let bit = c.in-Some.bit in
    let usage = c.usage_at-usage.result in
    let now : List Event = event.Down (control_at place (64 * k + bit)) usage ∷ [] in
    let first : IsFirst (is_alone named held) (64 * k + from) (length us) (64 * k + bit) = bit_first (is_alone named held) (λ b. bit_at c.alone-alone.result b == 1) k from (length us) bit same c.in-Some.ensures (λ j hit. alone_within named held (length us) j (λ i h. c.requires.others i (omega (arith, h, c.requires.held))) hit) in
    let next = each_next (λ j u p. down_event (control_at place j) u p.0 p.1) (is_alone named held) held named (λ j u. event.Down (control_at place j) u) us (64 * k + from) (64 * k + bit) usage (downs_by place held named) c.requires.held long first c.usage_at-usage.ensures in
    let room : vec_len c.loop-bit.out + 1 ≤ vec_capacity c.loop-bit.out = room_for _ _ _ now _ next c.loop-bit.invariant.room in
    omega arith

pub loop-bit-preserved : goal.loop-bit-preserved
loop-bit-preserved c =
    let us = usages_at c.args.layout.now c.args.place in
    let place = c.args.place in
    let held = c.args.held.now in
    let named = c.args.named.now in
    let k = c.loop-k.k in
    let long : length us ≤ length named = omega (arith, c.requires.held, c.requires.places) in
    let same : (b : ℕ) → b < 64 → (bit_at c.alone-alone.result b == 1) ≡ is_alone named held (64 * k + b) = λ b h.
    c.alone-alone.ensures b h ∙ ap (λ (x : Bool). x && not (is_on c.loop-k.held (64 * k + b))) (c.loop-k.invariant.rest (64 * k + b) (omega arith))
    ∙ ap (λ (x : Bool). is_on named (64 * k + b) && not x) (c.loop-k.invariant.after (64 * k + b) (omega arith))
    in
    let from = c.loop-bit.from in
    let bit = c.in-Some.bit in
    let usage = c.usage_at-usage.result in
    let now : List Event = event.Down (control_at place (64 * k + bit)) usage ∷ [] in
    let first : IsFirst (is_alone named held) (64 * k + from) (length us) (64 * k + bit) = bit_first (is_alone named held) (λ b. bit_at c.alone-alone.result b == 1) k from (length us) bit same c.in-Some.ensures (λ j hit. alone_within named held (length us) j (λ i h. c.requires.others i (omega (arith, h, c.requires.held))) hit) in
    let next = each_next (λ j u p. down_event (control_at place j) u p.0 p.1) (is_alone named held) held named (λ j u. event.Down (control_at place j) u) us (64 * k + from) (64 * k + bit) usage (downs_by place held named) c.requires.held long first c.usage_at-usage.ensures in
    let at : (64 * k + bit) + 1 ≡ 64 * k + (bit + 1) = omega arith in
    let step = next ∙ ap (λ (n : ℕ). now ++ element_list_events (λ j u p. down_event (control_at place j) u p.0 p.1) n (drop n us) (drop n (zip held named))) at in
    let high : bit < 64 = c.in-Some.ensures.high in
    record {
      high = omega arith;
      events = told _ _ _ _ now _ step c.loop-bit.invariant.events c.push_reserved.ensures.items;
      room = room_left _ _ _ _ _ now _ step c.loop-bit.invariant.room c.push_reserved.ensures.len c.push_reserved.ensures.capacity;
      same_room = c.push_reserved.ensures.capacity ∙ c.loop-bit.invariant.same_room;
    }

pub loop-k-preserved : goal.loop-k-preserved
loop-k-preserved c =
    let us = usages_at c.args.layout.now c.args.place in
    let place = c.args.place in
    let held = c.args.held.now in
    let named = c.args.named.now in
    let k = c.loop-k.k in
    let long : length us ≤ length named = omega (arith, c.requires.held, c.requires.places) in
    let same : (b : ℕ) → b < 64 → (bit_at c.alone-alone.result b == 1) ≡ is_alone named held (64 * k + b) = λ b h.
    c.alone-alone.ensures b h ∙ ap (λ (x : Bool). x && not (is_on c.loop-k.held (64 * k + b))) (c.loop-k.invariant.rest (64 * k + b) (omega arith))
    ∙ ap (λ (x : Bool). is_on named (64 * k + b) && not x) (c.loop-k.invariant.after (64 * k + b) (omega arith))
    in
    let off : (j : ℕ) → 64 * (k + 1) ≤ j → j < 64 * c.next_filled-k.result → is_on named j ≡ false = λ j a b.
    sym (c.loop-k.invariant.rest j (omega arith)) ∙ sym (c.put-in-loop-k.ensures.others j (λ e. absurd (omega (arith, e, a)))) ∙ c.next_filled-k.ensures.none j a b
    in
    let from = c.loop-bit.from in
    let quiet : element_list_events (λ j u p. down_event (control_at place j) u p.0 p.1) (64 * k + from) (drop (64 * k + from) us) (drop (64 * k + from) (zip held named)) ≡ element_list_events (λ j u p. down_event (control_at place j) u p.0 p.1) (64 * c.next_filled-k.result) (drop (64 * c.next_filled-k.result) us) (drop (64 * c.next_filled-k.result) (zip held named)) =
    each_until (λ j u p. down_event (control_at place j) u p.0 p.1) (is_alone named held) held named (λ j u. event.Down (control_at place j) u) us (64 * k + from) (64 * c.next_filled-k.result) (downs_by place held named) c.requires.held long (omega (arith, c.loop-bit.invariant.high, c.next_filled-k.ensures.low))
    (λ j low high. elim (cases_lt j (64 * (k + 1))) [
      | inl before ↦ bits_none (is_alone named held) (λ b. bit_at c.alone-alone.result b == 1) k from j same c.in_default.ensures low before
      | inr after ↦ ap (λ (x : Bool). x && not (is_on held j)) (off j after high)
    ]) in
    record {
      events = ap (λ (es : List Event). c.loop-bit.out.items ++ es) (sym quiet) ∙ c.loop-bit.invariant.events;
      room = omega (arith, c.loop-bit.invariant.room, ap (λ (es : List Event). length es) quiet);
      same_room = c.loop-bit.invariant.same_room;
      before = λ i h. elim (cases_lt i (64 * k)) [
        | inl low ↦ c.put.ensures.others i (λ e. absurd (omega (arith, e, low))) ∙ c.loop-k.invariant.before i low
        | inr up ↦ elim (cases_lt i (64 * (k + 1))) [
          | inl here ↦
              let at : 64 * k + (i - 64 * k) ≡ i = omega arith in
              let low : i - 64 * k < 64 = omega arith in
              ap (is_on c.put.new.self) (sym at) ∙ c.put.ensures.here (i - 64 * k) low ∙ c.word.ensures (i - 64 * k) low ∙ ap (is_on c.loop-k.named) at ∙ c.loop-k.invariant.rest i up
          | inr past ↦
              c.put.ensures.others i (λ e. absurd (omega (arith, e, past))) ∙ c.loop-k.invariant.after i up ∙ c.requires.kept i (off i past h) ∙ sym (off i past h)
        ]
      ];
      after = λ i h. c.put.ensures.others i (λ e. absurd (omega (arith, e, h, c.next_filled-k.ensures.low))) ∙ c.loop-k.invariant.after i (omega (arith, h, c.next_filled-k.ensures.low));
      len = c.put.ensures.len ∙ c.loop-k.invariant.len;
      none = λ i h. elim (cases_lt i (64 * k)) [
        | inl low ↦ c.put-in-loop-k.ensures.others i (λ e. absurd (omega (arith, e, low))) ∙ c.loop-k.invariant.none i low
        | inr up ↦ elim (cases_lt i (64 * (k + 1))) [
          | inl here ↦
              let at : 64 * k + (i - 64 * k) ≡ i = omega arith in
              ap (is_on c.put-in-loop-k.new.self) (sym at) ∙ c.put-in-loop-k.ensures.here (i - 64 * k) (omega arith) ∙ ap (λ (b : ℕ). b == 1) (bit_at-zero (i - 64 * k))
          | inr past ↦ c.next_filled-k.ensures.none i past h
        ]
      ];
      rest = λ i h. c.put-in-loop-k.ensures.others i (λ e. absurd (omega (arith, e, h, c.next_filled-k.ensures.low))) ∙ c.loop-k.invariant.rest i (omega (arith, h, c.next_filled-k.ensures.low));
      named_len = c.put-in-loop-k.ensures.len ∙ c.loop-k.invariant.named_len;
    }

pub returns-clause-held : goal.returns-clause-held
returns-clause-held c =
    let held = c.args.held.now in
    let named = c.args.named.now in
    same_places c.loop-k.held (take (length held) named) (omega (arith, c.loop-k.invariant.len, length-take (length held) named, c.requires.places))
    (λ i. elim (cases_lt i (64 * c.loop-k.k)) [
      | inl low ↦ c.loop-k.invariant.before i low
      | inr past ↦
          let behind : length held ≤ i = omega (arith, past, c.loop-k-test.false, c.word_count.ensures.value, c.loop-k.invariant.len) in
          c.loop-k.invariant.after i past ∙ off_past held i behind ∙ sym (c.requires.others i behind)
    ] ∙ sym (on_first (length held) named i c.requires.others))

pub returns-clause-named : goal.returns-clause-named
returns-clause-named c =
    let held = c.args.held.now in
    let named = c.args.named.now in
    same_places c.loop-k.named (replicate (length named) false) (c.loop-k.invariant.named_len ∙ sym (length-replicate (length named) false))
    (λ i. elim (cases_lt i (64 * c.loop-k.k)) [
      | inl low ↦ c.loop-k.invariant.none i low
      | inr past ↦
          let behind : length held ≤ i = omega (arith, past, c.loop-k-test.false, c.word_count.ensures.value, c.loop-k.invariant.len) in
          c.loop-k.invariant.rest i past ∙ c.requires.others i behind
    ] ∙ sym (off_at (length named) i))
