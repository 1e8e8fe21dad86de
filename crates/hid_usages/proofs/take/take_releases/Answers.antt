use Rattle.std.proofs.Common.{◌≡◌, ◌∙◌, ◌+◌, ◌-◌, ◌*◌, ◌<◌, ◌≤◌, ◌==◌, ◌&&◌, inl, inr, not, sym, ap, ℕ, Bool, false, List, [], ◌∷◌, ◌++◌, drop, length, vec_len, vec_capacity, arith}
use Rattle.std.specs.Int.{bit_at}
use Rattle.std.specs.List.{zip}
use Rattle.std.proofs.lemmas.Bool.{cases_lt}
use Rattle.hid_snapshots.specs.declared.event.Event.{Event}
use Rattle.hid_snapshots.specs.declared.event.Event.TheVariants as event
use Rattle.hid_snapshots.specs.Words.{is_on, is_alone, IsFirst}
use Rattle.hid_snapshots.specs.Events.{usages_at, control_at, up_event, element_list_events}
use Rattle.hid_usages.proofs.EventLemmas.{each_next, each_until, ups_by, room_for, room_left, told}
use Rattle.hid_usages.proofs.HeldLemmas.{bit_first, bits_none}
use Rattle.hid_usages.proofs.RoomLemmas.{alone_within, off_past}
use Rattle.hid_usages.proofs.take.take_releases.Goals as goal

pub push_reserved-requires : goal.push_reserved-requires
push_reserved-requires c =
    let us = usages_at c.args.layout.now c.args.place in
    let place = c.args.place in
    let held = c.args.held.now in
    let named = c.args.named.now in
    let k = c.loop-k.k in
    let long : length us ≤ length named = omega (arith, c.requires.held, c.requires.places) in
    let same : (b : ℕ) → b < 64 → (bit_at c.alone-alone.result b == 1) ≡ is_alone held named (64 * k + b) = λ b h.
    c.alone-alone.ensures b h ∙ ap (λ (x : Bool). x && not (is_on named (64 * k + b))) (c.loop-k.invariant.after (64 * k + b) (omega arith))
    in
    let from = c.loop-bit.from in
    let bit = c.in-Some.bit in
    let usage = c.usage_at-usage.result in
    let now : List Event = event.Up (control_at place (64 * k + bit)) usage ∷ [] in
    let first : IsFirst (is_alone held named) (64 * k + from) (length us) (64 * k + bit) = bit_first (is_alone held named) (λ b. bit_at c.alone-alone.result b == 1) k from (length us) bit same c.in-Some.ensures (λ j hit. alone_within held named (length us) j (λ i h. off_past held i (omega (arith, h, c.requires.held))) hit) in
    let next = each_next (λ j u p. up_event (control_at place j) u p.0 p.1) (is_alone held named) held named (λ j u. event.Up (control_at place j) u) us (64 * k + from) (64 * k + bit) usage (ups_by place held named) c.requires.held long first c.usage_at-usage.ensures in
    let room : vec_len c.loop-bit.out + 1 ≤ vec_capacity c.loop-bit.out = room_for _ _ _ now _ next c.loop-bit.invariant.room in
    omega arith

pub loop-bit-preserved : goal.loop-bit-preserved
loop-bit-preserved c =
    let us = usages_at c.args.layout.now c.args.place in
    let place = c.args.place in
    let held = c.args.held.now in
    let named = c.args.named.now in
    let k = c.loop-k.k in
    let long : length us ≤ length named = omega (arith, c.requires.held, c.requires.places) in
    let same : (b : ℕ) → b < 64 → (bit_at c.alone-alone.result b == 1) ≡ is_alone held named (64 * k + b) = λ b h.
    c.alone-alone.ensures b h ∙ ap (λ (x : Bool). x && not (is_on named (64 * k + b))) (c.loop-k.invariant.after (64 * k + b) (omega arith))
    in
    let from = c.loop-bit.from in
    let bit = c.in-Some.bit in
    let usage = c.usage_at-usage.result in
    let now : List Event = event.Up (control_at place (64 * k + bit)) usage ∷ [] in
    let first : IsFirst (is_alone held named) (64 * k + from) (length us) (64 * k + bit) = bit_first (is_alone held named) (λ b. bit_at c.alone-alone.result b == 1) k from (length us) bit same c.in-Some.ensures (λ j hit. alone_within held named (length us) j (λ i h. off_past held i (omega (arith, h, c.requires.held))) hit) in
    let next = each_next (λ j u p. up_event (control_at place j) u p.0 p.1) (is_alone held named) held named (λ j u. event.Up (control_at place j) u) us (64 * k + from) (64 * k + bit) usage (ups_by place held named) c.requires.held long first c.usage_at-usage.ensures in
    let at : (64 * k + bit) + 1 ≡ 64 * k + (bit + 1) = omega arith in
    let step = next ∙ ap (λ (n : ℕ). now ++ element_list_events (λ j u p. up_event (control_at place j) u p.0 p.1) n (drop n us) (drop n (zip held named))) at in
    let high : bit < 64 = c.in-Some.ensures.high in
    record {
      high = omega arith;
      events = told _ _ _ _ now _ step c.loop-bit.invariant.events c.push_reserved.ensures.items;
      room = room_left _ _ _ _ _ now _ step c.loop-bit.invariant.room c.push_reserved.ensures.len c.push_reserved.ensures.capacity;
      same_room = c.push_reserved.ensures.capacity ∙ c.loop-bit.invariant.same_room;
    }

pub put-requires-clause-fits : goal.put-requires-clause-fits
put-requires-clause-fits c = λ b h past.
    let off : is_on c.loop-k.held (64 * c.loop-k.k + b) ≡ false = off_past c.loop-k.held (64 * c.loop-k.k + b) past in
    c.common.ensures b h ∙ ap (λ (x : Bool). x && is_on c.args.named.now (64 * c.loop-k.k + b)) off

pub loop-k-preserved : goal.loop-k-preserved
loop-k-preserved c =
    let us = usages_at c.args.layout.now c.args.place in
    let place = c.args.place in
    let held = c.args.held.now in
    let named = c.args.named.now in
    let k = c.loop-k.k in
    let long : length us ≤ length named = omega (arith, c.requires.held, c.requires.places) in
    let same : (b : ℕ) → b < 64 → (bit_at c.alone-alone.result b == 1) ≡ is_alone held named (64 * k + b) = λ b h.
    c.alone-alone.ensures b h ∙ ap (λ (x : Bool). x && not (is_on named (64 * k + b))) (c.loop-k.invariant.after (64 * k + b) (omega arith))
    in
    let off : (j : ℕ) → 64 * (k + 1) ≤ j → j < 64 * c.next_filled-k.result → is_on held j ≡ false = λ j a b.
    sym (c.loop-k.invariant.after j (omega arith)) ∙ sym (c.put.ensures.others j (λ e. absurd (omega (arith, e, a)))) ∙ c.next_filled-k.ensures.none j a b
    in
    let from = c.loop-bit.from in
    let quiet : element_list_events (λ j u p. up_event (control_at place j) u p.0 p.1) (64 * k + from) (drop (64 * k + from) us) (drop (64 * k + from) (zip held named)) ≡ element_list_events (λ j u p. up_event (control_at place j) u p.0 p.1) (64 * c.next_filled-k.result) (drop (64 * c.next_filled-k.result) us) (drop (64 * c.next_filled-k.result) (zip held named)) =
    each_until (λ j u p. up_event (control_at place j) u p.0 p.1) (is_alone held named) held named (λ j u. event.Up (control_at place j) u) us (64 * k + from) (64 * c.next_filled-k.result) (ups_by place held named) c.requires.held long (omega (arith, c.loop-bit.invariant.high, c.next_filled-k.ensures.low))
    (λ j low high. elim (cases_lt j (64 * (k + 1))) [
      | inl before ↦ bits_none (is_alone held named) (λ b. bit_at c.alone-alone.result b == 1) k from j same c.in_default.ensures low before
      | inr after ↦ ap (λ (x : Bool). x && not (is_on named j)) (off j after high)
    ]) in
    record {
      events = ap (λ (es : List Event). c.loop-bit.out.items ++ es) (sym quiet) ∙ c.loop-bit.invariant.events;
      room = omega (arith, c.loop-bit.invariant.room, ap (λ (es : List Event). length es) quiet);
      same_room = c.loop-bit.invariant.same_room;
      before = λ i h. elim (cases_lt i (64 * k)) [
        | inl low ↦ c.put.ensures.others i (λ e. absurd (omega (arith, e, low))) ∙ c.loop-k.invariant.before i low
        | inr up ↦ elim (cases_lt i (64 * (k + 1))) [
          | inl here ↦
              let at : 64 * k + (i - 64 * k) ≡ i = omega arith in
              let low : i - 64 * k < 64 = omega arith in
              ap (is_on c.put.new.self) (sym at) ∙ c.put.ensures.here (i - 64 * k) low ∙ c.common.ensures (i - 64 * k) low ∙ ap (λ (j : ℕ). is_on c.loop-k.held j && is_on named j) at
              ∙ ap (λ (x : Bool). x && is_on named i) (c.loop-k.invariant.after i up)
          | inr past ↦ c.next_filled-k.ensures.none i past h ∙ sym (ap (λ (x : Bool). x && is_on named i) (off i past h))
        ]
      ];
      after = λ i h. c.put.ensures.others i (λ e. absurd (omega (arith, e, h, c.next_filled-k.ensures.low))) ∙ c.loop-k.invariant.after i (omega (arith, h, c.next_filled-k.ensures.low));
      len = c.put.ensures.len ∙ c.loop-k.invariant.len;
    }

pub returns-clause-held : goal.returns-clause-held
returns-clause-held c = λ i.
    let held = c.args.held.now in
    let named = c.args.named.now in
    elim (cases_lt i (64 * c.loop-k.k)) [
      | inl low ↦ c.loop-k.invariant.before i low
      | inr past ↦
          let off : is_on held i ≡ false = off_past held i (omega (arith, past, c.loop-k-test.false, c.word_count.ensures.value, c.loop-k.invariant.len)) in
          c.loop-k.invariant.after i past ∙ off ∙ sym (ap (λ (x : Bool). x && is_on named i) off)
    ]
