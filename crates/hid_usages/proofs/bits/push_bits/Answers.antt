use Rattle.std.proofs.Common.{Some, None, ◌≡◌, ◌+◌, ◌<◌, ◌≤◌, ◌==◌, ◌∙◌, not, subst, sym, ap, ℕ, Bool, false, List, [], ◌∷◌, ◌++◌, drop, length, arith}
use Rattle.std.specs.Int.{bit_at}
use Rattle.std.specs.List.{zip}
use Rattle.hid_snapshots.specs.declared.event.Event.{Event}
use Rattle.hid_snapshots.specs.Words.{bits_in, is_unlike}
use Rattle.hid_snapshots.specs.Events.{usages_at, control_at, element_list_events, switch_event}
use Rattle.hid_snapshots.proofs.ItemLemmas.{got}
use Rattle.hid_snapshots.proofs.WordLemmas.{bits_in-length}
use Rattle.hid_usages.proofs.BitLemmas.{turned, turns, turns_by, unlike_first, unlike_found}
use Rattle.hid_usages.proofs.EventLemmas.{all_appended, each_next, each_done, room_for, room_left, told}
use Rattle.hid_usages.proofs.bits.push_bits.Goals as goal

pub is_bit-is_pressed-requires : goal.is_bit-is_pressed-requires
is_bit-is_pressed-requires c =
    let high = (unlike_first c.args.held.now c.args.pattern c.from.result (length (usages_at c.args.source.now.layout.now c.args.source.now.item)) c.loop-index.from c.in-Some.index c.from.ensures c.requires.held c.requires.fits (unlike_found c.args.held.now c.from.result c.unlike-unlike.result c.loop-index.from (Some c.in-Some.index) c.unlike-unlike.ensures c.in-Some.ensures)).high in
    omega (arith, c.requires.held, c.requires.few)

pub push_switch-requires-clause-index : goal.push_switch-requires-clause-index
push_switch-requires-clause-index c =
    (unlike_first c.args.held.now c.args.pattern c.from.result
    (length (usages_at c.args.source.now.layout.now c.args.source.now.item)) c.loop-index.from c.in-Some.index c.from.ensures c.requires.held c.requires.fits (unlike_found c.args.held.now c.from.result c.unlike-unlike.result c.loop-index.from (Some c.in-Some.index) c.unlike-unlike.ensures c.in-Some.ensures)).high

pub push_switch-requires-clause-room : goal.push_switch-requires-clause-room
push_switch-requires-clause-room c = λ usage here.
    let target = bits_in (length c.args.held.now) c.args.pattern in
    let us = usages_at c.args.source.now.layout.now c.args.source.now.item in
    let is_pressed = c.is_bit-is_pressed.result in
    let first = unlike_first c.args.held.now c.args.pattern c.from.result (length (usages_at c.args.source.now.layout.now c.args.source.now.item)) c.loop-index.from c.in-Some.index c.from.ensures c.requires.held c.requires.fits (unlike_found c.args.held.now c.from.result c.unlike-unlike.result c.loop-index.from (Some c.in-Some.index) c.unlike-unlike.ensures c.in-Some.ensures) in
    let next = each_next (λ j u p. switch_event (control_at c.args.source.now.item j) u p.0 p.1) (is_unlike c.args.held.now 0 c.args.pattern) c.args.held.now target (λ j u. turned (control_at c.args.source.now.item j) u (bit_at c.args.pattern j == 1)) us c.loop-index.from c.in-Some.index usage (turns_by c.args.source.now.item c.args.held.now c.args.pattern) c.requires.held (omega (arith, c.requires.held, bits_in-length (length c.args.held.now) c.args.pattern)) first here in
    let turn : turned (control_at c.args.source.now.item c.in-Some.index) usage (bit_at c.args.pattern c.in-Some.index == 1) ∷ [] ≡ switch_event (control_at c.args.source.now.item c.in-Some.index) usage (not is_pressed) is_pressed = ap (λ (b : Bool). turned (control_at c.args.source.now.item c.in-Some.index) usage b ∷ []) (sym c.is_bit-is_pressed.ensures) ∙ turns (control_at c.args.source.now.item c.in-Some.index) usage is_pressed in
    let step =
    next ∙ ap
    (λ (now : List Event). now
    ++ element_list_events (λ j u p. switch_event (control_at c.args.source.now.item j) u p.0 p.1) (c.in-Some.index + 1)
    (drop (c.in-Some.index + 1) us) (drop (c.in-Some.index + 1) (zip c.args.held.now target))) turn in
    room_for _ _ _ _ _ step c.loop-index.invariant.room

pub loop-index-smaller : goal.loop-index-smaller
loop-index-smaller c =
    let first = unlike_first c.args.held.now c.args.pattern c.from.result (length (usages_at c.args.source.now.layout.now c.args.source.now.item)) c.loop-index.from c.in-Some.index c.from.ensures c.requires.held c.requires.fits (unlike_found c.args.held.now c.from.result c.unlike-unlike.result c.loop-index.from (Some c.in-Some.index) c.unlike-unlike.ensures c.in-Some.ensures) in
    let high = first.high in
    let low = first.low in
    omega arith

pub loop-index-preserved : goal.loop-index-preserved
loop-index-preserved c =
    let target = bits_in (length c.args.held.now) c.args.pattern in
    let us = usages_at c.args.source.now.layout.now c.args.source.now.item in
    let is_pressed = c.is_bit-is_pressed.result in
    let first = unlike_first c.args.held.now c.args.pattern c.from.result (length (usages_at c.args.source.now.layout.now c.args.source.now.item)) c.loop-index.from c.in-Some.index c.from.ensures c.requires.held c.requires.fits (unlike_found c.args.held.now c.from.result c.unlike-unlike.result c.loop-index.from (Some c.in-Some.index) c.unlike-unlike.ensures c.in-Some.ensures) in
    let high = first.high in
    let u = got us c.in-Some.index high in
    let next = each_next (λ j u p. switch_event (control_at c.args.source.now.item j) u p.0 p.1) (is_unlike c.args.held.now 0 c.args.pattern) c.args.held.now target (λ j u. turned (control_at c.args.source.now.item j) u (bit_at c.args.pattern j == 1)) us c.loop-index.from c.in-Some.index u.0 (turns_by c.args.source.now.item c.args.held.now c.args.pattern) c.requires.held (omega (arith, c.requires.held, bits_in-length (length c.args.held.now) c.args.pattern)) first u.1 in
    let turn : turned (control_at c.args.source.now.item c.in-Some.index) u.0 (bit_at c.args.pattern c.in-Some.index == 1) ∷ [] ≡ switch_event (control_at c.args.source.now.item c.in-Some.index) u.0 (not is_pressed) is_pressed = ap (λ (b : Bool). turned (control_at c.args.source.now.item c.in-Some.index) u.0 b ∷ []) (sym c.is_bit-is_pressed.ensures) ∙ turns (control_at c.args.source.now.item c.in-Some.index) u.0 is_pressed in
    let step =
    next ∙ ap
    (λ (now : List Event). now
    ++ element_list_events (λ j u p. switch_event (control_at c.args.source.now.item j) u p.0 p.1) (c.in-Some.index + 1)
    (drop (c.in-Some.index + 1) us) (drop (c.in-Some.index + 1) (zip c.args.held.now target))) turn in
    let tells = c.push_switch.ensures u.0 u.1 in
    record {
      within = omega arith;
      events = told _ _ _ _ _ _ step c.loop-index.invariant.events tells.items;
      room = room_left _ _ _ _ _ _ _ step c.loop-index.invariant.room tells.len tells.room;
      same_room = tells.room ∙ c.loop-index.invariant.same_room;
    }

pub returns : goal.returns
returns c =
    let target = bits_in (length c.args.held.now) c.args.pattern in
    let none : (j : ℕ) → c.loop-index.from ≤ j → j < 64 → is_unlike c.args.held.now 0 c.args.pattern j ≡ false = subst (λ (w : ℕ). (j : ℕ) → c.loop-index.from ≤ j → j < 64 → is_unlike c.args.held.now 0 w j ≡ false) c.from.ensures (unlike_found c.args.held.now c.from.result c.unlike-unlike.result c.loop-index.from None c.unlike-unlike.ensures c.in_default.ensures) in
    let done = each_done (λ j u p. switch_event (control_at c.args.source.now.item j) u p.0 p.1) (is_unlike c.args.held.now 0 c.args.pattern) c.args.held.now target (λ j u. turned (control_at c.args.source.now.item j) u (bit_at c.args.pattern j == 1)) (usages_at c.args.source.now.layout.now c.args.source.now.item) c.loop-index.from (turns_by c.args.source.now.item c.args.held.now c.args.pattern) c.requires.held (omega (arith, c.requires.held, bits_in-length (length c.args.held.now) c.args.pattern)) c.loop-index.invariant.within (λ j low high. none j low (omega (arith, high, c.requires.held, c.requires.few))) in
    all_appended _ _ _ _ done c.loop-index.invariant.events c.loop-index.invariant.same_room
