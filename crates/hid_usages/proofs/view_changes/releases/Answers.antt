use Rattle.std.proofs.Common.{◌≡◌, ◌+◌, ◌<◌, ◌≤◌, ◌∙◌, subst, ℕ, false, List, [], ◌∷◌, vec_len, vec_capacity, arith}
use Rattle.hid_snapshots.specs.declared.event.Event.{Event}
use Rattle.hid_snapshots.specs.declared.event.Event.TheVariants as event
use Rattle.hid_snapshots.specs.Words.{IsFirst, is_alone}
use Rattle.hid_snapshots.specs.Events.{usages_at, control_at, up_event}
use Rattle.hid_usages.proofs.EventLemmas.{all_appended, ups_by, each_next, each_done, room_for, room_left, told}
use Rattle.hid_usages.proofs.view_changes.releases.Goals as goal

pub usage_at-usage-requires : goal.usage_at-usage-requires
usage_at-usage-requires c = let high = c.in-Some.ensures.first.high in omega (arith, c.requires.before)

pub push_reserved-requires : goal.push_reserved-requires
push_reserved-requires c =
    let now : List Event = event.Up (control_at c.args.item c.in-Some.index) c.usage_at-usage.result ∷ [] in
    let room : vec_len c.loop-index.out + 1 ≤ vec_capacity c.loop-index.out = room_for _ _ _ now _ (each_next (λ j u p. up_event (control_at c.args.item j) u p.0 p.1) (is_alone c.args.before.now c.args.after.now) c.args.before.now c.args.after.now (λ j u. event.Up (control_at c.args.item j) u) (usages_at c.args.layout.now c.args.item) c.loop-index.from c.in-Some.index c.usage_at-usage.result (ups_by c.args.item c.args.before.now c.args.after.now) c.requires.before c.requires.after (subst (λ (n : ℕ). IsFirst (is_alone c.args.before.now c.args.after.now) c.loop-index.from n c.in-Some.index) c.requires.before c.in-Some.ensures.first) c.usage_at-usage.ensures) c.loop-index.invariant.room in
    omega arith

pub overflow_add-from : goal.overflow_add-from
overflow_add-from c = let behind = c.in-Some.ensures.behind in omega arith

pub loop-index-preserved : goal.loop-index-preserved
loop-index-preserved c =
    let now : List Event = event.Up (control_at c.args.item c.in-Some.index) c.usage_at-usage.result ∷ [] in
    let high = c.in-Some.ensures.first.high in
    let step = each_next (λ j u p. up_event (control_at c.args.item j) u p.0 p.1) (is_alone c.args.before.now c.args.after.now) c.args.before.now c.args.after.now (λ j u. event.Up (control_at c.args.item j) u) (usages_at c.args.layout.now c.args.item) c.loop-index.from c.in-Some.index c.usage_at-usage.result (ups_by c.args.item c.args.before.now c.args.after.now) c.requires.before c.requires.after (subst (λ (n : ℕ). IsFirst (is_alone c.args.before.now c.args.after.now) c.loop-index.from n c.in-Some.index) c.requires.before c.in-Some.ensures.first) c.usage_at-usage.ensures in
    record {
      within = omega (arith, c.requires.before);
      events = told _ _ _ _ now _ step c.loop-index.invariant.events c.push_reserved.ensures.items;
      room = room_left _ _ _ _ _ now _ step c.loop-index.invariant.room c.push_reserved.ensures.len c.push_reserved.ensures.capacity;
      same_room = c.push_reserved.ensures.capacity ∙ c.loop-index.invariant.same_room;
    }

pub returns : goal.returns
returns c =
    let done = each_done (λ j u p. up_event (control_at c.args.item j) u p.0 p.1) (is_alone c.args.before.now c.args.after.now) c.args.before.now c.args.after.now (λ j u. event.Up (control_at c.args.item j) u) (usages_at c.args.layout.now c.args.item) c.loop-index.from (ups_by c.args.item c.args.before.now c.args.after.now) c.requires.before c.requires.after c.loop-index.invariant.within (subst (λ (n : ℕ). (j : ℕ) → c.loop-index.from ≤ j → j < n → is_alone c.args.before.now c.args.after.now j ≡ false) c.requires.before c.in_default.ensures.first) in
    all_appended _ _ _ _ done c.loop-index.invariant.events c.loop-index.invariant.same_room
