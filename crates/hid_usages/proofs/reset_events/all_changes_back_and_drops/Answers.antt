use Rattle.std.proofs.Common.{◌∙◌, List, Option, ap, drop, subst, sym, arith, rules}
use Rattle.std.specs.Prelude.{unwrap_or}
use Rattle.std.proofs.lemmas.List.{drop_all}
use Rattle.hid_layout.specs.Controls.{Item, controls_of_form, form_at, items_of}
use Rattle.hid_snapshots.specs.declared.control_state.ControlState.{ControlState}
use Rattle.hid_snapshots.specs.declared.control_state.ControlState.TheVariants.{Absent}
use Rattle.hid_snapshots.specs.ControlStates.{HasRoom, blank}
use Rattle.hid_usages.specs.Dropping.{drops_from}
use Rattle.hid_snapshots.proofs.ItemLemmas.{got}
use Rattle.hid_usages.proofs.DropLemmas.{drops_from-next}
use Rattle.hid_usages.proofs.EventLemmas.{all_appended, room_for, room_left, told}
use Rattle.hid_usages.proofs.ViewLemmas.{room_at}
use Rattle.hid_usages.proofs.BackLemmas.{blank_there}
use Rattle.hid_usages.proofs.reset_events.all_changes_back_and_drops.Goals as goal

pub item_changes_back_and_drops-requires-clause-room : goal.item_changes_back_and_drops-requires-clause-room
item_changes_back_and_drops-requires-clause-room c =
    let part = got c.args.dropped.now.shown.now c.loop-i.i (let same = c.requires.shown.one_each in omega arith) in
    let step = drops_from-next (items_of c.args.dropped.now.layout.now) c.args.dropped.now.report c.args.before.now (blank (items_of c.args.dropped.now.layout.now)) c.args.dropped.now.shown.now c.loop-i.i _ _ part.0 (omega arith) c.state_at.ensures (blank_there (items_of c.args.dropped.now.layout.now) c.loop-i.i (omega arith)) part.1 in
    room_for _ _ _ _ _ step c.loop-i.invariant.room

pub loop-i-preserved : goal.loop-i-preserved
loop-i-preserved c =
    let part = got c.args.dropped.now.shown.now c.loop-i.i (let same = c.requires.shown.one_each in omega arith) in
    let step = drops_from-next (items_of c.args.dropped.now.layout.now) c.args.dropped.now.report c.args.before.now (blank (items_of c.args.dropped.now.layout.now)) c.args.dropped.now.shown.now c.loop-i.i _ _ part.0 (omega arith) c.state_at.ensures (blank_there (items_of c.args.dropped.now.layout.now) c.loop-i.i (omega arith)) part.1 in
    record {
      events = told _ _ _ _ _ _ step c.loop-i.invariant.events c.item_changes_back_and_drops.ensures.items;
      room = room_left _ _ _ _ _ _ _ step c.loop-i.invariant.room c.item_changes_back_and_drops.ensures.len c.item_changes_back_and_drops.ensures.room;
      same_room = c.item_changes_back_and_drops.ensures.room ∙ c.loop-i.invariant.same_room;
    }

pub item_changes_back_and_drops-requires-clause-none : goal.item_changes_back_and_drops-requires-clause-none
item_changes_back_and_drops-requires-clause-none c = record { places = c.requires.none.each c.loop-i.i c.state_at.result.now c.state_at.ensures; none = c.requires.none.none }

pub item_changes_back_and_drops-requires-clause-before : goal.item_changes_back_and_drops-requires-clause-before
item_changes_back_and_drops-requires-clause-before c = room_at _ _ _ c.loop-i.i c.state_at.result.now c.requires.before (omega arith) c.state_at.ensures

pub item_changes_back_and_drops-requires-clause-drops : goal.item_changes_back_and_drops-requires-clause-drops
item_changes_back_and_drops-requires-clause-drops c =
    let part = got c.args.dropped.now.shown.now c.loop-i.i (let same = c.requires.shown.one_each in omega arith) in
    record {
      input = c.requires.input;
      listed = search rules;
      part = subst (λ (o : Option ControlState). HasRoom
          (controls_of_form (form_at (items_of c.args.dropped.now.layout.now) c.loop-i.i)) (unwrap_or o Absent))
          (sym part.1)
          (room_at _ _ _ c.loop-i.i part.0 c.requires.shown (omega arith) part.1);
    }

pub returns : goal.returns
returns c =
    all_appended _ _ _ _ (ap (λ (items : List Item). drops_from c.loop-i.i c.args.dropped.now.report items (drop c.loop-i.i c.args.before.now) (drop c.loop-i.i (blank (items_of c.args.dropped.now.layout.now))) (drop c.loop-i.i c.args.dropped.now.shown.now)) (drop_all c.loop-i.i (items_of c.args.dropped.now.layout.now) (omega arith))) c.loop-i.invariant.events c.loop-i.invariant.same_room
