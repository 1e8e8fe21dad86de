use Rattle.std.proofs.Common.{◌∙◌, List, drop, ap, arith}
use Rattle.std.proofs.lemmas.List.{drop_all}
use Rattle.hid_layout.specs.Controls.{Item, items_of}
use Rattle.hid_snapshots.specs.ControlStates.{blank}
use Rattle.hid_snapshots.specs.Views.{changes_from}
use Rattle.hid_usages.proofs.EventLemmas.{all_appended, room_for, room_left, told}
use Rattle.hid_usages.proofs.ViewLemmas.{changes_from-next, room_at}
use Rattle.hid_usages.proofs.BackLemmas.{blank_there}
use Rattle.hid_usages.proofs.reset_events.all_changes_back.Goals as goal

pub item_changes_back-requires-clause-before : goal.item_changes_back-requires-clause-before
item_changes_back-requires-clause-before c = room_at _ _ _ c.loop-i.i c.state_at.result.now c.requires.before (omega arith) c.state_at.ensures

pub item_changes_back-requires-clause-none : goal.item_changes_back-requires-clause-none
item_changes_back-requires-clause-none c = record { places = c.requires.none.each c.loop-i.i c.state_at.result.now c.state_at.ensures; none = c.requires.none.none }

pub item_changes_back-requires-clause-room : goal.item_changes_back-requires-clause-room
item_changes_back-requires-clause-room c =
    let step = changes_from-next (items_of c.args.layout.now) c.args.before.now (blank (items_of c.args.layout.now)) c.loop-i.i c.state_at.result.now _ (omega arith) c.state_at.ensures (blank_there (items_of c.args.layout.now) c.loop-i.i (omega arith)) in
    room_for _ _ _ _ _ step c.loop-i.invariant.room

pub loop-i-preserved : goal.loop-i-preserved
loop-i-preserved c =
    let step = changes_from-next (items_of c.args.layout.now) c.args.before.now (blank (items_of c.args.layout.now)) c.loop-i.i c.state_at.result.now _ (omega arith) c.state_at.ensures (blank_there (items_of c.args.layout.now) c.loop-i.i (omega arith)) in
    record {
      events = told _ _ _ _ _ _ step c.loop-i.invariant.events c.item_changes_back.ensures.items;
      room = room_left _ _ _ _ _ _ _ step c.loop-i.invariant.room c.item_changes_back.ensures.len c.item_changes_back.ensures.room;
      same_room = c.item_changes_back.ensures.room ∙ c.loop-i.invariant.same_room;
    }

pub returns : goal.returns
returns c =
    all_appended _ _ _ _ (ap (λ (items : List Item). changes_from c.loop-i.i items (drop c.loop-i.i c.args.before.now) (drop c.loop-i.i (blank (items_of c.args.layout.now)))) (drop_all c.loop-i.i (items_of c.args.layout.now) (omega arith))) c.loop-i.invariant.events c.loop-i.invariant.same_room
