use Rattle.hid_layout.specs.Controls.{items_of, form_at, controls_of_form}
use Rattle.hid_snapshots.specs.ControlStates.{blank_state}
use Rattle.hid_snapshots.specs.Events.{change_events}
use Rattle.hid_usages.specs.Dropping.{drops_at}
use Rattle.hid_usages.proofs.EventLemmas.{space_first, space_second, both_appended}
use Rattle.hid_usages.proofs.reset_events.item_changes_back_and_drops.Goals as goal

pub item_changes_back-requires-clause-room : goal.item_changes_back-requires-clause-room
item_changes_back-requires-clause-room c =
    space_first c.args.out.now
    (change_events c.args.item (form_at (items_of c.args.dropped.now.layout.now) c.args.item) c.args.before.now
    (blank_state (controls_of_form (form_at (items_of c.args.dropped.now.layout.now) c.args.item))))
    (drops_at c.args.dropped.now.layout.now c.args.dropped.now.report c.args.dropped.now.shown.now c.args.item) c.requires.room

pub item_drops-requires-clause-room : goal.item_drops-requires-clause-room
item_drops-requires-clause-room c =
    space_second c.args.out.now c.item_changes_back.new.out
    (change_events c.args.item (form_at (items_of c.args.dropped.now.layout.now) c.args.item) c.args.before.now
    (blank_state (controls_of_form (form_at (items_of c.args.dropped.now.layout.now) c.args.item))))
    (drops_at c.args.dropped.now.layout.now c.args.dropped.now.report c.args.dropped.now.shown.now c.args.item) c.requires.room c.item_changes_back.ensures

pub returns : goal.returns
returns c =
    both_appended c.args.out.now c.item_changes_back.new.out c.item_drops.new.out
    (change_events c.args.item (form_at (items_of c.args.dropped.now.layout.now) c.args.item) c.args.before.now
    (blank_state (controls_of_form (form_at (items_of c.args.dropped.now.layout.now) c.args.item))))
    (drops_at c.args.dropped.now.layout.now c.args.dropped.now.report c.args.dropped.now.shown.now c.args.item) c.item_changes_back.ensures c.item_drops.ensures
