use Rattle.hid_snapshots.specs.Events.{ups, downs, usages_at}
use Rattle.hid_usages.proofs.EventLemmas.{space_first, space_second, both_appended}
use Rattle.hid_usages.proofs.view_changes.flag_changes.Goals as goal

pub releases-requires-clause-room : goal.releases-requires-clause-room
releases-requires-clause-room c = space_first c.args.out.now (ups c.args.item (usages_at c.args.layout.now c.args.item) c.args.before.now c.args.after.now) (downs c.args.item (usages_at c.args.layout.now c.args.item) c.args.before.now c.args.after.now) c.requires.room

pub presses-requires-clause-room : goal.presses-requires-clause-room
presses-requires-clause-room c = space_second c.args.out.now c.releases.new.out (ups c.args.item (usages_at c.args.layout.now c.args.item) c.args.before.now c.args.after.now) (downs c.args.item (usages_at c.args.layout.now c.args.item) c.args.before.now c.args.after.now) c.requires.room c.releases.ensures

pub returns : goal.returns
returns c = both_appended c.args.out.now c.releases.new.out c.presses.new.out (ups c.args.item (usages_at c.args.layout.now c.args.item) c.args.before.now c.args.after.now) (downs c.args.item (usages_at c.args.layout.now c.args.item) c.args.before.now c.args.after.now) c.releases.ensures c.presses.ensures
