use Rattle.std.proofs.Common.{rules, ◌≡◌, Some, vec_capacity}
use Rattle.hid_driver.specs.Interfaces.{total_room}
use Rattle.hidstack_host.specs.Hosts.{descriptor_came}
use Rattle.hidstack_host.proofs.RoomLemmas.{room_came}
use Rattle.hidstack_host.proofs.host.make_room_after.Goals as goal

pub returns-in-Some-clause-ok : goal.returns-in-Some-clause-ok
returns-in-Some-clause-ok c =
    let came : descriptor_came c.args.driver.now.state c.args.outcome ≡ Some c.in-Some.descriptor.now = search rules in
    room_came c.make_room.result c.args.driver.now.state c.args.outcome c.in-Some.descriptor.now (total_room c.args.driver.now.interfaces)
    (vec_capacity c.make_room.new.received) (vec_capacity c.make_room.new.events) came c.make_room.ensures.ok
