use Rattle.std.proofs.Common.{arith}
use Rattle.hidstack_host.proofs.RoomLemmas.{done_grows}
use Rattle.hidstack_host.proofs.host.Host.done.Goals as goal

pub invariant_of-self : goal.invariant_of-self
invariant_of-self c =
    let room = c.in-Ok.ensures.ok in
    let few = done_grows room.0 c.self.inside.driver c.args.outcome c.done.result c.done.new.self room.1 c.done.ensures in
    let received = room.2 in
    let events = room.3 in (omega (arith, few, received), omega (arith, few, events))
