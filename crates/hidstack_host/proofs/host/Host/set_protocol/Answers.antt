use Rattle.std.proofs.Common.{◌≤◌, subst, sym, arith, vec_capacity}
use Rattle.hid_driver.specs.Driver.{DriverValue}
use Rattle.hid_driver.specs.Interfaces.{total_room}
use Rattle.hidstack_host.proofs.RoomLemmas.{protocol_shrinks}
use Rattle.hidstack_host.proofs.host.Host.set_protocol.Goals as goal

pub invariant_of-self : goal.invariant_of-self
invariant_of-self c =
    let before : DriverValue = c.self.inside.driver in
    let few = protocol_shrinks before c.args.interface c.args.boot in
    let received = c.self.invariant.0 in
    let events = c.self.invariant.1 in
    let cleared = c.clear.ensures.capacity in
    let same = c.set_protocol-result.ensures.room in (
      subst (λ (d : DriverValue). total_room d.interfaces ≤ vec_capacity c.self.inside.received) (sym c.set_protocol-result.ensures.after)
          (omega (arith, few, received)),
      subst (λ (d : DriverValue). total_room d.interfaces ≤ vec_capacity c.set_protocol-result.new.out) (sym c.set_protocol-result.ensures.after)
          (omega (arith, few, events, cleared, same)),
    )
