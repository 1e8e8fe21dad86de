use Rattle.std.proofs.Common.{◌≤◌, subst, sym, arith, vec_capacity}
use Rattle.hid_driver.specs.Driver.{DriverValue}
use Rattle.hid_driver.specs.Interfaces.{total_room}
use Rattle.hidstack_host.proofs.RoomLemmas.{report_stays}
use Rattle.hidstack_host.proofs.host.Host.report.Goals as goal

pub invariant_of-self : goal.invariant_of-self
invariant_of-self c =
    let before : DriverValue = c.self.inside.driver in
    let few = report_stays before c.args.interface c.args.outcome in
    let received = c.self.invariant.0 in
    let events = c.self.invariant.1 in
    let cleared = c.clear.ensures.capacity in
    let same = c.receive-result.ensures.room in (
      subst (λ (d : DriverValue). total_room d.interfaces ≤ vec_capacity c.receive-result.new.out) (sym c.receive-result.ensures.after)
          (omega (arith, few, received, cleared, same)),
      subst (λ (d : DriverValue). total_room d.interfaces ≤ vec_capacity c.self.inside.events) (sym c.receive-result.ensures.after)
          (omega (arith, few, events)),
    )
