use Rattle.std.proofs.Common.{◌++◌, ◌∙◌, List, ap, sym}
use Rattle.std.specs.Prelude.{slice_get}
use Rattle.hid_driver.specs.declared.outcome.DriverEvent.{DriverEvent}
use Rattle.hid_driver.specs.Driver.{DriverValue, driver_asking, events_asking}
use Rattle.hid_driver.proofs.DriverLemmas.{asking_is, found_at, within_shown}
use Rattle.hid_driver.proofs.driver.Driver.begin_protocol.Goals as goal

pub returns-clause-after : goal.returns-clause-after
returns-clause-after c =
    let shown : DriverValue = record {
      state = c.self.inside.state;
      device = c.self.inside.device;
      interfaces = c.self.inside.interfaces.items;
      asked = c.self.inside.asked.items;
    } in
    let closed : DriverValue = record {
      state = c.self-2.inside.state;
      device = c.self-2.inside.device;
      interfaces = c.self-2.inside.interfaces.items;
      asked = c.self-2.inside.asked.items;
    } in
    let within = within_shown shown c.args.self.now c.args.interface c.self.view_is c.requires.place in
    asking_is shown closed c.args.interface c.args.boot c.is_boot-was_boot.result c.index.result.now c.index_mut.result.now c.release.new.self within
    c.index.ensures c.index_mut.ensures.value c.release.ensures.stays c.is_boot-was_boot.ensures (c.self-2.view_is ∙ c.close.ensures.after)
    ∙ ap (λ (d : DriverValue). driver_asking d c.args.interface c.args.boot (slice_get d.interfaces c.args.interface)) c.self.view_is

pub returns-clause-events : goal.returns-clause-events
returns-clause-events c =
    let shown : DriverValue = record {
      state = c.self.inside.state;
      device = c.self.inside.device;
      interfaces = c.self.inside.interfaces.items;
      asked = c.self.inside.asked.items;
    } in
    let within = within_shown shown c.args.self.now c.args.interface c.self.view_is c.requires.place in
    c.release.ensures.events
    ∙ ap (λ (es : List DriverEvent). c.args.out.now.items ++ es)
    (sym (ap (events_asking c.args.interface) (found_at shown c.args.interface c.index_mut.result.now within c.index_mut.ensures.value))
    ∙ ap (λ (d : DriverValue). events_asking c.args.interface (slice_get d.interfaces c.args.interface)) c.self.view_is)
