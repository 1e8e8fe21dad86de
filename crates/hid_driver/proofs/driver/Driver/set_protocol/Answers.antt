use Rattle.std.proofs.Common.{◌<◌, ◌≤◌, ◌++◌, ◌∙◌, List, length, ap, sym, arith, append-nil, Ok, Err}
use Rattle.std.specs.Prelude.{slice_get}
use Rattle.hid_driver.specs.declared.outcome.DriverEvent.{DriverEvent}
use Rattle.hid_driver.specs.Driver.{DriverValue, driver_after_protocol, driver_asking, events_asking, protocol_events, protocol_outcome}
use Rattle.hid_driver.proofs.DriverLemmas.{asks_none, asks_ok, asks_one}
use Rattle.hid_driver.proofs.driver.Driver.set_protocol.Goals as goal

pub returns-then-interface-len-clause-events : goal.returns-then-interface-len-clause-events
returns-then-interface-len-clause-events c =
    let shown : DriverValue = record {
      state = c.self.inside.state;
      device = c.self.inside.device;
      interfaces = c.self.inside.interfaces.items;
      asked = c.self.inside.asked.items;
    } in
    let past : length shown.interfaces ≤ c.args.interface = omega arith in
    let out = c.args.out.now.items in
    sym (ap (λ (es : List DriverEvent). out ++ es)
    (ap (λ (d : DriverValue). protocol_events d c.args.interface) (sym c.self.view_is)
    ∙ (asks_none shown c.args.interface c.args.boot past).events) ∙ append-nil out)

pub returns-in-Ok-clause-outcome : goal.returns-in-Ok-clause-outcome
returns-in-Ok-clause-outcome c =
    let shown : DriverValue = record {
      state = c.self.inside.state;
      device = c.self.inside.device;
      interfaces = c.self.inside.interfaces.items;
      asked = c.self.inside.asked.items;
    } in
    let within : c.args.interface < length shown.interfaces = omega arith in
    sym (asks_one shown c.args.interface c.args.boot c.index.result.now (Ok c.in-Ok.field-0) within c.index.ensures c.in-Ok.ensures).outcome
    ∙ ap (λ (d : DriverValue). protocol_outcome d c.args.interface) c.self.view_is

pub returns-in-Ok-clause-after : goal.returns-in-Ok-clause-after
returns-in-Ok-clause-after c =
    let shown : DriverValue = record {
      state = c.self.inside.state;
      device = c.self.inside.device;
      interfaces = c.self.inside.interfaces.items;
      asked = c.self.inside.asked.items;
    } in
    let within : c.args.interface < length shown.interfaces = omega arith in
    let asks = asks_ok shown c.args.interface c.args.boot c.index.result.now within c.index.ensures c.in-Ok.ensures in
    c.begin_protocol.ensures.after
    ∙ sym (ap (λ (d : DriverValue). driver_asking d c.args.interface c.args.boot (slice_get d.interfaces c.args.interface)) c.self.view_is)
    ∙ asks.0 ∙ ap (λ (d : DriverValue). driver_after_protocol d c.args.interface c.args.boot) c.self.view_is

pub returns-in-Ok-clause-events : goal.returns-in-Ok-clause-events
returns-in-Ok-clause-events c =
    let shown : DriverValue = record {
      state = c.self.inside.state;
      device = c.self.inside.device;
      interfaces = c.self.inside.interfaces.items;
      asked = c.self.inside.asked.items;
    } in
    let within : c.args.interface < length shown.interfaces = omega arith in
    let asks = asks_ok shown c.args.interface c.args.boot c.index.result.now within c.index.ensures c.in-Ok.ensures in
    c.begin_protocol.ensures.events
    ∙ ap (λ (es : List DriverEvent). c.args.out.now.items ++ es)
    (sym (ap (λ (d : DriverValue). events_asking c.args.interface (slice_get d.interfaces c.args.interface)) c.self.view_is)
    ∙ asks.1 ∙ ap (λ (d : DriverValue). protocol_events d c.args.interface) c.self.view_is)

pub returns-in-Err-clause-outcome : goal.returns-in-Err-clause-outcome
returns-in-Err-clause-outcome c =
    let shown : DriverValue = record {
      state = c.self.inside.state;
      device = c.self.inside.device;
      interfaces = c.self.inside.interfaces.items;
      asked = c.self.inside.asked.items;
    } in
    let within : c.args.interface < length shown.interfaces = omega arith in
    sym (asks_one shown c.args.interface c.args.boot c.index.result.now (Err c.in-Err.fault) within c.index.ensures c.in-Err.ensures).outcome
    ∙ ap (λ (d : DriverValue). protocol_outcome d c.args.interface) c.self.view_is

pub returns-in-Err-clause-after : goal.returns-in-Err-clause-after
returns-in-Err-clause-after c =
    let shown : DriverValue = record {
      state = c.self.inside.state;
      device = c.self.inside.device;
      interfaces = c.self.inside.interfaces.items;
      asked = c.self.inside.asked.items;
    } in
    let within : c.args.interface < length shown.interfaces = omega arith in
    sym c.self.view_is
    ∙ sym (asks_one shown c.args.interface c.args.boot c.index.result.now (Err c.in-Err.fault) within c.index.ensures c.in-Err.ensures).after
    ∙ ap (λ (d : DriverValue). driver_after_protocol d c.args.interface c.args.boot) c.self.view_is

pub returns-in-Err-clause-events : goal.returns-in-Err-clause-events
returns-in-Err-clause-events c =
    let shown : DriverValue = record {
      state = c.self.inside.state;
      device = c.self.inside.device;
      interfaces = c.self.inside.interfaces.items;
      asked = c.self.inside.asked.items;
    } in
    let within : c.args.interface < length shown.interfaces = omega arith in
    let out = c.args.out.now.items in
    sym (ap (λ (es : List DriverEvent). out ++ es)
    (ap (λ (d : DriverValue). protocol_events d c.args.interface) (sym c.self.view_is)
    ∙ (asks_one shown c.args.interface c.args.boot c.index.result.now (Err c.in-Err.fault) within c.index.ensures c.in-Err.ensures).events) ∙ append-nil out)
