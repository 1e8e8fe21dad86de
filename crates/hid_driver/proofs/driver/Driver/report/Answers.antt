use Rattle.std.proofs.Common.{◌<◌, ◌≤◌, ◌++◌, ◌∙◌, List, length, vec_capacity, ap, sym, arith, append-nil}
use Rattle.hid_driver.specs.declared.outcome.DriverEvent.{DriverEvent}
use Rattle.hid_driver.specs.Driver.{DriverValue, driver_after_report, report_events, report_outcome, state_after_outcome}
use Rattle.hid_driver.proofs.DriverLemmas.{an_interface, heard_is, no_interface}
use Rattle.hid_driver.proofs.InterfaceLemmas.{heard_all_fit, heard_total}
use Rattle.hid_driver.proofs.driver.Driver.report.Goals as goal

pub returns-then-interface-len-clause-events : goal.returns-then-interface-len-clause-events
returns-then-interface-len-clause-events c =
    let shown : DriverValue = record {
      state = c.self.inside.state;
      device = c.self.inside.device;
      interfaces = c.self.inside.interfaces.items;
      asked = c.self.inside.asked.items;
    } in
    let past : length shown.interfaces ≤ c.args.interface = omega arith in
    let out = c.args.out.now.items in
    sym (ap (λ (es : List DriverEvent). out ++ es)
    (ap (λ (d : DriverValue). report_events d c.args.interface c.args.outcome) (sym c.self.view_is)
    ∙ (no_interface shown c.args.interface c.args.outcome past).events) ∙ append-nil out)

pub invariant_of-self : goal.invariant_of-self
invariant_of-self c =
    let xs = c.self.inside.interfaces.items in
    let old = c.index_mut.result.now in
    let new = c.report-told.new.self in
    let within : c.args.interface < length xs = omega arith in (
      heard_total xs c.args.interface old new c.args.outcome within c.index_mut.ensures.value c.report-told.ensures.after ∙ c.self.invariant.0,
      heard_all_fit (vec_capacity c.self.inside.asked) xs c.args.interface old new c.args.outcome within c.index_mut.ensures.value
          c.report-told.ensures.after c.self.invariant.1,
    )

pub returns-clause-outcome : goal.returns-clause-outcome
returns-clause-outcome c =
    let shown : DriverValue = record {
      state = c.self.inside.state;
      device = c.self.inside.device;
      interfaces = c.self.inside.interfaces.items;
      asked = c.self.inside.asked.items;
    } in
    let within : c.args.interface < length shown.interfaces = omega arith in
    c.report-told.ensures.outcome
    ∙ sym (an_interface shown c.args.interface c.args.outcome c.index_mut.result.now within c.index_mut.ensures.value).outcome
    ∙ ap (λ (d : DriverValue). report_outcome d c.args.interface c.args.outcome) c.self.view_is

pub returns-clause-after : goal.returns-clause-after
returns-clause-after c =
    let shown : DriverValue = record {
      state = c.self.inside.state;
      device = c.self.inside.device;
      interfaces = c.self.inside.interfaces.items;
      asked = c.self.inside.asked.items;
    } in
    let within : c.args.interface < length shown.interfaces = omega arith in
    let next = c.go_on.ensures ∙ ap (state_after_outcome c.self.inside.state c.args.outcome) c.deref.ensures.value in
    heard_is shown c.args.interface c.args.outcome c.index_mut.result.now c.report-told.new.self c.go_on.new.state within
    c.index_mut.ensures.value c.report-told.ensures.after next
    ∙ ap (λ (d : DriverValue). driver_after_report d c.args.interface c.args.outcome) c.self.view_is

pub returns-clause-events : goal.returns-clause-events
returns-clause-events c =
    let shown : DriverValue = record {
      state = c.self.inside.state;
      device = c.self.inside.device;
      interfaces = c.self.inside.interfaces.items;
      asked = c.self.inside.asked.items;
    } in
    let within : c.args.interface < length shown.interfaces = omega arith in
    let out = c.args.out.now.items in
    c.report-told.ensures.events
    ∙ ap (λ (es : List DriverEvent). out ++ es)
    (sym (an_interface shown c.args.interface c.args.outcome c.index_mut.result.now within c.index_mut.ensures.value).events
    ∙ ap (λ (d : DriverValue). report_events d c.args.interface c.args.outcome) c.self.view_is)
