use Rattle.std.proofs.Common.{◌≡◌, ℕ, List, length, take, drop, ◌++◌, ap, sym, ◌∙◌, subst, false, arith}
use Rattle.std.proofs.lemmas.Grind.{common_steps}
use Rattle.hid_requests.specs.declared.class.Protocol.TheVariants as protocols
use Rattle.hid_device.specs.contracts.device_core.Core.{the_view}
use Rattle.hid_device.specs.Inputs.{input_count}
use Rattle.hid_device.specs.Outputs.{AreOutputs, bare_outputs}
use Rattle.hid_device.proofs.OutputLemmas.{bare_are, kept_count, refilled, sound_with}
use Rattle.hid_device.proofs.BusLemmas.{of_bus}
use Rattle.hid_device.proofs.device_core.Core.reset.Goals as goal

pub invariant_of-self : goal.invariant_of-self
invariant_of-self c =
    let before = c.self.invariant.sound in
    let idle : length c.fill.new.self.items ≡ input_count c.self.inside.layout.reports = grind (arith, common_steps, before.each_idle) in
    let new : List (List ℕ) = c.reset_outputs.new.outputs in
    let items : List (List ℕ) = c.self.inside.outputs.items in
    let same : length new ≡ length items = ap (λ (outputs : List (List ℕ)). length outputs) c.reset_outputs.ensures ∙ kept_count c.self.inside.layout ∙ sym before.outputs.each in
    let outputs : take c.self.inside.outputs.len (new ++ drop (length new) items) ≡ bare_outputs c.self.inside.layout = refilled new items c.self.inside.outputs.len c.self.inside.outputs.ok.0 same ∙ c.reset_outputs.ensures in
    record {
      sound = sound_with (the_view c.self.inside) false c.fill.new.self.items protocols.Report _ before idle (subst (AreOutputs c.self.inside.layout) (sym outputs) (bare_are c.self.inside.layout));
      nothing_due = c.self.invariant.nothing_due;
      armed = c.self.invariant.armed;
      round = c.self.invariant.round;
      room = c.self.invariant.room;
    }

pub reset_outputs-requires-clause-bus : goal.reset_outputs-requires-clause-bus
reset_outputs-requires-clause-bus c = of_bus c.self.inside.descriptor.items c.self.inside.layout c.self.invariant.sound.lays
