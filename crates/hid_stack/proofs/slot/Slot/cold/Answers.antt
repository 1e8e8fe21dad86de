use Rattle.hid_bus.specs.declared.start.Start.TheVariants as starts
use Rattle.hid_stack.proofs.LawLemmas.{cold_knows}
use Rattle.hid_stack.proofs.TrailLemmas.{some_cold}
use Rattle.hid_stack.proofs.SlotLemmas.{joined_begins, makes_cold}
use Rattle.hid_stack.proofs.slot.Slot.cold.Goals as goal

pub of-requires-clause-together : goal.of-requires-clause-together
of-requires-clause-together c =
    (makes_cold c.args.addr c.args.config.now c.args.descriptor.now c.in_ok-device.device c.cold.result (some_cold cold_knows) c.in_ok-device.ensures.made c.cold.ensures c.in_ok-device.ensures.sound).together

pub of-requires-clause-knows : goal.of-requires-clause-knows
of-requires-clause-knows c =
    (makes_cold c.args.addr c.args.config.now c.args.descriptor.now c.in_ok-device.device c.cold.result (some_cold cold_knows) c.in_ok-device.ensures.made c.cold.ensures c.in_ok-device.ensures.sound).knows

pub of-requires-clause-home : goal.of-requires-clause-home
of-requires-clause-home c =
    (makes_cold c.args.addr c.args.config.now c.args.descriptor.now c.in_ok-device.device c.cold.result (some_cold cold_knows) c.in_ok-device.ensures.made c.cold.ensures c.in_ok-device.ensures.sound).home

pub returns-clause-cold : goal.returns-clause-cold
returns-clause-cold c =
    let made = makes_cold c.args.addr c.args.config.now c.args.descriptor.now c.in_ok-device.device c.cold.result (some_cold cold_knows) c.in_ok-device.ensures.made c.cold.ensures c.in_ok-device.ensures.sound in
    joined_begins starts.Cold c.args.addr c.args.config.now c.args.descriptor.now c.in_ok-device.device c.cold.result made c.of.result c.of.ensures.joins
