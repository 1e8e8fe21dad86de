use Rattle.hid_bus.specs.declared.start.Start.TheVariants as starts
use Rattle.hid_report_descriptor.specs.declared.limits.Limits.TheVariants.{Bus}
use Rattle.hid_stack.proofs.LawLemmas.{ready_knows}
use Rattle.hid_stack.proofs.TrailLemmas.{some_ready}
use Rattle.hid_stack.proofs.SlotLemmas.{joined_begins, makes_ready, no_pair}
use Rattle.hid_stack.proofs.slot.Slot.ready.Goals as goal

pub returns-in-Err-clause-refused : goal.returns-in-Err-clause-refused
returns-in-Err-clause-refused c =
    no_pair c.args.addr c.args.config.now c.args.descriptor.now _ c.in_ok-device.device (c.accepted_or_refused.ensures Bus) c.in_ok-device.ensures.made c.in-Err.ensures.refused

pub of-requires-clause-together : goal.of-requires-clause-together
of-requires-clause-together c =
    (makes_ready c.args.addr c.args.config.now c.args.descriptor.now c.in_ok-device.device c.configure.new.self c.in-Ok.host (c.one_reading.ensures Bus) (some_ready ready_knows) c.in_ok-device.ensures.made c.configure.ensures c.in-Ok.ensures.ready c.is_sound.ensures).together

pub of-requires-clause-knows : goal.of-requires-clause-knows
of-requires-clause-knows c =
    (makes_ready c.args.addr c.args.config.now c.args.descriptor.now c.in_ok-device.device c.configure.new.self c.in-Ok.host (c.one_reading.ensures Bus) (some_ready ready_knows) c.in_ok-device.ensures.made c.configure.ensures c.in-Ok.ensures.ready c.is_sound.ensures).knows

pub of-requires-clause-home : goal.of-requires-clause-home
of-requires-clause-home c =
    (makes_ready c.args.addr c.args.config.now c.args.descriptor.now c.in_ok-device.device c.configure.new.self c.in-Ok.host (c.one_reading.ensures Bus) (some_ready ready_knows) c.in_ok-device.ensures.made c.configure.ensures c.in-Ok.ensures.ready c.is_sound.ensures).home

pub returns-in-Ok-clause-ready : goal.returns-in-Ok-clause-ready
returns-in-Ok-clause-ready c =
    let made = makes_ready c.args.addr c.args.config.now c.args.descriptor.now c.in_ok-device.device c.configure.new.self c.in-Ok.host (c.one_reading.ensures Bus) (some_ready ready_knows) c.in_ok-device.ensures.made c.configure.ensures c.in-Ok.ensures.ready c.is_sound.ensures in
    joined_begins starts.Ready c.args.addr c.args.config.now c.args.descriptor.now c.configure.new.self c.in-Ok.host made c.of.result c.of.ensures.joins
