use Rattle.hid_stack.proofs.TrailLemmas.{some_meanwhile}
use Rattle.hid_stack.proofs.HaltLemmas.{halts_so}
use Rattle.hid_stack.proofs.halts.halt_pair.Goals as goal

pub returns-clause-knows : goal.returns-clause-knows
returns-clause-knows c =
    (halts_so c.args.device.now c.halt.new.self c.args.host.now (some_meanwhile c.hosts_know_their_devices.ensures.meanwhile) c.devices_leave_transfers.ensures.halted c.halt.ensures c.is_sound.ensures c.requires.together c.requires.knows).knows

pub returns-clause-after : goal.returns-clause-after
returns-clause-after c =
    (halts_so c.args.device.now c.halt.new.self c.args.host.now (some_meanwhile c.hosts_know_their_devices.ensures.meanwhile) c.devices_leave_transfers.ensures.halted c.halt.ensures c.is_sound.ensures c.requires.together c.requires.knows).after

pub returns-clause-together : goal.returns-clause-together
returns-clause-together c =
    (halts_so c.args.device.now c.halt.new.self c.args.host.now (some_meanwhile c.hosts_know_their_devices.ensures.meanwhile) c.devices_leave_transfers.ensures.halted c.halt.ensures c.is_sound.ensures c.requires.together c.requires.knows).together

pub returns-clause-home : goal.returns-clause-home
returns-clause-home c =
    (halts_so c.args.device.now c.halt.new.self c.args.host.now (some_meanwhile c.hosts_know_their_devices.ensures.meanwhile) c.devices_leave_transfers.ensures.halted c.halt.ensures c.is_sound.ensures c.requires.together c.requires.knows).home

pub returns-clause-layout : goal.returns-clause-layout
returns-clause-layout c =
    (halts_so c.args.device.now c.halt.new.self c.args.host.now (some_meanwhile c.hosts_know_their_devices.ensures.meanwhile) c.devices_leave_transfers.ensures.halted c.halt.ensures c.is_sound.ensures c.requires.together c.requires.knows).layout
