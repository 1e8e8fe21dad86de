use Rattle.std.proofs.Common.{◌∙◌, ◌≤◌, ℕ, false, List, Option, length, ap, refl, subst, sym, arith}
use Rattle.std.specs.Prelude.{IfSome}
use Rattle.hid_snapshots.specs.declared.event.Event.{Event}
use Rattle.hid_layout.specs.Controls.{items_of, max_events}
use Rattle.hid_layout.specs.Layout.{Contents}
use Rattle.hid_snapshots.specs.Parts.{IsInput}
use Rattle.hid_host.specs.Host.{running}
use Rattle.hid_device.specs.Core.{round_of}
use Rattle.hid_device.specs.Device.{DeviceState, core_of}
use Rattle.hid_stack.specs.Slot.{pair_member}
use Rattle.hid_stack.specs.StepResult.{drops_after_try}
use Rattle.hid_stack.proofs.TrailLemmas.{some_steps}
use Rattle.hid_stack.proofs.DropLemmas.{told_at_try, untold_at_try}
use Rattle.hid_stack.proofs.TryLemmas.{knows_so, steps_so}
use Rattle.hid_stack.proofs.transfers.control_pair.Goals as goal

pub push_dropped_motion-requires-clause-together : goal.push_dropped_motion-requires-clause-together
push_dropped_motion-requires-clause-together c =
    let step = steps_so c.args.fate c.args.device.now c.control.result.now c.control_step-result.new.control c.args.host.now c.control_step-result.new.self c.control_step-result.result
    (some_steps c.hosts_know_their_devices.ensures.steps) c.control_steps_are_computed.ensures c.control.ensures.now c.control_step-result.ensures c.requires.together c.requires.knows c.requires.home c.is_sound.ensures in
    step.together

pub push_dropped_motion-requires-clause-input : goal.push_dropped_motion-requires-clause-input
push_dropped_motion-requires-clause-input c =
    let step = steps_so c.args.fate c.args.device.now c.control.result.now c.control_step-result.new.control c.args.host.now c.control_step-result.new.self c.control_step-result.result
    (some_steps c.hosts_know_their_devices.ensures.steps) c.control_steps_are_computed.ensures c.control.ensures.now c.control_step-result.ensures c.requires.together c.requires.knows c.requires.home c.is_sound.ensures in
    subst (λ (l : Contents). IfSome c.awaited_round-awaited.result (λ r. IsInput l r)) (sym step.layout) c.awaited_round-awaited.ensures.input

pub push_dropped_motion-requires-clause-room : goal.push_dropped_motion-requires-clause-room
push_dropped_motion-requires-clause-room c =
    let step = steps_so c.args.fate c.args.device.now c.control.result.now c.control_step-result.new.control c.args.host.now c.control_step-result.new.self c.control_step-result.result
    (some_steps c.hosts_know_their_devices.ensures.steps) c.control_steps_are_computed.ensures c.control.ensures.now c.control_step-result.ensures c.requires.together c.requires.knows c.requires.home c.is_sound.ensures in
    let room = ap (λ (l : Contents). max_events (items_of l)) step.layout in
    omega (arith, room, c.requires.room)

pub returns-clause-tries : goal.returns-clause-tries
returns-clause-tries c =
    let step = steps_so c.args.fate c.args.device.now c.control.result.now c.control_step-result.new.control c.args.host.now c.control_step-result.new.self c.control_step-result.result
    (some_steps c.hosts_know_their_devices.ensures.steps) c.control_steps_are_computed.ensures c.control.ensures.now c.control_step-result.ensures c.requires.together c.requires.knows c.requires.home c.is_sound.ensures in
    step.tries

pub returns-clause-between : goal.returns-clause-between
returns-clause-between c =
    let step = steps_so c.args.fate c.args.device.now c.control.result.now c.control_step-result.new.control c.args.host.now c.control_step-result.new.self c.control_step-result.result
    (some_steps c.hosts_know_their_devices.ensures.steps) c.control_steps_are_computed.ensures c.control.ensures.now c.control_step-result.ensures c.requires.together c.requires.knows c.requires.home c.is_sound.ensures in
    step.between

pub returns-clause-aborts : goal.returns-clause-aborts
returns-clause-aborts c =
    let step = steps_so c.args.fate c.args.device.now c.control.result.now c.control_step-result.new.control c.args.host.now c.control_step-result.new.self c.control_step-result.result
    (some_steps c.hosts_know_their_devices.ensures.steps) c.control_steps_are_computed.ensures c.control.ensures.now c.control_step-result.ensures c.requires.together c.requires.knows c.requires.home c.is_sound.ensures in
    step.aborts

pub returns-clause-together : goal.returns-clause-together
returns-clause-together c =
    let step = steps_so c.args.fate c.args.device.now c.control.result.now c.control_step-result.new.control c.args.host.now c.control_step-result.new.self c.control_step-result.result
    (some_steps c.hosts_know_their_devices.ensures.steps) c.control_steps_are_computed.ensures c.control.ensures.now c.control_step-result.ensures c.requires.together c.requires.knows c.requires.home c.is_sound.ensures in
    step.together

pub returns-clause-layout : goal.returns-clause-layout
returns-clause-layout c =
    let step = steps_so c.args.fate c.args.device.now c.control.result.now c.control_step-result.new.control c.args.host.now c.control_step-result.new.self c.control_step-result.result
    (some_steps c.hosts_know_their_devices.ensures.steps) c.control_steps_are_computed.ensures c.control.ensures.now c.control_step-result.ensures c.requires.together c.requires.knows c.requires.home c.is_sound.ensures in
    step.layout

pub returns-clause-knows : goal.returns-clause-knows
returns-clause-knows c =
    knows_so c.args.fate c.args.device.now c.control.result.now c.control_step-result.new.control c.args.host.now c.control_step-result.new.self c.control_step-result.result
    (some_steps c.hosts_know_their_devices.ensures.steps) c.control.ensures.now c.control_step-result.ensures c.requires.together c.requires.knows

pub returns-clause-events : goal.returns-clause-events
returns-clause-events c =
    let step = steps_so c.args.fate c.args.device.now c.control.result.now c.control_step-result.new.control c.args.host.now c.control_step-result.new.self c.control_step-result.result
    (some_steps c.hosts_know_their_devices.ensures.steps) c.control_steps_are_computed.ensures c.control.ensures.now c.control_step-result.ensures c.requires.together c.requires.knows c.requires.home c.is_sound.ensures in
    let device_then : DeviceState = record { addr = c.args.device.now.addr; control = c.control_step-result.new.control; awaits_ack = false } in
    let host_then = c.control_step-result.new.self in
    c.push_dropped_motion.ensures.events
    ∙ ap (λ (a : Option ℕ). drops_after_try a (round_of (core_of device_then)) host_then.phase
    (core_of device_then).reports.fixed) c.awaited_round-awaited.ensures.awaited
    ∙ told_at_try c.args.fate c.args.device.now device_then c.args.host.now host_then (running c.args.host.now.transfer) c.control_step-result.result
    step.tries step.aborts step.between step.open_then c.requires.together step.together step.layout

pub returns-clause-home : goal.returns-clause-home
returns-clause-home c =
    let step = steps_so c.args.fate c.args.device.now c.control.result.now c.control_step-result.new.control c.args.host.now c.control_step-result.new.self c.control_step-result.result
    (some_steps c.hosts_know_their_devices.ensures.steps) c.control_steps_are_computed.ensures c.control.ensures.now c.control_step-result.ensures c.requires.together c.requires.knows c.requires.home c.is_sound.ensures in
    (step.home, refl)

pub returns-clause-none : goal.returns-clause-none
returns-clause-none c uncut =
    let step = steps_so c.args.fate c.args.device.now c.control.result.now c.control_step-result.new.control c.args.host.now c.control_step-result.new.self c.control_step-result.result
    (some_steps c.hosts_know_their_devices.ensures.steps) c.control_steps_are_computed.ensures c.control.ensures.now c.control_step-result.ensures c.requires.together c.requires.knows c.requires.home c.is_sound.ensures in
    ap (λ (es : List Event). length es)
    (returns-clause-events c
    ∙ untold_at_try c.args.fate (pair_member c.args.device.now c.args.host.now)
    (running c.args.host.now.transfer) step.aborts uncut)

pub returns-clause-few : goal.returns-clause-few
returns-clause-few c =
    let step = steps_so c.args.fate c.args.device.now c.control.result.now c.control_step-result.new.control c.args.host.now c.control_step-result.new.self c.control_step-result.result
    (some_steps c.hosts_know_their_devices.ensures.steps) c.control_steps_are_computed.ensures c.control.ensures.now c.control_step-result.ensures c.requires.together c.requires.knows c.requires.home c.is_sound.ensures in
    subst (λ (l : Contents). length c.push_dropped_motion.new.events.items ≤ max_events
    (items_of l)) step.layout c.push_dropped_motion.ensures.few
