use Rattle.std.proofs.Common.{◌≡◌, ◌∙◌, Bool, false, ap, subst, sym}
use Rattle.usb_control.specs.TryFunctions.{answer_to, control_after}
use Rattle.usb_control.specs.Device.{DevControlState}
use Rattle.usb_control.proofs.TryFunctionLemmas.{does_answer, does_control}
use Rattle.hid_device.specs.Core.{CoreState, IsSound}
use Rattle.hid_device.specs.RequestTable.{core_table}
use Rattle.hid_device.specs.Device.{DeviceState, core_of, device_after_effect, effect_of}
use Rattle.hid_device.proofs.device.Device.receive.Goals as goal

pub returns-clause-device : goal.returns-clause-device
returns-clause-device c =
    let inside = c.self.inside in
    let old : DeviceState = record { addr = inside.addr; control = inside.control; awaits_ack = inside.awaits_ack } in
    let new : DeviceState = record { addr = inside.addr; control = c.on_packet-answer.new.self; awaits_ack = inside.awaits_ack } in
    let last_packet = effect_of old c.args.packet.now in
    let ends : inside.awaits_ack ≡ false = subst (λ (d : DeviceState). d.awaits_ack ≡ false) (sym c.self.view_is) c.requires in
    let is : new ≡ device_after_effect old last_packet =
    ap (λ (x : DevControlState CoreState). let d : DeviceState = record { addr = inside.addr; control = x; awaits_ack = inside.awaits_ack } in d)
    (does_control core_table last_packet (core_of old) c.on_packet-answer.new.self c.on_packet-answer.result c.on_packet-answer.ensures.does)
    ∙ ap (λ (w : Bool). let d : DeviceState = record { addr = inside.addr; control = control_after core_table last_packet (core_of old); awaits_ack = w } in d) ends
    in
    subst (λ (d : DeviceState). new ≡ device_after_effect d (effect_of d c.args.packet.now)) c.self.view_is is

pub returns-clause-answer : goal.returns-clause-answer
returns-clause-answer c =
    let inside = c.self.inside in
    let old : DeviceState = record { addr = inside.addr; control = inside.control; awaits_ack = inside.awaits_ack } in
    subst (λ (d : DeviceState). c.on_packet-answer.result ≡ answer_to (effect_of d c.args.packet.now)) c.self.view_is
    (does_answer core_table (effect_of old c.args.packet.now) (core_of old) c.on_packet-answer.new.self c.on_packet-answer.result c.on_packet-answer.ensures.does)

pub returns-clause-sound : goal.returns-clause-sound
returns-clause-sound c = subst IsSound c.requests.ensures c.layout.ensures.sound
