use Rattle.std.proofs.Common.{◌≡◌, ◌∙◌, Bool, true, ap, sym}
use Rattle.usb_packet.specs.declared.packet.Packet.TheVariants.{Ack}
use Rattle.hid_device.specs.contracts.device.Device.{the_view}
use Rattle.hid_device.specs.Core.{CoreState, core_after_ack}
use Rattle.hid_device.specs.Device.{DeviceState, after_ignored_packet, core_of, device_after, device_answer, with_core}
use Rattle.hid_device.proofs.DeviceLemmas.{ack_after, ack_answer, token_after, token_answer}
use Rattle.hid_device.proofs.device.Device.on_packet.Goals as goal

pub returns-in-Token-clause-device : goal.returns-in-Token-clause-device
returns-in-Token-clause-device c =
    c.receive.ensures.device
    ∙ sym (token_after (the_view c.self.inside) c.args.packet.now c.in-Token.kind c.in-Token.addr c.in-Token.endp c.in-Token.is c.if-addr-self.true c.if-endp-eq0.true)
    ∙ ap (λ (d : DeviceState). device_after d c.args.packet.now) c.self.view_is

pub returns-in-Token-clause-answer : goal.returns-in-Token-clause-answer
returns-in-Token-clause-answer c =
    c.receive.ensures.answer
    ∙ sym (token_answer (the_view c.self.inside) c.args.packet.now c.in-Token.kind c.in-Token.addr c.in-Token.endp c.in-Token.is c.if-addr-self.true c.if-endp-eq0.true)
    ∙ ap (λ (d : DeviceState). device_answer d c.args.packet.now) c.self.view_is

pub returns-in-Ack-clause-device : goal.returns-in-Ack-clause-device
returns-in-Ack-clause-device c =
    let d : DeviceState = the_view c.self.inside in
    let awaits_ack : d.awaits_ack ≡ true = sym c.replace-waited.ensures.value ∙ c.if-waited.true in
    ap (λ (core : CoreState). with_core (the_view c.self-in-Ack.inside) core)
    (c.acknowledged.ensures ∙ ap core_after_ack c.requests_mut.ensures.value)
    ∙ ap (λ (d : DeviceState). with_core d (core_after_ack (core_of d)))
    (c.self-in-Ack.view_is ∙ c.ignore_packet.ensures)
    ∙ ap (λ (w : Bool). after_ignored_packet d (core_after_ack (core_of d)) w) c.replace-waited.ensures.after
    ∙ sym (ack_after d awaits_ack)
    ∙ ap (λ (d : DeviceState). device_after d Ack) c.self.view_is ∙ ap (device_after c.args.self.now) (sym c.in-Ack.is)

pub returns-in-Ack-clause-answer : goal.returns-in-Ack-clause-answer
returns-in-Ack-clause-answer c =
    let d : DeviceState = the_view c.self.inside in
    let awaits_ack : d.awaits_ack ≡ true = sym c.replace-waited.ensures.value ∙ c.if-waited.true in
    sym (ack_answer d awaits_ack) ∙ ap (λ (d : DeviceState). device_answer d Ack) c.self.view_is ∙ ap (device_answer c.args.self.now) (sym c.in-Ack.is)
