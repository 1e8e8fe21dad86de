use Rattle.std.proofs.Common.{refl}
use Rattle.hid_device.specs.Device.{framed_device}
use Rattle.hid_stack.proofs.LawLemmas.{frame_leaves, leaves_know}
use Rattle.hid_stack.proofs.TrailLemmas.{some_meanwhile}
use Rattle.hid_stack.proofs.TryLemmas.{sound_of}
use Rattle.hid_stack.proofs.SlotLemmas.{framed_sound, holds_on, leaves_as, transfers_as}
use Rattle.hid_stack.proofs.slot.Slot.frame.Goals as goal

pub invariant_of-self : goal.invariant_of-self
invariant_of-self c =
    let device = c.self.inside.device in
    let host = c.self.inside.host in
    let other = framed_device device in
    let sound = framed_sound device c.frame.new.self c.frame.ensures (sound_of device host.clearing host.phase c.self.invariant.0) in
    holds_on device c.frame.new.self host _ _ (some_meanwhile leaves_know)
    (transfers_as host.clearing device other c.frame.new.self c.frame.ensures (frame_leaves host.clearing device.control))
    (leaves_as device other c.frame.new.self c.frame.ensures refl refl refl refl refl refl refl refl sound) c.self.invariant
