use Rattle.std.proofs.Common.{refl}
use Rattle.hid_layout.specs.Controls.{items_of}
use Rattle.hid_device.specs.Device.{changed_device, core_of}
use Rattle.hid_stack.proofs.LawLemmas.{change_leaves, leaves_know}
use Rattle.hid_stack.proofs.TrailLemmas.{some_meanwhile}
use Rattle.hid_stack.proofs.SlotLemmas.{fixed_stays, holds_on, leaves_as, transfers_as}
use Rattle.hid_stack.proofs.slot.Slot.change.Goals as goal

pub invariant_of-self : goal.invariant_of-self
invariant_of-self c =
    let device = c.self.inside.device in
    let other = changed_device device c.args.change in
    holds_on device c.change.new.self c.self.inside.host _ _ (some_meanwhile leaves_know)
    (transfers_as c.self.inside.host.clearing device other c.change.new.self c.change.ensures.device (change_leaves c.self.inside.host.clearing device.control c.args.change))
    (leaves_as device other c.change.new.self c.change.ensures.device refl refl refl refl refl
    (fixed_stays (items_of (core_of device).layout)
    (core_of device).reports c.args.change) refl refl c.change.ensures.sound) c.self.invariant
