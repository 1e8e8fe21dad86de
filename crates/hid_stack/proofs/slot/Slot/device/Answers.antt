use Rattle.std.proofs.Common.{subst}
use Rattle.hid_stack.specs.Members.{Member}
use Rattle.hid_stack.specs.Accessors.{ShowsDevice}
use Rattle.hid_stack.proofs.ShowLemmas.{shows_device}
use Rattle.hid_stack.proofs.slot.Slot.device.Goals as goal

pub returns : goal.returns
returns c = subst (λ (m : Member). ShowsDevice m c.self.inside.device) c.self.view_is (shows_device c.self.inside.device c.self.inside.host)
