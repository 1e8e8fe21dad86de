use Rattle.std.proofs.Common.{◌∙◌}
use Rattle.hidstack_device.proofs.ReleaseLemmas.{release_is}
use Rattle.hidstack_device.proofs.release.release_at.Goals as goal

pub returns : goal.returns
returns c = c.change.ensures.core ∙ release_is c.args.gadget.now c.args.item c.args.index c.layout.ensures.sound
