use Rattle.hid_device.proofs.ResetLemmas.{reset_is_new}
use Rattle.hid_device.proofs.laws.resets_make_new.Goals as goal

pub returns : goal.returns
returns c = reset_is_new
