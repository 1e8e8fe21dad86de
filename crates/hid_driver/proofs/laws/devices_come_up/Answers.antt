use Rattle.hid_driver.proofs.BringUpLemmas.{brings_up}
use Rattle.hid_driver.proofs.laws.devices_come_up.Goals as goal

pub returns : goal.returns
returns c = brings_up
