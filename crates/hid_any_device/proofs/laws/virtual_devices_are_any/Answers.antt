use Rattle.hid_any_device.proofs.VirtualDeviceLemmas.{crosses_by_rounds, parts_cross}
use Rattle.hid_any_device.proofs.ScheduleLemmas.{delivers_rounds}
use Rattle.hid_any_device.proofs.laws.virtual_devices_are_any.Goals as goal

pub returns-clause-crosses : goal.returns-clause-crosses
returns-clause-crosses c = crosses_by_rounds

pub returns-clause-parts : goal.returns-clause-parts
returns-clause-parts c = parts_cross

pub returns-clause-events : goal.returns-clause-events
returns-clause-events c = delivers_rounds
