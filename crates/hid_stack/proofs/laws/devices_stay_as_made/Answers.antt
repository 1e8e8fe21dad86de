use Rattle.hid_stack.proofs.MemberLemmas.{stays_as_made}
use Rattle.hid_stack.proofs.laws.devices_stay_as_made.Goals as goal

pub returns : goal.returns
returns c = stays_as_made
