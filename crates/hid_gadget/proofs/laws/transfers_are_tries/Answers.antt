use Rattle.hid_gadget.proofs.TransferLemmas.{of_tries}
use Rattle.hid_gadget.proofs.laws.transfers_are_tries.Goals as goal

pub returns : goal.returns
returns g c = λ table old stage last_packet setup sends encoded whole. of_tries table old stage last_packet setup sends encoded whole
