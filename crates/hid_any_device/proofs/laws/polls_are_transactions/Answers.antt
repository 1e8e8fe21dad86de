use Rattle.hid_any_device.proofs.PollTransactionLemmas.{transacts}
use Rattle.hid_any_device.proofs.laws.polls_are_transactions.Goals as goal

pub returns : goal.returns
returns c = transacts
