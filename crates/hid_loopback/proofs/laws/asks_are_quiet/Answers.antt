use Rattle.hid_loopback.proofs.AskLemmas.{ask_quiet, transfer_quiet}
use Rattle.hid_loopback.proofs.laws.asks_are_quiet.Goals as goal

pub returns-clause-ask : goal.returns-clause-ask
returns-clause-ask c = ask_quiet

pub returns-clause-transfer : goal.returns-clause-transfer
returns-clause-transfer c = transfer_quiet
