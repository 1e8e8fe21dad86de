use Rattle.hid_driver.proofs.TransferLemmas.{reads_transfers}
use Rattle.hid_driver.proofs.laws.transfers_are_read.Goals as goal

pub returns : goal.returns
returns c = reads_transfers
