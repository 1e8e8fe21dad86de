use Rattle.hid_any_device.proofs.TransferLemmas.{reads_transfers}
use Rattle.hid_any_device.proofs.laws.transfers_are_read.Goals as goal

pub returns : goal.returns
returns c = reads_transfers
