use Rattle.hid_requests.proofs.DescriptorLemmas.{configuration_read}
use Rattle.hid_requests.proofs.laws.configurations_are_read.Goals as goal

-- src/laws.rt:29:1
pub returns : goal.returns
returns c = configuration_read
