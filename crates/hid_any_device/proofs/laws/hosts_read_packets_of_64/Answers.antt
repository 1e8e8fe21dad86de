use Rattle.hid_any_device.proofs.EndpointLemmas.{reads_packets_of_64}
use Rattle.hid_any_device.proofs.laws.hosts_read_packets_of_64.Goals as goal

pub returns : goal.returns
returns c = reads_packets_of_64
