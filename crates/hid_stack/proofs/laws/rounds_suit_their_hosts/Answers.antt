use Rattle.hid_stack.proofs.SuitLemmas.{rounds_suit}
use Rattle.hid_stack.proofs.laws.rounds_suit_their_hosts.Goals as goal

pub returns : goal.returns
returns c = rounds_suit
