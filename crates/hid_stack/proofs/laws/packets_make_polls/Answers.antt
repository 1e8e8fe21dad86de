use Rattle.hid_stack.proofs.StepLemmas.{packets_make_polls}
use Rattle.hid_stack.proofs.laws.packets_make_polls.Goals as goal

pub returns : goal.returns
returns c = packets_make_polls
