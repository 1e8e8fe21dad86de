use Rattle.hid_gadget.proofs.ResultLemmas.{of_polls}
use Rattle.hid_gadget.proofs.laws.reports_are_polls.Goals as goal

pub returns : goal.returns
returns c = of_polls
