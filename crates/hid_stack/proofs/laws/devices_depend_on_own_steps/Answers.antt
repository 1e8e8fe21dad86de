use Rattle.hid_stack.proofs.CarryLemmas.{end_no_rounds}
use Rattle.hid_stack.proofs.BusHistoryLemmas.{its_own}
use Rattle.hid_stack.proofs.laws.devices_depend_on_own_steps.Goals as goal

pub returns-clause-own : goal.returns-clause-own
returns-clause-own c = its_own

pub returns-clause-ends : goal.returns-clause-ends
returns-clause-ends c = end_no_rounds
