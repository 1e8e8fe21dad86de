use Rattle.hid_stack.proofs.ReportLemmas.{keeps_to_round, whole_or_nothing}
use Rattle.hid_stack.proofs.laws.reports_are_delivered_whole.Goals as goal

pub returns-clause-polls : goal.returns-clause-polls
returns-clause-polls c = whole_or_nothing

pub returns-clause-rounds : goal.returns-clause-rounds
returns-clause-rounds c = keeps_to_round
