use Rattle.lab_session.proofs.RunLemmas.{one_run}
use Rattle.lab_session.proofs.laws.runs_are_one.Goals as goal

pub returns : goal.returns
returns c = one_run c.one_outcome.ensures
