use Rattle.lab_session.proofs.RunLemmas.{ends_well}
use Rattle.lab_session.proofs.ScriptLineLemmas.{script_old}
use Rattle.lab_session.proofs.laws.scripts_are_no_news.Goals as goal

pub returns-clause-lines : goal.returns-clause-lines
returns-clause-lines c = script_old

pub returns-clause-scripts : goal.returns-clause-scripts
returns-clause-scripts c = ends_well
