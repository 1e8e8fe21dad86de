use Rattle.hid_script.proofs.PrintingLemmas.{lives_printed, runs_printed}
use Rattle.hid_script.proofs.laws.histories_are_printed.Goals as goal

pub returns-clause-lines : goal.returns-clause-lines
returns-clause-lines c = lives_printed

pub returns-clause-runs : goal.returns-clause-runs
returns-clause-runs c = runs_printed
