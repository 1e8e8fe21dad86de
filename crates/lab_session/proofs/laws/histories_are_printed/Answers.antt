use Rattle.lab_session.proofs.LawLemmas.{lives_printed}
use Rattle.lab_session.proofs.laws.histories_are_printed.Goals as goal

pub returns : goal.returns
returns c = lives_printed
