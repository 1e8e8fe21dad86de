use Rattle.lab_session.proofs.LawLemmas.{carry_both}
use Rattle.lab_session.proofs.laws.parts_join.Goals as goal

pub returns : goal.returns
returns c = carry_both
