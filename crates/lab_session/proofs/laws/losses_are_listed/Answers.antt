use Rattle.lab_session.proofs.FateLemmas.{polls_have_fates}
use Rattle.lab_session.proofs.laws.losses_are_listed.Goals as goal

pub returns : goal.returns
returns c = polls_have_fates
