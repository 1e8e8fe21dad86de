use Rattle.hid_script.proofs.LineOutputLemmas.{one_text}
use Rattle.hid_script.proofs.laws.one_text.Goals as goal

pub returns : goal.returns
returns c = one_text c.one_outcome.ensures
