use Rattle.hid_stack.proofs.AnswerLemmas.{tells_one}
use Rattle.hid_stack.proofs.laws.one_telling.Goals as goal

pub returns : goal.returns
returns c = tells_one
