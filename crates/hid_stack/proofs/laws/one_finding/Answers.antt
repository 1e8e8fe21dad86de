use Rattle.hid_stack.proofs.AnswerLemmas.{finds_one}
use Rattle.hid_stack.proofs.laws.one_finding.Goals as goal

pub returns : goal.returns
returns c = finds_one
