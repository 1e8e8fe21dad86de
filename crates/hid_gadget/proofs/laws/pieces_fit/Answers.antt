use Rattle.hid_gadget.proofs.ResultLemmas.{takes_nothing}
use Rattle.hid_gadget.proofs.laws.pieces_fit.Goals as goal

pub returns : goal.returns
returns c = takes_nothing
