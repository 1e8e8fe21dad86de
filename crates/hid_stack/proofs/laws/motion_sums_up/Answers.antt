use Rattle.hid_stack.proofs.SumLemmas.{all_has, refused_keep, sums_up}
use Rattle.hid_stack.proofs.laws.motion_sums_up.Goals as goal

pub returns-clause-sums : goal.returns-clause-sums
returns-clause-sums c = sums_up

pub returns-clause-after : goal.returns-clause-after
returns-clause-after c = all_has

pub returns-clause-refused : goal.returns-clause-refused
returns-clause-refused c = refused_keep
