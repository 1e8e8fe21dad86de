use Rattle.hid_report_descriptor.proofs.MatchingLaw.{in_force_behind_pop}
use Rattle.hid_report_descriptor.proofs.laws.pop_restores.Goals as goal

pub returns : goal.returns
returns c prefix pop push between before = in_force_behind_pop prefix pop push between before
