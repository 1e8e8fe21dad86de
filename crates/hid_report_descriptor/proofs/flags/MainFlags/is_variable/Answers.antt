use Rattle.std.proofs.Common.{arith, ◌∙◌}
use Rattle.hid_report_descriptor.proofs.FlagLemmas.{contains_flag}
use Rattle.hid_report_descriptor.proofs.flags.MainFlags.is_variable.Goals as goal

pub returns : goal.returns
returns c = c.contains.ensures _ ∙ contains_flag c.args.self.0 1 (omega arith)
