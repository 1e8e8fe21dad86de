use Rattle.std.proofs.Common.{arith, ◌∙◌}
use Rattle.hid_report_descriptor.proofs.FlagLemmas.{contains_flag}
use Rattle.hid_report_descriptor.proofs.flags.MainFlags.has_null_state.Goals as goal

pub returns : goal.returns
returns c = c.contains.ensures _ ∙ contains_flag c.args.self.0 6 (omega arith)
