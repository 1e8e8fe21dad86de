use Rattle.std.proofs.Common.{sym, ◌∙◌}
use Rattle.hid_report_descriptor.proofs.Frames.{stands_idle, long_prefix}
use Rattle.hid_report_descriptor.proofs.parser.Parser.take.Goals as goal

pub returns-in-Long : goal.returns-in-Long
returns-in-Long c before s = stands_idle c.args.limits before _ _ (long_prefix _ _ (sym c.requires.kind ∙ c.in-Long.is)) s
