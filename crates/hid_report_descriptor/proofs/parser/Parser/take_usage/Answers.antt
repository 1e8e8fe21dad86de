use Rattle.std.proofs.Common.{refl}
use Rattle.hid_report_descriptor.proofs.Frames.{stands_usage, usage_no_main}
use Rattle.hid_report_descriptor.proofs.parser.Parser.take_usage.Goals as goal

pub returns : goal.returns
returns c limits before s = stands_usage limits before c.args.item.now.bytes.now _ _ c.requires.usage s (c.in_ok-take.ensures before (usage_no_main c.args.item.now.bytes.now c.requires.usage) s.locals_there) refl refl refl refl
