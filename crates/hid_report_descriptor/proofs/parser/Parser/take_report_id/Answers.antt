use Rattle.std.proofs.Common.{arith, refl}
use Rattle.hid_report_descriptor.proofs.Frames.{stands_id}
use Rattle.hid_report_descriptor.proofs.parser.Parser.take_report_id.Goals as goal

pub returns : goal.returns
returns c limits before s = stands_id limits before _ _ _ c.requires.prefix (omega (arith, c.unsigned-id.ensures.value, c.if-id-eq0.false)) (omega (arith, c.unsigned-id.ensures.value)) s (c.set.ensures before s.globals_there.in_force_now) refl refl refl refl refl
