use Rattle.std.proofs.Common.{refl}
use Rattle.hid_report_descriptor.proofs.Frames.{stands_end, end_is_main}
use Rattle.hid_report_descriptor.proofs.parser.Parser.take_end.Goals as goal

pub returns-then-end : goal.returns-then-end
returns-then-end c limits before item h s = stands_end limits before item _ _ h c.if-end.ensures.among s refl (c.clear.ensures before item (end_is_main item h)) (c.if-end.ensures.matched before item h s.path_there) refl refl
