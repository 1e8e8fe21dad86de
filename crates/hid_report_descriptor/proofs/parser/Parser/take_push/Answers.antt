use Rattle.std.proofs.Common.{arith}
use Rattle.hid_report_descriptor.proofs.Frames.{stands_pushed}
use Rattle.hid_report_descriptor.proofs.parser.Parser.take_push.Goals as goal

pub returns-clause-step : goal.returns-clause-step
returns-clause-step c limits before item h s = stands_pushed limits before item _ _ h (omega arith) s (c.in_ok-push.ensures before item h s.globals_there)
