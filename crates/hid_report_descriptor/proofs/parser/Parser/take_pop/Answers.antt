use Rattle.hid_report_descriptor.proofs.Frames.{stands_popped}
use Rattle.hid_report_descriptor.proofs.parser.Parser.take_pop.Goals as goal

pub returns-then-pop-clause-step : goal.returns-then-pop-clause-step
returns-then-pop-clause-step c limits before item h s = stands_popped limits before item _ _ h (c.if-pop.ensures.among before s.globals_there) s (c.if-pop.ensures.matched before item h s.globals_there)
