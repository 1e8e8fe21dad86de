use Rattle.hid_script.specs.Interpreter.{session_of}
use Rattle.hid_script.proofs.SessionLemmas.{not_found, found_written}
use Rattle.hid_script.proofs.StreamLemmas.{from_stack, ends_by, no_calls}
use Rattle.hid_script.proofs.interpreter.Interpreter.change.Goals as goal

pub returns-in_err-control-clause-prints : goal.returns-in_err-control-clause-prints
returns-in_err-control-clause-prints g c = not_found _ (session_of c.args.self.now) c.args.dev c.args.usage c.args.wanted c.in_err-control.field-0.0 _ _ c.in_err-control.ensures c.from_residual.ensures.1

pub returns-clause-prints : goal.returns-clause-prints
returns-clause-prints g c = found_written _ _ (session_of c.args.self.now) c.args.dev c.args.usage c.args.wanted c.in_ok-control.control _ _ c.in_ok-control.ensures (rw c.change_of-change.ensures at c.step.ensures.prints)

pub returns-in_err-control-clause-outside : goal.returns-in_err-control-clause-outside
returns-in_err-control-clause-outside g c = ends_by g.W.Sink.calls c.args.writer.now c.args.writer.now _ _ (from_stack g.W.Sink.calls c.args.writer.now c.args.writer.now c.in_err-control.field-0.0 (no_calls g.W.Sink.calls c.args.writer.now)) c.from_residual.ensures.1
