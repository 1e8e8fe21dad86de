use Rattle.hid_script.proofs.StreamLemmas.{no_calls}
use Rattle.lab_session.proofs.printer.Printer.print_some.Goals as goal

pub returns-then-is_err-clause-calls : goal.returns-then-is_err-clause-calls
returns-then-is_err-clause-calls g c = no_calls g.W.Sink.calls c.args.writer.now

pub returns-then-is_err-2-clause-calls : goal.returns-then-is_err-2-clause-calls
returns-then-is_err-2-clause-calls g c = no_calls g.W.Sink.calls c.args.writer.now
