use Rattle.hid_script.proofs.StreamLemmas.{no_calls}
use Rattle.lab_session.proofs.printer.Printer.print_part.Goals as goal

pub returns-in-Err-Write-clause-calls : goal.returns-in-Err-Write-clause-calls
returns-in-Err-Write-clause-calls g c = λ line. no_calls g.W.Sink.calls c.args.writer.now
