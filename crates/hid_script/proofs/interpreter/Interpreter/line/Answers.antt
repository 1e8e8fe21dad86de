use Rattle.std.proofs.Common.{refl}
use Rattle.hid_script.specs.Interpreter.{session_of}
use Rattle.hid_script.proofs.SessionLemmas.{nothing_written}
use Rattle.hid_script.proofs.StreamLemmas.{no_calls}
use Rattle.hid_script.proofs.interpreter.Interpreter.line.Goals as goal

pub returns-then-says_nothing-clause-prints : goal.returns-then-says_nothing-clause-prints
returns-then-says_nothing-clause-prints g c = nothing_written _ (session_of c.args.self.now) c.args.line.now (c.if-says_nothing.ensures refl)

pub returns-then-says_nothing-clause-outside : goal.returns-then-says_nothing-clause-outside
returns-then-says_nothing-clause-outside g c = no_calls g.W.Sink.calls c.args.writer.now
