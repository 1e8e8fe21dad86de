use Rattle.hid_text.specs.declared.line.Line.TheVariants.{Step}
use Rattle.hid_script.specs.LineOutput.{LineOutcomeOnce, times}
use Rattle.hid_script.specs.Interpreter.{session_of}
use Rattle.hid_script.proofs.SessionLemmas.{line_written}
use Rattle.hid_script.proofs.interpreter.Interpreter.run_line.Goals as goal

pub returns-in-Some-clause-prints : goal.returns-in-Some-clause-prints
unfolding LineOutcomeOnce times
returns-in-Some-clause-prints g c = line_written _ _ (session_of c.args.self.now) c.args.line.now (Step c.in-Some.line) _ _ c.in-Some.ensures.short c.repeat.ensures.prints
