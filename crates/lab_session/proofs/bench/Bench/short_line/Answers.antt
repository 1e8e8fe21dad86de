use Rattle.std.proofs.Common.{sym, subst}
use Rattle.hid_text.specs.declared.line.Line.TheVariants.{Step}
use Rattle.hid_script.specs.Interpreter.{session_of}
use Rattle.hid_script.specs.LineOutput.{Begins, CarriesOut, LineOutcomeOnce, ShortLinePrints, short_times, times}
use Rattle.hid_script.specs.Place.{AppendsOutput}
use Rattle.lab_session.proofs.bench.Bench.short_line.Goals as goal

pub returns-in-Control-clause-prints : goal.returns-in-Control-clause-prints
unfolding LineOutcomeOnce ShortLinePrints times short_times
returns-in-Control-clause-prints g c = λ plain undrawn.
    subst
    (λ s. AppendsOutput (g.W.Sink.contents c.args.writer.now) (g.W.Sink.contents c.tries.new.writer) (CarriesOut (session_of c.args.self.now.interpreter) (Step s))
    (Begins (times (Step s)) (LineOutcomeOnce (Step s)) (session_of c.args.self.now.interpreter)) c.tries.result (session_of c.tries.new.self.interpreter))
    (sym c.in-Control.is) (c.tries.ensures.prints plain (undrawn c.in-Control.dev))
