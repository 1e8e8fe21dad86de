use Rattle.std.proofs.Common.{◌≡◌, Ok, Err, sym, ◌∙◌}
use Rattle.hid_text.specs.Line.{meaning_of}
use Rattle.hid_script.specs.Interpreter.{session_of}
use Rattle.hid_script.proofs.SessionLemmas.{line_written, line_refused}
use Rattle.hid_script.proofs.StreamLemmas.{from_line, ends_by, no_calls}
use Rattle.hid_script.proofs.interpreter.Interpreter.run_any.Goals as goal

pub returns-in-Ok-clause-prints : goal.returns-in-Ok-clause-prints
returns-in-Ok-clause-prints g c =
    let is : c.read_line.result ≡ Ok c.in-Ok.line = cc in
    let says : meaning_of c.args.line.now ≡ Ok c.in-Ok.line = sym c.read_line.ensures.exact ∙ is in
    line_written _ _ (session_of c.args.self.now) c.args.line.now c.in-Ok.line _ _ says c.carry_out.ensures.prints

pub returns-in-Err-clause-prints : goal.returns-in-Err-clause-prints
returns-in-Err-clause-prints g c =
    let is : c.read_line.result ≡ Err c.in-Err.fault = cc in
    let says : meaning_of c.args.line.now ≡ Err c.in-Err.fault = sym c.read_line.ensures.exact ∙ is in
    line_refused _ (session_of c.args.self.now) c.args.line.now c.in-Err.fault (Err c.from.result) (session_of c.args.self.now) says c.from.ensures

pub returns-in-Err-clause-outside : goal.returns-in-Err-clause-outside
returns-in-Err-clause-outside g c = ends_by g.W.Sink.calls c.args.writer.now c.args.writer.now _ (Err c.from.result) (from_line g.W.Sink.calls c.args.writer.now c.args.writer.now c.in-Err.fault (no_calls g.W.Sink.calls c.args.writer.now)) c.from.ensures
