use Rattle.std.proofs.Common.{◌≡◌, Ok, Err, sym, ◌∙◌}
use Rattle.hid_text.specs.Line.{meaning_of}
use Rattle.hid_script.specs.Interpreter.{session_of}
use Rattle.hid_script.proofs.SessionLemmas.{line_written, line_refused}
use Rattle.lab_session.specs.Lines.{DoesPart, ScriptLineDoes}
use Rattle.lab_session.specs.Parts.{Says}
use Rattle.hid_script.proofs.StreamLemmas.{from_line, no_calls}
use Rattle.lab_session.proofs.CallLemmas.{step_by}
use Rattle.lab_session.proofs.DoingLemmas.{ok_does_so}
use Rattle.lab_session.proofs.bench.Bench.script_line.Goals as goal

pub returns-in-Ok-clause-prints : goal.returns-in-Ok-clause-prints
returns-in-Ok-clause-prints g c = λ plain.
    let is : c.read_line.result ≡ Ok c.in-Ok.said = cc in
    line_written _ _ (session_of c.args.self.now.interpreter) c.args.line.now c.in-Ok.said _ _ (sym c.read_line.ensures.exact ∙ is) (c.said_line.ensures.prints plain)

pub returns-in-Err-clause-prints : goal.returns-in-Err-clause-prints
returns-in-Err-clause-prints g c = λ plain.
    let is : c.read_line.result ≡ Err c.in-Err.fault = cc in
    line_refused _ (session_of c.args.self.now.interpreter) c.args.line.now c.in-Err.fault (Err c.from.result) (session_of c.args.self.now.interpreter) (sym c.read_line.ensures.exact ∙ is) c.from.ensures

pub returns-in-Ok-clause-does : goal.returns-in-Ok-clause-does
returns-in-Ok-clause-does g c =
    let is : c.read_line.result ≡ Ok c.in-Ok.said = cc in
    let says : meaning_of c.args.line.now ≡ Ok c.in-Ok.said = sym c.read_line.ensures.exact ∙ is in
    ok_does_so c.said_line.result (DoesPart (Says c.in-Ok.said)) (ScriptLineDoes c.args.line.now) _ _ _ _ (λ parts text k. (c.in-Ok.said, says, k)) c.said_line.ensures.does

pub returns-in-Err-clause-calls : goal.returns-in-Err-clause-calls
returns-in-Err-clause-calls g c =
    step_by {A = Unit {0}} g.W.Sink.calls c.args.writer.now c.args.writer.now _ (Err c.from.result) (from_line g.W.Sink.calls c.args.writer.now c.args.writer.now c.in-Err.fault (no_calls g.W.Sink.calls c.args.writer.now)) c.from.ensures
