use Rattle.std.proofs.Common.{refl, Ok}
use Rattle.hid_text.specs.declared.line.Line.TheVariants.{Step}
use Rattle.hid_script.specs.Interpreter.{session_of}
use Rattle.hid_script.specs.LineOutput.{LineOutcomeOnce, times}
use Rattle.lab_session.specs.Parts.{Says}
use Rattle.lab_session.proofs.CallLemmas.{of_text}
use Rattle.lab_session.proofs.DoingLemmas.{did_line}
use Rattle.lab_session.proofs.PrintedLemmas.{kept_printed}
use Rattle.lab_session.proofs.WaitLemmas.{leaves_awaited}
use Rattle.lab_session.proofs.bench.Bench.short_part.Goals as goal

pub returns-clause-prints : goal.returns-clause-prints
unfolding LineOutcomeOnce times
returns-clause-prints g c = λ plain.
    kept_printed _ _ c.clear.new.self.items c.repeat-part.new.writer.items c.as_slice.result.now (session_of c.args.self.now.interpreter) (session_of c.repeat-part.new.self) (Ok (Step c.args.short.now)) c.repeat-part.result c.print_part.result c.clear.ensures.items c.as_slice.ensures.value c.repeat-part.ensures.prints (c.print_part.ensures.written plain.style)

pub returns-clause-does : goal.returns-clause-does
unfolding LineOutcomeOnce times
returns-clause-does g c =
    did_line (Step c.args.short.now) _ c.args.self.now _ c.clear.new.self.items c.repeat-part.new.writer.items c.as_slice.result.now _ _ c.repeat-part.result c.print_part.result c.clear.ensures.items c.as_slice.ensures.value c.repeat-part.ensures.prints c.print_part.ensures.written c.print_part.ensures.ok (λ dev. refl) refl
    (leaves_awaited (Says (Step c.args.short.now)) _ _ (λ dev request e. absurd (cc)) (λ dev. refl)) c.print_part.ensures.kept

pub returns-clause-calls : goal.returns-clause-calls
returns-clause-calls g c = c.print_part.ensures.calls (of_text _ c.clear.new.self c.repeat-part.new.writer c.repeat-part.result c.repeat-part.ensures.outside)
