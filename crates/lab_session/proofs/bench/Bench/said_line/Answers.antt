use Rattle.std.proofs.Common.{refl, Ok}
use Rattle.hid_script.specs.Interpreter.{session_of}
use Rattle.lab_session.proofs.CallLemmas.{of_text}
use Rattle.lab_session.proofs.DoingLemmas.{did_line}
use Rattle.lab_session.proofs.PrintedLemmas.{kept_printed}
use Rattle.lab_session.proofs.WaitLemmas.{noted}
use Rattle.lab_session.proofs.bench.Bench.said_line.Goals as goal

pub returns-clause-prints : goal.returns-clause-prints
returns-clause-prints g c = λ plain.
    kept_printed _ _ c.clear.new.self.items c.carry_out-part.new.writer.items c.as_slice.result.now (session_of c.args.self.now.interpreter) (session_of c.carry_out-part.new.self) (Ok c.args.said.now) c.carry_out-part.result c.print_part.result c.clear.ensures.items c.as_slice.ensures.value c.carry_out-part.ensures.prints (c.print_part.ensures.written plain.style)

pub returns-clause-does : goal.returns-clause-does
returns-clause-does g c =
    did_line c.args.said.now _ c.args.self.now _ c.clear.new.self.items c.carry_out-part.new.writer.items c.as_slice.result.now _ _ c.carry_out-part.result c.print_part.result c.clear.ensures.items c.as_slice.ensures.value c.carry_out-part.ensures.prints c.print_part.ensures.written c.print_part.ensures.ok (λ dev. refl) refl
    (noted c.args.said.now _ _ c.note.ensures.its c.note.ensures.others) c.print_part.ensures.kept

pub returns-clause-calls : goal.returns-clause-calls
returns-clause-calls g c = c.print_part.ensures.calls (of_text _ c.clear.new.self c.carry_out-part.new.writer c.carry_out-part.result c.carry_out-part.ensures.outside)
