use Rattle.std.proofs.Common.{Ok, Err, rules}
use Rattle.hid_script.specs.declared.fault.Cause.TheVariants.{Memory}
use Rattle.hid_script.specs.LineOutput.{stack_cause}
use Rattle.hid_script.specs.Steps.{StepPrints}
use Rattle.hid_script.specs.Interpreter.{session_of}
use Rattle.hid_script.proofs.SessionLemmas.{step_refused, memory_ends, step_written, ended_so}
use Rattle.hid_script.proofs.StreamLemmas.{from_stack, ends_by, no_calls}
use Rattle.hid_script.proofs.interpreter.Interpreter.take_step.Goals as goal

pub returns-in_err-told-clause-prints : goal.returns-in_err-told-clause-prints
returns-in_err-told-clause-prints g c = step_refused _ (session_of c.args.self.now) c.args.step.now c.in_err-told.field-0.0 _ _ c.in_err-told.ensures.only (ended_so c.from_residual.result (stack_cause c.in_err-told.field-0.0) c.from_residual.ensures.1)

pub returns-in_err-print_step-clause-prints : goal.returns-in_err-print_step-clause-prints
returns-in_err-print_step-clause-prints g c =
    memory_ends _
    (StepPrints c.args.step.now (session_of c.args.self.now)) _ _ (ended_so c.from_residual-in_err-print_step.result Memory c.from_residual-in_err-print_step.ensures.1)

pub returns-in-Ok-clause-prints : goal.returns-in-Ok-clause-prints
returns-in-Ok-clause-prints g c =
    step_written _ _
    (session_of c.args.self.now) c.args.step.now c.in_ok-told.told c.step.result c.step.new.out.items c.step.new.self c.saturating_add-self.result c.finished_read-got.result.now c.as_bytes.result.now (Ok tt)
    c.step.ensures.refused c.in_ok-told.was c.in_ok-told.ensures.told (search rules)
    (search rules) c.finished_read-got.ensures (search rules) (search rules)
    c.in-Ok.ensures.ok tt c.in-Ok.ensures.prefix

pub returns-in-Err-clause-prints : goal.returns-in-Err-clause-prints
returns-in-Err-clause-prints g c =
    step_written _ _
    (session_of c.args.self.now) c.args.step.now c.in_ok-told.told c.step.result c.step.new.out.items c.step.new.self c.saturating_add-self.result c.finished_read-got.result.now c.as_bytes.result.now (Err c.in-Err.cause)
    c.step.ensures.refused c.in_ok-told.was c.in_ok-told.ensures.told (search rules)
    (search rules) c.finished_read-got.ensures (search rules) (search rules)
    tt c.in-Err.ensures.cause c.in-Err.ensures.prefix

pub returns-in_err-told-clause-outside : goal.returns-in_err-told-clause-outside
returns-in_err-told-clause-outside g c = ends_by g.W.Sink.calls c.args.writer.now c.args.writer.now _ _ (from_stack g.W.Sink.calls c.args.writer.now c.args.writer.now c.in_err-told.field-0.0 (no_calls g.W.Sink.calls c.args.writer.now)) (ended_so c.from_residual.result (stack_cause c.in_err-told.field-0.0) c.from_residual.ensures.1)

pub returns-in_err-print_step-clause-outside : goal.returns-in_err-print_step-clause-outside
returns-in_err-print_step-clause-outside g c = ends_by g.W.Sink.calls c.args.writer.now c.args.writer.now Memory _ (no_calls g.W.Sink.calls c.args.writer.now) (ended_so c.from_residual-in_err-print_step.result Memory c.from_residual-in_err-print_step.ensures.1)
