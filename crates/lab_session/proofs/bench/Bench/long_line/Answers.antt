use Rattle.lab_session.specs.Bench.{moment_of}
use Rattle.std.proofs.Common.{sym, ap, ◌∙◌, subst, Ok, Err}
use Rattle.hid_text.specs.Line.{meaning_of}
use Rattle.hid_script.specs.Interpreter.{session_of}
use Rattle.lab_lines.specs.LabLines.{lab_meaning, said_of, refusal_of}
use Rattle.lab_session.specs.declared.fault.LabCause.TheVariants.{Script}
use Rattle.lab_session.specs.Expecting.{ReadExpects}
use Rattle.lab_session.specs.Scripts.{PrintsAs, end_of}
use Rattle.hid_script.proofs.StreamLemmas.{no_calls}
use Rattle.lab_session.specs.Calls.{NeedsNoCall}
use Rattle.lab_session.proofs.CallLemmas.{none_fails, unread_needs_none}
use Rattle.lab_session.proofs.DoingLemmas.{err_is, line_unsettled}
use Rattle.lab_session.proofs.ExpectingLemmas.{expects_said}
use Rattle.lab_session.proofs.ScriptLineLemmas.{as_script, unread_refused}
use Rattle.lab_session.proofs.bench.Bench.long_line.Goals as goal

pub returns-in_err-carry_out-in-Ok-clause-prints : goal.returns-in_err-carry_out-in-Ok-clause-prints
returns-in_err-carry_out-in-Ok-clause-prints g c = λ plain undrawn old.
    subst (λ r. PrintsAs (g.W.Sink.contents c.args.writer.now) (g.W.Sink.contents c.carry_out.new.writer) (meaning_of c.args.line.now) (session_of c.args.self.now.interpreter) (end_of r) (session_of c.carry_out.new.self.interpreter))
    (sym (err_is c.from_residual.result _ c.from_residual.ensures.1))
    (as_script _ _ c.args.line.now (said_of c.in-Ok.said) _ _ (Err c.in_err-carry_out-in-Ok.field-0.0) old (sym (c.in-Ok.ensures.exact c.requires)) (c.in_err-carry_out-in-Ok.ensures.prints plain undrawn))

pub returns-in_ok-carry_out-in-Ok-clause-prints : goal.returns-in_ok-carry_out-in-Ok-clause-prints
returns-in_ok-carry_out-in-Ok-clause-prints g c = λ plain undrawn old.
    as_script _ _ c.args.line.now (said_of c.in-Ok.said) _ _ (Ok tt) old (sym (c.in-Ok.ensures.exact c.requires)) (c.in_ok-carry_out-in-Ok.ensures.prints plain undrawn)

pub returns-in-Err-clause-prints : goal.returns-in-Err-clause-prints
returns-in-Err-clause-prints g c = λ plain undrawn old.
    unread_refused _ c.args.line.now (refusal_of c.in-Err.unread) c.unread_cause.result _ _ old (sym (c.in-Err.ensures.exact c.requires)) c.unread_cause.ensures

pub returns-in_err-carry_out-in-Ok-clause-unsettled : goal.returns-in_err-carry_out-in-Ok-clause-unsettled
returns-in_err-carry_out-in-Ok-clause-unsettled g c = λ is.
    line_unsettled (said_of c.in-Ok.said) (Err c.in_err-carry_out-in-Ok.field-0.0) (moment_of c.carry_out.new.self) c.in_err-carry_out-in-Ok.ensures.unsettled
    (sym (ap end_of (err_is c.from_residual.result _ c.from_residual.ensures.1)) ∙ is)

pub returns-in_ok-carry_out-in-Ok-clause-expects : goal.returns-in_ok-carry_out-in-Ok-clause-expects
returns-in_ok-carry_out-in-Ok-clause-expects g c =
    subst (λ m. ReadExpects m c.args.self.now.printer.transcript c.carry_out.new.self.printer.transcript c.carry_out.new.self.came.items (Ok tt))
    (c.in-Ok.ensures.exact c.requires) (expects_said c.in-Ok.said _ _ _ (Ok tt) c.in_ok-carry_out-in-Ok.ensures.expects)

pub returns-in_err-carry_out-in-Ok-clause-expects : goal.returns-in_err-carry_out-in-Ok-clause-expects
returns-in_err-carry_out-in-Ok-clause-expects g c =
    subst (λ r. ReadExpects (lab_meaning c.args.line.now) c.args.self.now.printer.transcript c.carry_out.new.self.printer.transcript c.carry_out.new.self.came.items (end_of r))
    (sym (err_is c.from_residual.result _ c.from_residual.ensures.1))
    (subst (λ m. ReadExpects m c.args.self.now.printer.transcript c.carry_out.new.self.printer.transcript c.carry_out.new.self.came.items (Err c.in_err-carry_out-in-Ok.field-0.0))
    (c.in-Ok.ensures.exact c.requires) (expects_said c.in-Ok.said _ _ _ (Err c.in_err-carry_out-in-Ok.field-0.0) c.in_err-carry_out-in-Ok.ensures.expects))

pub returns-in-Err-clause-expects : goal.returns-in-Err-clause-expects
returns-in-Err-clause-expects g c =
    subst (λ m. ReadExpects m c.args.self.now.printer.transcript c.args.self.now.printer.transcript c.args.self.now.came.items (Err (Script c.unread_cause.result)))
    (c.in-Err.ensures.exact c.requires) tt

pub returns-in-Err-clause-calls : goal.returns-in-Err-clause-calls
returns-in-Err-clause-calls g c =
    none_fails g.W.Sink.calls c.args.writer.now c.args.writer.now c.unread_cause.result (subst NeedsNoCall (sym c.unread_cause.ensures) (unread_needs_none (refusal_of c.in-Err.unread))) (no_calls g.W.Sink.calls c.args.writer.now)
