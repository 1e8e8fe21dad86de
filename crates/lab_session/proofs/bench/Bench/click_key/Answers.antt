use Rattle.hid_script.proofs.StreamLemmas.{no_calls}
use Rattle.lab_session.proofs.CallLemmas.{lab_by, lab_none_fails}
use Rattle.lab_session.proofs.bench.Bench.click_key.Goals as goal

pub returns-in_err-control-clause-calls : goal.returns-in_err-control-clause-calls
returns-in_err-control-clause-calls g c =
    lab_by g.W.Sink.calls c.args.writer.now c.args.writer.now c.in_err-control.field-0.0 c.from_residual.result
    (lab_none_fails g.W.Sink.calls c.args.writer.now c.args.writer.now c.in_err-control.field-0.0 c.in_err-control.ensures.quiet (no_calls g.W.Sink.calls c.args.writer.now)) c.from_residual.ensures.1

pub returns-in_err-shift-clause-calls : goal.returns-in_err-shift-clause-calls
returns-in_err-shift-clause-calls g c =
    lab_by g.W.Sink.calls c.args.writer.now c.args.writer.now c.in_err-shift.field-0.0 c.from_residual-in_err-shift.result
    (lab_none_fails g.W.Sink.calls c.args.writer.now c.args.writer.now c.in_err-shift.field-0.0 c.in_err-shift.ensures.quiet (no_calls g.W.Sink.calls c.args.writer.now)) c.from_residual-in_err-shift.ensures.1
