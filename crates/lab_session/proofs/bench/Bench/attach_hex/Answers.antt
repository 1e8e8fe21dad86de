use Rattle.hid_script.specs.declared.fault.Cause.TheVariants.{Memory}
use Rattle.hid_script.proofs.StreamLemmas.{no_calls}
use Rattle.lab_session.proofs.CallLemmas.{step_by}
use Rattle.lab_session.proofs.bench.Bench.attach_hex.Goals as goal

pub returns-in_err-bytes-clause-calls : goal.returns-in_err-bytes-clause-calls
returns-in_err-bytes-clause-calls g c =
    step_by g.W.Sink.calls c.args.writer.now c.args.writer.now Memory c.from_residual.result (no_calls g.W.Sink.calls c.args.writer.now) c.from_residual.ensures.1

pub returns-in-None-clause-calls : goal.returns-in-None-clause-calls
returns-in-None-clause-calls g c = no_calls g.W.Sink.calls c.args.writer.now
