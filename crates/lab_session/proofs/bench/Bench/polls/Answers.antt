use Rattle.hid_script.proofs.StreamLemmas.{all_succeed, from_behind, no_calls}
use Rattle.lab_session.specs.Lines.{Polls}
use Rattle.lab_session.proofs.CallLemmas.{step_by}
use Rattle.lab_session.proofs.DoingLemmas.{all_often, does_nothing, often_more, polled_some}
use Rattle.std.proofs.Common.{arith}
use Rattle.lab_session.proofs.bench.Bench.polls.Goals as goal

pub loop-init : goal.loop-init
loop-init g c = (does_nothing c.args.self.now _, no_calls g.W.Sink.calls c.args.writer.now)

pub loop-preserved : goal.loop-preserved
loop-preserved g c = (
  often_more (Polls c.args.dev c.args.fate) c.loop.counter c.args.self.now c.loop.self c.poll.new.self _ _ _ c.loop.invariant.0
      (polled_some c.args.dev c.args.fate c.in_ok-_is_idle._is_idle c.loop.self c.poll.new.self _ _ c.in_ok-_is_idle.ensures.does),
  all_succeed g.W.Sink.calls c.args.writer.now c.loop.writer c.poll.new.writer c.loop.invariant.1 c.in_ok-_is_idle.ensures.calls,
)

pub returns-in_err-_is_idle-clause-calls : goal.returns-in_err-_is_idle-clause-calls
returns-in_err-_is_idle-clause-calls g c =
    step_by g.W.Sink.calls c.args.writer.now c.poll.new.writer c.in_err-_is_idle.field-0.0 c.from_residual.result
    (from_behind g.W.Sink.calls c.args.writer.now c.loop.writer c.poll.new.writer c.in_err-_is_idle.field-0.0 c.loop.invariant.1 c.in_err-_is_idle.ensures.calls) c.from_residual.ensures.1

pub returns-clause-does : goal.returns-clause-does
returns-clause-does g c = all_often c.loop.counter c.args.count (Polls c.args.dev c.args.fate) c.args.self.now c.loop.self _ _ (omega arith) c.loop.invariant.0
