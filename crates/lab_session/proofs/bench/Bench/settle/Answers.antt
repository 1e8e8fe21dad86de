use Rattle.std.proofs.Common.{false, subst, arith}
use Rattle.usb_transact.specs.declared.transaction.Fate.TheVariants.{Clean}
use Rattle.lab_session.specs.Bench.{Does, moment_of}
use Rattle.lab_session.specs.Lines.{PollsOnce}
use Rattle.hid_script.proofs.StreamLemmas.{all_succeed, from_behind, no_calls}
use Rattle.lab_session.specs.declared.fault.LabCause.TheVariants.{Script}
use Rattle.lab_session.proofs.CallLemmas.{lab_by}
use Rattle.lab_session.proofs.DoingLemmas.{all_often, does_nothing, often_more, settled}
use Rattle.lab_session.proofs.bench.Bench.settle.Goals as goal

pub loop-init : goal.loop-init
loop-init g c = (does_nothing c.args.self.now _, no_calls g.W.Sink.calls c.args.writer.now)

pub loop-preserved : goal.loop-preserved
loop-preserved g c = (
  often_more (PollsOnce c.args.dev Clean false) c.loop.counter c.args.self.now c.loop.self c.poll.new.self _ _ _ c.loop.invariant.0
      (subst (λ idle. Does (PollsOnce c.args.dev Clean idle) c.loop.self c.poll.new.self (g.W.Sink.contents c.loop.writer) (g.W.Sink.contents c.poll.new.writer)) c.if-branch.false c.in_ok-poll.ensures.does),
  all_succeed g.W.Sink.calls c.args.writer.now c.loop.writer c.poll.new.writer c.loop.invariant.1 c.in_ok-poll.ensures.calls,
)

pub returns-then-branch : goal.returns-then-branch
returns-then-branch g c = record {
  does = settled c.args.dev c.loop.counter c.in_ok-poll.field-0 c.args.self.now c.loop.self c.poll.new.self _ _ _ c.loop-test.true c.if-branch.true c.loop.invariant.0 c.in_ok-poll.ensures.does;
  unsettled = λ e. absurd (cc);
  calls = all_succeed g.W.Sink.calls c.args.writer.now c.loop.writer c.poll.new.writer c.loop.invariant.1 c.in_ok-poll.ensures.calls;
}

pub returns-clause-unsettled : goal.returns-clause-unsettled
returns-clause-unsettled g c = λ _.
    let all = all_often c.loop.counter 100 (PollsOnce c.args.dev Clean false) c.args.self.now c.loop.self (g.W.Sink.contents c.args.writer.now) (g.W.Sink.contents c.loop.writer) (omega arith) c.loop.invariant.0 in
    (moment_of c.args.self.now, all.parts, all.text, all.done)

pub returns-in_err-poll-clause-calls : goal.returns-in_err-poll-clause-calls
returns-in_err-poll-clause-calls g c =
    lab_by g.W.Sink.calls c.args.writer.now c.poll.new.writer (Script c.in_err-poll.field-0.0) c.from_residual.result
    (from_behind g.W.Sink.calls c.args.writer.now c.loop.writer c.poll.new.writer c.in_err-poll.field-0.0 c.loop.invariant.1 c.in_err-poll.ensures.calls) c.from_residual.ensures.1
