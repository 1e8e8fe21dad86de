use Rattle.std.proofs.Common.{sym, ◌∙◌}
use Rattle.hid_script.specs.Streams.{Flushed}
use Rattle.hid_script.proofs.StreamLemmas.{flush_done, flush_lost, no_calls, one_call}
use Rattle.lab_session.proofs.ahead.Ahead.hand_on.Goals as goal

pub returns-then-not-self-clause-calls : goal.returns-then-not-self-clause-calls
returns-then-not-self-clause-calls g c = no_calls g.W.Sink.calls c.args.writer.now

pub returns-then-is_err-clause-calls : goal.returns-then-is_err-clause-calls
returns-then-is_err-clause-calls g c =
    flush_lost g.W.Sink.calls c.args.writer.now c.flush.new.self c.flush.result (sym c.is_err.ensures.value ∙ c.if-is_err.true) c.flush.ensures.call

pub returns-clause-calls : goal.returns-clause-calls
returns-clause-calls g c =
    one_call g.W.Sink.calls c.args.writer.now c.args.writer.now c.flush.new.self Flushed (no_calls g.W.Sink.calls c.args.writer.now)
    (flush_done g.W.Sink.calls c.args.writer.now c.flush.new.self c.flush.result (sym c.is_err.ensures.value ∙ c.if-is_err.false) c.flush.ensures.call) tt
