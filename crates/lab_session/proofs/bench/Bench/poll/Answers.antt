use Rattle.std.proofs.Common.{refl, sym, subst, Err}
use Rattle.hid_script.specs.Streams.{FromLine}
use Rattle.hid_script.proofs.StreamLemmas.{no_calls}
use Rattle.lab_session.proofs.CallLemmas.{kept_fails, of_text}
use Rattle.lab_session.proofs.DoingLemmas.{did_poll}
use Rattle.lab_session.proofs.bench.Bench.poll.Goals as goal

pub returns : goal.returns
returns g c =
    let told = c.in-Ok.ensures.prints in
    record {
      does = did_poll c.args.dev c.args.said c.next_fate-fate.result c.has_nothing.result c.in-Ok.told c.args.self.now _ c.clear.new.self.items c.take_step.new.writer.items c.as_slice.result.now told.0 _ _ c.next_fate-fate.ensures.fate c.clear.ensures.items told.1 c.as_slice.ensures.value told.2 c.in-Ok.ensures.told c.has_nothing.ensures c.in_ok-print.ensures.written c.next_fate-fate.ensures.its c.next_fate-fate.ensures.others refl (λ other. refl) c.in_ok-print.ensures.kept;
      calls = c.in_ok-print.ensures.calls;
    }

pub returns-in-Err-clause-calls : goal.returns-in-Err-clause-calls
returns-in-Err-clause-calls g c =
    subst (FromLine g.W.Sink.calls c.args.writer.now c.args.writer.now) (sym c.kept_cause.ensures)
    (kept_fails g.W.Sink.calls c.args.writer.now c.args.writer.now c.in-Err.cause (of_text _ c.clear.new.self c.take_step.new.writer (Err c.in-Err.cause) c.in-Err.ensures.outside) (no_calls g.W.Sink.calls c.args.writer.now))
