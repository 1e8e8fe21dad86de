use Rattle.std.proofs.Common.{refl, sym, subst, Err}
use Rattle.hid_script.specs.Streams.{FromLine}
use Rattle.hid_script.proofs.StreamLemmas.{no_calls}
use Rattle.lab_session.specs.Parts.{Changes, PartPrints}
use Rattle.lab_session.proofs.CallLemmas.{kept_fails, of_text}
use Rattle.lab_session.proofs.DoingLemmas.{did_part}
use Rattle.lab_session.proofs.WaitLemmas.{leaves_awaited}
use Rattle.lab_session.proofs.bench.Bench.change.Goals as goal

pub returns : goal.returns
unfolding PartPrints
returns g c =
    let told = c.in_default.ensures.prints in
    record {
      does = did_part (Changes c.args.dev c.args.control c.args.wanted) c.args.self.now _ c.clear.new.self.items c.change_at.new.writer.items c.as_slice.result.now told.0 _ _ c.print.result c.clear.ensures.items told.1 c.as_slice.ensures.value told.2 c.print.ensures.written (λ dev. refl) refl
          (leaves_awaited (Changes c.args.dev c.args.control c.args.wanted) _ _ (λ dev request e. absurd (cc)) (λ dev. refl)) c.print.ensures.kept;
      calls = c.print.ensures.calls;
    }

pub returns-in-Err-clause-calls : goal.returns-in-Err-clause-calls
returns-in-Err-clause-calls g c =
    subst (FromLine g.W.Sink.calls c.args.writer.now c.args.writer.now) (sym c.kept_cause.ensures)
    (kept_fails g.W.Sink.calls c.args.writer.now c.args.writer.now c.in-Err.cause (of_text _ c.clear.new.self c.change_at.new.writer (Err c.in-Err.cause) c.in-Err.ensures.outside) (no_calls g.W.Sink.calls c.args.writer.now))
