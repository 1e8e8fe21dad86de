use Rattle.std.proofs.Common.{◌++◌, [], arith, refl, subst, IfNone, Ok, Err}
use Rattle.std.specs.Str.Lines.{lines}
use Rattle.std.proofs.KnownBytes.{Appends-nil, Consumes-nil, Consumes-trans}
use Rattle.hid_script.specs.declared.fault.Cause.TheVariants as causes
use Rattle.hid_script.specs.Interpreter.{session_of}
use Rattle.hid_text.specs.Lines.{IsUnbroken}
use Rattle.lab_session.specs.Ahead.{unread}
use Rattle.lab_session.specs.Scripts.{AheadRan}
use Rattle.hid_script.proofs.StreamLemmas.{all_succeed, no_calls}
use Rattle.lab_session.proofs.CallLemmas.{fed_first, fed_more, run_by_lines, run_by_read, run_reads_all, run_to_end}
use Rattle.lab_session.proofs.DoingLemmas.{err_is}
use Rattle.lab_session.specs.declared.runs.RunEnd.{RunEnd}
use Rattle.lab_session.specs.Carrying.{AheadLines}
use Rattle.lab_session.proofs.CarryLemmas.{carried_first, carry_asks, carry_ends, carry_fails, carry_first, carry_on, carry_read, outside_next, read_stops}
use Rattle.lab_session.proofs.RunLemmas.{none_needed, outside_fails, run_asks, run_ends_well, run_fails, runs_first, runs_lines, runs_read}
use Rattle.lab_session.proofs.runs.run.Goals as goal

pub returns-in_err-need : goal.returns-in_err-need
returns-in_err-need g c = record {
  script = run_fails c.args.bench.now c.loop.bench (g.W.Sink.contents c.args.writer.now) (g.W.Sink.contents c.loop.writer) (g.W.Sink.contents c.run_ahead.new.writer)
      (g.F.Feed.remaining c.args.feed.now) (g.F.Feed.remaining c.loop.feed) (unread c.args.ahead.now) c.loop.invariant.0 (unread c.loop.ahead) c.args.ahead.now.lines c.loop.ahead.lines
      c.in_err-need.field-0.0 c.from_residual.result c.loop.invariant.1 c.loop.invariant.2
      (λ more plain undrawn old. c.in_err-need.ensures.script plain undrawn more old)
      (err_is c.from_residual.result _ c.from_residual.ensures.1);
  carries =
      carry_fails c.args.bench.now c.loop.bench c.run_ahead.new.bench (g.W.Sink.contents c.args.writer.now) (g.W.Sink.contents c.loop.writer) (g.W.Sink.contents c.run_ahead.new.writer)
      (g.F.Feed.remaining c.args.feed.now) (g.F.Feed.remaining c.loop.feed) (g.F.Feed.remaining c.loop.feed) (unread c.args.ahead.now) c.loop.invariant.0 (unread c.loop.ahead) c.args.ahead.now.lines c.loop.ahead.lines
      c.run_ahead.new.ahead c.in_err-need.field-0.0 c.from_residual.result c.loop.invariant.1 c.loop.invariant.3 c.in_err-need.ensures.carries (err_is c.from_residual.result _ c.from_residual.ensures.1);
  calls = run_by_lines g.F.Feed.feeds g.W.Sink.calls c.args.feed.now c.loop.feed c.args.writer.now c.loop.writer c.run_ahead.new.writer c.run_ahead.new.ahead.lines c.in_err-need.field-0.0 c.from_residual.result
      c.loop.invariant.4 c.in_err-need.ensures.calls (err_is c.from_residual.result _ c.from_residual.ensures.1);
}

pub returns-in-Some : goal.returns-in-Some
returns-in-Some g c = record {
  script = run_asks c.args.bench.now c.loop.bench c.run_ahead.new.bench (g.W.Sink.contents c.args.writer.now) (g.W.Sink.contents c.loop.writer) (g.W.Sink.contents c.run_ahead.new.writer)
      (g.F.Feed.remaining c.args.feed.now) (g.F.Feed.remaining c.loop.feed) (unread c.args.ahead.now) c.loop.invariant.0 c.args.ahead.now.lines c.loop.ahead c.run_ahead.new.ahead
      c.in-Some.need c.loop.invariant.1 c.loop.invariant.2
      (λ plain undrawn more old. subst (λ n. AheadRan c.loop.bench c.run_ahead.new.bench (g.W.Sink.contents c.loop.writer) (g.W.Sink.contents c.run_ahead.new.writer) c.loop.ahead c.run_ahead.new.ahead more (Ok n)) c.in-Some.is (c.in_ok-need.ensures.script plain undrawn more old));
  carries =
      carry_asks c.args.bench.now c.loop.bench c.run_ahead.new.bench (g.W.Sink.contents c.args.writer.now) (g.W.Sink.contents c.loop.writer) (g.W.Sink.contents c.run_ahead.new.writer)
      (g.F.Feed.remaining c.args.feed.now) (g.F.Feed.remaining c.loop.feed) (unread c.args.ahead.now) c.loop.invariant.0 c.args.ahead.now.lines c.loop.ahead c.run_ahead.new.ahead
      c.in-Some.need c.loop.invariant.1 c.loop.invariant.3
      (λ more. subst (λ n. AheadLines c.loop.ahead c.run_ahead.new.ahead more c.loop.bench c.run_ahead.new.bench (g.W.Sink.contents c.loop.writer) (g.W.Sink.contents c.run_ahead.new.writer) (Ok n)) c.in-Some.is (c.in_ok-need.ensures.carries more));
  calls = all_succeed g.W.Sink.calls c.args.writer.now c.loop.writer c.run_ahead.new.writer c.loop.invariant.4 c.in_ok-need.ensures.calls;
}

pub returns-in_err-read_on : goal.returns-in_err-read_on
returns-in_err-read_on g c =
    let U = g.W.Sink.contents c.args.writer.now in
    let V = g.W.Sink.contents c.loop.writer in
    let W = g.W.Sink.contents c.run_ahead.new.writer in
    let X = g.W.Sink.contents c.read_on.new.writer in
    let none = none_needed c.in_ok-need.field-0 c.in_default.not-Some in
    let ran = runs_lines c.args.bench.now c.loop.bench c.run_ahead.new.bench U V W (unread c.args.ahead.now) c.loop.invariant.0 c.args.ahead.now.lines c.loop.ahead c.run_ahead.new.ahead c.loop.invariant.2
    (λ plain undrawn more old. subst (λ n. AheadRan c.loop.bench c.run_ahead.new.bench V W c.loop.ahead c.run_ahead.new.ahead more (Ok n)) none (c.in_ok-need.ensures.script plain undrawn more old)) in
    let whole = subst (λ n. IfNone n (IsUnbroken (unread c.run_ahead.new.ahead))) none c.in_ok-need.ensures.unbroken in record {
      script = run_fails c.args.bench.now c.run_ahead.new.bench U W X (g.F.Feed.remaining c.args.feed.now) (g.F.Feed.remaining c.loop.feed) (unread c.args.ahead.now) c.loop.invariant.0
          (unread c.run_ahead.new.ahead) c.args.ahead.now.lines c.run_ahead.new.ahead.lines c.in_err-read_on.field-0.0 c.from_residual-in_err-read_on.result c.loop.invariant.1 ran
          (λ more plain undrawn old. c.in_err-read_on.ensures.err (session_of c.run_ahead.new.bench.interpreter) more whole old)
          (err_is c.from_residual-in_err-read_on.result _ c.from_residual-in_err-read_on.ensures.1);
      carries =
          let carried = carry_on c.args.bench.now c.loop.bench c.run_ahead.new.bench U V W (unread c.args.ahead.now) c.loop.invariant.0 c.args.ahead.now.lines c.loop.ahead c.run_ahead.new.ahead c.loop.invariant.3
          (λ more. subst (λ n. AheadLines c.loop.ahead c.run_ahead.new.ahead more c.loop.bench c.run_ahead.new.bench V W (Ok n)) none (c.in_ok-need.ensures.carries more)) in
          let ends = c.in_err-read_on.ensures.ends in
          carry_fails c.args.bench.now c.run_ahead.new.bench c.run_ahead.new.bench U W X (g.F.Feed.remaining c.args.feed.now) (g.F.Feed.remaining c.loop.feed) (g.F.Feed.remaining c.read_on.new.feed) (unread c.args.ahead.now) c.loop.invariant.0
          (unread c.run_ahead.new.ahead) c.args.ahead.now.lines c.run_ahead.new.ahead.lines c.read_on.new.self c.in_err-read_on.field-0.0 c.from_residual-in_err-read_on.result c.loop.invariant.1 carried
          (λ more. read_stops (unread c.run_ahead.new.ahead) more c.run_ahead.new.ahead.lines ends.1 c.in_err-read_on.field-0.0 c.run_ahead.new.bench W X whole ends.3 ends.0 ends.2)
          (err_is c.from_residual-in_err-read_on.result _ c.from_residual-in_err-read_on.ensures.1);
      calls =
          run_by_read g.F.Feed.feeds g.W.Sink.calls c.args.feed.now c.loop.feed c.read_on.new.feed c.args.writer.now c.run_ahead.new.writer c.read_on.new.writer c.loop.counter c.read_on.new.self.lines c.in_err-read_on.field-0.0
          c.from_residual-in_err-read_on.result (all_succeed g.W.Sink.calls c.args.writer.now c.loop.writer c.run_ahead.new.writer c.loop.invariant.4 c.in_ok-need.ensures.calls) c.loop.invariant.5 c.loop-test.true
          c.in_err-read_on.ensures.calls (err_is c.from_residual-in_err-read_on.result _ c.from_residual-in_err-read_on.ensures.1);
    }

pub returns-then-not-branch : goal.returns-then-not-branch
returns-then-not-branch g c =
    let U = g.W.Sink.contents c.args.writer.now in
    let V = g.W.Sink.contents c.loop.writer in
    let W = g.W.Sink.contents c.run_ahead.new.writer in
    let X = g.W.Sink.contents c.read_on.new.writer in
    let none = none_needed c.in_ok-need.field-0 c.in_default.not-Some in
    let ran = runs_lines c.args.bench.now c.loop.bench c.run_ahead.new.bench U V W (unread c.args.ahead.now) c.loop.invariant.0 c.args.ahead.now.lines c.loop.ahead c.run_ahead.new.ahead c.loop.invariant.2
    (λ plain undrawn more old. subst (λ n. AheadRan c.loop.bench c.run_ahead.new.bench V W c.loop.ahead c.run_ahead.new.ahead more (Ok n)) none (c.in_ok-need.ensures.script plain undrawn more old)) in
    let fed = c.in_ok-read_on.ensures.fed in
    let from = Consumes-trans (g.F.Feed.remaining c.args.feed.now) (g.F.Feed.remaining c.loop.feed) (g.F.Feed.remaining c.read_on.new.feed) c.loop.invariant.0 fed.0 c.loop.invariant.1 fed.1 in
    let here = runs_read c.args.bench.now c.run_ahead.new.bench U W X (unread c.args.ahead.now) c.loop.invariant.0 fed.0 (unread c.run_ahead.new.ahead) (unread c.read_on.new.self)
    c.args.ahead.now.lines c.run_ahead.new.ahead.lines c.read_on.new.self.lines c.read_on.ensures.kept fed.2 c.read_on.ensures.lines ran in
    record {
      script = run_ends_well c.args.bench.now c.run_ahead.new.bench U X (g.W.Sink.contents c.run_rest.new.writer) (g.F.Feed.remaining c.args.feed.now) (g.F.Feed.remaining c.read_on.new.feed)
          (unread c.args.ahead.now) (c.loop.invariant.0 ++ fed.0) (unread c.read_on.new.self) c.args.ahead.now.lines c.read_on.new.self.lines c.run_rest.result
          from (fed.3 c.if-not-branch.true).1 here c.run_rest.ensures.script;
      carries =
          let carried = carry_on c.args.bench.now c.loop.bench c.run_ahead.new.bench U V W (unread c.args.ahead.now) c.loop.invariant.0 c.args.ahead.now.lines c.loop.ahead c.run_ahead.new.ahead c.loop.invariant.3
          (λ more. subst (λ n. AheadLines c.loop.ahead c.run_ahead.new.ahead more c.loop.bench c.run_ahead.new.bench V W (Ok n)) none (c.in_ok-need.ensures.carries more)) in
          let after = carry_read c.args.bench.now c.run_ahead.new.bench U W X (unread c.args.ahead.now) c.loop.invariant.0 fed.0 (unread c.run_ahead.new.ahead) (unread c.read_on.new.self)
          c.args.ahead.now.lines c.run_ahead.new.ahead.lines c.read_on.new.self.lines c.read_on.ensures.kept fed.2 c.read_on.ensures.lines carried in
          carry_ends c.args.bench.now c.run_ahead.new.bench c.run_rest.new.bench U X (g.W.Sink.contents c.run_rest.new.writer) (g.F.Feed.remaining c.args.feed.now) (g.F.Feed.remaining c.read_on.new.feed)
          (unread c.args.ahead.now) (c.loop.invariant.0 ++ fed.0) (unread c.read_on.new.self) c.args.ahead.now.lines c.read_on.new.self.lines c.run_rest.new.ahead c.run_rest.result
          from (fed.3 c.if-not-branch.true).1 after c.run_rest.ensures.carries;
      calls =
          run_to_end g.F.Feed.feeds g.W.Sink.calls c.args.feed.now c.read_on.new.feed c.args.writer.now c.read_on.new.writer c.run_rest.new.writer c.run_rest.new.ahead.lines c.run_rest.result
          (all_succeed g.W.Sink.calls c.args.writer.now c.run_ahead.new.writer c.read_on.new.writer
          (all_succeed g.W.Sink.calls c.args.writer.now c.loop.writer c.run_ahead.new.writer c.loop.invariant.4 c.in_ok-need.ensures.calls) c.in_ok-read_on.ensures.calls.1)
          c.run_rest.ensures.calls;
    }

pub loop-preserved : goal.loop-preserved
loop-preserved g c =
    let U = g.W.Sink.contents c.args.writer.now in
    let V = g.W.Sink.contents c.loop.writer in
    let W = g.W.Sink.contents c.run_ahead.new.writer in
    let X = g.W.Sink.contents c.read_on.new.writer in
    let none = none_needed c.in_ok-need.field-0 c.in_default.not-Some in
    let ran = runs_lines c.args.bench.now c.loop.bench c.run_ahead.new.bench U V W (unread c.args.ahead.now) c.loop.invariant.0 c.args.ahead.now.lines c.loop.ahead c.run_ahead.new.ahead c.loop.invariant.2
    (λ plain undrawn more old. subst (λ n. AheadRan c.loop.bench c.run_ahead.new.bench V W c.loop.ahead c.run_ahead.new.ahead more (Ok n)) none (c.in_ok-need.ensures.script plain undrawn more old)) in
    let fed = c.in_ok-read_on.ensures.fed in
    let from = Consumes-trans (g.F.Feed.remaining c.args.feed.now) (g.F.Feed.remaining c.loop.feed) (g.F.Feed.remaining c.read_on.new.feed) c.loop.invariant.0 fed.0 c.loop.invariant.1 fed.1 in
    let here = runs_read c.args.bench.now c.run_ahead.new.bench U W X (unread c.args.ahead.now) c.loop.invariant.0 fed.0 (unread c.run_ahead.new.ahead) (unread c.read_on.new.self)
    c.args.ahead.now.lines c.run_ahead.new.ahead.lines c.read_on.new.self.lines c.read_on.ensures.kept fed.2 c.read_on.ensures.lines ran in
    let carried = carry_on c.args.bench.now c.loop.bench c.run_ahead.new.bench U V W (unread c.args.ahead.now) c.loop.invariant.0 c.args.ahead.now.lines c.loop.ahead c.run_ahead.new.ahead c.loop.invariant.3
    (λ more. subst (λ n. AheadLines c.loop.ahead c.run_ahead.new.ahead more c.loop.bench c.run_ahead.new.bench V W (Ok n)) none (c.in_ok-need.ensures.carries more)) in
    let after = carry_read c.args.bench.now c.run_ahead.new.bench U W X (unread c.args.ahead.now) c.loop.invariant.0 fed.0 (unread c.run_ahead.new.ahead) (unread c.read_on.new.self)
    c.args.ahead.now.lines c.run_ahead.new.ahead.lines c.read_on.new.self.lines c.read_on.ensures.kept fed.2 c.read_on.ensures.lines carried in
    let calls = c.in_ok-read_on.ensures.calls in (
      c.loop.invariant.0 ++ fed.0,
      from,
      here,
      after,
      all_succeed g.W.Sink.calls c.args.writer.now c.run_ahead.new.writer c.read_on.new.writer
          (all_succeed g.W.Sink.calls c.args.writer.now c.loop.writer c.run_ahead.new.writer c.loop.invariant.4 c.in_ok-need.ensures.calls) calls.1,
      fed_more g.F.Feed.feeds c.args.feed.now c.loop.feed c.read_on.new.feed c.loop.counter c.in_ok-read_on.field-0 calls.0.0 c.loop.invariant.5 c.if-not-branch.false calls.0.1,
    )

pub loop-init : goal.loop-init
loop-init g c = (
  [],
  Consumes-nil (g.F.Feed.remaining c.args.feed.now),
  runs_first c.args.bench.now (g.W.Sink.contents c.args.writer.now) (unread c.args.ahead.now) c.args.ahead.now.lines,
  carry_first c.args.bench.now (g.W.Sink.contents c.args.writer.now) (unread c.args.ahead.now) c.args.ahead.now.lines,
  no_calls g.W.Sink.calls c.args.writer.now,
  fed_first g.F.Feed.feeds c.args.feed.now,
)

pub returns : goal.returns
returns g c = record {
  script = run_fails c.args.bench.now c.loop.bench (g.W.Sink.contents c.args.writer.now) (g.W.Sink.contents c.loop.writer) (g.W.Sink.contents c.loop.writer)
      (g.F.Feed.remaining c.args.feed.now) (g.F.Feed.remaining c.loop.feed) (unread c.args.ahead.now) c.loop.invariant.0 (unread c.loop.ahead) c.args.ahead.now.lines c.loop.ahead.lines
      c.fault.result _ c.loop.invariant.1 c.loop.invariant.2
      (λ more plain undrawn old. outside_fails (g.W.Sink.contents c.loop.writer) (g.W.Sink.contents c.loop.writer) (session_of c.loop.bench.interpreter) (lines (unread c.loop.ahead ++ more)) c.loop.ahead.lines
      causes.TooManyReads c.fault.result (Appends-nil _) tt c.fault.ensures.line c.fault.ensures.cause)
      refl;
  carries =
      carry_fails c.args.bench.now c.loop.bench c.loop.bench (g.W.Sink.contents c.args.writer.now) (g.W.Sink.contents c.loop.writer) (g.W.Sink.contents c.loop.writer)
      (g.F.Feed.remaining c.args.feed.now) (g.F.Feed.remaining c.loop.feed) (g.F.Feed.remaining c.loop.feed) (unread c.args.ahead.now) c.loop.invariant.0 (unread c.loop.ahead) c.args.ahead.now.lines c.loop.ahead.lines
      c.loop.ahead c.fault.result _ c.loop.invariant.1 c.loop.invariant.3
      (λ more. outside_next (lines (unread c.loop.ahead ++ more)) (lines (unread c.loop.ahead ++ more)) c.loop.ahead.lines c.loop.ahead.lines causes.TooManyReads c.fault.result c.loop.bench c.loop.bench c.loop.bench
      (g.W.Sink.contents c.loop.writer) (g.W.Sink.contents c.loop.writer) (g.W.Sink.contents c.loop.writer) (carried_first (lines (unread c.loop.ahead ++ more)) c.loop.ahead.lines c.loop.bench (g.W.Sink.contents c.loop.writer))
      c.fault.ensures.line c.fault.ensures.cause tt)
      refl;
  calls = run_reads_all {A = RunEnd} g.F.Feed.feeds g.W.Sink.calls c.args.feed.now c.loop.feed c.args.writer.now c.loop.writer c.loop.counter c.loop.ahead.lines c.fault.result (Err c.fault.result) c.loop.invariant.4 c.loop.invariant.5 (omega arith) c.fault.ensures.cause refl;
}
