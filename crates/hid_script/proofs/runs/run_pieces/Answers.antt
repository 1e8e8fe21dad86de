use Rattle.std.proofs.Common.{[], refl, sym, arith, ◌++◌, inl, take, add-one, ◌∙◌}
use Rattle.std.proofs.lemmas.List.{length-take}
use Rattle.std.proofs.KnownBytes.{Appends-nil, Appends-trans, Consumes-nil, Consumes-trans, Consumes-kept}
use Rattle.hid_script.specs.Runs.{ending_of}
use Rattle.hid_script.specs.Script.{place_of}
use Rattle.hid_script.proofs.PlaceLemmas.{whole_run, piece_stops, outside_run, advances_nothing, advances_more}
use Rattle.hid_script.proofs.FlushLemmas.{kept_written, cut_run}
use Rattle.hid_script.specs.Streams.{Gave, Failed}
use Rattle.hid_script.proofs.StreamLemmas.{stands_in, all_reads, some_given, no_calls, ends_at, line_reads, end_reads, flush_done, flush_lost, no_turns, one_turn, quiet_turn, turns_read, ends_before, ends_after, line_writes}
use Rattle.hid_script.proofs.runs.run_pieces.Goals.{in-Bytes+in_ok-feed-in-Bytes, in-Interrupted}
use Rattle.hid_script.proofs.runs.run_pieces.Goals as goal

pub returns-then-is_err-clause-ran : goal.returns-then-is_err-clause-ran
returns-then-is_err-clause-ran g c =
    let before = c.loop.invariant.0 in
    cut_run (place_of c.args.script.now) _ _ _ _ _ before.0 before.1 (place_of c.loop.script) c.fault.result before.2 before.3 before.4 c.flush.ensures.bytes c.fault.ensures.1 c.fault.ensures.0

pub returns-in-Bytes-eq0-clause-ran : goal.returns-in-Bytes-eq0-clause-ran
returns-in-Bytes-eq0-clause-ran g c =
    let before = c.loop.invariant.0 in
    let kept = kept_written _ _ _ before.1 before.3 c.flush.ensures.bytes in
    let told = c.finish.ensures.ran in
    let given = rw c.in-Bytes-eq0.is at c.read.ensures.bytes in
    whole_run (place_of c.args.script.now) _ _ _ _ _ _ before.0 before.1 told.0 _ (place_of c.loop.script) _ before.2 kept before.4 given.0 (rw c.in-Bytes-eq0.field-0-test refl) (given.1 c.in-Bytes-eq0.field-0-test (omega arith)) told.1 told.2

pub returns-in_err-feed-in-Bytes-clause-ran : goal.returns-in_err-feed-in-Bytes-clause-ran
returns-in_err-feed-in-Bytes-clause-ran g c =
    let before = c.loop.invariant.0 in
    let kept = kept_written _ _ _ before.1 before.3 c.flush.ensures.bytes in
    let told = c.in_err-feed-in-Bytes.ensures.taken in
    piece_stops (place_of c.args.script.now) _ _ _ _ _ _ before.0 before.1 told.0 _ (place_of c.loop.script) c.in_err-feed-in-Bytes.field-0.0 _ before.2 kept before.4 c.in-Bytes.ensures.bytes.0 told.1 told.2 c.from_residual.ensures.1

pub returns-in-Failed-clause-ran : goal.returns-in-Failed-clause-ran
unfolding ending_of
returns-in-Failed-clause-ran g c =
    let before = c.loop.invariant.0 in
    let kept = kept_written _ _ _ before.1 before.3 c.flush.ensures.bytes in
    outside_run (place_of c.args.script.now) _ _ _ _ before.0 before.1 (place_of c.loop.script) c.fault-in-Failed.result before.2 kept before.4 (rw c.fault-in-Failed.ensures.1 refl) c.fault-in-Failed.ensures.0

pub loop-preserved : goal.loop-preserved
loop-preserved g c =
    let before = c.loop.invariant.0 in
    let kept = kept_written _ _ _ before.1 before.3 c.flush.ensures.bytes in
    elim c.match-read.branch [
      | in-Bytes+in_ok-feed-in-Bytes w ↦
          let told = w.in_ok-feed-in-Bytes.ensures.taken in rw (w.writer-is, w.script-is) (
            (
              before.0 ++ take w.in-Bytes.n c.read.new.buf,
              before.1 ++ told.0,
              Consumes-trans _ _ _ _ _ before.2 w.in-Bytes.ensures.bytes.0,
              Appends-trans _ _ _ _ _ kept told.1,
              advances_more _ (place_of c.loop.script) _ _ _ _ _ before.4 told.2,
              rw add-one (one_turn g.R.Source.reads g.W.Sink.calls c.args.reader.now c.loop.reader c.read.new.self c.args.writer.now c.loop.writer c.flush.new.self w.feed.new.writer c.loop.counter before.0 (Gave (take w.in-Bytes.n c.read.new.buf)) before.5
                  (flush_done g.W.Sink.calls c.loop.writer c.flush.new.self c.flush.result (sym c.is_err.ensures.value ∙ c.if-is_err.false) c.flush.ensures.call) w.in-Bytes.ensures.answer (some_given _ _ w.in-Bytes.n-test.1 w.in-Bytes.ensures.bound.0) w.in_ok-feed-in-Bytes.ensures.outside),
            ),
            omega (arith, w.in_ok-feed-in-Bytes.ensures.count, length-take w.in-Bytes.n c.read.new.buf),
          )
      | in-Interrupted w ↦ rw (w.writer-is, w.script-is) (
        (
          before.0,
          before.1,
          Consumes-kept _ _ _ before.0 before.2 w.in-Interrupted.ensures.bytes,
          kept,
          before.4,
          rw add-one (quiet_turn g.R.Source.reads g.W.Sink.calls c.args.reader.now c.loop.reader c.read.new.self c.args.writer.now c.loop.writer c.flush.new.self c.loop.counter before.0 before.5
              (flush_done g.W.Sink.calls c.loop.writer c.flush.new.self c.flush.result (sym c.is_err.ensures.value ∙ c.if-is_err.false) c.flush.ensures.call) w.in-Interrupted.ensures.answer),
        ),
        omega (arith, c.loop.invariant.1),
      )
    ]

pub returns-clause-ran : goal.returns-clause-ran
unfolding ending_of
returns-clause-ran g c =
    let before = c.loop.invariant.0 in
    outside_run (place_of c.args.script.now) _ _ _ _ before.0 before.1 (place_of c.loop.script) c.fault-2.result before.2 before.3 before.4 (rw c.fault-2.ensures.1 refl) c.fault-2.ensures.0

pub loop-init : goal.loop-init
loop-init g c = (([], [], Consumes-nil _, Appends-nil _, advances_nothing (place_of c.args.script.now), no_turns g.R.Source.reads g.W.Sink.calls c.args.reader.now c.args.writer.now), omega (arith, c.requires.first))

-- ---- what the reads and the writes answered

pub returns-then-is_err-clause-reads : goal.returns-then-is_err-clause-reads
returns-then-is_err-clause-reads g c =
    let before = c.loop.invariant.0 in
    rw c.fault.ensures.1 (inl (c.loop.counter, before.0, turns_read _ _ _ _ _ _ c.loop.counter before.0 before.5, omega (arith, c.loop-test.true)))

pub returns-then-is_err-clause-turns : goal.returns-then-is_err-clause-turns
returns-then-is_err-clause-turns g c =
    let before = c.loop.invariant.0 in
    ends_before g.R.Source.reads g.W.Sink.calls c.args.reader.now c.loop.reader c.args.writer.now c.loop.writer c.loop.counter before.0 _ before.5
    (rw c.fault.ensures.1 (flush_lost g.W.Sink.calls c.loop.writer c.flush.new.self c.flush.result (sym c.is_err.ensures.value ∙ c.if-is_err.true) c.flush.ensures.call))

pub returns-in-Bytes-eq0-clause-reads : goal.returns-in-Bytes-eq0-clause-reads
returns-in-Bytes-eq0-clause-reads g c =
    let before = c.loop.invariant.0 in
    end_reads g.R.Source.reads c.args.reader.now c.read.new.self g.W.Sink.calls c.flush.new.self c.finish.new.writer (place_of c.args.script.now) (place_of c.loop.script) before.0 before.1 c.finish.ensures.ran.0 _
    (c.loop.counter, c.loop.reader, turns_read _ _ _ _ _ _ c.loop.counter before.0 before.5, rw c.in-Bytes-eq0.field-0-test at c.in-Bytes-eq0.ensures.answer, omega (arith, c.loop-test.true))
    c.requires.none c.requires.first c.loop.script.buffer.unbroken before.4 c.finish.ensures.ran.2 c.finish.ensures.line c.finish.ensures.outside

pub returns-in-Bytes-eq0-clause-turns : goal.returns-in-Bytes-eq0-clause-turns
returns-in-Bytes-eq0-clause-turns g c =
    let before = c.loop.invariant.0 in
    ends_after g.R.Source.reads g.W.Sink.calls c.args.reader.now c.loop.reader c.read.new.self c.args.writer.now c.loop.writer c.flush.new.self c.loop.counter before.0 (Gave []) _ before.5
    (flush_done g.W.Sink.calls c.loop.writer c.flush.new.self c.flush.result (sym c.is_err.ensures.value ∙ c.if-is_err.false) c.flush.ensures.call) (rw c.in-Bytes-eq0.field-0-test at c.in-Bytes-eq0.ensures.answer)
    (line_writes g.W.Sink.calls c.flush.new.self c.finish.new.writer _ c.finish.ensures.outside)

pub returns-in_err-feed-in-Bytes-clause-reads : goal.returns-in_err-feed-in-Bytes-clause-reads
returns-in_err-feed-in-Bytes-clause-reads g c =
    let before = c.loop.invariant.0 in
    line_reads g.R.Source.reads c.args.reader.now c.read.new.self g.W.Sink.calls c.flush.new.self c.feed.new.writer before.0 (take c.in-Bytes.n c.read.new.buf) c.in_err-feed-in-Bytes.field-0.0 _ c.in_err-feed-in-Bytes.ensures.outside
    (c.loop.counter, c.loop.reader, turns_read _ _ _ _ _ _ c.loop.counter before.0 before.5, c.in-Bytes.ensures.answer, omega (arith, c.loop-test.true))
    (some_given c.in-Bytes.n c.read.new.buf c.in-Bytes.n-test.1 c.in-Bytes.ensures.bound.0) c.from_residual.ensures.1

pub returns-in_err-feed-in-Bytes-clause-turns : goal.returns-in_err-feed-in-Bytes-clause-turns
returns-in_err-feed-in-Bytes-clause-turns g c =
    let before = c.loop.invariant.0 in
    let fault = c.in_err-feed-in-Bytes.field-0.0 in
    ends_after g.R.Source.reads g.W.Sink.calls c.args.reader.now c.loop.reader c.read.new.self c.args.writer.now c.loop.writer c.flush.new.self c.loop.counter before.0 (Gave (take c.in-Bytes.n c.read.new.buf)) _ before.5
    (flush_done g.W.Sink.calls c.loop.writer c.flush.new.self c.flush.result (sym c.is_err.ensures.value ∙ c.if-is_err.false) c.flush.ensures.call) c.in-Bytes.ensures.answer
    (line_writes g.W.Sink.calls c.flush.new.self c.feed.new.writer _ (ends_at g.W.Sink.calls c.flush.new.self c.feed.new.writer fault _ c.in_err-feed-in-Bytes.ensures.outside c.from_residual.ensures.1))

pub returns-in-Failed-clause-reads : goal.returns-in-Failed-clause-reads
returns-in-Failed-clause-reads g c =
    let before = c.loop.invariant.0 in
    let line = c.fault-in-Failed.ensures.0 ∙ stands_in (place_of c.args.script.now) (place_of c.loop.script) before.0 before.1 c.requires.none c.requires.first c.loop.script.buffer.unbroken before.4 in
    rw c.fault-in-Failed.ensures.1 (before.0, (c.loop.counter, c.loop.reader, turns_read _ _ _ _ _ _ c.loop.counter before.0 before.5, c.in-Failed.ensures.answer, omega (arith, c.loop-test.true)), line)

pub returns-in-Failed-clause-turns : goal.returns-in-Failed-clause-turns
returns-in-Failed-clause-turns g c =
    let before = c.loop.invariant.0 in
    ends_after g.R.Source.reads g.W.Sink.calls c.args.reader.now c.loop.reader c.read.new.self c.args.writer.now c.loop.writer c.flush.new.self c.loop.counter before.0 Failed _ before.5
    (flush_done g.W.Sink.calls c.loop.writer c.flush.new.self c.flush.result (sym c.is_err.ensures.value ∙ c.if-is_err.false) c.flush.ensures.call) c.in-Failed.ensures.answer
    (rw c.fault-in-Failed.ensures.1 (no_calls g.W.Sink.calls c.flush.new.self))

pub returns-clause-reads : goal.returns-clause-reads
returns-clause-reads g c =
    let before = c.loop.invariant.0 in
    let line = c.fault-2.ensures.0 ∙ stands_in (place_of c.args.script.now) (place_of c.loop.script) before.0 before.1 c.requires.none c.requires.first c.loop.script.buffer.unbroken before.4 in
    rw c.fault-2.ensures.1 (before.0, all_reads _ _ _ _ _ (turns_read _ _ _ _ _ _ c.loop.counter before.0 before.5) c.loop.auto.counter-end c.loop-test.false, line)

pub returns-clause-turns : goal.returns-clause-turns
returns-clause-turns g c =
    let before = c.loop.invariant.0 in
    ends_before g.R.Source.reads g.W.Sink.calls c.args.reader.now c.loop.reader c.args.writer.now c.loop.writer c.loop.counter before.0 _ before.5
    (rw c.fault-2.ensures.1 (no_calls g.W.Sink.calls c.loop.writer))
