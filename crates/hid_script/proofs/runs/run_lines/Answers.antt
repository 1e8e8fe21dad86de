use Rattle.std.proofs.Common.{[], refl, inl}
use Rattle.hid_script.proofs.PlaceLemmas.{never_begun}
use Rattle.hid_script.proofs.StreamLemmas.{none_read, no_calls, no_turns, ends_before}
use Rattle.hid_script.proofs.runs.run_lines.Goals as goal

pub returns-in-Err-clause-ran : goal.returns-in-Err-clause-ran
returns-in-Err-clause-ran g c = never_begun c.args.options _ _ _ refl c.in-Err.ensures.memory

pub returns-in-Err-clause-reads : goal.returns-in-Err-clause-reads
returns-in-Err-clause-reads g c = rw c.in-Err.ensures.memory (inl (none_read g.R.Source.reads c.args.reader.now))

pub returns-in-Err-clause-turns : goal.returns-in-Err-clause-turns
returns-in-Err-clause-turns g c = ends_before g.R.Source.reads g.W.Sink.calls c.args.reader.now c.args.reader.now c.args.writer.now c.args.writer.now 0 [] _ (no_turns g.R.Source.reads g.W.Sink.calls c.args.reader.now c.args.writer.now)
    (rw c.in-Err.ensures.memory (no_calls g.W.Sink.calls c.args.writer.now))
