use Rattle.std.proofs.Common.{Err, refl, inl, inr}
use Rattle.hid_script.specs.declared.fault.Cause.TheVariants.{Write}
use Rattle.hid_script.proofs.FlushLemmas.{never_flushed}
use Rattle.hid_script.proofs.StreamLemmas.{turns_flushed, turns_lost, turns_end}
use Rattle.hid_script.proofs.runs.run.Goals as goal

pub returns-in-Err-clause-ran : goal.returns-in-Err-clause-ran
returns-in-Err-clause-ran g c = never_flushed c.args.options _ _ _ _ c.run_lines-end.result _ c.line_of.ensures refl c.run_lines-end.ensures.ran c.flush.ensures.bytes

pub returns-in-Err-clause-reads : goal.returns-in-Err-clause-reads
returns-in-Err-clause-reads g c = inr (refl, (c.run_lines-end.result, c.run_lines-end.ensures.reads, c.line_of.ensures))

pub returns-in-Err-clause-turns : goal.returns-in-Err-clause-turns
returns-in-Err-clause-turns g c = turns_lost g.R.Source.reads g.W.Sink.calls c.args.reader.now c.run_lines-end.new.reader c.args.writer.now c.run_lines-end.new.writer c.flush.new.self c.run_lines-end.result c.line_of.result c.run_lines-end.ensures.turns c.in-Err.ensures.call

pub returns-in-Err-clause-writes : goal.returns-in-Err-clause-writes
returns-in-Err-clause-writes g c = turns_end g.R.Source.reads g.W.Sink.calls c.args.reader.now c.run_lines-end.new.reader c.args.writer.now c.flush.new.self (Err (record { line = c.line_of.result; cause = Write }))
    (turns_lost g.R.Source.reads g.W.Sink.calls c.args.reader.now c.run_lines-end.new.reader c.args.writer.now c.run_lines-end.new.writer c.flush.new.self c.run_lines-end.result c.line_of.result c.run_lines-end.ensures.turns c.in-Err.ensures.call)

pub returns-in-Ok-clause-reads : goal.returns-in-Ok-clause-reads
returns-in-Ok-clause-reads g c = inl c.run_lines-end.ensures.reads

pub returns-in-Ok-clause-turns : goal.returns-in-Ok-clause-turns
returns-in-Ok-clause-turns g c = turns_flushed g.R.Source.reads g.W.Sink.calls c.args.reader.now c.run_lines-end.new.reader c.args.writer.now c.run_lines-end.new.writer c.flush.new.self c.run_lines-end.result c.run_lines-end.ensures.turns c.in-Ok.ensures.call

pub returns-in-Ok-clause-writes : goal.returns-in-Ok-clause-writes
returns-in-Ok-clause-writes g c = turns_end g.R.Source.reads g.W.Sink.calls c.args.reader.now c.run_lines-end.new.reader c.args.writer.now c.flush.new.self c.run_lines-end.result
    (turns_flushed g.R.Source.reads g.W.Sink.calls c.args.reader.now c.run_lines-end.new.reader c.args.writer.now c.run_lines-end.new.writer c.flush.new.self c.run_lines-end.result c.run_lines-end.ensures.turns c.in-Ok.ensures.call)
