use Rattle.std.proofs.Common.{refl, None, Ok}
use Rattle.std.specs.Str.Lines.{strip_carriage_return}
use Rattle.hid_script.specs.Interpreter.{session_of}
use Rattle.hid_script.proofs.StreamLemmas.{no_calls}
use Rattle.lab_session.proofs.NothingLemmas.{nothing_done, nothing_expects, nothing_prints}
use Rattle.lab_session.proofs.RunLemmas.{ran_on}
use Rattle.lab_session.proofs.runs.run_whole_line.Goals as goal

pub returns-then-is_comment-clause-script : goal.returns-then-is_comment-clause-script
returns-then-is_comment-clause-script g c = λ plain undrawn old.
    let U = g.W.Sink.contents c.args.writer.now in
    let line = strip_carriage_return c.args.line.now in
    let is = c.if-is_comment.ensures refl in
    ran_on c.args.bench.now c.args.bench.now U U line c.args.before None old undrawn (nothing_done line c.args.bench.now U is)
    (nothing_prints U (session_of c.args.bench.now.interpreter) line is)

pub returns-then-is_comment-clause-carries : goal.returns-then-is_comment-clause-carries
returns-then-is_comment-clause-carries g c =
    let line = strip_carriage_return c.args.line.now in
    let is = c.if-is_comment.ensures refl in
    let same = c.args.bench.now.printer.transcript in
    record {
      does = nothing_done line c.args.bench.now (g.W.Sink.contents c.args.writer.now) is;
      expects = nothing_expects line same same c.args.bench.now.came.items (Ok tt) is;
    }

pub returns-then-is_comment-clause-calls : goal.returns-then-is_comment-clause-calls
returns-then-is_comment-clause-calls g c = no_calls g.W.Sink.calls c.args.writer.now
