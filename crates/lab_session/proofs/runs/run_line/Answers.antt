use Rattle.std.proofs.Common.{◌+◌, refl, ap, None, Ok, Err}
use Rattle.hid_script.specs.Interpreter.{session_of}
use Rattle.hid_script.proofs.StreamLemmas.{no_calls}
use Rattle.lab_session.proofs.NothingLemmas.{nothing_done, nothing_expects, nothing_prints}
use Rattle.lab_session.proofs.RunLemmas.{ran_on, ran_out}
use Rattle.lab_session.proofs.runs.run_line.Goals as goal

pub returns-then-says_nothing-clause-script : goal.returns-then-says_nothing-clause-script
returns-then-says_nothing-clause-script g c = λ plain undrawn old.
    let U = g.W.Sink.contents c.args.writer.now in
    let is = c.if-says_nothing.ensures refl in
    ran_on c.args.bench.now c.args.bench.now U U c.args.line.now c.args.before None old undrawn (nothing_done c.args.line.now c.args.bench.now U is)
    (nothing_prints U (session_of c.args.bench.now.interpreter) c.args.line.now is)

pub returns-then-says_nothing-clause-carries : goal.returns-then-says_nothing-clause-carries
returns-then-says_nothing-clause-carries g c =
    let is = c.if-says_nothing.ensures refl in
    let same = c.args.bench.now.printer.transcript in
    record {
      does = nothing_done c.args.line.now c.args.bench.now (g.W.Sink.contents c.args.writer.now) is;
      expects = nothing_expects c.args.line.now same same c.args.bench.now.came.items (Ok tt) is;
    }

pub returns-in-Ok-clause-script : goal.returns-in-Ok-clause-script
returns-in-Ok-clause-script g c = λ plain undrawn old. ran_on c.args.bench.now c.line.new.self _ _ c.args.line.now c.args.before c.in-Ok.asked old undrawn c.in-Ok.ensures.does (c.in-Ok.ensures.prints plain undrawn old)

pub returns-in-Err-clause-script : goal.returns-in-Err-clause-script
returns-in-Err-clause-script g c = λ plain undrawn old. ran_out c.args.bench.now c.line.new.self _ _ c.args.line.now c.args.before (c.args.before + 1) c.in-Err.cause refl (c.in-Err.ensures.prints plain undrawn old)

pub returns-in-Err-clause-refused : goal.returns-in-Err-clause-refused
returns-in-Err-clause-refused g c = (
  refl,
  record {
    expects = c.in-Err.ensures.expects;
    unsettled = λ e. c.in-Err.ensures.unsettled (ap (λ x. Err x) e);
    prints = c.in-Err.ensures.prints;
  },
)

pub returns-then-says_nothing-clause-calls : goal.returns-then-says_nothing-clause-calls
returns-then-says_nothing-clause-calls g c = no_calls g.W.Sink.calls c.args.writer.now
