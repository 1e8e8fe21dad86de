use Rattle.hid_script.specs.Streams.{AllSucceed}
use Rattle.lab_session.specs.Bench.{Does}
use Rattle.lab_session.specs.Lines.{Often, Polls}
use Rattle.lab_session.proofs.bench.Bench.polls.Given as goal

abbrev pub invariant-loop : goal.invariant-loop
invariant-loop g l =
    Does (Often l.counter (Polls l.dev l.fate)) l.fn.self l.self (g.W.Sink.contents l.fn.writer) (g.W.Sink.contents l.writer)
    × AllSucceed g.W.Sink.calls l.fn.writer l.writer
