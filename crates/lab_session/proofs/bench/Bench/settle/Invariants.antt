use Rattle.std.proofs.Common.{false}
use Rattle.usb_transact.specs.declared.transaction.Fate.TheVariants.{Clean}
use Rattle.hid_script.specs.Streams.{AllSucceed}
use Rattle.lab_session.specs.Bench.{Does}
use Rattle.lab_session.specs.Lines.{Often, PollsOnce}
use Rattle.lab_session.proofs.bench.Bench.settle.Given as goal

-- each poll so far was answered by something else than nothing to send, and no call of the writer failed
abbrev pub invariant-loop : goal.invariant-loop
invariant-loop g l =
    Does (Often l.counter (PollsOnce l.dev Clean false)) l.fn.self l.self (g.W.Sink.contents l.fn.writer) (g.W.Sink.contents l.writer)
    × AllSucceed g.W.Sink.calls l.fn.writer l.writer
