use Rattle.std.proofs.Common.{ℕ, List}
use Rattle.std.specs.Io.KnownBytes.{Consumes}
use Rattle.hid_script.specs.Streams.{AllSucceed}
use Rattle.lab_session.specs.Ahead.{unread}
use Rattle.lab_session.specs.Calls.{FedOn}
use Rattle.lab_session.proofs.CarryLemmas.{HasCarried}
use Rattle.lab_session.proofs.RunLemmas.{HasRun}
use Rattle.lab_session.proofs.runs.run.Given as goal

-- So much was read, and the lines that are not ahead any more were carried out, whatever comes. No call of the writer failed, and
-- each feed gave bytes.
abbrev pub invariant-loop : goal.invariant-loop
invariant-loop g l =
    (read : List ℕ) × Consumes (g.F.Feed.remaining l.fn.feed) (g.F.Feed.remaining l.feed) read
    × HasRun l.fn.bench (g.W.Sink.contents l.fn.writer) (unread l.fn.ahead) l.fn.ahead.lines read l.bench (g.W.Sink.contents l.writer) (unread l.ahead) l.ahead.lines
    × HasCarried l.fn.bench (g.W.Sink.contents l.fn.writer) (unread l.fn.ahead) l.fn.ahead.lines read l.bench (g.W.Sink.contents l.writer) (unread l.ahead) l.ahead.lines
    × AllSucceed g.W.Sink.calls l.fn.writer l.writer × FedOn g.F.Feed.feeds l.fn.feed l.counter l.feed
