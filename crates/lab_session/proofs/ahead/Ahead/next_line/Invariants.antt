use Rattle.std.proofs.Common.{◌≡◌, ◌++◌, List, ℕ, []}
use Rattle.std.specs.Io.KnownBytes.{Consumes, Keeps}
use Rattle.lab_session.specs.Ahead.{unread}
use Rattle.lab_session.proofs.ahead.Ahead.next_line.Given as goal

-- nothing was taken or printed, and so much was read
abbrev pub invariant-loop : goal.invariant-loop
invariant-loop g l =
    (l.line.items ≡ []) × (read : List ℕ) × Consumes (g.F.Feed.remaining l.fn.feed) (g.F.Feed.remaining l.feed) read
    × (unread l.self ≡ unread l.fn.self ++ read) × (l.self.lines ≡ l.fn.self.lines)
    × Keeps (g.W.Sink.contents l.fn.writer) (g.W.Sink.contents l.writer)
