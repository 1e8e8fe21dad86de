use Rattle.std.proofs.Common.{◌+◌, [], ap, inl, refl, subst, sym, ◌∙◌, Err}
use Rattle.std.proofs.KnownBytes.{Appends-kept, Appends-nil}
use Rattle.lab_session.specs.Ahead.{unread}
use Rattle.lab_session.specs.Calls.{ReadFault}
use Rattle.lab_session.specs.Feeds.{IsOutside}
use Rattle.lab_session.proofs.CallLemmas.{read_by, read_handed, step_went}
use Rattle.lab_session.proofs.RunLemmas.{stops_here}
use Rattle.lab_session.proofs.ahead.Ahead.read_on.Goals as goal

pub returns-in-Err-clause-err : goal.returns-in-Err-clause-err
returns-in-Err-clause-err g c =
    stops_here (g.W.Sink.contents c.args.writer.now) (g.W.Sink.contents c.hand_on.new.writer) (unread c.args.self.now) c.args.self.now.lines c.in-Err.cause c.fault.result
    (Appends-kept _ _ _ [] (Appends-nil _) c.in-Err.ensures.kept) (inl (subst IsOutside (sym c.in-Err.ensures.cause) tt)) c.fault.ensures.line c.fault.ensures.cause

pub returns-in-Err-refill-clause-err : goal.returns-in-Err-refill-clause-err
returns-in-Err-refill-clause-err g c =
    stops_here (g.W.Sink.contents c.args.writer.now) (g.W.Sink.contents c.hand_on.new.writer) (unread c.args.self.now) c.args.self.now.lines c.in-Err-refill.cause c.fault-in-Err-refill.result
    (Appends-kept _ _ _ [] (Appends-nil _) c.hand_on.ensures.kept) c.in-Err-refill.ensures.err (c.fault-in-Err-refill.ensures.line ∙ ap (λ n. n + 1) c.refill.ensures.lines) c.fault-in-Err-refill.ensures.cause

pub returns-in-Err-clause-calls : goal.returns-in-Err-clause-calls
returns-in-Err-clause-calls g c =
    subst (ReadFault g.F.Feed.feeds g.W.Sink.calls c.args.feed.now c.args.feed.now c.args.writer.now c.hand_on.new.writer) (sym c.fault.ensures.cause)
    (read_handed g.F.Feed.feeds g.W.Sink.calls c.args.feed.now c.args.writer.now c.hand_on.new.writer c.in-Err.cause c.in-Err.ensures.cause c.in-Err.ensures.calls)

pub returns-in-Err-refill-clause-calls : goal.returns-in-Err-refill-clause-calls
returns-in-Err-refill-clause-calls g c =
    subst (ReadFault g.F.Feed.feeds g.W.Sink.calls c.args.feed.now c.refill.new.feed c.args.writer.now c.hand_on.new.writer) (sym c.fault-in-Err-refill.ensures.cause)
    (read_by g.F.Feed.feeds g.W.Sink.calls c.args.feed.now c.refill.new.feed c.args.writer.now c.hand_on.new.writer c.in-Err-refill.cause (Err c.in-Err-refill.cause) refl c.in-Err-refill.ensures.answer
    (step_went g.W.Sink.calls c.args.writer.now c.hand_on.new.writer c.hand_on.result c.hand_on.ensures.calls c.in_default.not-Err))

pub returns-in-Ok-clause-calls : goal.returns-in-Ok-clause-calls
returns-in-Ok-clause-calls g c = (
  c.in-Ok.ensures.answer,
  step_went g.W.Sink.calls c.args.writer.now c.hand_on.new.writer c.hand_on.result c.hand_on.ensures.calls c.in_default.not-Err,
)
