use Rattle.std.proofs.Common.{[], ◌+◌, ◌++◌, ap, append-nil, refl, subst, sym, ◌∙◌, Some, Ok}
use Rattle.std.specs.Str.Lines.{lines}
use Rattle.lab_session.specs.Ahead.{unread}
use Rattle.lab_session.specs.Asking.{asked_said}
use Rattle.lab_session.specs.Carrying.{AsksLast, FedLines, RanLines}
use Rattle.lab_session.proofs.CarryLemmas.{asks_as, asks_fail, rest_as}
use Rattle.lab_session.proofs.CallLemmas.{lines_by, memory_fails}
use Rattle.lab_session.proofs.DoingLemmas.{err_is}
use Rattle.lab_session.proofs.RunLemmas.{left_is}
use Rattle.lab_session.proofs.runs.run_rest.Goals as goal

pub returns-in_err-need-in-Asks-clause-carries : goal.returns-in_err-need-in-Asks-clause-carries
returns-in_err-need-in-Asks-clause-carries g c =
    let U = g.W.Sink.contents c.args.writer.now in
    let V = g.W.Sink.contents c.run_last.new.writer in
    let ran = subst (λ r. RanLines (lines c.unread.result.now) c.lines.result c.args.bench.now c.run_last.new.bench U V (Ok r)) c.in-Asks.is c.in_ok-summary.ensures.carries in
    let last = subst (λ r. AsksLast c.lines.result (Ok r)) c.in-Asks.is c.in_ok-summary.ensures.last in
    subst (λ r. FedLines (lines (unread c.args.ahead.now)) c.args.ahead.now.lines c.args.ahead.now (Some []) c.args.bench.now c.run_last.new.bench U V r) (sym (err_is c.from_residual-in_err-need-in-Asks.result _ c.from_residual-in_err-need-in-Asks.ensures.1))
    (asks_fail (lines (unread c.args.ahead.now)) (lines c.in-Asks.rest.now) c.args.ahead.now.lines c.in-Asks.line (asked_said c.in-Asks.asked) c.in_err-need-in-Asks.field-0.0 c.args.bench.now c.run_last.new.bench U V
    (rest_as c.args.ahead.now c.unread.result.now c.lines.result (lines c.in-Asks.rest.now) c.in-Asks.line (asked_said c.in-Asks.asked) c.args.bench.now c.run_last.new.bench U V c.unread.ensures c.lines.ensures ran)
    (c.in_err-need-in-Asks.ensures.err.0 ∙ ap (λ n. n + 1) (c.lines-line.ensures ∙ sym c.lines.ensures) ∙ sym last.0) c.in_err-need-in-Asks.ensures.err.1)

pub returns-in_ok-need-in-Asks-clause-carries : goal.returns-in_ok-need-in-Asks-clause-carries
returns-in_ok-need-in-Asks-clause-carries g c =
    let U = g.W.Sink.contents c.args.writer.now in
    let V = g.W.Sink.contents c.run_last.new.writer in
    let ran = subst (λ r. RanLines (lines c.unread.result.now) c.lines.result c.args.bench.now c.run_last.new.bench U V (Ok r)) c.in-Asks.is c.in_ok-summary.ensures.carries in
    let last = subst (λ r. AsksLast c.lines.result (Ok r)) c.in-Asks.is c.in_ok-summary.ensures.last in
    let none = left_is c.args.ahead.now c.advance.new.self c.unread.result.now c.unread.result.now [] c.unread.ensures (sym (append-nil c.unread.result.now)) c.advance.ensures.unread in (
      [],
      refl,
      asks_as (lines (unread c.args.ahead.now)) (lines (unread c.args.ahead.now)) (lines c.in-Asks.rest.now) (lines (unread c.advance.new.self ++ [])) c.args.ahead.now.lines c.in-Asks.line c.advance.new.self.lines (asked_said c.in-Asks.asked) _
          c.args.bench.now c.run_last.new.bench U V refl (ap lines (last.1 ∙ sym none ∙ sym (append-nil (unread c.advance.new.self))))
          (last.0 ∙ ap (λ n. n + 1) (c.lines.ensures ∙ sym c.lines-line.ensures) ∙ sym c.advance.ensures.lines) (sym c.in_ok-need-in-Asks.ensures.need)
          (rest_as c.args.ahead.now c.unread.result.now c.lines.result (lines c.in-Asks.rest.now) c.in-Asks.line (asked_said c.in-Asks.asked) c.args.bench.now c.run_last.new.bench U V c.unread.ensures c.lines.ensures ran),
    )

pub returns-in_err-summary-clause-calls : goal.returns-in_err-summary-clause-calls
returns-in_err-summary-clause-calls g c = lines_by g.W.Sink.calls c.args.writer.now c.run_last.new.writer c.in_err-summary.field-0.0 c.from_residual.result c.in_err-summary.ensures.calls c.from_residual.ensures.1

pub returns-in_err-need-in-Asks-clause-calls : goal.returns-in_err-need-in-Asks-clause-calls
returns-in_err-need-in-Asks-clause-calls g c =
    lines_by g.W.Sink.calls c.args.writer.now c.run_last.new.writer c.in_err-need-in-Asks.field-0.0 c.from_residual-in_err-need-in-Asks.result
    (memory_fails g.W.Sink.calls c.args.writer.now c.run_last.new.writer c.in_err-need-in-Asks.field-0.0 c.in_err-need-in-Asks.ensures.err.1 c.in_ok-summary.ensures.calls)
    c.from_residual-in_err-need-in-Asks.ensures.1
