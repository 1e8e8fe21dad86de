use Rattle.std.proofs.Common.{◌++◌, arith, subst, sym, Ok}
use Rattle.std.specs.List.{All}
use Rattle.std.specs.Str.Lines.{lines}
use Rattle.std.proofs.KnownBytes.{Appends-nil}
use Rattle.hid_script.specs.declared.fault.Cause.TheVariants as causes
use Rattle.hid_script.specs.Interpreter.{session_of}
use Rattle.hid_text.specs.Lines.{IsUnbroken}
use Rattle.lab_session.specs.Ahead.{unread}
use Rattle.lab_session.specs.Scripts.{IsScripts, Leaves, LinesRan}
use Rattle.lab_session.specs.Asking.{asked_said}
use Rattle.lab_session.specs.Carrying.{AheadLines, CameLines}
use Rattle.lab_session.proofs.CarryLemmas.{ahead_asks, ahead_carried, ahead_stops, asks_fail, carried_first, outside_next}
use Rattle.hid_script.proofs.StreamLemmas.{no_calls}
use Rattle.lab_session.proofs.CallLemmas.{ahead_by, memory_fails, too_many_lines}
use Rattle.lab_session.proofs.DoingLemmas.{err_is}
use Rattle.lab_session.proofs.RunLemmas.{ahead_on, left_is, outside_fails}
use Rattle.lab_session.proofs.runs.run_ahead.Goals as goal

pub returns-then-lines-gt-MAX_LINES-clause-script : goal.returns-then-lines-gt-MAX_LINES-clause-script
returns-then-lines-gt-MAX_LINES-clause-script g c = λ plain undrawn more old.
    let U = g.W.Sink.contents c.args.writer.now in
    outside_fails U U (session_of c.args.bench.now.interpreter) (lines (unread c.args.ahead.now ++ more)) c.args.ahead.now.lines causes.TooManyReads c.fault.result
    (Appends-nil U) tt c.fault.ensures.line c.fault.ensures.cause

pub returns-in-Lines-clause-script : goal.returns-in-Lines-clause-script
returns-in-Lines-clause-script g c = λ plain undrawn more old.
    let U = g.W.Sink.contents c.args.writer.now in
    let V = g.W.Sink.contents c.run_lines.new.writer in
    let scripts = subst (λ t. All IsScripts (lines (t ++ more))) (sym c.unread.ensures) old in
    let ran = subst (λ d. LinesRan c.args.bench.now c.run_lines.new.bench U V c.unread.result.now c.lines-2.result more (Ok d)) c.in-Lines.is (c.in_ok-lines.ensures.script plain undrawn more scripts) in
    let leaves = subst (Leaves c.unread.result.now c.lines-2.result) c.in-Lines.is c.in_ok-lines.ensures.rest in
    let left = left_is c.args.ahead.now c.advance.new.self c.unread.result.now leaves.0.0 c.in-Lines.rest.now c.unread.ensures leaves.0.1 c.advance.ensures.unread in
    ahead_on c.args.bench.now c.run_lines.new.bench U V c.args.ahead.now c.advance.new.self c.unread.result.now c.in-Lines.rest.now more c.lines-2.result c.in-Lines.lines
    c.unread.ensures c.lines-2.ensures left c.advance.ensures.lines ran

pub returns-in-Lines-clause-unbroken : goal.returns-in-Lines-clause-unbroken
returns-in-Lines-clause-unbroken g c =
    let leaves = subst (Leaves c.unread.result.now c.lines-2.result) c.in-Lines.is c.in_ok-lines.ensures.rest in
    let left = left_is c.args.ahead.now c.advance.new.self c.unread.result.now leaves.0.0 c.in-Lines.rest.now c.unread.ensures leaves.0.1 c.advance.ensures.unread in
    subst IsUnbroken (sym left) leaves.2

pub returns-then-lines-gt-MAX_LINES-clause-carries : goal.returns-then-lines-gt-MAX_LINES-clause-carries
returns-then-lines-gt-MAX_LINES-clause-carries g c = λ more.
    let U = g.W.Sink.contents c.args.writer.now in
    let all = lines (unread c.args.ahead.now ++ more) in
    outside_next all all c.args.ahead.now.lines c.args.ahead.now.lines causes.TooManyReads c.fault.result c.args.bench.now c.args.bench.now c.args.bench.now U U U
    (carried_first all c.args.ahead.now.lines c.args.bench.now U) c.fault.ensures.line c.fault.ensures.cause tt

pub returns-in_err-lines-clause-carries : goal.returns-in_err-lines-clause-carries
returns-in_err-lines-clause-carries g c = λ more.
    let U = g.W.Sink.contents c.args.writer.now in
    subst (λ r. AheadLines c.args.ahead.now c.args.ahead.now more c.args.bench.now c.run_lines.new.bench U (g.W.Sink.contents c.run_lines.new.writer) r) (sym (err_is c.from_residual.result _ c.from_residual.ensures.1))
    (ahead_stops c.args.ahead.now c.unread.result.now more c.lines-2.result c.in_err-lines.field-0.0 c.args.bench.now c.run_lines.new.bench U (g.W.Sink.contents c.run_lines.new.writer) c.unread.ensures c.lines-2.ensures (c.in_err-lines.ensures.carries more))

pub returns-in-Lines-clause-carries : goal.returns-in-Lines-clause-carries
returns-in-Lines-clause-carries g c = λ more.
    let U = g.W.Sink.contents c.args.writer.now in
    let V = g.W.Sink.contents c.run_lines.new.writer in
    let came = subst (λ d. CameLines c.unread.result.now c.lines-2.result more c.args.bench.now c.run_lines.new.bench U V (Ok d)) c.in-Lines.is (c.in_ok-lines.ensures.carries more) in
    let leaves = subst (Leaves c.unread.result.now c.lines-2.result) c.in-Lines.is c.in_ok-lines.ensures.rest in
    let left = left_is c.args.ahead.now c.advance.new.self c.unread.result.now leaves.0.0 c.in-Lines.rest.now c.unread.ensures leaves.0.1 c.advance.ensures.unread in
    ahead_carried c.args.ahead.now c.advance.new.self c.unread.result.now c.in-Lines.rest.now more c.lines-2.result c.in-Lines.lines c.args.bench.now c.run_lines.new.bench U V
    c.unread.ensures c.lines-2.ensures left c.advance.ensures.lines came

pub returns-in_err-need-in-Asks-clause-carries : goal.returns-in_err-need-in-Asks-clause-carries
returns-in_err-need-in-Asks-clause-carries g c = λ more.
    let U = g.W.Sink.contents c.args.writer.now in
    let V = g.W.Sink.contents c.run_lines.new.writer in
    let came = subst (λ d. CameLines c.unread.result.now c.lines-2.result more c.args.bench.now c.run_lines.new.bench U V (Ok d)) c.in-Asks.is (c.in_ok-lines.ensures.carries more) in
    subst (λ r. AheadLines c.args.ahead.now c.args.ahead.now more c.args.bench.now c.run_lines.new.bench U V r) (sym (err_is c.from_residual-in_err-need-in-Asks.result _ c.from_residual-in_err-need-in-Asks.ensures.1))
    (ahead_stops c.args.ahead.now c.unread.result.now more c.lines-2.result c.in_err-need-in-Asks.field-0.0 c.args.bench.now c.run_lines.new.bench U V c.unread.ensures c.lines-2.ensures
    (asks_fail (lines (c.unread.result.now ++ more)) (lines (c.in-Asks.rest.now ++ more)) c.lines-2.result c.in-Asks.lines (asked_said c.in-Asks.asked) c.in_err-need-in-Asks.field-0.0 c.args.bench.now c.run_lines.new.bench U V came
    c.in_err-need-in-Asks.ensures.err.0 c.in_err-need-in-Asks.ensures.err.1))

pub returns-in_ok-need-in-Asks-clause-carries : goal.returns-in_ok-need-in-Asks-clause-carries
returns-in_ok-need-in-Asks-clause-carries g c = λ more.
    let U = g.W.Sink.contents c.args.writer.now in
    let V = g.W.Sink.contents c.run_lines.new.writer in
    let came = subst (λ d. CameLines c.unread.result.now c.lines-2.result more c.args.bench.now c.run_lines.new.bench U V (Ok d)) c.in-Asks.is (c.in_ok-lines.ensures.carries more) in
    let leaves = subst (Leaves c.unread.result.now c.lines-2.result) c.in-Asks.is c.in_ok-lines.ensures.rest in
    let left = left_is c.args.ahead.now c.advance-in-Asks.new.self c.unread.result.now leaves.0.0 c.in-Asks.rest.now c.unread.ensures leaves.0.1 c.advance-in-Asks.ensures.unread in
    ahead_asks c.args.ahead.now c.advance-in-Asks.new.self c.unread.result.now c.in-Asks.rest.now more c.lines-2.result c.in-Asks.lines (asked_said c.in-Asks.asked) _ c.args.bench.now c.run_lines.new.bench U V
    c.unread.ensures c.lines-2.ensures left c.advance-in-Asks.ensures.lines c.in_ok-need-in-Asks.ensures.need came

pub returns-then-lines-gt-MAX_LINES-clause-calls : goal.returns-then-lines-gt-MAX_LINES-clause-calls
returns-then-lines-gt-MAX_LINES-clause-calls g c =
    too_many_lines g.W.Sink.calls c.args.writer.now c.args.writer.now c.args.ahead.now.lines c.fault.result c.fault.ensures.cause
    (omega (arith, c.lines.ensures)) (no_calls g.W.Sink.calls c.args.writer.now)

pub returns-in_err-lines-clause-calls : goal.returns-in_err-lines-clause-calls
returns-in_err-lines-clause-calls g c =
    ahead_by g.W.Sink.calls c.args.writer.now c.run_lines.new.writer c.args.ahead.now.lines c.in_err-lines.field-0.0 c.from_residual.result c.in_err-lines.ensures.calls c.from_residual.ensures.1

pub returns-in_err-need-in-Asks-clause-calls : goal.returns-in_err-need-in-Asks-clause-calls
returns-in_err-need-in-Asks-clause-calls g c =
    ahead_by g.W.Sink.calls c.args.writer.now c.run_lines.new.writer c.args.ahead.now.lines c.in_err-need-in-Asks.field-0.0 c.from_residual-in_err-need-in-Asks.result
    (memory_fails g.W.Sink.calls c.args.writer.now c.run_lines.new.writer c.in_err-need-in-Asks.field-0.0 c.in_err-need-in-Asks.ensures.err.1 c.in_ok-lines.ensures.calls)
    c.from_residual-in_err-need-in-Asks.ensures.1
