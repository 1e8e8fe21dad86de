use Rattle.std.proofs.Common.{◌++◌, [], append-nil, ap, refl, subst, sym, Ok}
use Rattle.std.specs.List.{All}
use Rattle.std.specs.Str.Lines.{lines}
use Rattle.hid_script.specs.Interpreter.{session_of}
use Rattle.lab_session.specs.Scripts.{Fails, GoesOn, IsScripts, LinesRan, RunsAsScript}
use Rattle.lab_session.proofs.CallLemmas.{lines_behind, lines_by}
use Rattle.lab_session.proofs.DoingLemmas.{err_is}
use Rattle.lab_session.specs.Asking.{asked_said}
use Rattle.lab_session.specs.Carrying.{CameLines, RanLines}
use Rattle.lab_session.proofs.CarryLemmas.{asks_as, carried_as, ran_behind, stops_as}
use Rattle.lab_session.proofs.RunLemmas.{runs_through}
use Rattle.lab_session.proofs.runs.run_text.Goals as goal

pub returns-in_err-lines-clause-script : goal.returns-in_err-lines-clause-script
returns-in_err-lines-clause-script g c = λ plain undrawn old.
    let U = g.W.Sink.contents c.args.writer.now in
    let V = g.W.Sink.contents c.run_lines.new.writer in
    let all = subst (λ t. All IsScripts (lines t)) (sym (append-nil c.args.text.now)) old in
    subst (λ r. RunsAsScript U V (session_of c.args.bench.now.interpreter) (lines c.args.text.now) 0 r) (sym (err_is c.from_residual.result _ c.from_residual.ensures.1))
    (subst (λ t. Fails U V (session_of c.args.bench.now.interpreter) (lines t) 0 c.in_err-lines.field-0.0) (append-nil c.args.text.now) (c.in_err-lines.ensures.script plain undrawn [] all))

pub returns-in-Lines-clause-script : goal.returns-in-Lines-clause-script
returns-in-Lines-clause-script g c = λ plain undrawn old.
    let U = g.W.Sink.contents c.args.writer.now in
    let V = g.W.Sink.contents c.run_lines.new.writer in
    let W = g.W.Sink.contents c.run_last.new.writer in
    let all = subst (λ t. All IsScripts (lines t)) (sym (append-nil c.args.text.now)) old in
    let ran = subst (λ d. LinesRan c.args.bench.now c.run_lines.new.bench U V c.args.text.now 0 [] (Ok d)) c.in-Lines.is (c.in_ok-lines.ensures.script plain undrawn [] all) in
    let whole = subst (λ t. GoesOn c.args.bench.now U t 0 c.run_lines.new.bench V (c.in-Lines.rest.now ++ []) c.in-Lines.lines) (append-nil c.args.text.now) ran in
    let here = subst (λ t. GoesOn c.args.bench.now U c.args.text.now 0 c.run_lines.new.bench V t c.in-Lines.lines) (append-nil c.in-Lines.rest.now) whole in
    runs_through c.args.bench.now c.run_lines.new.bench U V W c.args.text.now c.in-Lines.rest.now 0 c.in-Lines.lines c.run_last.result here (c.run_last.ensures.script here.0 here.1 here.2)

pub returns-in-Asks-clause-script : goal.returns-in-Asks-clause-script
returns-in-Asks-clause-script g c = λ plain undrawn old.
    let U = g.W.Sink.contents c.args.writer.now in
    let V = g.W.Sink.contents c.run_lines.new.writer in
    let all = subst (λ t. All IsScripts (lines t)) (sym (append-nil c.args.text.now)) old in
    absurd (subst (λ d. LinesRan c.args.bench.now c.run_lines.new.bench U V c.args.text.now 0 [] (Ok d)) c.in-Asks.is (c.in_ok-lines.ensures.script plain undrawn [] all))

pub returns-in_err-lines-clause-carries : goal.returns-in_err-lines-clause-carries
returns-in_err-lines-clause-carries g c =
    let U = g.W.Sink.contents c.args.writer.now in
    subst (λ r. RanLines (lines c.args.text.now) 0 c.args.bench.now c.run_lines.new.bench U (g.W.Sink.contents c.run_lines.new.writer) r) (sym (err_is c.from_residual.result _ c.from_residual.ensures.1))
    (stops_as (lines (c.args.text.now ++ [])) (lines c.args.text.now) 0 c.in_err-lines.field-0.0 c.args.bench.now c.run_lines.new.bench U (g.W.Sink.contents c.run_lines.new.writer) (ap lines (append-nil c.args.text.now)) (c.in_err-lines.ensures.carries []))

pub returns-in-Lines-clause-carries : goal.returns-in-Lines-clause-carries
returns-in-Lines-clause-carries g c =
    let U = g.W.Sink.contents c.args.writer.now in
    let V = g.W.Sink.contents c.run_lines.new.writer in
    let came = subst (λ d. CameLines c.args.text.now 0 [] c.args.bench.now c.run_lines.new.bench U V (Ok d)) c.in-Lines.is (c.in_ok-lines.ensures.carries []) in
    let here = carried_as (lines (c.args.text.now ++ [])) (lines c.args.text.now) (lines (c.in-Lines.rest.now ++ [])) (lines c.in-Lines.rest.now) 0 c.in-Lines.lines c.in-Lines.lines c.args.bench.now c.run_lines.new.bench U V
    (ap lines (append-nil c.args.text.now)) (ap lines (append-nil c.in-Lines.rest.now)) refl came in
    ran_behind (lines c.args.text.now) (lines c.in-Lines.rest.now) 0 c.in-Lines.lines c.run_last.result c.args.bench.now c.run_lines.new.bench c.run_last.new.bench U V (g.W.Sink.contents c.run_last.new.writer) here c.run_last.ensures.carries

pub returns-in-Asks-clause-carries : goal.returns-in-Asks-clause-carries
returns-in-Asks-clause-carries g c =
    let U = g.W.Sink.contents c.args.writer.now in
    let V = g.W.Sink.contents c.run_lines.new.writer in
    let came = subst (λ d. CameLines c.args.text.now 0 [] c.args.bench.now c.run_lines.new.bench U V (Ok d)) c.in-Asks.is (c.in_ok-lines.ensures.carries []) in
    asks_as (lines (c.args.text.now ++ [])) (lines c.args.text.now) (lines (c.in-Asks.rest.now ++ [])) (lines c.in-Asks.rest.now) 0 c.in-Asks.lines c.in-Asks.lines (asked_said c.in-Asks.asked) (asked_said c.in-Asks.asked)
    c.args.bench.now c.run_lines.new.bench U V (ap lines (append-nil c.args.text.now)) (ap lines (append-nil c.in-Asks.rest.now)) refl refl came

pub returns-in_err-lines-clause-calls : goal.returns-in_err-lines-clause-calls
returns-in_err-lines-clause-calls g c = lines_by g.W.Sink.calls c.args.writer.now c.run_lines.new.writer c.in_err-lines.field-0.0 c.from_residual.result c.in_err-lines.ensures.calls c.from_residual.ensures.1

pub returns-in-Lines-clause-calls : goal.returns-in-Lines-clause-calls
returns-in-Lines-clause-calls g c = lines_behind g.W.Sink.calls c.args.writer.now c.run_lines.new.writer c.run_last.new.writer c.run_last.result c.in_ok-lines.ensures.calls c.run_last.ensures.calls
