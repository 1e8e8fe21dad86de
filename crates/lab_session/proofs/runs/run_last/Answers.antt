use Rattle.std.proofs.Common.{◌∷◌, ◌+◌, ◌∙◌, [], refl, sym, subst, Ok}
use Rattle.std.specs.Option.{option_map}
use Rattle.lab_session.specs.Asking.{asked_said}
use Rattle.lab_session.specs.Carrying.{CarriedUpTo, CarriesLine, RanLines}
use Rattle.lab_session.proofs.CarryLemmas.{asks_next, carried_as, carried_first, carried_one, refused_next}
use Rattle.std.specs.Str.Lines.{lines}
use Rattle.hid_script.specs.Interpreter.{session_of}
use Rattle.lab_session.specs.Scripts.{RunsAsScript}
use Rattle.lab_session.proofs.CallLemmas.{lines_by}
use Rattle.lab_session.proofs.DoingLemmas.{err_is}
use Rattle.hid_script.proofs.StreamLemmas.{no_calls}
use Rattle.lab_session.proofs.RunLemmas.{empty_lines, lab_finishes, last_old, last_on, last_out, one_line, some_bytes}
use Rattle.lab_session.proofs.runs.run_last.Goals as goal

pub returns-then-is_empty-clause-script : goal.returns-then-is_empty-clause-script
returns-then-is_empty-clause-script g c = λ plain undrawn old.
    subst (λ r. RunsAsScript (g.W.Sink.contents c.args.writer.now) (g.W.Sink.contents c.args.writer.now) (session_of c.args.bench.now.interpreter) (lines c.args.line.now) c.args.before (Ok r))
    (sym c.whole.ensures)
    (lab_finishes (g.W.Sink.contents c.args.writer.now) (session_of c.args.bench.now.interpreter) (lines c.args.line.now) c.args.before _
    (empty_lines c.args.line.now (sym c.is_empty.ensures ∙ c.if-is_empty.true)) refl refl)

pub returns-in_err-asked-clause-script : goal.returns-in_err-asked-clause-script
returns-in_err-asked-clause-script g c = λ plain undrawn old.
    let some = some_bytes c.args.line.now (sym c.is_empty.ensures ∙ c.if-is_empty.false) in
    let line = last_old c.args.line.now c.requires.unbroken some old in
    subst (λ r. RunsAsScript (g.W.Sink.contents c.args.writer.now) (g.W.Sink.contents c.run_line.new.writer) (session_of c.args.bench.now.interpreter) (lines c.args.line.now) c.args.before r)
    (sym (err_is c.from_residual.result _ c.from_residual.ensures.1))
    (last_out c.args.bench.now c.run_line.new.bench _ _ c.args.line.now c.args.before c.in_err-asked.field-0.0 c.requires.unbroken some (c.in_err-asked.ensures.script plain undrawn line))

pub returns-in-Some-clause-script : goal.returns-in-Some-clause-script
returns-in-Some-clause-script g c = λ plain undrawn old.
    let some = some_bytes c.args.line.now (sym c.is_empty.ensures ∙ c.if-is_empty.false) in
    let line = last_old c.args.line.now c.requires.unbroken some old in
    let none = (c.in_ok-asked.ensures.script plain undrawn line).0 in
    let is = c.in-Some.is in
    absurd (cc)

pub returns-in-None-clause-script : goal.returns-in-None-clause-script
returns-in-None-clause-script g c = λ plain undrawn old.
    let some = some_bytes c.args.line.now (sym c.is_empty.ensures ∙ c.if-is_empty.false) in
    let line = last_old c.args.line.now c.requires.unbroken some old in
    subst (λ r. RunsAsScript (g.W.Sink.contents c.args.writer.now) (g.W.Sink.contents c.run_line.new.writer) (session_of c.args.bench.now.interpreter) (lines c.args.line.now) c.args.before (Ok r))
    (sym c.whole-in-None.ensures)
    (last_on c.args.bench.now c.run_line.new.bench _ _ c.args.line.now c.args.before c.in_ok-asked.field-0 _ c.requires.unbroken some (c.in_ok-asked.ensures.script plain undrawn line) refl refl)

pub returns-then-is_empty-clause-carries : goal.returns-then-is_empty-clause-carries
returns-then-is_empty-clause-carries g c =
    let U = g.W.Sink.contents c.args.writer.now in
    let none = empty_lines c.args.line.now (sym c.is_empty.ensures ∙ c.if-is_empty.true) in
    subst (λ r. RanLines (lines c.args.line.now) c.args.before c.args.bench.now c.args.bench.now U U (Ok r)) (sym c.whole.ensures)
    (carried_as [] (lines c.args.line.now) [] [] c.args.before c.args.before c.args.before c.args.bench.now c.args.bench.now U U (sym none) refl refl (carried_first [] c.args.before c.args.bench.now U), refl)

pub returns-in_err-asked-clause-carries : goal.returns-in_err-asked-clause-carries
returns-in_err-asked-clause-carries g c =
    let U = g.W.Sink.contents c.args.writer.now in
    let one = one_line c.args.line.now c.requires.unbroken (some_bytes c.args.line.now (sym c.is_empty.ensures ∙ c.if-is_empty.false)) in
    let start = subst (λ l. CarriedUpTo (lines c.args.line.now) c.args.before l c.args.before c.args.bench.now c.args.bench.now U U) one (carried_first (lines c.args.line.now) c.args.before c.args.bench.now U) in
    subst (λ r. RanLines (lines c.args.line.now) c.args.before c.args.bench.now c.run_line.new.bench U (g.W.Sink.contents c.run_line.new.writer) r) (sym (err_is c.from_residual.result _ c.from_residual.ensures.1))
    (refused_next (lines c.args.line.now) [] c.args.line.now c.args.before c.args.before c.in_err-asked.field-0.0 c.args.bench.now c.args.bench.now c.run_line.new.bench U U (g.W.Sink.contents c.run_line.new.writer) start c.in_err-asked.ensures.refused.0 c.in_err-asked.ensures.refused.1)

pub returns-in-Some-clause-carries : goal.returns-in-Some-clause-carries
returns-in-Some-clause-carries g c =
    let U = g.W.Sink.contents c.args.writer.now in
    let V = g.W.Sink.contents c.run_line.new.writer in
    let one = one_line c.args.line.now c.requires.unbroken (some_bytes c.args.line.now (sym c.is_empty.ensures ∙ c.if-is_empty.false)) in
    let start = subst (λ l. CarriedUpTo (lines c.args.line.now) c.args.before l c.args.before c.args.bench.now c.args.bench.now U U) one (carried_first (lines c.args.line.now) c.args.before c.args.bench.now U) in
    asks_next (lines c.args.line.now) [] c.args.line.now c.args.before c.args.before (c.args.before + 1) (asked_said c.in-Some.asked) c.args.bench.now c.args.bench.now c.run_line.new.bench U U V start
    (subst (λ o. CarriesLine c.args.line.now (option_map asked_said o) c.args.bench.now c.run_line.new.bench U V) c.in-Some.is c.in_ok-asked.ensures.carries) refl

pub returns-in-None-clause-carries : goal.returns-in-None-clause-carries
returns-in-None-clause-carries g c =
    let U = g.W.Sink.contents c.args.writer.now in
    let V = g.W.Sink.contents c.run_line.new.writer in
    let one = one_line c.args.line.now c.requires.unbroken (some_bytes c.args.line.now (sym c.is_empty.ensures ∙ c.if-is_empty.false)) in
    let carried = subst (λ o. CarriesLine c.args.line.now (option_map asked_said o) c.args.bench.now c.run_line.new.bench U V) c.in-None.is c.in_ok-asked.ensures.carries in
    subst (λ r. RanLines (lines c.args.line.now) c.args.before c.args.bench.now c.run_line.new.bench U V (Ok r)) (sym c.whole-in-None.ensures)
    (carried_as (c.args.line.now ∷ []) (lines c.args.line.now) [] [] c.args.before (c.args.before + 1) (c.args.before + 1) c.args.bench.now c.run_line.new.bench U V (sym one) refl refl (carried_one c.args.line.now [] c.args.before c.args.bench.now c.run_line.new.bench U V carried), refl)

pub returns-then-is_empty-clause-calls : goal.returns-then-is_empty-clause-calls
returns-then-is_empty-clause-calls g c = no_calls g.W.Sink.calls c.args.writer.now

pub returns-in_err-asked-clause-calls : goal.returns-in_err-asked-clause-calls
returns-in_err-asked-clause-calls g c = lines_by g.W.Sink.calls c.args.writer.now c.run_line.new.writer c.in_err-asked.field-0.0 c.from_residual.result c.in_err-asked.ensures.calls c.from_residual.ensures.1
