use Rattle.hid_text.proofs.PieceLemmas.{behind_line, shorter_behind}
use Rattle.std.proofs.Common.{◌≡◌, [], ◌∷◌, ◌++◌, ◌+◌, refl, subst, arith, None, Some}
use Rattle.std.specs.Option.{option_map}
use Rattle.std.specs.Str.Lines.{lines, strip_carriage_return}
use Rattle.lab_session.specs.Asking.{asked_said}
use Rattle.lab_session.specs.Carrying.{CarriesLine}
use Rattle.lab_session.proofs.CarryLemmas.{asks_next, carried_as, carried_first, carried_next, refused_next}
use Rattle.hid_script.proofs.StreamLemmas.{all_succeed, no_calls}
use Rattle.lab_session.proofs.CallLemmas.{from_lab_behind}
use Rattle.lab_session.proofs.RunLemmas.{behind_more, goes_on, goes_out, goes_start, lines_split, next_old}
use Rattle.lab_session.proofs.runs.run_lines.Goals as goal

pub returns-in-Err-clause-script : goal.returns-in-Err-clause-script
returns-in-Err-clause-script g c = λ plain undrawn more old.
    let h = c.loop-last.invariant.2 plain undrawn more old in
    let U = g.W.Sink.contents c.args.writer.now in
    let V = g.W.Sink.contents c.loop-last.writer in
    let W = g.W.Sink.contents c.run_whole_line.new.writer in
    let is = behind_more c.loop-last.rest.now c.in-Some.last.now c.in-Some.behind.now more c.in-Some.ensures.1 in
    let line = next_old c.args.bench.now c.loop-last.bench U V (c.args.text.now ++ more) (c.loop-last.rest.now ++ more) c.in-Some.last.now (c.in-Some.behind.now ++ more) c.args.before c.loop-last.count c.in-Some.ensures.0 is h in
    let ran = c.in-Err.ensures.script h.0 h.1 line in
    (goes_out c.args.bench.now c.loop-last.bench c.run_whole_line.new.bench U V W (c.args.text.now ++ more) (c.loop-last.rest.now ++ more) c.in-Some.last.now (c.in-Some.behind.now ++ more) c.args.before c.loop-last.count c.in-Err.fault c.in-Some.ensures.0 is h ran)

pub returns-in-Ok-Some-clause-script : goal.returns-in-Ok-Some-clause-script
returns-in-Ok-Some-clause-script g c = λ plain undrawn more old.
    let h = c.loop-last.invariant.2 plain undrawn more old in
    let U = g.W.Sink.contents c.args.writer.now in
    let V = g.W.Sink.contents c.loop-last.writer in
    let bytes = behind_more c.loop-last.rest.now c.in-Some.last.now c.in-Some.behind.now more c.in-Some.ensures.1 in
    let line = next_old c.args.bench.now c.loop-last.bench U V (c.args.text.now ++ more) (c.loop-last.rest.now ++ more) c.in-Some.last.now (c.in-Some.behind.now ++ more) c.args.before c.loop-last.count c.in-Some.ensures.0 bytes h in
    let none = (c.in-Ok-Some.ensures.script h.0 h.1 line).0 in
    let is = c.in-Ok-Some.is in
    absurd (cc)

pub returns-in-Ok-Some-clause-rest : goal.returns-in-Ok-Some-clause-rest
returns-in-Ok-Some-clause-rest g c =
    let before = c.loop-last.invariant.1 in (
      (before.0 ++ (c.in-Some.last.now ++ 10 ∷ []), behind_line c.args.text.now before.0 c.loop-last.rest.now c.in-Some.last.now c.in-Some.behind.now before.1 c.in-Some.ensures.1),
      omega (arith, c.loop-last.invariant.0, shorter_behind c.loop-last.rest.now c.in-Some.last.now c.in-Some.behind.now c.in-Some.ensures.1),
    )

pub loop-last-preserved : goal.loop-last-preserved
loop-last-preserved g c =
    let before = c.loop-last.invariant.1 in (
      omega (arith, c.loop-last.invariant.0, shorter_behind c.loop-last.rest.now c.in-Some.last.now c.in-Some.behind.now c.in-Some.ensures.1),
      (before.0 ++ (c.in-Some.last.now ++ 10 ∷ []), behind_line c.args.text.now before.0 c.loop-last.rest.now c.in-Some.last.now c.in-Some.behind.now before.1 c.in-Some.ensures.1),
      λ plain undrawn more old.
          let h = c.loop-last.invariant.2 plain undrawn more old in
          let U = g.W.Sink.contents c.args.writer.now in
          let V = g.W.Sink.contents c.loop-last.writer in
          let W = g.W.Sink.contents c.run_whole_line.new.writer in
          let is = behind_more c.loop-last.rest.now c.in-Some.last.now c.in-Some.behind.now more c.in-Some.ensures.1 in
          let line = next_old c.args.bench.now c.loop-last.bench U V (c.args.text.now ++ more) (c.loop-last.rest.now ++ more) c.in-Some.last.now (c.in-Some.behind.now ++ more) c.args.before c.loop-last.count c.in-Some.ensures.0 is h in
          let ran = c.in-Ok-None.ensures.script h.0 h.1 line in
          goes_on c.args.bench.now c.loop-last.bench c.run_whole_line.new.bench U V W (c.args.text.now ++ more) (c.loop-last.rest.now ++ more) c.in-Some.last.now (c.in-Some.behind.now ++ more) c.args.before c.loop-last.count c.in-Ok-None.field-0 c.in-Some.ensures.0 is h ran,
      λ more.
          let V = g.W.Sink.contents c.loop-last.writer in
          let W = g.W.Sink.contents c.run_whole_line.new.writer in
          let is = lines_split (c.loop-last.rest.now ++ more) c.in-Some.last.now (c.in-Some.behind.now ++ more) c.in-Some.ensures.0 (behind_more c.loop-last.rest.now c.in-Some.last.now c.in-Some.behind.now more c.in-Some.ensures.1) in
          let is_ok = c.in-Ok-None.is in
          let none : c.in-Ok-None.field-0 ≡ None = cc in
          let carried = subst (λ o. CarriesLine (strip_carriage_return c.in-Some.last.now) (option_map asked_said o) c.loop-last.bench c.run_whole_line.new.bench V W) none c.in-Ok-None.ensures.carries in
          carried_next (lines (c.args.text.now ++ more)) (lines (c.loop-last.rest.now ++ more)) (lines (c.in-Some.behind.now ++ more)) (strip_carriage_return c.in-Some.last.now) c.args.before c.loop-last.count
          c.args.bench.now c.loop-last.bench c.run_whole_line.new.bench (g.W.Sink.contents c.args.writer.now) V W (c.loop-last.invariant.3 more) is carried,
      all_succeed g.W.Sink.calls c.args.writer.now c.loop-last.writer c.run_whole_line.new.writer c.loop-last.invariant.4 c.in-Ok-None.ensures.calls,
    )

pub loop-last-init : goal.loop-last-init
loop-last-init g c = (
  omega arith,
  ([], refl),
  λ plain undrawn more old. goes_start c.args.bench.now (g.W.Sink.contents c.args.writer.now) (c.args.text.now ++ more) c.args.before plain undrawn old,
  λ more. carried_first (lines (c.args.text.now ++ more)) c.args.before c.args.bench.now (g.W.Sink.contents c.args.writer.now),
  no_calls g.W.Sink.calls c.args.writer.now,
)

pub returns-in-Err-clause-carries : goal.returns-in-Err-clause-carries
returns-in-Err-clause-carries g c = λ more.
    let U = g.W.Sink.contents c.args.writer.now in
    let V = g.W.Sink.contents c.loop-last.writer in
    let W = g.W.Sink.contents c.run_whole_line.new.writer in
    let is = lines_split (c.loop-last.rest.now ++ more) c.in-Some.last.now (c.in-Some.behind.now ++ more) c.in-Some.ensures.0 (behind_more c.loop-last.rest.now c.in-Some.last.now c.in-Some.behind.now more c.in-Some.ensures.1) in
    let here = carried_as (lines (c.args.text.now ++ more)) (lines (c.args.text.now ++ more)) (lines (c.loop-last.rest.now ++ more)) (strip_carriage_return c.in-Some.last.now ∷ lines (c.in-Some.behind.now ++ more))
    c.args.before c.loop-last.count c.loop-last.count c.args.bench.now c.loop-last.bench U V refl is refl (c.loop-last.invariant.3 more) in
    (refused_next (lines (c.args.text.now ++ more)) (lines (c.in-Some.behind.now ++ more)) (strip_carriage_return c.in-Some.last.now) c.args.before c.loop-last.count c.in-Err.fault
    c.args.bench.now c.loop-last.bench c.run_whole_line.new.bench U V W here c.in-Err.ensures.refused.0 c.in-Err.ensures.refused.1)

pub returns-in-Ok-Some-clause-carries : goal.returns-in-Ok-Some-clause-carries
returns-in-Ok-Some-clause-carries g c = λ more.
    let U = g.W.Sink.contents c.args.writer.now in
    let V = g.W.Sink.contents c.loop-last.writer in
    let W = g.W.Sink.contents c.run_whole_line.new.writer in
    let is = lines_split (c.loop-last.rest.now ++ more) c.in-Some.last.now (c.in-Some.behind.now ++ more) c.in-Some.ensures.0 (behind_more c.loop-last.rest.now c.in-Some.last.now c.in-Some.behind.now more c.in-Some.ensures.1) in
    let here = carried_as (lines (c.args.text.now ++ more)) (lines (c.args.text.now ++ more)) (lines (c.loop-last.rest.now ++ more)) (strip_carriage_return c.in-Some.last.now ∷ lines (c.in-Some.behind.now ++ more))
    c.args.before c.loop-last.count c.loop-last.count c.args.bench.now c.loop-last.bench U V refl is refl (c.loop-last.invariant.3 more) in
    let is_ok = c.in-Ok-Some.is in
    let some : c.in-Ok-Some.field-0 ≡ Some c.in-Ok-Some.asked = cc in
    let asked = subst (λ o. CarriesLine (strip_carriage_return c.in-Some.last.now) (option_map asked_said o) c.loop-last.bench c.run_whole_line.new.bench V W) some c.in-Ok-Some.ensures.carries in
    asks_next (lines (c.args.text.now ++ more)) (lines (c.in-Some.behind.now ++ more)) (strip_carriage_return c.in-Some.last.now) c.args.before c.loop-last.count (c.loop-last.count + 1)
    (asked_said c.in-Ok-Some.asked) c.args.bench.now c.loop-last.bench c.run_whole_line.new.bench U V W here asked refl

pub returns-in-Err-clause-calls : goal.returns-in-Err-clause-calls
returns-in-Err-clause-calls g c = from_lab_behind g.W.Sink.calls c.args.writer.now c.loop-last.writer c.run_whole_line.new.writer c.in-Err.fault.cause c.loop-last.invariant.4 c.in-Err.ensures.calls

pub returns-in-Ok-Some-clause-calls : goal.returns-in-Ok-Some-clause-calls
returns-in-Ok-Some-clause-calls g c = all_succeed g.W.Sink.calls c.args.writer.now c.loop-last.writer c.run_whole_line.new.writer c.loop-last.invariant.4 c.in-Ok-Some.ensures.calls
