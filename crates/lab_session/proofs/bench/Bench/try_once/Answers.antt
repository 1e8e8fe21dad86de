use Rattle.std.proofs.Common.{◌≡◌, ◌∙◌, [], ◌∷◌, refl, sym, ap, subst, inr, append-nil, None, Some, Ok, Err}
use Rattle.std.specs.Io.KnownBytes.{Appends}
use Rattle.std.specs.Prelude.{IfNone, IfSome, string_bytes}
use Rattle.std.proofs.KnownBytes.{Appends-trans}
use Rattle.hid_bus.specs.declared.step.Step.TheVariants.{Control}
use Rattle.hid_text.specs.declared.line.Line.TheVariants.{Step}
use Rattle.hid_text.specs.declared.short.ShortLine.TheVariants as short
use Rattle.lab_session.specs.Outputs.{IsAwaited, awaited_at}
use Rattle.lab_session.specs.Parts.{Says}
use Rattle.lab_session.specs.Waiting.{Waits}
use Rattle.hid_script.specs.Streams.{FromLine}
use Rattle.hid_script.proofs.StreamLemmas.{no_calls}
use Rattle.lab_session.proofs.CallLemmas.{kept_fails, of_text, step_behind}
use Rattle.lab_session.proofs.DoingLemmas.{did_try, err_is, ok_so, step_told}
use Rattle.lab_session.proofs.WaitLemmas.{keeps_shown, leaves_awaited, ok_output}
use Rattle.lab_session.proofs.PrintedLemmas.{step_ended, step_output, step_printed}
use Rattle.hid_script.specs.declared.fault.Cause.{Cause}
use Rattle.hid_script.specs.Interpreter.{session_of}
use Rattle.hid_script.specs.Place.{AppendsOnce}
use Rattle.hid_script.specs.Runs.{ending_of}
use Rattle.hid_script.specs.Steps.{StepPrints}
use Rattle.lab_session.specs.Chances.{chance_at, fate_by}
use Rattle.lab_session.specs.Printed.{kept_cause}
use Rattle.lab_session.proofs.bench.Bench.try_once.Goals as goal

pub returns-in-Err-clause-prints : goal.returns-in-Err-clause-prints
returns-in-Err-clause-prints g c = λ plain none.
    let W = g.W.Sink.contents c.args.writer.now in
    let S = session_of c.args.self.now.interpreter in
    let next = session_of c.take_step.new.self in
    let same : c.next_fate-fate.result ≡ c.args.said = c.next_fate-fate.ensures.fate ∙ ap (λ x. fate_by x c.args.said) none in
    subst (λ e. AppendsOnce W W (StepPrints (Control c.args.dev c.args.said) S) (Err e) next) (sym c.kept_cause.ensures)
    (subst (λ f. AppendsOnce W W (StepPrints (Control c.args.dev f) S) (Err (kept_cause c.in-Err.cause)) next) same
    (step_ended (Some c.clear.new.self.items) W (Control c.args.dev c.next_fate-fate.result) S next (Some c.take_step.new.writer.items) c.in-Err.cause c.in-Err.ensures.prints))

pub returns-in_err-print-clause-prints : goal.returns-in_err-print-clause-prints
returns-in_err-print-clause-prints g c = λ plain none.
    let told = c.in-Ok.ensures.prints in
    subst (λ r. AppendsOnce (g.W.Sink.contents c.args.writer.now) (g.W.Sink.contents c.print.new.writer) (StepPrints (Control c.args.dev c.args.said) (session_of c.args.self.now.interpreter)) r (session_of c.take_step.new.self))
    (sym (err_is c.from_residual.result _ c.from_residual.ensures.1))
    (step_printed _ _ c.as_slice.result.now (Control c.args.dev c.args.said) _ _ (Err c.in_err-print.field-0.0)
    (step_told c.args.dev c.args.said c.next_fate-fate.result _ c.clear.new.self.items c.take_step.new.writer.items c.as_slice.result.now told.0 _ _ c.next_fate-fate.ensures.fate none c.clear.ensures.items told.1 c.as_slice.ensures.value told.2)
    (c.in_err-print.ensures.written plain.style))

pub returns-in-Err-take_effect-clause-prints : goal.returns-in-Err-take_effect-clause-prints
unfolding ending_of
returns-in-Err-take_effect-clause-prints g c = λ plain none.
    let told = c.in-Ok.ensures.prints in (
      c.as_slice.result.now,
      c.in_ok-print.ensures.written plain.style,
      inr (_, step_told c.args.dev c.args.said c.next_fate-fate.result _ c.clear.new.self.items c.take_step.new.writer.items c.as_slice.result.now told.0 _ _ c.next_fate-fate.ensures.fate none c.clear.ensures.items told.1 c.as_slice.ensures.value told.2),
    )

pub returns-in-Ok-Some : goal.returns-in-Ok-Some
returns-in-Ok-Some g c =
    let told = c.in-Ok.ensures.prints in
    record {
      prints = λ plain none. step_output _ _ _ c.as_slice.result.now (Control c.args.dev c.args.said) _ _ c.print_output.result
          (step_told c.args.dev c.args.said c.next_fate-fate.result _ c.clear.new.self.items c.take_step.new.writer.items c.as_slice.result.now told.0 _ _ c.next_fate-fate.ensures.fate none c.clear.ensures.items told.1 c.as_slice.ensures.value told.2)
          (c.in_ok-print.ensures.written plain.style) (c.print_output.ensures.quiet plain.trace) (c.print_output.ensures.memory plain.trace);
      does = ok_so c.print_output.result (Waits c.args.self.now.options.trace c.args.self.now.printer.transcript c.print_output.new.self.transcript (awaited_at c.args.self.now.outputs) (awaited_at c.take_effect.new.self)
          (Says (Step (short.Control c.args.dev (fate_by (chance_at c.args.self.now.draws c.args.dev) c.args.said) 1)) ∷ []) c.as_slice.result.now) _
          (λ waits. did_try c.args.dev c.args.said c.next_fate-fate.result c.args.self.now _ c.clear.new.self.items c.take_step.new.writer.items c.as_slice.result.now told.0 _ _ c.next_fate-fate.ensures.fate c.clear.ensures.items told.1 c.as_slice.ensures.value told.2
          (λ plain. subst (Appends (g.W.Sink.contents c.args.writer.now) (g.W.Sink.contents c.print_output.new.writer)) (append-nil c.as_slice.result.now)
          (Appends-trans (g.W.Sink.contents c.args.writer.now) (g.W.Sink.contents c.print.new.writer) (g.W.Sink.contents c.print_output.new.writer) c.as_slice.result.now [] (c.in_ok-print.ensures.written plain.style) (c.print_output.ensures.quiet plain.trace)))
          c.next_fate-fate.ensures.its c.next_fate-fate.ensures.others refl waits)
          (ok_output c.print_output.result c.args.self.now.options.trace c.args.self.now.printer.transcript c.print.new.self.transcript c.print_output.new.self.transcript (awaited_at c.args.self.now.outputs) (awaited_at c.take_effect.new.self) c.as_slice.result.now c.as_bytes.result.now c.args.dev _ c.in_ok-print.ensures.kept
          (subst (IsAwaited (awaited_at c.args.self.now.outputs c.args.dev) c.args.dev) (sym c.as_bytes.ensures.value)
          (subst (λ o. IfSome o (λ text. IsAwaited (awaited_at c.args.self.now.outputs c.args.dev) c.args.dev (string_bytes text))) c.in-Ok-Some.field-0-is c.in-Ok-Some.ensures.its))
          (subst (λ o. IfSome o (λ _. awaited_at c.take_effect.new.self c.args.dev ≡ None)) c.in-Ok-Some.field-0-is c.in-Ok-Some.ensures.once) c.take_effect.ensures.others c.print_output.ensures.kept c.print_output.ensures.optional);
      calls = step_behind g.W.Sink.calls c.args.writer.now c.print.new.writer c.print_output.new.writer c.print_output.result c.in_ok-print.ensures.calls c.print_output.ensures.calls;
    }

pub returns-in-Ok-None : goal.returns-in-Ok-None
returns-in-Ok-None g c =
    let told = c.in-Ok.ensures.prints in
    record {
      prints = λ plain none. (
        c.as_slice.result.now,
        c.in_ok-print.ensures.written plain.style,
        step_told c.args.dev c.args.said c.next_fate-fate.result _ c.clear.new.self.items c.take_step.new.writer.items c.as_slice.result.now told.0 _ _ c.next_fate-fate.ensures.fate none c.clear.ensures.items told.1 c.as_slice.ensures.value told.2,
      );
      does = ok_so {A = Unit {0}} {B = Cause} (Ok tt) (Waits c.args.self.now.options.trace c.args.self.now.printer.transcript c.print.new.self.transcript (awaited_at c.args.self.now.outputs) (awaited_at c.take_effect.new.self)
          (Says (Step (short.Control c.args.dev (fate_by (chance_at c.args.self.now.draws c.args.dev) c.args.said) 1)) ∷ []) c.as_slice.result.now) _
          (λ waits. did_try c.args.dev c.args.said c.next_fate-fate.result c.args.self.now _ c.clear.new.self.items c.take_step.new.writer.items c.as_slice.result.now told.0 _ _ c.next_fate-fate.ensures.fate c.clear.ensures.items told.1 c.as_slice.ensures.value told.2
          (λ plain. c.in_ok-print.ensures.written plain.style) c.next_fate-fate.ensures.its c.next_fate-fate.ensures.others refl waits)
          (keeps_shown c.args.self.now.options.trace c.args.self.now.printer.transcript c.print.new.self.transcript (awaited_at c.args.self.now.outputs) (awaited_at c.take_effect.new.self) (Says (Step (short.Control c.args.dev (fate_by (chance_at c.args.self.now.draws c.args.dev) c.args.said) 1))) c.as_slice.result.now c.as_slice.result.now refl
          (leaves_awaited (Says (Step (short.Control c.args.dev (fate_by (chance_at c.args.self.now.draws c.args.dev) c.args.said) 1))) _ _ (λ dev request e. absurd (cc)) (λ dev. ap (λ o. awaited_at o dev) (subst (λ o. IfNone o (c.take_effect.new.self ≡ c.args.self.now.outputs)) c.in-Ok-None.field-0-is c.in-Ok-None.ensures.none))) c.in_ok-print.ensures.kept);
      calls = c.in_ok-print.ensures.calls;
    }

pub returns-in-Err-clause-calls : goal.returns-in-Err-clause-calls
returns-in-Err-clause-calls g c =
    subst (FromLine g.W.Sink.calls c.args.writer.now c.args.writer.now) (sym c.kept_cause.ensures)
    (kept_fails g.W.Sink.calls c.args.writer.now c.args.writer.now c.in-Err.cause (of_text _ c.clear.new.self c.take_step.new.writer (Err c.in-Err.cause) c.in-Err.ensures.outside) (no_calls g.W.Sink.calls c.args.writer.now))
