use Rattle.std.proofs.Common.{refl, arith, length, sym, ◌∙◌}
use Rattle.std.proofs.lemmas.Result.{err_from_is_err_and}
use Rattle.usb_capture.proofs.OptionLemmas.{told_short, ended, cut_off, refused_option, passed_option}
use Rattle.usb_capture.proofs.options.read_clock.Goals as goal

pub options-init : goal.options-init
options-init c = (length c.args.options.now, omega arith, refl)

pub returns-then-code-eq-END : goal.returns-then-code-eq-END
returns-then-code-eq-END c =
    let t = c.options.invariant in
    sym (ended t.0 c.args.order c.options.latest c.options.rest.now (omega arith) t.1 (sym c.u16_at-code.ensures ∙ c.if-code-eq-END.true)) ∙ t.2

pub returns-then-rest-size : goal.returns-then-rest-size
returns-then-rest-size c =
    let t = c.options.invariant in
    sym (cut_off t.0 c.args.order c.options.latest c.options.rest.now c.u16_at-code.result c.u16_at-length.result c.padded_length-size.result (omega arith) t.1
    c.u16_at-code.ensures c.u16_at-length.ensures c.padded_length-size.ensures.value (λ e. omega (arith, e, c.if-code-eq-END.false))
    (omega (arith, c.if-rest-size.true))) ∙ t.2

pub returns-in_err-latest : goal.returns-in_err-latest
returns-in_err-latest c =
    let t = c.options.invariant in
    let p = err_from_is_err_and c.from_residual.result c.from_residual.ensures.1 in
    rw (p.1, p.2) (sym (refused_option t.0 c.args.order c.options.latest c.options.rest.now c.u16_at-code.result c.u16_at-length.result c.padded_length-size.result
    c.in_err-latest.field-0.0 (omega arith) t.1 c.u16_at-code.ensures c.u16_at-length.ensures c.padded_length-size.ensures.value
    (λ e. omega (arith, e, c.if-code-eq-END.false)) (omega (arith, c.if-rest-size.false))
    (sym c.clock_with.ensures ∙ c.in_err-latest.was)) ∙ t.2)

pub options-preserved : goal.options-preserved
options-preserved c =
    let t = c.options.invariant in
    passed_option t.0 c.args.order c.options.latest c.in_ok-latest.latest c.options.rest.now c.u16_at-code.result c.u16_at-length.result c.padded_length-size.result _
    (omega arith) t.1 c.u16_at-code.ensures c.u16_at-length.ensures c.padded_length-size.ensures.value
    (λ e. omega (arith, e, c.if-code-eq-END.false)) (omega (arith, c.if-rest-size.false))
    (sym c.clock_with.ensures ∙ c.in_ok-latest.was) t.2

pub returns : goal.returns
returns c =
    let t = c.options.invariant in
    sym (told_short t.0 c.args.order c.options.latest c.options.rest.now (omega arith)) ∙ t.2
