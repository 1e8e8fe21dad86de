use Rattle.hid_notation.specs.Text.{concat_below}
use Rattle.std.proofs.Common.{◌≡◌, ◌+◌, ap, ◌∙◌, ◌++◌, sym, length, arith}
use Rattle.hid_recording.specs.LineOutput.{values_shown_at}
use Rattle.hid_recording.proofs.PieceLemmas.{carries_more, carries_same, part_cut, texts_of_all, texts_of_more}
use Rattle.hid_recording.proofs.ValueLemmas.{all_shown}
use Rattle.hid_recording.proofs.values.print_all_values.Goals as goal

pub returns-in_err-print_values_at : goal.returns-in_err-print_values_at
returns-in_err-print_values_at g c =
    let f = values_shown_at c.args.names c.args.layout.now c.args.r c.args.bytes.now in
    let whole = texts_of_all f (c.loop-i.i + 1) (length c.args.layout.now.items)
    (omega (arith, c.loop-i-test.true, ap (λ l. length l) c.items-i-end.ensures.items)) in
    part_cut _ _ _ _ _ _ _ whole.0 _ _ _ _ c.loop-i.invariant c.in_err-print_values_at.ensures
    (sym (all_shown c.args.names c.args.layout.now c.args.r c.args.bytes.now)
    ∙ whole.1 ∙ ap (λ l. l ++ whole.0) (texts_of_more f c.loop-i.i)) c.from_residual.ensures.1

pub loop-i-preserved : goal.loop-i-preserved
loop-i-preserved g c =
    let f = values_shown_at c.args.names c.args.layout.now c.args.r c.args.bytes.now in
    carries_same _ _ _ _ _ _ (sym (texts_of_more f c.loop-i.i))
    (carries_more _ _ _ _ _ _ _ _ c.loop-i.invariant c.in_ok-print_values_at.ensures)

pub returns : goal.returns
returns g c =
    let f = values_shown_at c.args.names c.args.layout.now c.args.r c.args.bytes.now in
    let all : c.loop-i.i ≡ length c.args.layout.now.items =
    omega (arith, c.loop-i-test.false, c.loop-i.auto.i-end, ap (λ l. length l) c.items-i-end.ensures.items) in
    carries_same _ _ _ _ _ _ (ap (λ n. concat_below n f) all ∙ all_shown c.args.names c.args.layout.now c.args.r c.args.bytes.now)
    c.loop-i.invariant
