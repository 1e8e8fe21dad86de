use Rattle.std.proofs.Common.{◌+◌, ap, ◌∙◌, ◌++◌, sym, arith}
use Rattle.hid_recording.specs.LineOutput.{value_shown}
use Rattle.hid_recording.proofs.PieceLemmas.{carries_line, carries_same, line_cut, line_memory, texts_of_all, texts_of_more}
use Rattle.hid_recording.proofs.values.print_values.Goals as goal

pub returns-in_err-print_value : goal.returns-in_err-print_value
returns-in_err-print_value g c =
    let f = value_shown c.args.names c.args.layout.now c.args.bytes.now c.args.i in
    let whole = texts_of_all f c.loop-j.j c.args.count (omega (arith, c.loop-j-test.true)) in
    line_memory _ _ _ _ _ whole.0 _ _ _ c.loop-j.invariant whole.1 c.from_residual.ensures.1

pub returns-in_err-write_long : goal.returns-in_err-write_long
returns-in_err-write_long g c =
    let f = value_shown c.args.names c.args.layout.now c.args.bytes.now c.args.i in
    let whole = texts_of_all f (c.loop-j.j + 1) c.args.count (omega (arith, c.loop-j-test.true)) in
    line_cut _ _ _ _ _ _ _ _ whole.0 _ _ _ _ c.loop-j.invariant c.in_ok-print_value.ensures c.in_err-write_long.ensures
    (whole.1 ∙ ap (λ l. l ++ whole.0) (texts_of_more f c.loop-j.j)) c.from_residual-in_err-write_long.ensures.1

pub loop-j-preserved : goal.loop-j-preserved
loop-j-preserved g c =
    let f = value_shown c.args.names c.args.layout.now c.args.bytes.now c.args.i in
    carries_same _ _ _ _ _ _ (sym (texts_of_more f c.loop-j.j))
    (carries_line _ _ _ _ _ _ _ _ _ c.loop-j.invariant c.in_ok-print_value.ensures c.in_ok-write_long.ensures)
