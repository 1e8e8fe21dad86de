use Rattle.std.proofs.Common.{◌<◌, length, get_or, sym, arith}
use Rattle.std.specs.Char.{digit_value}
use Rattle.std.proofs.lemmas.Option.{cond_some}
use Rattle.hid_input.specs.Words.{is_digit_of}
use Rattle.hid_input.proofs.NumberLemmas.{digit_step}
use Rattle.hid_input.proofs.words.number_of.Goals as goal

pub loop-byte-preserved : goal.loop-byte-preserved
loop-byte-preserved c =
    let word = c.args.word.now in
    let i = c.loop-byte.byte-index in
    let below : i < length word = omega arith in
    let digit = cond_some (is_digit_of c.args.base (get_or word i 0)) (digit_value (get_or word i 0)) c.in_ok-digit.digit (sym c.in_ok-digit.ensures) in
    let step = digit_step c.args.base word i c.loop-byte.number c.in_ok-digit.digit 18446744073709551615 below digit.0 digit.1 c.loop-byte.invariant.0 c.loop-byte.invariant.1 in
    (step.0, cc (step.1, c.from.ensures, c.from-in-loop-byte.ensures, c.saturating_mul.ensures, c.saturating_add-number.ensures))
