use Rattle.std.proofs.Common.{arith, rules, tests, refl}
use Rattle.hid_recording.proofs.WordLemmas.{digit_first}
use Rattle.hid_recording.proofs.line_fields.next_digit.Goals as goal

pub returns : goal.returns
returns c =
    digit_first c.args.text.now _ c.from.result (omega (arith, c.in-32.len_at_least)) (search (rules, tests)) (search (rules, tests)) (search (rules, tests))
    (search (rules, tests)) refl (search (rules, tests))
