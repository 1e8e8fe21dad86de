use Rattle.std.proofs.Common.{arith, rules, tests}
use Rattle.hid_recording.proofs.WordLemmas.{pair_first}
use Rattle.hid_recording.proofs.line_fields.next_pair.Goals as goal

pub returns-clause-pair : goal.returns-clause-pair
returns-clause-pair c = pair_first c.args.text.now c.in_ok-byte.byte (omega (arith, c.in-32.len_at_least)) (search (rules, tests)) (search (rules, tests)) (search (rules, tests))
