use Rattle.std.proofs.Common.{arith, rules, tests}
use Rattle.hid_recording.proofs.WordLemmas.{bad_pair, good_pair, no_pair}
use Rattle.hid_recording.proofs.line_fields.bytes_before.Goals as goal

pub returns-then-is_none-clause-value : goal.returns-then-is_none-clause-value
returns-then-is_none-clause-value c =
    omega (arith, c.loop-rest.invariant.0, bad_pair c.loop-rest.rest.now _ (omega (arith, c.in-len2-up.len_at_least)) c.hex_pair.ensures (search (rules, tests)))

pub loop-rest-preserved : goal.loop-rest-preserved
loop-rest-preserved c =
    (omega (arith, c.loop-rest.invariant.0, good_pair c.loop-rest.rest.now _ (omega (arith, c.in-len2-up.len_at_least)) c.hex_pair.ensures (search (rules, tests))), search (rules, tests))

pub returns-clause-value : goal.returns-clause-value
returns-clause-value c = omega (arith, c.loop-rest.invariant.0, no_pair c.loop-rest.rest.now (omega (arith, c.in_default.len_below)))
