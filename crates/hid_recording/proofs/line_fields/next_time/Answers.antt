use Rattle.std.proofs.Common.{arith, rules, tests, refl}
use Rattle.hid_recording.proofs.WordLemmas.{time_first, text_read}
use Rattle.hid_recording.proofs.line_fields.next_time.Goals as goal

pub returns : goal.returns
returns c =
    time_first c.args.text.now _ c.in_ok-time.time.now _ c.unwrap_or-end.result _ (omega (arith, c.in-32.len_at_least)) (search (rules, tests)) refl
    (rw c.time_end.ensures at c.unwrap_or-end.ensures) (omega arith) (omega arith) (text_read _ c.from_utf8.result c.ok.result c.in_ok-time.time _ c.from_utf8.ensures.cases c.ok.ensures.value c.in_ok-time.was)
    (omega arith) refl (search (rules, tests))
