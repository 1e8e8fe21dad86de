use Rattle.std.proofs.Common.{rules, tests, arith}
use Rattle.hid_recording.proofs.PieceLemmas.{carried_lines}
use Rattle.hid_recording.proofs.output.write_lines.Goals as goal

pub returns : goal.returns
returns g c =
    carried_lines _ _ _ c.as_bytes.result.now c.as_bytes-2.result.now _ c.as_bytes.ensures.value (omega (arith, c.in-10.len_at_least))
    (search (rules, tests)) c.as_bytes-2.ensures.value c.in_ok-write_text.ensures.ok c.clear.ensures.bytes
