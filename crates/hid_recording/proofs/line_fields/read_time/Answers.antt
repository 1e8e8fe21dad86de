use Rattle.std.proofs.Common.{arith, rules, tests}
use Rattle.hid_recording.proofs.WordLemmas.{time_read}
use Rattle.hid_recording.proofs.line_fields.read_time.Goals as goal

pub returns : goal.returns
returns c = time_read c.args.word.now c.from_utf8.result c.ok.result _ (search (rules, tests)) (omega arith) c.from_utf8.ensures.cases c.ok.ensures.value
