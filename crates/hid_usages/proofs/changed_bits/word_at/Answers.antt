use Rattle.std.proofs.Common.{arith}
use Rattle.hid_fields.proofs.WordLemmas.{gathered_part}
use Rattle.hid_usages.proofs.changed_bits.word_at.Goals as goal

pub returns : goal.returns
returns c = gathered_part c.args.bytes.now c.args.first 8 c.eight_bytes.result (omega arith) c.eight_bytes.ensures
