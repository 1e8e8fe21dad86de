use Rattle.std.proofs.Common.{arith}
use Rattle.hid_fields.proofs.WordLemmas.{field_read, gathered_part}
use Rattle.hid_fields.proofs.word_codec.word_pattern.Goals as goal

pub returns : goal.returns
returns c =
    let first = c.min-first.result in
    field_read c.args.bytes.now first c.args.at c.args.width 64 c.gather_eight-word.result (omega arith) (omega (arith, c.min-first.ensures)) (omega (arith, c.min-first.ensures))
    (gathered_part c.args.bytes.now first 8 c.gather_eight-word.result (omega (arith, c.min-first.ensures)) c.gather_eight-word.ensures)
