use Rattle.std.proofs.Common.{◌≡◌, ℕ, ◌-◌, ◌*◌, ◌/◌, ◌%◌, ◌^◌, ◌∙◌, ap, bit_and, arith}
use Rattle.hid_fields.proofs.WordLemmas.{field_read, gathered_part}
use Rattle.hid_fields.proofs.word_codec.touched_pattern.Goals as goal

pub returns : goal.returns
returns c =
    let first = c.args.at / 8 in
    let count = c.touched_bytes.result in
    let shift : c.args.at % 8 ≡ c.args.at - 8 * first = omega arith in
    ap (λ (s : ℕ). bit_and (c.gather-word.result / 2 ^ s) (1 * 2 ^ c.args.width % 2 ^ 64 - 1)) shift
    ∙ field_read c.args.bytes.now first c.args.at c.args.width (8 * count) c.gather-word.result (omega arith) (omega arith) (omega arith)
    (gathered_part c.args.bytes.now first count c.gather-word.result (omega arith) c.gather-word.ensures)
