use Rattle.std.proofs.Common.{◌≡◌, ℕ, ◌-◌, ◌*◌, ◌/◌, ◌%◌, ◌^◌, ◌<◌, ◌∙◌, get_or, sym, ap, bit_and, arith}
use Rattle.hid_fields.proofs.WordLemmas.{field_read, pattern_of-byte}
use Rattle.hid_fields.proofs.word_codec.byte_pattern.Goals as goal

pub returns : goal.returns
returns c =
    let first = c.args.at / 8 in
    let byte = get_or c.args.bytes.now first 0 in
    let small : byte < 256 = omega (arith, c.type_inv.bytes first) in
    let is : c.from-byte.result ≡ byte = omega (arith, c.from-byte.ensures) in
    let shift : c.args.at % 8 ≡ c.args.at - 8 * first = omega arith in
    ap (λ (s : ℕ). bit_and (c.from-byte.result / 2 ^ s) (1 * 2 ^ c.args.width % 2 ^ 64 - 1)) shift
    ∙ field_read c.args.bytes.now first c.args.at c.args.width 8 c.from-byte.result (omega arith) (omega arith) (omega arith)
    (is ∙ sym (pattern_of-byte c.args.bytes.now first small))
