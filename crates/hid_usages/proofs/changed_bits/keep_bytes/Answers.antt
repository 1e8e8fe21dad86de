use Rattle.std.proofs.Common.{◌≡◌, ◌+◌, ◌*◌, ◌<◌, ◌≤◌, ◌∙◌, ℕ, ap, length, arith}
use Rattle.std.specs.Int.{bit_at}
use Rattle.hid_fields.specs.Field.{bit_of}
use Rattle.hid_fields.proofs.WordLemmas.{bit_at-pattern_of}
use Rattle.hid_usages.proofs.changed_bits.keep_bytes.Goals as goal

in_word : (many n : ℕ) → many ≤ 8 → n < 8 * many → n < 64
in_word many n few low = omega arith

pub returns-then-bytes-le8 : goal.returns-then-bytes-le8
returns-then-bytes-le8 c = λ n low.
    let bytes = c.args.bytes.now in
    let here : 0 + n ≡ n = omega arith in
    c.keep_word.ensures n (in_word (length bytes) n c.if-bytes-le8.true low) ∙ ap (λ (w : ℕ). bit_at w n) (c.requires.word c.if-bytes-le8.true)
    ∙ bit_at-pattern_of bytes 0 (8 * length bytes) n low ∙ ap (bit_of bytes) here
