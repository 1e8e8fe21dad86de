use Rattle.std.proofs.Common.{ℕ, ◌+◌, ◌*◌, ◌<◌, ◌≤◌, length, arith}
use Rattle.hid_usages.proofs.ChangedBitLemmas.{none_compared, compared_next, all_compared}
use Rattle.hid_usages.proofs.changed_bits.changed_bits.Goals as goal

-- at most eight bytes are one word
one_word : (many : ℕ) → many ≤ 8 → 8 * many ≤ 64 * 1
one_word many few = omega arith

in_word : (many b : ℕ) → 64 * 0 + b < 8 * many → b < 8 * many
in_word many b inside = omega arith

pub returns-then-bytes-le8 : goal.returns-then-bytes-le8
returns-then-bytes-le8 c =
    let last = c.args.last.now in
    let bytes = c.args.bytes.now in
    all_compared last bytes 1 c.grow.result (one_word (length bytes) c.if-bytes-le8.true)
    (compared_next last bytes 0 c.whole_word.result c.args.word (8 * length bytes) (record { first = 0; end = 0 }) c.grow.result (none_compared last bytes)
    c.whole_word.ensures (c.requires.word c.if-bytes-le8.true) (λ b low inside. in_word (length bytes) b inside) c.grow.ensures)
