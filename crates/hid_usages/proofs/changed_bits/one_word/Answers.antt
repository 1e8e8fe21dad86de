use Rattle.std.proofs.Common.{◌≡◌, ◌+◌, ◌-◌, ◌*◌, ◌<◌, ◌≤◌, ◌^◌, ◌∙◌, ℕ, ap, sym, subst, bit_or, length, arith}
use Rattle.std.specs.List.{between}
use Rattle.std.proofs.lemmas.Nat.{shl_whole}
use Rattle.hid_fields.specs.Field.{pattern_of}
use Rattle.hid_fields.proofs.FieldLemmas.{pattern_of-lt}
use Rattle.hid_fields.proofs.WordLemmas.{gathered_part}
use Rattle.hid_usages.proofs.ChangedBitLemmas.{two_fours}
use Rattle.hid_usages.proofs.changed_bits.one_word.Goals as goal

pub returns-else-count-lt4 : goal.returns-else-count-lt4
returns-else-count-lt4 c = λ few.
    let bytes = c.args.bytes.now in
    let first = length bytes - 4 in
    let k = 8 * first in
    let low = c.word_of-else-count-lt4.result in
    let high = c.word_of-else-count-lt4-2.result in
    let end : first + 4 ≡ length bytes = omega arith in
    let fits : k ≤ 32 = omega arith in
    let all : k + 32 ≡ 8 * length bytes = omega arith in
    let is_low : low ≡ pattern_of bytes 0 32 = gathered_part bytes 0 4 low (omega arith) c.word_of-else-count-lt4.ensures in
    let of_high = subst (λ (n : ℕ). high ≡ pattern_of (between first n bytes) 0 (8 * length (between first n bytes))) (sym end) c.word_of-else-count-lt4-2.ensures in
    let is_high : high ≡ pattern_of bytes k 32 = gathered_part bytes first 4 high (omega arith) of_high in
    let small : high < 2 ^ 32 = subst (λ (n : ℕ). n < 2 ^ 32) (sym is_high) (pattern_of-lt bytes k 32) in
    ap (bit_or low) (shl_whole high 32 k 64 small (omega arith)) ∙ two_fours bytes low high k fits is_low is_high ∙ ap (pattern_of bytes 0) all
