use Rattle.std.proofs.Common.{◌≡◌, ◌+◌, ◌-◌, ◌*◌, ◌/◌, ◌<◌, ◌≤◌, ◌^◌, ◌∙◌, ℕ, ap, length, arith}
use Rattle.hid_fields.specs.Field.{pattern_of}
use Rattle.hid_usages.proofs.ChangedBitLemmas.{high_part}
use Rattle.hid_usages.proofs.changed_bits.rest_word.Goals as goal

-- the bytes that are left out, and the others, make eight
all_bits : (many index : ℕ) → 8 ≤ many → 8 * index < many → many < 8 * index + 8 → 64 ≡ 8 * (8 * index - (many - 8)) + 8 * (many - 8 * index)
all_bits many index long some few = omega arith

first_kept : (many index : ℕ) → 8 ≤ many → 8 * index < many → many < 8 * index + 8 → 8 * (many - 8) + 8 * (8 * index - (many - 8)) ≡ 64 * index
first_kept many index long some few = omega arith

pub returns : goal.returns
returns c =
    let bytes = c.args.bytes.now in
    let first = length bytes - 8 in
    let low = 8 * (8 * c.args.index - first) in
    let high = 8 * (length bytes - 8 * c.args.index) in
    let all : 64 ≡ low + high = all_bits (length bytes) c.args.index c.requires.long c.requires.some c.requires.few in
    let at : 8 * first + low ≡ 64 * c.args.index = first_kept (length bytes) c.args.index c.requires.long c.requires.some c.requires.few in
    ap (λ (w : ℕ). w / 2 ^ low) (c.word_at-word.ensures ∙ ap (pattern_of bytes (8 * first)) all) ∙ high_part bytes (8 * first) low high ∙ ap (λ (a : ℕ). pattern_of bytes a high) at
