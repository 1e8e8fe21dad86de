use Rattle.std.proofs.Common.{◌≡◌, ◌*◌, ◌∙◌, ℕ, ap, arith}
use Rattle.hid_fields.specs.Field.{pattern_of}
use Rattle.hid_fields.proofs.WordLemmas.{gathered_part}
use Rattle.hid_usages.proofs.changed_bits.whole_word.Goals as goal

pub returns : goal.returns
returns c =
    let at : 8 * (8 * c.args.index) ≡ 64 * c.args.index = omega arith in
    gathered_part c.args.bytes.now (8 * c.args.index) 8 c.word_of.result (omega arith) c.word_of.ensures
    ∙ ap (λ (n : ℕ). pattern_of c.args.bytes.now n 64) at
