use Rattle.std.proofs.Common.{◌∙◌, sym, ap, Bool, cond, w64}
use Rattle.std.proofs.lemmas.Nat.Bits.{bit_at_set_same, bit_at_set_other, bit_at_clear_same, bit_at_clear_other}
use Rattle.hid_snapshots.proofs.flags.with_bit.Goals as goal

pub returns-then-is_set-clause-bit : goal.returns-then-is_set-clause-bit
returns-then-is_set-clause-bit c = bit_at_set_same w64 c.args.word c.args.at c.requires ∙ ap (λ (b : Bool). cond b 1 0) (sym c.if-is_set.true)

pub returns-then-is_set-clause-others : goal.returns-then-is_set-clause-others
returns-then-is_set-clause-others c = λ b l ne. bit_at_set_other w64 c.args.word c.args.at c.requires b ne

pub returns-else-is_set-clause-bit : goal.returns-else-is_set-clause-bit
returns-else-is_set-clause-bit c = bit_at_clear_same w64 c.args.word c.args.at c.requires ∙ ap (λ (b : Bool). cond b 1 0) (sym c.if-is_set.false)

pub returns-else-is_set-clause-others : goal.returns-else-is_set-clause-others
returns-else-is_set-clause-others c = λ b l ne. bit_at_clear_other w64 c.args.word c.args.at c.requires b l ne
