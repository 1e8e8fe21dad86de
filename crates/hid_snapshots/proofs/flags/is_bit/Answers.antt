use Rattle.std.proofs.Common.{◌∙◌, sym, ap, ℕ, ◌/◌, ◌%◌, ◌==◌}
use Rattle.std.specs.Int.{bit_at}
use Rattle.std.proofs.lemmas.Option.{unwrap_or-slice_get}
use Rattle.std.proofs.lemmas.Nat.Bits.{shr_and_one}
use Rattle.hid_snapshots.proofs.flags.is_bit.Goals as goal

pub returns : goal.returns
returns c =
    ap (λ (n : ℕ). n == 1)
    (shr_and_one _ (c.args.index % 64) ∙ ap (λ (w : ℕ). bit_at w (c.args.index % 64)) (sym (unwrap_or-slice_get c.args.words.now (c.args.index / 64) 0)))
