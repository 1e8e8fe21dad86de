use Rattle.std.proofs.Common.{◌∙◌, ◌+◌, ap, ℕ, replicate}
use Rattle.std.specs.Int.{div_ceil}
use Rattle.hid_snapshots.proofs.NoteLemmas.{new_flags}
use Rattle.hid_snapshots.proofs.flags.Flags.clear.Goals as goal

pub invariant_of-result-2 : goal.invariant_of-result-2
invariant_of-result-2 c =
    (new_flags c.in_ok-full_of.field-0.items c.args.count
    (c.in_ok-full_of.ensures.items ∙ ap (λ (n : ℕ). replicate (c.div_ceil-words.result + n) 0) c.div_ceil.ensures ∙ ap (λ (n : ℕ). replicate (n + div_ceil n 64) 0) c.div_ceil-words.ensures)
    c.ranges.count.fits).1

pub returns : goal.returns
returns c =
    (new_flags c.in_ok-full_of.field-0.items c.args.count
    (c.in_ok-full_of.ensures.items ∙ ap (λ (n : ℕ). replicate (c.div_ceil-words.result + n) 0) c.div_ceil.ensures ∙ ap (λ (n : ℕ). replicate (n + div_ceil n 64) 0) c.div_ceil-words.ensures)
    c.ranges.count.fits).0
