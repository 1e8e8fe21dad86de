use Rattle.std.proofs.Common.{◌∙◌, ℕ, ap}
use Rattle.std.specs.Int.{div_ceil}
use Rattle.hid_snapshots.proofs.WordLemmas.{told}
use Rattle.hid_snapshots.proofs.flags.Flags.word_count.Goals as goal

pub returns-clause-value : goal.returns-clause-value
returns-clause-value c = c.div_ceil.ensures ∙ ap (λ (m : ℕ). div_ceil m 64) (told _ _ _ c.self.invariant.words c.self.view_is).1
