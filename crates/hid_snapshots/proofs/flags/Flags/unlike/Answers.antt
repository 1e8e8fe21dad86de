use Rattle.std.proofs.Common.{◌∙◌, ℕ, List, ap, unwrap_or}
use Rattle.std.specs.List.{slice_get}
use Rattle.hid_snapshots.proofs.WordLemmas.{unlike_at}
use Rattle.hid_snapshots.proofs.flags.Flags.unlike.Goals as goal

pub returns : goal.returns
returns c = λ b low.
    unlike_at c.args.self.now c.args.index c.word_or_zero.result c.args.word b (c.word_or_zero.ensures ∙ ap (λ (ws : List ℕ). unwrap_or (slice_get ws c.args.index) 0) c.words.ensures) low
