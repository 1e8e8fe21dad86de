use Rattle.hid_items.proofs.ReadingLemmas.{same_spelling}
use Rattle.hid_items.proofs.laws.prefix_free.Goals as goal

pub returns : goal.returns
returns c item other more rest a b e = same_spelling item other more rest a b e
