use Rattle.hid_snapshots.proofs.PutLemmas.{bits_common}
use Rattle.hid_snapshots.proofs.flags.Flags.common.Goals as goal

pub returns : goal.returns
returns c = λ b h. bits_common c.word.result c.word-2.result b _ _ (c.word.ensures b h) (c.word-2.ensures b h)
