use Rattle.hid_snapshots.proofs.PutLemmas.{bits_alone}
use Rattle.hid_snapshots.proofs.flags.Flags.alone.Goals as goal

pub returns : goal.returns
returns c = λ b h. bits_alone c.word.result c.word-2.result b _ _ h c.word-2.type_inv (c.word.ensures b h) (c.word-2.ensures b h)
