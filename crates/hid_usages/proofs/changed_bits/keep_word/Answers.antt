use Rattle.hid_usages.proofs.ChangedBitLemmas.{word_put}
use Rattle.hid_usages.proofs.changed_bits.keep_word.Goals as goal

pub returns : goal.returns
returns c = λ n low. word_put c.args.last.now c.to_le_bytes.result c.args.word n c.to_le_bytes.ensures c.ranges.word.fits c.requires low
