use Rattle.hid_usages.proofs.ChangedBitLemmas.{on_same, same_eight}
use Rattle.hid_usages.proofs.changed_bits.is_same_word.Goals as goal

pub returns : goal.returns
returns c = on_same c.word_at.result c.word_at-2.result (λ same. same_eight c.args.last.now c.args.bytes.now c.args.first _ _ c.word_at.ensures c.word_at-2.ensures same)
