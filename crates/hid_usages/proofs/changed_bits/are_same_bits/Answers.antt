use Rattle.hid_usages.proofs.ChangedBitLemmas.{on_same, same_one}
use Rattle.hid_usages.proofs.changed_bits.are_same_bits.Goals as goal

pub returns-then-bytes-le8 : goal.returns-then-bytes-le8
returns-then-bytes-le8 c =
    on_same c.whole_word.result c.one_word.result (λ same. same_one c.args.last.now c.args.bytes.now _ _ c.whole_word.ensures (c.one_word.ensures c.if-bytes-le8.true) same c.if-bytes-le8.true)
