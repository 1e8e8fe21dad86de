use Rattle.std.proofs.lemmas.Option.{slice_get-get_or}
use Rattle.hid_snapshots.proofs.WordLemmas.{word_apart}
use Rattle.hid_snapshots.proofs.flags.word_alone.Goals as goal

pub returns : goal.returns
returns c = λ b l. word_apart c.args.words.now c.args.others.now c.args.k b _ c.word_or_zero.result l (slice_get-get_or c.args.words.now c.args.k 0 c.requires) c.word_or_zero.ensures c.word_or_zero.type_inv
