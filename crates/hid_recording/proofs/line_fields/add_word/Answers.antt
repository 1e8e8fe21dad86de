use Rattle.std.proofs.Common.{[], ◌∷◌, rules, arith}
use Rattle.hid_recording.proofs.WordLemmas.{pair_read}
use Rattle.hid_recording.proofs.line_fields.add_word.Goals as goal

pub returns-in-None : goal.returns-in-None
returns-in-None c = (search rules, pair_read c.args.word.now _ (omega arith) (omega arith) c.in-None.ensures)

pub returns-else-is_err : goal.returns-else-is_err
returns-else-is_err c =
    (c.in-Some.byte ∷ [], pair_read c.args.word.now _ (omega arith) (omega arith) c.in-Some.ensures, search rules)
