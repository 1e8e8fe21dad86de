use Rattle.std.proofs.Common.{sym, ap, ◌&&◌, drop, length}
use Rattle.hid_text.specs.Numbers.{number_of}
use Rattle.lab_lines.specs.Names.{spells_number, are_number}
use Rattle.lab_lines.proofs.NameLemmas.{front_short}
use Rattle.lab_lines.proofs.names.is_numbered.Goals as goal

pub returns-then-word-front : goal.returns-then-word-front
unfolding spells_number
returns-then-word-front c =
    sym (ap (λ t. t && are_number c.args.number (number_of 10 (drop (length c.args.front.now) c.args.word.now))) (front_short c.args.front.now c.args.word.now c.if-word-front.true))
