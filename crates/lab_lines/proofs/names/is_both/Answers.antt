use Rattle.std.proofs.Common.{sym}
use Rattle.lab_lines.proofs.NameLemmas.{spells_short, both_first, both_none}
use Rattle.lab_lines.proofs.names.is_both.Goals as goal

pub returns-then-word-first : goal.returns-then-word-first
returns-then-word-first c = sym (spells_short c.args.first.now c.args.second.now c.args.word.now c.if-word-first.true)

pub returns-then-is_spelled : goal.returns-then-is_spelled
returns-then-is_spelled c =
    both_first c.args.first.now c.args.second.now c.args.word.now _ _ (rw c.split_at.ensures.front at c.is_spelled.ensures) c.if-is_spelled.true
    (rw c.split_at.ensures.back at c.is_spelled-then-is_spelled.ensures)

pub returns-else-is_spelled : goal.returns-else-is_spelled
returns-else-is_spelled c = both_none c.args.first.now c.args.second.now c.args.word.now _ (rw c.split_at.ensures.front at c.is_spelled.ensures) c.if-is_spelled.false
