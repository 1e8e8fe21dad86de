use Rattle.std.proofs.Common.{sym, arith, ◌∙◌}
use Rattle.lab_lines.proofs.NameLemmas.{spells_lengths, spells_other, spells_more, spells_end}
use Rattle.lab_lines.proofs.names.is_spelled.Goals as goal

pub returns-then-name-word : goal.returns-then-name-word
returns-then-name-word c = sym (spells_lengths c.args.name.now c.args.word.now c.if-name-word.true)

pub returns-then-fold : goal.returns-then-fold
returns-then-fold c =
    spells_other c.args.name.now c.args.word.now c.loop-at.at _ _ _ c.loop-at.invariant (omega arith) c.if-name-word.false c.fold.ensures c.fold-in-loop-at.ensures c.if-fold.true

pub loop-at-preserved : goal.loop-at-preserved
loop-at-preserved c =
    spells_more c.args.name.now c.args.word.now c.loop-at.at _ _ _ c.loop-at.invariant (omega arith) c.if-name-word.false c.fold.ensures c.fold-in-loop-at.ensures c.if-fold.false

pub returns : goal.returns
returns c = sym (sym c.loop-at.invariant ∙ spells_end c.args.name.now c.args.word.now c.loop-at.at (omega arith) c.if-name-word.false)
