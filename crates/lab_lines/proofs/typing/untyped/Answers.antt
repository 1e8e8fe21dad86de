use Rattle.std.proofs.Common.{sym, ◌∙◌}
use Rattle.lab_lines.proofs.TypingLemmas.{untyped_end, untyped_passed, untyped_found}
use Rattle.lab_lines.proofs.typing.untyped.Goals as goal

pub returns-then-not-has_key : goal.returns-then-not-has_key
returns-then-not-has_key c =
    sym (sym c.loop-character.invariant ∙ untyped_found c.loop-character.rest.now c.in-Some.character c.in-Some.more.now c.in-Some.ensures (sym c.has_key.ensures ∙ c.if-not-has_key.true))

pub loop-character-preserved : goal.loop-character-preserved
loop-character-preserved c =
    untyped_passed c.loop-character.rest.now c.in-Some.character c.in-Some.more.now c.in-Some.ensures (sym c.has_key.ensures ∙ c.if-not-has_key.false) ∙ c.loop-character.invariant

pub returns-in-None : goal.returns-in-None
returns-in-None c = sym (sym c.loop-character.invariant ∙ untyped_end c.loop-character.rest.now c.in-None.ensures)
