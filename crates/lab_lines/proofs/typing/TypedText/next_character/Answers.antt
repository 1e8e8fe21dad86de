use Rattle.lab_lines.proofs.TypingLemmas.{typed_none, typed_some}
use Rattle.lab_lines.proofs.typing.TypedText.next_character.Goals as goal

pub returns-in_err-character-clause-next : goal.returns-in_err-character-clause-next
returns-in_err-character-clause-next c = rw c.from_residual.ensures (typed_none c.args.self.now.rest.now c.in_err-character.ensures)

pub returns-clause-next : goal.returns-clause-next
returns-clause-next c = typed_some c.args.self.now.rest.now c.in_ok-character.character c.in_ok-character.rest.now c.in_ok-character.ensures
