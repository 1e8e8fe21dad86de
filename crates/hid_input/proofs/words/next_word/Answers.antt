use Rattle.std.proofs.Common.{sym, refl, ◌∙◌}
use Rattle.hid_input.proofs.PartLemmas.{no_word, found_word}
use Rattle.hid_input.proofs.words.next_word.Goals as goal

pub returns-in_err-start-clause-words : goal.returns-in_err-start-clause-words
returns-in_err-start-clause-words c = rw c.from_residual.ensures (no_word c.args.parting c.args.text.now (sym c.no_separator.ensures ∙ c.in_err-start.was))

pub returns-clause-words : goal.returns-clause-words
returns-clause-words c = (found_word c.args.parting c.args.text.now _ c.in_ok-start.start c.unwrap_or-end.result (sym c.no_separator.ensures ∙ c.in_ok-start.was) refl (rw c.separator.ensures at c.unwrap_or-end.ensures)).0

pub returns-clause-some : goal.returns-clause-some
returns-clause-some c = (found_word c.args.parting c.args.text.now _ c.in_ok-start.start c.unwrap_or-end.result (sym c.no_separator.ensures ∙ c.in_ok-start.was) refl (rw c.separator.ensures at c.unwrap_or-end.ensures)).1
