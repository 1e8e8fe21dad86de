use Rattle.std.proofs.Common.{sym, refl, ◌∙◌}
use Rattle.hid_text.proofs.PartLemmas.{no_word, found_word, after_found}
use Rattle.hid_text.proofs.words.first_word.Goals as goal

pub returns-in_err-start-clause-words : goal.returns-in_err-start-clause-words
returns-in_err-start-clause-words c = rw c.from_residual.ensures (no_word c.args.text.now (sym c.no_blank.ensures ∙ c.in_err-start.was))

pub returns-clause-words : goal.returns-clause-words
returns-clause-words c = (found_word c.args.text.now _ c.in_ok-start.start c.unwrap_or-end.result (sym c.no_blank.ensures ∙ c.in_ok-start.was) refl (rw c.blank.ensures at c.unwrap_or-end.ensures)).0

pub returns-clause-some : goal.returns-clause-some
returns-clause-some c = (found_word c.args.text.now _ c.in_ok-start.start c.unwrap_or-end.result (sym c.no_blank.ensures ∙ c.in_ok-start.was) refl (rw c.blank.ensures at c.unwrap_or-end.ensures)).1

pub returns-clause-after : goal.returns-clause-after
returns-clause-after c = after_found c.args.text.now _ c.in_ok-start.start c.unwrap_or-end.result (sym c.no_blank.ensures ∙ c.in_ok-start.was) refl (rw c.blank.ensures at c.unwrap_or-end.ensures)
