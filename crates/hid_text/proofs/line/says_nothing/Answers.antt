use Rattle.std.proofs.Common.{sym, ◌∙◌}
use Rattle.std.proofs.lemmas.Bool.{eqb-true}
use Rattle.hid_text.proofs.PartLemmas.{empty_line, comment_line}
use Rattle.hid_text.proofs.line.says_nothing.Goals as goal

pub returns-in-None : goal.returns-in-None
returns-in-None c = λ _. empty_line c.args.line.now c.if-line-gt-MAX_LINE.false (sym c.no_blank.ensures ∙ c.in-None.is)

pub returns-in-Some : goal.returns-in-Some
returns-in-Some c = λ mark. comment_line c.args.line.now c.in-Some.start c.if-line-gt-MAX_LINE.false (sym c.no_blank.ensures ∙ c.in-Some.is) (eqb-true _ _ mark)
