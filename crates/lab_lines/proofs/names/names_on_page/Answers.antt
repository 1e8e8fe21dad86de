use Rattle.std.proofs.Common.{sym, ◌∙◌}
use Rattle.lab_lines.proofs.names.names_on_page.Goals as goal

pub returns-then-is_name_of : goal.returns-then-is_name_of
returns-then-is_name_of c = λ _. (record { page = c.args.page; id = c.loop-id.id }, sym c.is_name_of.ensures ∙ c.if-is_name_of.true)
