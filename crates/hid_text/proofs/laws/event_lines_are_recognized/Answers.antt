use Rattle.hid_text.proofs.ShownLemmas.{shows_layout, shows_step, shows_values}
use Rattle.hid_text.proofs.laws.event_lines_are_recognized.Goals as goal

pub returns-clause-steps : goal.returns-clause-steps
returns-clause-steps c = shows_step

pub returns-clause-layouts : goal.returns-clause-layouts
returns-clause-layouts c = shows_layout

pub returns-clause-values : goal.returns-clause-values
returns-clause-values c = shows_values
