use Rattle.lab_session.proofs.LawLemmas.{clicks_are_parts, keys_are_parts, short_lines_are_parts, lines_are_parts}
use Rattle.lab_session.proofs.laws.lines_are_parts.Goals as goal

pub returns-clause-clicks : goal.returns-clause-clicks
returns-clause-clicks c = clicks_are_parts

pub returns-clause-keys : goal.returns-clause-keys
returns-clause-keys c = keys_are_parts

pub returns-clause-short : goal.returns-clause-short
returns-clause-short c = short_lines_are_parts

pub returns-clause-any : goal.returns-clause-any
returns-clause-any c = lines_are_parts
