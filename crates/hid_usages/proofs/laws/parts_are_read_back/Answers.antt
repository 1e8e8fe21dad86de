use Rattle.hid_usages.proofs.CrossingLemmas.{parts_back, parts_taken, seen_is_view}
use Rattle.hid_usages.proofs.laws.parts_are_read_back.Goals as goal

pub returns-clause-read : goal.returns-clause-read
returns-clause-read c = parts_back

pub returns-clause-view : goal.returns-clause-view
returns-clause-view c = seen_is_view

pub returns-clause-taken : goal.returns-clause-taken
returns-clause-taken c = parts_taken
