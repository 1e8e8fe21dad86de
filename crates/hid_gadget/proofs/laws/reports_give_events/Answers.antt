use Rattle.hid_gadget.proofs.ReadLemmas.{holds_each, reads_alike, reads_rounds, taken_is}
use Rattle.hid_gadget.proofs.laws.reports_give_events.Goals as goal

pub returns-clause-given : goal.returns-clause-given
returns-clause-given c = reads_alike

pub returns-clause-headline : goal.returns-clause-headline
returns-clause-headline c = reads_rounds

pub returns-clause-enough : goal.returns-clause-enough
returns-clause-enough c = holds_each

pub returns-clause-taken : goal.returns-clause-taken
returns-clause-taken c = taken_is
