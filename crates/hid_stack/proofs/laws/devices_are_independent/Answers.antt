use Rattle.hid_stack.proofs.Isolation.{isolated, headline, keeps_to_rounds, devices_live}
use Rattle.hid_stack.proofs.laws.devices_are_independent.Goals as goal

pub returns-clause-isolated : goal.returns-clause-isolated
returns-clause-isolated c = isolated

pub returns-clause-headline : goal.returns-clause-headline
returns-clause-headline c = headline

pub returns-clause-rounds : goal.returns-clause-rounds
returns-clause-rounds c = keeps_to_rounds

pub returns-clause-history : goal.returns-clause-history
returns-clause-history c = devices_live
