use Rattle.hid_stack.proofs.HoldLemmas.{all_hold, starts_hold}
use Rattle.hid_stack.proofs.ToggleLemmas.{expects_parity, hosts_expect}
use Rattle.hid_stack.proofs.laws.hosts_expect_parity.Goals as goal

pub returns-clause-members : goal.returns-clause-members
returns-clause-members c = expects_parity

pub returns-clause-bus : goal.returns-clause-bus
returns-clause-bus c = hosts_expect

pub returns-clause-attached : goal.returns-clause-attached
returns-clause-attached c = starts_hold

pub returns-clause-after : goal.returns-clause-after
returns-clause-after c = all_hold
