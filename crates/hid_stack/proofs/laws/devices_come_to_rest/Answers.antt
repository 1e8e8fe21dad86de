use Rattle.hid_stack.proofs.AgreementLemmas.{come_to_rest, rest_from_attach}
use Rattle.hid_stack.proofs.laws.devices_come_to_rest.Goals as goal

pub returns-clause-steps : goal.returns-clause-steps
returns-clause-steps c = λ most_lost before after earlier later is. come_to_rest most_lost before earlier later after is

pub returns-clause-since : goal.returns-clause-since
returns-clause-since c = rest_from_attach
