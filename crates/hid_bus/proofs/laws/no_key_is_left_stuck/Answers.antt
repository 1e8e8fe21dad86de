use Rattle.hid_bus.proofs.AgreementLemmas.{agrees_at_nak}
use Rattle.hid_bus.proofs.NakLemmas.{nak_says_nothing, nothing_is_nak, unmoved}
use Rattle.hid_bus.proofs.laws.no_key_is_left_stuck.Goals as goal

pub returns-clause-nak : goal.returns-clause-nak
returns-clause-nak c = nak_says_nothing

pub returns-clause-silent : goal.returns-clause-silent
returns-clause-silent c = nothing_is_nak

pub returns-clause-quiet : goal.returns-clause-quiet
returns-clause-quiet c = unmoved

pub returns-clause-agrees : goal.returns-clause-agrees
returns-clause-agrees c = agrees_at_nak
