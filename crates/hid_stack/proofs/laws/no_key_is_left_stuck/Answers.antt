use Rattle.hid_stack.proofs.AgreementLemmas.{agree_at_nak, agree_from_attach, agree_where_nak_is_received, starts_unpolled}
use Rattle.hid_stack.proofs.laws.no_key_is_left_stuck.Goals as goal

pub returns-clause-steps : goal.returns-clause-steps
returns-clause-steps c = agree_at_nak

pub returns-clause-received : goal.returns-clause-received
returns-clause-received c = agree_where_nak_is_received

pub returns-clause-attached : goal.returns-clause-attached
returns-clause-attached c = starts_unpolled

pub returns-clause-since : goal.returns-clause-since
returns-clause-since c = agree_from_attach
