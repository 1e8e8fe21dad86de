use Rattle.hid_gadget.proofs.ReceiveLemmas.{fresh_in_step, gives_events, gives_rounds, gives_schedule, goes_on_again, is_fresh}
use Rattle.hid_gadget.proofs.AgreementLemmas.{agrees_after_steps}
use Rattle.hid_gadget.proofs.RestLemmas.{rests_after_transfers, some_packets}
use Rattle.hid_gadget.proofs.TransferCountLemmas.{rests_after_as_many}
use Rattle.hid_gadget.proofs.laws.receivers_give_events.Goals as goal

pub returns-clause-given : goal.returns-clause-given
returns-clause-given c = gives_events

pub returns-clause-headline : goal.returns-clause-headline
returns-clause-headline c = gives_rounds

pub returns-clause-schedule : goal.returns-clause-schedule
returns-clause-schedule c = gives_schedule

pub returns-clause-fresh : goal.returns-clause-fresh
returns-clause-fresh c = is_fresh

pub returns-clause-new : goal.returns-clause-new
returns-clause-new c = fresh_in_step

pub returns-clause-again : goal.returns-clause-again
returns-clause-again c = goes_on_again

pub returns-clause-agrees : goal.returns-clause-agrees
returns-clause-agrees c = agrees_after_steps

pub returns-clause-rests : goal.returns-clause-rests
returns-clause-rests c = rests_after_transfers

pub returns-clause-each : goal.returns-clause-each
returns-clause-each c = some_packets

pub returns-clause-enough : goal.returns-clause-enough
returns-clause-enough c = rests_after_as_many
