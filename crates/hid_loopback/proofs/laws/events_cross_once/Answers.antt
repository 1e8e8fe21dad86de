use Rattle.hid_loopback.proofs.BringUpLemmas.{fresh_up}
use Rattle.hid_loopback.proofs.RunLemmas.{agrees_up, cross_by_schedule, cross_once, delivers, rests_up}
use Rattle.hid_loopback.proofs.laws.events_cross_once.Goals as goal

pub returns-clause-headline : goal.returns-clause-headline
returns-clause-headline c = cross_once

pub returns-clause-schedule : goal.returns-clause-schedule
returns-clause-schedule c = cross_by_schedule

pub returns-clause-fresh : goal.returns-clause-fresh
returns-clause-fresh c = fresh_up

pub returns-clause-given : goal.returns-clause-given
returns-clause-given c = delivers

pub returns-clause-agrees : goal.returns-clause-agrees
returns-clause-agrees c = agrees_up

pub returns-clause-rests : goal.returns-clause-rests
returns-clause-rests c = rests_up
