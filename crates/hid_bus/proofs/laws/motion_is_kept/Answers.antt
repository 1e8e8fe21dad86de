use Rattle.hid_bus.proofs.MotionLemmas.{suits_has, fresh_has, after_has, lived_has}
use Rattle.hid_bus.proofs.laws.motion_is_kept.Goals as goal

pub returns-clause-suits : goal.returns-clause-suits
returns-clause-suits c = suits_has

pub returns-clause-fresh : goal.returns-clause-fresh
returns-clause-fresh c = fresh_has

pub returns-clause-after : goal.returns-clause-after
returns-clause-after c = after_has

pub returns-clause-lived : goal.returns-clause-lived
returns-clause-lived c = lived_has
