use Rattle.hid_bus.proofs.AbortedRoundLemmas.{halts_stay, clears_stay, opens_next, lived_cuts, fresh_cuts}
use Rattle.hid_bus.proofs.laws.halts_lose_nothing.Goals as goal

pub returns-clause-halts : goal.returns-clause-halts
returns-clause-halts c = halts_stay

pub returns-clause-clears : goal.returns-clause-clears
returns-clause-clears c = clears_stay

pub returns-clause-next : goal.returns-clause-next
returns-clause-next c = opens_next

pub returns-clause-fresh : goal.returns-clause-fresh
returns-clause-fresh c = fresh_cuts

pub returns-clause-lived : goal.returns-clause-lived
returns-clause-lived c = lived_cuts
