use Rattle.hid_bus.proofs.HistoryEventLemmas.{history_goes_on}
use Rattle.hid_bus.proofs.laws.histories_give_events.Goals as goal

pub returns-clause-history : goal.returns-clause-history
returns-clause-history c = history_goes_on
