-- The events of a whole history of a device, from a link state or a configuration on (USB 2.0, 8.6).
use Rattle.std.proofs.Common.{◌≡◌, ℕ, List, Option, None, refl, sym, subst}
use Rattle.hid_layout.specs.Controls.{Item}
use Rattle.hid_snapshots.specs.declared.control_state.ControlState.{ControlState}
use Rattle.hid_snapshots.specs.ControlStates.{blank}
use Rattle.hid_bus.specs.Rounds.{initial_history}
use Rattle.hid_bus.specs.LinkState.{LinkState, OpenRound, initial_link}
use Rattle.hid_bus.specs.DeviceHistory.{BusEvent, outcomes_of_events, events_of_outcomes, events_of_history}
use Rattle.hid_bus.specs.HistoryState.{HistoryHolds}
use Rattle.hid_bus.proofs.HistoryLemmas.{link, delivers}

-- from any link state without an open round
pub history_goes_on : (items : List Item) (from : LinkState) (bus_events : List BusEvent) → from.current ≡ None
    → HistoryHolds items from bus_events
history_goes_on items from bus_events none_open =
    subst (λ (o : Option OpenRound). HistoryHolds items
    (link from.reports o from.toggle from.view from.halted) bus_events)
    (sym none_open)
    ((delivers items bus_events).quiet from.reports from.toggle from.view from.halted)

-- the events of a device that was just configured are those of its outcomes
pub delivers_life : (items : List Item) (snapshot : List ControlState) (idle : List ℕ) (bus_events : List BusEvent)
    → events_of_history items (initial_link items snapshot idle) bus_events
    ≡ events_of_outcomes items (blank items)
    (outcomes_of_events items bus_events (initial_history items snapshot idle))
delivers_life items snapshot idle bus_events =
    (history_goes_on items (initial_link items snapshot idle) bus_events refl).events
