-- What is promised of a device over its own steps, by the rounds of those steps (USB 2.0, 8.5.4, 8.6 and 9.4.7).
use Rattle.std.specs.Prelude.{◌≡◌, ℕ, true, false, List, ◌++◌, Some, None}
use Rattle.hid_layout.specs.Controls.{items_of}
use Rattle.hid_snapshots.specs.declared.control_state.ControlState.{ControlState}
use Rattle.hid_snapshots.specs.declared.event.Event.{Event}
use Rattle.hid_bus.specs.HistoryState.{FollowsHistory, StandsByRounds, history_from}
use Rattle.hid_bus.specs.DeviceHistory.{BusEvent, history_after_all, outcomes_of_events}
use Rattle.hid_bus.specs.Rounds.{events_of_epoch}
use Rattle.hid_bus.specs.declared.step.Step.{Step}
use Rattle.hid_bus.specs.declared.step.Delivered.{Delivered}
use Rattle.hid_bus.specs.Delivered.{from_device}
use Rattle.hid_bus.specs.LinkState.{LinkState, initial_link}
use Rattle.hid_host.specs.declared.phase.HostState.TheVariants.{Ready}
use Rattle.hid_stack.specs.Members.{Member, bus_events_of_steps, polls_it}
use Rattle.hid_stack.specs.Rig.{HasOnlySchedule, device_steps, member_at, member_steps}

-- both ends were just configured: the host is ready with its initial view, and no round was opened
pub record AreFresh (m : Member) (snapshot : List ControlState) (idle : List ℕ) : Type 0 where
  pub host : m.host ≡ Ready
  pub clear : m.clearing ≡ false
  pub link : m.link ≡ initial_link (items_of m.layout) snapshot idle

-- The headline. Of each device that was just configured, while no request of it is begun or tried and it is neither
-- halted nor reset, the events delivered are exactly the changes between the successive parts that crossed, in order,
-- none twice.
abbrev pub DeliversChanges : List Member → List Step → List Delivered → List Delivered → Type 0
DeliversChanges before steps old new =
    (device : ℕ) (m : Member) (snapshot : List ControlState) (idle : List ℕ)
    → member_at before device ≡ Some m → AreFresh m snapshot idle
    → HasOnlySchedule device steps
    → from_device device new
    ≡ from_device device old ++ events_of_epoch (items_of m.layout) snapshot idle (device_steps device steps)

-- Each device whose host polls it, without an open round, stands after its own steps as the rounds of those steps say;
-- nothing else of it changes. Example: after a lost ACK the round is open and has crossed, with DATA0 at the device and
-- DATA1 at the host
abbrev pub KeepsToRounds : List Member → List Step → List Member → Type 0
KeepsToRounds before steps after =
    (device : ℕ) (m : Member) → member_at before device ≡ Some m → polls_it m ≡ true → m.link.current ≡ None
    → HasOnlySchedule device steps
    → (s : LinkState) × (member_at after device ≡ Some (record m { link = s }))
    × StandsByRounds (items_of m.layout) m.link (device_steps device steps) s

-- The history of a device from a state without an open round: its events are those of its crossed rounds, halts, clears
-- and resets, and its link state follows from them. Views and toggles restart at a configuration and a reset, toggles also
-- at a clear.
abbrev pub MemberFollowsHistory : Member → List BusEvent → Member → List Event → Type 0
MemberFollowsHistory m bus_events n told =
    FollowsHistory (items_of m.layout) m.link.view m.link.toggle
    (outcomes_of_events (items_of m.layout) bus_events (history_from m.link))
    (history_after_all (items_of m.layout) bus_events (history_from m.link)) told n.link

-- Each device of a bus follows its history: from any state without an open round on, its events and its link state are
-- what its history says.
abbrev pub DevicesFollowHistories : List Member → List Step → List Member → List Delivered → List Delivered → Type 0
DevicesFollowHistories before steps after old new =
    (device : ℕ) (m : Member) → member_at before device ≡ Some m → m.link.current ≡ None
    → (n : Member) × (told : List Event) × (member_at after device ≡ Some n)
    × (from_device device new ≡ from_device device old ++ told)
    × MemberFollowsHistory m (bus_events_of_steps m (member_steps device steps)) n told
