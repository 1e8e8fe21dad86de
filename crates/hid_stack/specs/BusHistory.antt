-- A bus from its first device on: devices are attached to it, steps happen to them, and memory runs out at tries of
-- them, in any order (our choice).
use Rattle.std.specs.Prelude.{◌≡◌, ◌≢◌, ℕ, ◌==◌, ◌+◌, if◌then◌else◌, List, [], ◌∷◌, ◌++◌, length, Option, Some, None}
use Rattle.std.specs.List.{All, cons_option, filter_map}
use Rattle.std.specs.Option.{option_map}
use Rattle.usb_transact.specs.declared.transaction.Fate.{Fate}
use Rattle.hid_layout.specs.Controls.{items_of}
use Rattle.hid_requests.specs.RequestSetup.{FitsRequest}
use Rattle.hid_bus.specs.DeviceHistory.{BusEvent, events_of_history}
use Rattle.hid_host.specs.declared.fault.StackFault.TheVariants.{Memory}
use Rattle.hid_host.specs.Host.{running}
use Rattle.hid_bus.specs.declared.step.Step.{Step}
use Rattle.hid_bus.specs.declared.step.Step.TheVariants.{Control}
use Rattle.hid_bus.specs.declared.step.Delivered.{Delivered}
use Rattle.hid_bus.specs.Delivered.{from_device}
use Rattle.hid_stack.specs.Headline.{MemberFollowsHistory}
use Rattle.hid_stack.specs.Members.{Member, MemberStep, Begins, bus_event_of_step, member_after, out_of_memory_bus_event, member_out_of_memory}
use Rattle.hid_stack.specs.Rig.{bus_after, bus_after_refusal, deliveries_of_step, member_at, member_step}
use Rattle.hid_stack.specs.Sums.{AbortsByRequest}

-- ---- what is done to a bus

-- What is done to a bus: a device is attached, the bus takes a step, or memory runs out at a try of a device: the step
-- is refused, and if the try was made the transfer is over. Example: S8 at the status of a Configure: the device is
-- configured, its host is still Parsed
pub data Action : Type 0 where
  Attached : Member → Action
  Taken : Step → Action
  Unconcluded : ℕ → Fate → Action

-- the bus after a list of actions
abbrev pub bus_after_actions : List Member → List Action → List Member
bus_after_actions members [] = members
bus_after_actions members (Attached m ∷ acts) = bus_after_actions (members ++ m ∷ []) acts
bus_after_actions members (Taken step ∷ acts) = bus_after_actions (bus_after members step) acts
bus_after_actions members (Unconcluded dev fate ∷ acts) =
    bus_after_actions (bus_after_refusal members (Control dev fate) Memory) acts

-- what a list of actions delivers: a step that is refused delivers nothing
abbrev pub deliveries_of_actions : List Member → List Action → List Delivered
deliveries_of_actions members [] = []
deliveries_of_actions members (Attached m ∷ acts) = deliveries_of_actions (members ++ m ∷ []) acts
deliveries_of_actions members (Taken step ∷ acts) =
    deliveries_of_step members step ++ deliveries_of_actions (bus_after members step) acts
deliveries_of_actions members (Unconcluded dev fate ∷ acts) =
    deliveries_of_actions (bus_after_refusal members (Control dev fate) Memory) acts

-- the number of the device that is attached after these actions
abbrev pub next_number : List Action → ℕ
next_number before = length (bus_after_actions [] before) + 1

-- ---- what of it is done to one device

-- what is done to one device: a step of it, or a try of it at which memory runs out
pub data DeviceAction : Type 0 where
  Takes : MemberStep → DeviceAction
  Unconcludes : Fate → DeviceAction

-- an action, if it is done to this device
abbrev pub device_action : ℕ → Action → Option DeviceAction
device_action device (Attached m) = None
device_action device (Taken step) = option_map (λ x. Takes x) (member_step device step)
device_action device (Unconcluded dev fate) = if dev == device then Some (Unconcludes fate) else None

-- the actions that are done to the device that is attached next
abbrev pub device_actions : List Action → List Action → List DeviceAction
device_actions before since = filter_map (device_action (next_number before)) since

-- the device and its host after an action
abbrev pub member_after_action : Member → DeviceAction → Member
member_after_action m (Takes x) = member_after m x
member_after_action m (Unconcludes fate) = member_out_of_memory fate m (running m.transfer)

-- the device and its host after a list of actions
abbrev pub member_after_actions : Member → List DeviceAction → Member
member_after_actions m [] = m
member_after_actions m (act ∷ actions) = member_after_actions (member_after_action m act) actions

-- the bus event of an action, if it has one
abbrev pub bus_event_of_action : Member → DeviceAction → Option BusEvent
bus_event_of_action m (Takes x) = bus_event_of_step m x
bus_event_of_action m (Unconcludes fate) = out_of_memory_bus_event fate m (running m.transfer)

-- the bus events of a list of actions
abbrev pub bus_events_of_actions : Member → List DeviceAction → List BusEvent
bus_events_of_actions m [] = []
bus_events_of_actions m (act ∷ actions) =
    cons_option (bus_event_of_action m act) (bus_events_of_actions (member_after_action m act) actions)

-- a try at which memory runs out ends no round unless its request halts or clears (`Rig::step` says so of every try)
abbrev pub EndsNoRound : Member → DeviceAction → Type 0
EndsNoRound m (Takes x) = Unit {0}
EndsNoRound m (Unconcludes fate) = AbortsByRequest fate m (running m.transfer)

-- no try at which memory runs out ends a round of the device
abbrev pub EndNoRounds : Member → List DeviceAction → Type 0
EndNoRounds m [] = Unit {0}
EndNoRounds m (act ∷ actions) = EndsNoRound m act × EndNoRounds (member_after_action m act) actions

-- a request that begins fits its setup (`Rig::step` says so of every one)
abbrev pub FitsAction : DeviceAction → Type 0
FitsAction (Takes (Begins request)) = FitsRequest request
FitsAction _ = Unit {0}

-- the act is no try of this device at which memory runs out; an attach and a step never are
abbrev pub HasMemoryFor : ℕ → Action → Type 0
HasMemoryFor device (Attached m) = Unit {0}
HasMemoryFor device (Taken step) = Unit {0}
HasMemoryFor device (Unconcluded dev fate) = dev ≢ device

-- what is delivered under the number of the device that is attached next: the events of its history
abbrev pub DeliversHistory : List Action → Member → List Action → Type 0
DeliversHistory before m since =
    from_device (next_number before) (deliveries_of_actions [] (before ++ Attached m ∷ since))
    ≡ events_of_history (items_of m.layout) m.link (bus_events_of_actions m (device_actions before since))

-- The state and the events of a device depend on its attach and its own steps alone. This also holds if memory runs out at
-- its tries, unless such a try ends a round.
pub record IsItsOwn (before : List Action) (m : Member) (since : List Action) : Type 0 where
  pub state : member_at (bus_after_actions [] (before ++ Attached m ∷ since)) (next_number before)
      ≡ Some (member_after_actions m (device_actions before since))
  pub events_of_steps : All (HasMemoryFor (next_number before)) since → DeliversHistory before m since
  pub events : EndNoRounds m (device_actions before since) → DeliversHistory before m since
  pub history : m.link.current ≡ None
      → MemberFollowsHistory m (bus_events_of_actions m (device_actions before since))
      (member_after_actions m (device_actions before since))
      (events_of_history (items_of m.layout) m.link (bus_events_of_actions m (device_actions before since)))
