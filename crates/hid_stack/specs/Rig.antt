-- The devices of a bus, and what each of its steps makes of them (our choice).
use Rattle.std.specs.Prelude.{◌≡◌, ◌⊎◌, ◌<◌, ◌≤◌, ◌+◌, ◌-◌, ℕ, ◌==◌, Bool, true, false, not, if◌then◌else◌, List, [], ◌∷◌, ◌++◌, length, map, take, slice_get, slice_set, Option, Some, None, Result, Ok, Err, IfSome}
use Rattle.std.specs.List.{All, filter_map}
use Rattle.hid_layout.specs.Controls.{items_of, max_events}
use Rattle.hid_layout.specs.Layout.{Contents}
use Rattle.hid_snapshots.specs.declared.control_state.ControlState.{ControlState}
use Rattle.hid_snapshots.specs.declared.fault.ChangeFault.{ChangeFault}
use Rattle.hid_snapshots.specs.declared.event.Event.{Event}
use Rattle.hid_snapshots.specs.Snapshots.{snapshot_after}
use Rattle.usb_transact.specs.declared.transaction.Fate.{Fate}
use Rattle.usb_control.specs.declared.fault.ControlFault.TheVariants.{NoTransfer}
use Rattle.usb_control.specs.declared.host.HostStage.TheVariants.{Done}
use Rattle.hid_requests.specs.RequestSetup.{FitsRequest}
use Rattle.hid_bus.specs.DeviceHistory.{events_of_history}
use Rattle.hid_bus.specs.Rounds.{OwnStep, Changes, Polls}
use Rattle.hid_bus.specs.Rounds as own_steps
use Rattle.hid_host.specs.declared.fault.StackFault.{StackFault}
use Rattle.hid_host.specs.declared.fault.StackFault.TheVariants.{NoDevice, NotReady, Refused, Memory}
use Rattle.hid_host.specs.declared.fault.StackFault.TheVariants as faults
use Rattle.hid_host.specs.declared.host.Transfer.{Transfer}
use Rattle.hid_stack.specs.declared.fault.RunFault.{RunFault}
use Rattle.hid_stack.specs.ControlSteps.{TakesMemory as TakesMemoryFor}
use Rattle.hid_host.specs.Host.{may_abort_round, running}
use Rattle.hid_bus.specs.declared.step.Step.{Step}
use Rattle.hid_bus.specs.declared.step.Step.TheVariants.{Change, Frame, Poll, Begin, Control, Halt, Reset}
use Rattle.hid_bus.specs.declared.step.Delivered.{Delivered}
use Rattle.hid_bus.specs.Delivered.{from_device}
use Rattle.hid_stack.specs.Members.{Member, MemberStep, Scheduled, Begins, Controls, Halts, Resets, begin_refusal_at, bus_event_of_step, bus_events_of_steps, member_transfer_after, events_of_event_if, member_after, member_after_all, polls_it, member_out_of_memory}

-- the member with this number; devices are numbered from 1
abbrev pub member_at : List Member → ℕ → Option Member
member_at members dev = if dev == 0 then None else slice_get members (dev - 1)

-- the bus with this member under that number
abbrev pub with_member : List Member → ℕ → Member → List Member
with_member members dev m = slice_set members (dev - 1) m

-- the bus after a step of one device
abbrev pub bus_after_member_step : List Member → ℕ → MemberStep → List Member
bus_after_member_step members dev x =
    elim (member_at members dev) [ None ↦ members | Some m ↦ with_member members dev (member_after m x) ]

-- The bus after a step.
abbrev pub bus_after : List Member → Step → List Member
bus_after members (Change dev change) = bus_after_member_step members dev (Scheduled (Changes change))
bus_after members Frame = map (λ m. member_after m (Scheduled own_steps.Frame)) members
bus_after members (Poll dev fate) = bus_after_member_step members dev (Scheduled (Polls fate))
bus_after members (Begin dev request) = bus_after_member_step members dev (Begins request)
bus_after members (Control dev fate) = bus_after_member_step members dev (Controls fate)
bus_after members (Halt dev) = bus_after_member_step members dev Halts
bus_after members (Reset dev) = bus_after_member_step members dev Resets

-- an event, with the number of the device that it came from
abbrev pub with_device_number : ℕ → Event → Delivered
with_device_number dev event = record { dev = dev; event = event }

-- what a step of one device delivers, under its number
abbrev pub member_deliveries : List Member → ℕ → MemberStep → List Delivered
member_deliveries members dev x = elim (member_at members dev) [
  | None ↦ []
  | Some m ↦
      map (with_device_number dev) (events_of_event_if (items_of m.layout) m.link (bus_event_of_step m x))
]

-- What a step delivers: polls, tries, halts and resets alone deliver events.
abbrev pub deliveries_of_step : List Member → Step → List Delivered
deliveries_of_step members (Change dev change) = []
deliveries_of_step members Frame = []
deliveries_of_step members (Poll dev fate) = member_deliveries members dev (Scheduled (Polls fate))
deliveries_of_step members (Begin dev request) = []
deliveries_of_step members (Control dev fate) = member_deliveries members dev (Controls fate)
deliveries_of_step members (Halt dev) = member_deliveries members dev Halts
deliveries_of_step members (Reset dev) = member_deliveries members dev Resets

-- the bus after a list of steps
abbrev pub bus_after_all : List Member → List Step → List Member
bus_after_all members [] = members
bus_after_all members (x ∷ steps) = bus_after_all (bus_after members x) steps

-- what a list of steps delivers, one after another
abbrev pub deliveries_of_steps : List Member → List Step → List Delivered
deliveries_of_steps members [] = []
deliveries_of_steps members (x ∷ steps) =
    deliveries_of_step members x ++ deliveries_of_steps (bus_after members x) steps

-- why a change is refused, by its result
abbrev pub change_refusal : Result (List ControlState) ChangeFault → Option StackFault
change_refusal (Ok item_states) = None
change_refusal (Err fault) = Some (Refused fault)

-- why a poll is refused: the host isn't ready, or a clear is pending
abbrev pub poll_refusal : Bool → Option StackFault
poll_refusal true = None
poll_refusal false = Some NotReady

-- why a try is refused: no transfer runs
abbrev pub control_refusal : Option Transfer → Option StackFault
control_refusal (Some t) = None
control_refusal None = Some (faults.Control NoTransfer)

-- why a step is refused, memory aside: no such device; of a change its refusal; of a poll a host that isn't ready or has
-- a clear pending; of a request another that runs, then a host in another state; of a try none that runs. Example: press
-- 1 07:01 is S3 U1
abbrev pub refusal : List Member → Step → Option StackFault
refusal members (Change dev change) = elim (member_at members dev) [
  | None ↦ Some NoDevice
  | Some m ↦ change_refusal (snapshot_after (items_of m.layout) m.link.reports.snapshot change)
]
refusal members Frame = None
refusal members (Poll dev fate) =
    elim (member_at members dev) [ None ↦ Some NoDevice | Some m ↦ poll_refusal (polls_it m) ]
refusal members (Begin dev request) =
    elim (member_at members dev) [ None ↦ Some NoDevice | Some m ↦ begin_refusal_at m request ]
refusal members (Control dev fate) =
    elim (member_at members dev) [ None ↦ Some NoDevice | Some m ↦ control_refusal (running m.transfer) ]
refusal members (Halt dev) = elim (member_at members dev) [ None ↦ Some NoDevice | Some m ↦ None ]
refusal members (Reset dev) = elim (member_at members dev) [ None ↦ Some NoDevice | Some m ↦ None ]

-- the ID, the time and the report of a request that begins fit its setup
abbrev pub FitsStep : Step → Type 0
FitsStep (Begin dev request) = FitsRequest request
FitsStep (Change dev change) = Unit {0}
FitsStep Frame = Unit {0}
FitsStep (Poll dev fate) = Unit {0}
FitsStep (Control dev fate) = Unit {0}
FitsStep (Halt dev) = Unit {0}
FitsStep (Reset dev) = Unit {0}

-- a try in which a request is done that gives a layout or a view
abbrev pub AllocatesResult : Fate → Member → Option Transfer → Type 0
AllocatesResult fate m None = ⊥
AllocatesResult fate m (Some t) = ((member_transfer_after fate m t).stage ≡ Done) × TakesMemoryFor t.request

-- a try that takes memory: it gives more, or it may end a round, for whose motion room is made
abbrev pub TriesWithMemory : Fate → Member → Option Transfer → Type 0
TriesWithMemory fate m o = AllocatesResult fate m o ⊎ (may_abort_round o ≡ true)

-- What takes memory: the room for what a poll, a halt, its end or a reset delivers, and for the bytes of a request, a
-- layout and a view.
abbrev pub TakesMemory : List Member → Step → Type 0
TakesMemory members (Change dev change) = ⊥
TakesMemory members Frame = ⊥
TakesMemory members (Poll dev fate) = Unit {0}
TakesMemory members (Begin dev request) = Unit {0}
TakesMemory members (Halt dev) = Unit {0}
TakesMemory members (Reset dev) = Unit {0}
TakesMemory members (Control dev fate) =
    (m : Member) × (member_at members dev ≡ Some m) × TriesWithMemory fate m (running m.transfer)

-- a step for which no room is made: it delivers nothing and begins nothing
abbrev pub NeedsNoRoom : Step → Type 0
NeedsNoRoom (Change dev change) = Unit {0}
NeedsNoRoom Frame = Unit {0}
NeedsNoRoom (Poll dev fate) = ⊥
NeedsNoRoom (Begin dev request) = ⊥
NeedsNoRoom (Control dev fate) = ⊥
NeedsNoRoom (Halt dev) = ⊥
NeedsNoRoom (Reset dev) = ⊥

-- Why a step may be refused: its cause stands, or none does and memory ran out where it is taken.
abbrev pub IsRefusal : List Member → Step → StackFault → Type 0
IsRefusal members x e =
    (refusal members x ≡ Some e) ⊎ ((refusal members x ≡ None) × (e ≡ Memory) × TakesMemory members x)

-- the bus after a try of one device at which memory runs out for what its request gives
abbrev pub bus_after_try_out_of_memory : List Member → ℕ → Fate → List Member
bus_after_try_out_of_memory members dev fate = elim (member_at members dev) [
  | None ↦ members
  | Some m ↦ with_member members dev (member_out_of_memory fate m (running m.transfer))
]

-- The bus after a step that is refused: nothing has changed, but that a try was made at which memory ran out for what
-- its request gives. (A try of a halt or a clear is made once there is room for what it drops.)
abbrev pub bus_after_refusal : List Member → Step → StackFault → List Member
bus_after_refusal members (Control dev fate) Memory = bus_after_try_out_of_memory members dev fate
bus_after_refusal members x e = members

-- room for the events that a try may drop is reserved, and the try takes no other memory
abbrev pub HasRoomToTry : Fate → Member → Option Transfer → ℕ → ℕ → Type 0
HasRoomToTry fate m o used capacity =
    (may_abort_round o ≡ true → used + max_events (items_of m.layout) ≤ capacity)
    × (AllocatesResult fate m o → ⊥)

-- room for the events of a step is reserved, and the step takes no other memory
abbrev pub HasRoomFor : List Member → Step → ℕ → ℕ → Type 0
HasRoomFor members (Change dev change) used capacity = Unit {0}
HasRoomFor members Frame used capacity = Unit {0}
HasRoomFor members (Poll dev fate) used capacity =
    IfSome (member_at members dev) (λ m. used + max_events (items_of m.layout) ≤ capacity)
HasRoomFor members (Halt dev) used capacity =
    IfSome (member_at members dev) (λ m. used + max_events (items_of m.layout) ≤ capacity)
HasRoomFor members (Reset dev) used capacity =
    IfSome (member_at members dev) (λ m. used + max_events (items_of m.layout) ≤ capacity)
HasRoomFor members (Begin dev request) used capacity = ⊥
HasRoomFor members (Control dev fate) used capacity =
    IfSome (member_at members dev) (λ m. HasRoomToTry fate m (running m.transfer) used capacity)

-- how many events a try delivers at most: those of a round that it may end
abbrev pub max_events_of_try : Contents → Bool → ℕ
max_events_of_try layout true = max_events (items_of layout)
max_events_of_try layout false = 0

-- how many events a step delivers at most: a poll, a halt, a reset, and a try of a request to halt or to clear those of
-- its device's layout; any other step none
abbrev pub max_events_of_step : List Member → Step → ℕ
max_events_of_step members (Change dev change) = 0
max_events_of_step members Frame = 0
max_events_of_step members (Poll dev fate) =
    elim (member_at members dev) [ None ↦ 0 | Some m ↦ max_events (items_of m.layout) ]
max_events_of_step members (Reset dev) =
    elim (member_at members dev) [ None ↦ 0 | Some m ↦ max_events (items_of m.layout) ]
max_events_of_step members (Halt dev) =
    elim (member_at members dev) [ None ↦ 0 | Some m ↦ max_events (items_of m.layout) ]
max_events_of_step members (Begin dev request) = 0
max_events_of_step members (Control dev fate) =
    elim (member_at members dev) [
      | None ↦ 0
      | Some m ↦
          max_events_of_try m.layout (may_abort_round (running m.transfer))
    ]

-- how many events a list of steps delivers at most. Example: the mouse, polled twice: 10
abbrev pub max_events_of_steps : List Member → List Step → ℕ
max_events_of_steps members [] = 0
max_events_of_steps members (x ∷ steps) =
    max_events_of_step members x + max_events_of_steps (bus_after members x) steps

-- Room for the events of a step of a list is reserved, after all that the steps before can deliver, and the step takes
-- no other memory.
abbrev pub HasRoomAt : List Member → List Step → ℕ → ℕ → ℕ → Type 0
HasRoomAt members steps i used capacity = IfSome (slice_get steps i)
    (λ x. HasRoomFor (bus_after_all members (take i steps)) x
    (used + max_events_of_steps members (take i steps)) capacity)

-- no step of a list is refused where it comes, memory aside
abbrev pub NoneIsRefused : List Member → List Step → Type 0
NoneIsRefused members [] = Unit {0}
NoneIsRefused members (x ∷ steps) = (refusal members x ≡ None) × NoneIsRefused (bus_after members x) steps

-- A run stops at the first step that is refused after those before it.
abbrev pub StopsAt : List Member → List Step → ℕ → StackFault → Type 0
StopsAt members steps i e =
    (i < length steps) × NoneIsRefused members (take i steps)
    × IfSome (slice_get steps i) (λ x. IsRefusal (bus_after_all members (take i steps)) x e)

-- The bus after the steps of a list before a refused one, and after that one.
abbrev pub bus_after_stop : List Member → List Step → ℕ → StackFault → List Member
bus_after_stop members steps i e = elim (slice_get steps i) [
  | None ↦ members
  | Some x ↦ bus_after_refusal (bus_after_all members (take i steps)) x e
]

-- The steps of a run that were done: all of them, or those before the one that was refused.
abbrev pub steps_done : {X : Type 0} → Result X RunFault → List Step → List Step
steps_done (Ok _) steps = steps
steps_done (Err stopped) steps = take stopped.at steps

-- the bus after the steps of a run that were done
abbrev pub bus_after_done : {X : Type 0} → List Member → Result X RunFault → List Step → List Member
bus_after_done members result steps = bus_after_all members (steps_done result steps)

-- The schedule of a device: the changes and polls that name it, and all frames.
abbrev pub own_step : ℕ → Step → Option OwnStep
own_step device (Change dev change) = if dev == device then Some (Changes change) else None
own_step device Frame = Some own_steps.Frame
own_step device (Poll dev fate) = if dev == device then Some (Polls fate) else None
own_step device (Begin dev request) = None
own_step device (Control dev fate) = None
own_step device (Halt dev) = None
own_step device (Reset dev) = None

-- the own steps of a device in a list of steps, in their order
abbrev pub device_steps : ℕ → List Step → List OwnStep
device_steps device steps = filter_map (own_step device) steps

-- the step of a device that a step of the bus is: one that names the device, or a frame
abbrev pub member_step : ℕ → Step → Option MemberStep
member_step device (Change dev change) = if dev == device then Some (Scheduled (Changes change)) else None
member_step device Frame = Some (Scheduled own_steps.Frame)
member_step device (Poll dev fate) = if dev == device then Some (Scheduled (Polls fate)) else None
member_step device (Begin dev request) = if dev == device then Some (Begins request) else None
member_step device (Control dev fate) = if dev == device then Some (Controls fate) else None
member_step device (Halt dev) = if dev == device then Some Halts else None
member_step device (Reset dev) = if dev == device then Some Resets else None

-- all steps of a device in a list of steps, in their order
abbrev pub member_steps : ℕ → List Step → List MemberStep
member_steps device steps = filter_map (member_step device) steps

-- a step that is of no transfer of a device, and neither halts nor resets it
abbrev pub is_scheduled : ℕ → Step → Bool
is_scheduled device (Begin dev request) = not (dev == device)
is_scheduled device (Control dev fate) = not (dev == device)
is_scheduled device (Halt dev) = not (dev == device)
is_scheduled device (Reset dev) = not (dev == device)
is_scheduled device (Change dev change) = true
is_scheduled device Frame = true
is_scheduled device (Poll dev fate) = true

-- no request of a device is begun or tried, and it is neither halted nor reset
abbrev pub HasOnlySchedule : ℕ → List Step → Type 0
HasOnlySchedule device steps = All (λ x. is_scheduled device x ≡ true) steps

-- no step is of a transfer, and none a halt or a reset
abbrev pub AreScheduled : List Step → Type 0
AreScheduled steps = (device : ℕ) → HasOnlySchedule device steps

-- Each device by itself: how it stands and what was delivered of it are a function of its own steps.
pub record IsIsolated (before after : List Member) (steps : List Step) (old new : List Delivered) : Type 0 where
  pub states : (device : ℕ) (m : Member) → member_at before device ≡ Some m
      → member_at after device ≡ Some (member_after_all m (member_steps device steps))
  pub events : (device : ℕ) (m : Member) → member_at before device ≡ Some m
      → from_device device new ≡ from_device device old
      ++ events_of_history (items_of m.layout) m.link (bus_events_of_steps m (member_steps device steps))
