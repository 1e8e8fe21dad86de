-- The sum of motion over steps of a bus: what moves add to a relative control is delivered once, or the
-- device still has it (our choice).
use Rattle.std.specs.Prelude.{◌≡◌, ℕ, false, List, [], ◌∷◌, Option, Some, None, ◌+ℤ◌}
use Rattle.std.specs.List.{All}
use Rattle.hid_layout.specs.declared.control.ControlId.{ControlId}
use Rattle.hid_layout.specs.Controls.{items_of}
use Rattle.hid_bus.specs.Motion.{AreBetweenRounds, IsBetweenRounds, motion_of_events, Conserves, link_motion, accepted_steps_of_events, HasMotions}
use Rattle.hid_bus.specs.DeviceHistory.{BusEvent}
use Rattle.hid_bus.specs.DeviceHistory as bus
use Rattle.hid_host.specs.declared.host.Transfer.{Transfer}
use Rattle.hid_host.specs.Host.{request_aborts_round, running}
use Rattle.usb_transact.specs.declared.transaction.Fate.{Fate}
use Rattle.hid_bus.specs.LinkState.{LinkState}
use Rattle.hid_bus.specs.declared.step.Step.{Step}
use Rattle.hid_bus.specs.declared.step.Step.TheVariants.{Control}
use Rattle.hid_bus.specs.declared.step.Delivered.{Delivered}
use Rattle.hid_bus.specs.Delivered.{from_device}
use Rattle.hid_stack.specs.Members.{Member, bus_events_of_steps, try_bus_event}
use Rattle.hid_stack.specs.Rig.{bus_after_refusal, member_at, member_steps}
use Rattle.hid_host.specs.declared.fault.StackFault.{StackFault}

-- every device keeps a motion for each of its relative controls
abbrev pub AllHaveMotions : List Member → Type 0
AllHaveMotions members = All (λ m. HasMotions (items_of m.layout) m.link) members

-- a bus event, if there is one, comes between the rounds of a device if it is a configuration
abbrev pub IsBetween : LinkState → Option BusEvent → Type 0
IsBetween s None = Unit {0}
IsBetween s (Some bus_event) = IsBetweenRounds s bus_event

-- a configuration takes effect between the rounds of its device, and so loses no motion
abbrev pub ConfiguresBetweenRounds : List Member → List Step → Type 0
ConfiguresBetweenRounds members steps =
    (device : ℕ) (m : Member) → member_at members device ≡ Some m
    → AreBetweenRounds (items_of m.layout) m.link (bus_events_of_steps m (member_steps device steps))

-- a bus event, if there is one, is neither a halt nor a clear, and so aborts no round
abbrev pub AbortsNone : Option BusEvent → Type 0
AbortsNone (Some bus.Halts) = ⊥
AbortsNone (Some bus.Clears) = ⊥
AbortsNone _ = Unit {0}

-- a try aborts no round of the device unless its request halts or clears
abbrev pub AbortsByRequest : Fate → Member → Option Transfer → Type 0
AbortsByRequest fate m None = Unit {0}
AbortsByRequest fate m (Some t) =
    request_aborts_round t.request ≡ false → AbortsNone (try_bus_event fate m (Some t))

-- Only a request to halt or to clear ends a round by a try.
abbrev pub OnlyHaltsAbort : List Member → Step → Type 0
OnlyHaltsAbort members (Control dev fate) =
    (m : Member) → member_at members dev ≡ Some m → AbortsByRequest fate m (running m.transfer)
OnlyHaltsAbort members _ = Unit {0}

-- Of each device and control: what was delivered before, what the device had and what accepted moves
-- added is what is delivered now and what the device still has.
abbrev pub ConservesMotion : List Member → List Member → List Step → List Delivered → List Delivered → Type 0
ConservesMotion before after steps old new =
    (device : ℕ) (m n : Member)
    → member_at before device ≡ Some m → member_at after device ≡ Some n
    → (c : ControlId)
    → Conserves c
    (accepted_steps_of_events (items_of m.layout) m.link (bus_events_of_steps m (member_steps device steps)))
    (motion_of_events c (from_device device old) +ℤ link_motion (items_of m.layout) m.link c)
    (from_device device new)
    (link_motion (items_of n.layout) n.link c)

-- a step that is refused leaves each device with the motion that it had
abbrev pub RefusedKeepMotion : Type 0
RefusedKeepMotion =
    (members : List Member) (x : Step) (e : StackFault) (device : ℕ) (m n : Member) (c : ControlId)
    → AllHaveMotions members → ConfiguresBetweenRounds members (x ∷ []) → OnlyHaltsAbort members x
    → member_at members device ≡ Some m → member_at (bus_after_refusal members x e) device ≡ Some n
    → link_motion (items_of n.layout) n.link c ≡ link_motion (items_of m.layout) m.link c
