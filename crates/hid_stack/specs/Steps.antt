-- One step of the bus, whole: what it returns, where it leaves the bus and the events, and when it is refused (our
-- choice; USB 2.0, 9.1.1).
use Rattle.std.specs.Prelude.{◌≡◌, ◌≢◌, ◌≤◌, ◌+◌, ◌++◌, ℕ, List, [], ◌∷◌, Option, Some, None, Result, Err, IfOk, IfErr, OnOk, OnErr}
use Rattle.hid_layout.specs.Controls.{items_of}
use Rattle.hid_snapshots.specs.ControlStates.{blank}
use Rattle.hid_host.specs.declared.fault.StackFault.{StackFault}
use Rattle.hid_host.specs.declared.fault.StackFault.TheVariants.{Memory}
use Rattle.hid_host.specs.declared.phase.HostState.TheVariants.{Ready}
use Rattle.hid_bus.specs.declared.step.Step.{Step}
use Rattle.hid_bus.specs.declared.step.Step.TheVariants.{Change, Frame, Poll, Begin, Control, Halt, Reset}
use Rattle.hid_bus.specs.declared.step.Told.{Told}
use Rattle.hid_bus.specs.declared.step.Delivered.{Delivered}
use Rattle.hid_stack.specs.Members.{Member}
use Rattle.hid_stack.specs.Rig.{FitsStep, HasRoomFor, IsRefusal, bus_after, bus_after_refusal, deliveries_of_step, max_events_of_step, member_at, refusal}
use Rattle.hid_stack.specs.Sums.{ConfiguresBetweenRounds, OnlyHaltsAbort}
use Rattle.hid_stack.specs.StepResult.{StepReturns}

-- the device that a step names: a frame names none
abbrev pub device_of_step : Step → Option ℕ
device_of_step (Change dev change) = Some dev
device_of_step Frame = None
device_of_step (Poll dev fate) = Some dev
device_of_step (Begin dev request) = Some dev
device_of_step (Control dev fate) = Some dev
device_of_step (Halt dev) = Some dev
device_of_step (Reset dev) = Some dev

-- nothing was reported of a device: its host's view is the initial one, and no round is open
pub record HasReportedNothing (m : Member) : Type 0 where
  pub view : m.link.view ≡ blank (items_of m.layout)
  pub quiet : m.link.current ≡ None

-- A step of a device whose host isn't ready delivers nothing, not even a reset. Example: device cold, reset 1: no line
abbrev pub UnreadyDeliversNothing : List Member → Step → List Delivered → List Delivered → Type 0
UnreadyDeliversNothing members x old new =
    (dev : ℕ) (m : Member) → device_of_step x ≡ Some dev → member_at members dev ≡ Some m → m.host ≢ Ready
    → new ≡ old

-- The step leads from these members to those, and its list of events, so long and with such room, to that one.
pub record StepsTo (members after_it : List Member) (x : Step) (result : Result Told StackFault)
    (old new : List Delivered) (len len_then capacity_before capacity_then : ℕ) : Type 0 where
  pub told : IfOk result (λ told. StepReturns members x told)
  pub after : OnOk result (after_it ≡ bus_after members x)
  pub events : OnOk result (new ≡ old ++ deliveries_of_step members x)
  pub fits : IfOk result (λ _. FitsStep x)
  pub refused : (e : StackFault) → refusal members x ≡ Some e → result ≡ Err e
  pub only : IfErr result (λ e. IsRefusal members x e)
  pub err : IfErr result (λ e. after_it ≡ bus_after_refusal members x e)
  pub err_events : OnErr result (new ≡ old)
  pub between : ConfiguresBetweenRounds members (x ∷ [])
  pub aborts : OnlyHaltsAbort members x
  pub room : HasRoomFor members x len capacity_before → result ≢ Err Memory
  pub few : len_then ≤ len + max_events_of_step members x
  pub capacity : capacity_before ≤ capacity_then
