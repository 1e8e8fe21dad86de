-- A host and the virtual device that it brings up: what it knows is what the device was made with, and a transfer
-- between the two is the one of a request (USB 2.0, 8.5.3, 9.1.1, 9.4 and 9.4.5).
use Rattle.std.specs.Prelude.{◌≡◌, ℕ, Bool, true, false, length, Some, None, Result, Err, IfSome}
use Rattle.usb_control.specs.declared.descriptors.ConfigInfo.{ConfigInfo}
use Rattle.usb_control.specs.declared.host.Progress.{Progress}
use Rattle.usb_control.specs.Device.{DevControlState}
use Rattle.usb_control.specs.Host.{IsRunning}
use Rattle.usb_control.specs.Runs.{IsDone}
use Rattle.usb_control.specs.Positions.{TransferIsAt}
use Rattle.usb_control.specs.Transfer.{Decision, Accepted, Refused, Position, Setup, transfer_shape}
use Rattle.hid_requests.specs.declared.request.Asking.{Asking}
use Rattle.hid_requests.specs.declared.request.Request.{Request}
use Rattle.hid_requests.specs.declared.request.Request.TheVariants as requests
use Rattle.hid_requests.specs.RequestSetup.{FitsRequest, row_of, sends_of, setup_for}
use Rattle.hid_device.specs.declared.decisions.PendingWrite.{PendingWrite}
use Rattle.hid_device.specs.declared.decisions.PendingWrite.TheVariants.{Nothing}
use Rattle.hid_requests.specs.declared.codes.TheConstants.{REPORT_ENDPOINT as ENDPOINT}
use Rattle.hid_device.specs.Core.{CoreState}
use Rattle.hid_device.specs.RequestTable.{config_info, core_table, row_decision}
use Rattle.hid_device.specs.RequestDecisions.{Reads, Refuses, RequestDecision, Writes}
use Rattle.hid_host.specs.declared.fault.StackFault.{StackFault}
use Rattle.hid_host.specs.declared.fault.StackFault.TheVariants.{BadDescriptor}
use Rattle.hid_host.specs.declared.host.Transfer.{Transfer}
use Rattle.hid_host.specs.declared.phase.HostPhase.{HostPhase}
use Rattle.hid_host.specs.declared.phase.HostPhase.TheVariants.{Cold, Described, Parsed, Ready}
use Rattle.hid_host.specs.Host.{HostDeviceState}
use Rattle.hid_host.specs.Phase.{may_begin, state_of}
use Rattle.hid_stack.specs.Trails.{Trail}

-- what a host reads of a device's configuration
abbrev pub phase_info : CoreState → ConfigInfo
phase_info core = config_info core.config (length core.descriptor)

-- What the host knows is so: the configuration says it, the layout is the device's, and a device that is polled is
-- configured.
abbrev pub IsConsistentAt : HostPhase → ℕ → CoreState → Type 0
IsConsistentAt Cold addr core = Unit {0}
IsConsistentAt (Described info) addr core = info ≡ phase_info core
IsConsistentAt (Parsed info layout) addr core = (info ≡ phase_info core) × (layout ≡ core.layout)
IsConsistentAt (Ready known) addr core =
    (known.layout ≡ core.layout) × (core.is_configured ≡ true) × (known.pipe.addr ≡ addr) × (known.pipe.endp ≡ ENDPOINT)

-- the host has the handshake of SETUP
abbrev pub IsAfterSetup : Position → Type 0
IsAfterSetup Setup = ⊥
IsAfterSetup _ = Unit {0}

-- what is decided by a row of requests: its answer, and what is to be carried out
abbrev pub IsDecidedBy : RequestDecision → Decision → PendingWrite → Type 0
IsDecidedBy Refuses decision pending = (decision ≡ Refused) × (pending ≡ Nothing)
IsDecidedBy (Reads bytes) decision pending = (decision ≡ Accepted (Some bytes)) × (pending ≡ Nothing)
IsDecidedBy (Writes effect) decision pending = (decision ≡ Accepted None) × (pending ≡ effect)

-- two states are of one device, as it was made
pub record IsSameDevice (core other : CoreState) : Type 0 where
  pub layout : core.layout ≡ other.layout
  pub config : core.config ≡ other.config
  pub descriptor : core.descriptor ≡ other.descriptor

-- what was decided on a request is what its row says of the device as it stood then, as it was made
pub record IsDecided (request : Request) (decider core : CoreState) (decision : Decision) : Type 0 where
  pub same : IsSameDevice core decider
  pub by : IsDecidedBy (row_decision decider (row_of request)) decision core.pending

-- no round is open, and the next one begins with DATA0
pub record StartsAtData0 (core : CoreState) : Type 0 where
  pub current : core.current ≡ None
  pub toggle : core.toggle ≡ false

-- what a write that took effect has brought about, where a host relies on it: a configuration, and the end of a halt
abbrev pub HasEffect : Request → CoreState → Type 0
HasEffect requests.Configure core = core.is_configured ≡ true
HasEffect requests.Clear core = StartsAtData0 core
HasEffect _ core = Unit {0}

-- what the host asked with: the length of the report descriptor and the endpoint of Input reports, as the device has
-- them
abbrev pub asking_of : CoreState → Asking
asking_of core = record { report_length = length core.descriptor; endpoint = ENDPOINT }

-- A transfer is the one of its request, and both ends stand where its trail leads.
pub record FollowsTrail (trail : Trail) (phase : HostPhase) (transfer : Transfer)
    (control : DevControlState CoreState) : Type 0 where
  pub stands : TransferIsAt core_table.answer_of (transfer_shape transfer.ends.setup)
      (sends_of transfer.request) trail.place
      transfer.ends control
  pub asked : transfer.ends.setup ≡ setup_for transfer.request (asking_of control.requests)
  pub fits : FitsRequest transfer.request
  -- it began in the state that its request needs
  pub needs : IsRunning transfer.ends.stage → may_begin transfer.request (state_of phase) ≡ true
  -- the decision at the last SETUP that arrived is that of the device as it stood then; a write that took effect did so
  -- while the transfer ran
  pub decided : IsAfterSetup trail.place.host
      → IsDecided transfer.request trail.decider control.requests trail.place.decision
  pub effect : IsRunning transfer.ends.stage → trail.place.applied ≡ true
      → HasEffect transfer.request control.requests
  pub applied : IsDone trail.place → (transfer_shape transfer.ends.setup).reads ≡ false
      → trail.place.applied ≡ true

-- a Clear that runs is pending
abbrev pub IsPending : Bool → Transfer → Type 0
IsPending clearing transfer = transfer.request ≡ requests.Clear → IsRunning transfer.ends.stage → clearing ≡ true

-- A host knows its device, with which its transfer came by this trail, and holds its polls back while it ends a halt.
pub record IsConsistentBy (trail : Trail) (host : HostDeviceState)
    (control : DevControlState CoreState) : Type 0 where
  pub phase : IsConsistentAt host.phase host.addr control.requests
  pub transfer : IfSome host.transfer (λ transfer. FollowsTrail trail host.phase transfer control)
  pub clears : IfSome host.transfer (IsPending host.clearing)

-- a host knows its device by some trail of its transfer
pub record IsConsistent (host : HostDeviceState) (control : DevControlState CoreState) : Type 0 where
  pub trail : Trail
  pub by : IsConsistentBy trail host control

-- nothing of a virtual device is refused
abbrev pub IsNoRefusal : Result Progress StackFault → Type 0
IsNoRefusal (Err (BadDescriptor fault)) = ⊥
IsNoRefusal result = Unit {0}

-- What happens to a device beside its endpoint 0 leaves what it was made with, its configuration, and the request
-- that was decided on last. While a Clear is pending it leaves a pipe that starts again so, too.
pub record LeavesTransfers (clearing : Bool) (old new : DevControlState CoreState) : Type 0 where
  pub layout : new.requests.layout ≡ old.requests.layout
  pub config : new.requests.config ≡ old.requests.config
  pub descriptor : new.requests.descriptor ≡ old.requests.descriptor
  pub configured : old.requests.is_configured ≡ true → new.requests.is_configured ≡ true
  pub answer : new.requests.answer ≡ old.requests.answer
  pub pending : new.requests.pending ≡ old.requests.pending
  pub stage : new.stage ≡ old.stage
  pub restarts : clearing ≡ true → StartsAtData0 old.requests → StartsAtData0 new.requests

-- endpoint 0 of a device with another core
abbrev pub host_with_core : DevControlState CoreState → CoreState → DevControlState CoreState
host_with_core control core =
    record { requests = core; stage = control.stage; last_packet = control.last_packet }
