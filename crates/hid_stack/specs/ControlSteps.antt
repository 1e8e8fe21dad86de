-- A control step with a virtual device, as a function of both ends, memory aside (USB 2.0, 8.5.3, 9.1.1.5 and 9.4.5).
use Rattle.std.specs.Prelude.{◌≡◌, ◌⊎◌, ℕ, Bool, true, false, Some, Result, Ok, Err}
use Rattle.usb_transact.specs.declared.transaction.Fate.{Fate}
use Rattle.usb_control.specs.declared.host.HostStage.{HostStage}
use Rattle.usb_control.specs.declared.host.HostStage.TheVariants.{Done}
use Rattle.usb_control.specs.declared.host.Progress.{Progress}
use Rattle.usb_transact.specs.declared.transaction.Fate.TheVariants.{TokenLost}
use Rattle.usb_control.specs.TryFunctions.{control_tried, effect_reached, host_tried}
use Rattle.usb_control.specs.Device.{DevControlState, Effect, Applies}
use Rattle.usb_control.specs.Host.{HostTransferState, progress_of}
use Rattle.hid_requests.specs.declared.request.Request.{Request}
use Rattle.hid_requests.specs.declared.request.Request.TheVariants.{Config, Report, Configure, Clear}
use Rattle.hid_device.specs.declared.decisions.PendingWrite.{PendingWrite}
use Rattle.hid_device.specs.declared.decisions.PendingWrite.TheVariants as pendings
use Rattle.hid_requests.specs.declared.codes.TheConstants.{REPORT_ENDPOINT as ENDPOINT}
use Rattle.hid_device.specs.EndpointIndependence.{effect_aborts_round, effect_sets_configuration}
use Rattle.hid_device.specs.Core.{CoreState}
use Rattle.hid_device.specs.RequestTable.{core_after_write, core_table}
use Rattle.hid_host.specs.declared.fault.StackFault.{StackFault}
use Rattle.hid_host.specs.declared.fault.StackFault.TheVariants.{Memory}
use Rattle.hid_host.specs.declared.host.Transfer.{Transfer}
use Rattle.hid_host.specs.declared.phase.HostPhase.{HostPhase}
use Rattle.hid_host.specs.declared.phase.HostPhase.TheVariants.{Described, Parsed, Ready}
use Rattle.hid_host.specs.declared.phase.HostState.TheVariants as states
use Rattle.hid_host.specs.Host.{HostDeviceState, clearing_after, request_aborts_round}
use Rattle.hid_stack.specs.HostInvariant.{StartsAtData0, phase_info}
use Rattle.hid_host.specs.Phase.{cleared_phase, may_begin, state_of}
use Rattle.hid_host.specs.Ready.{ready_host_at_start}

-- The phase to which a request that is done leads with this device: what its configuration says, its layout, polls from
-- DATA0 and the initial view on, or after a Clear the pipe at DATA0.
abbrev pub phase_after : Request → ℕ → CoreState → HostPhase → HostPhase
phase_after Config addr core phase = Described (phase_info core)
phase_after Report addr core phase = Parsed (phase_info core) core.layout
phase_after Configure addr core phase = Ready (ready_host_at_start addr ENDPOINT core.layout)
phase_after Clear addr core phase = cleared_phase phase
phase_after _ addr core phase = phase

-- the phase after a try that leaves a transfer at this stage
abbrev pub phase_after_try : HostStage → Request → ℕ → CoreState → HostPhase → HostPhase
phase_after_try Done request addr core phase = phase_after request addr core phase
phase_after_try stage request addr core phase = phase

-- the answers that take memory: a layout, and a view
abbrev pub TakesMemory : Request → Type 0
TakesMemory Report = Unit {0}
TakesMemory Configure = Unit {0}
TakesMemory _ = ⊥

-- the transfer after a try
abbrev pub transfer_after_try : Fate → Transfer → DevControlState CoreState → HostTransferState
transfer_after_try fate transfer control = host_tried core_table fate transfer.ends control

-- the host after a try, in this phase
abbrev pub host_after_try : Fate → HostDeviceState → Transfer → DevControlState CoreState → HostPhase
    → HostDeviceState
host_after_try fate host transfer control phase = record host {
  phase = phase;
  transfer = Some (record transfer { ends = transfer_after_try fate transfer control });
  clearing = clearing_after (transfer_after_try fate transfer control).stage transfer.request host.clearing;
}

-- a request asks for the configuration
abbrev pub is_configure : Request → Bool
is_configure Configure = true
is_configure _ = false

-- whether a configuration takes effect in a try
abbrev pub try_configures : Fate → HostTransferState → DevControlState CoreState → Bool
try_configures TokenLost ends control = false
try_configures fate ends control =
    effect_sets_configuration (effect_reached core_table ends control) control.requests.pending

-- whether a halt, or the end of one, takes effect in a try
abbrev pub try_aborts_round : Fate → HostTransferState → DevControlState CoreState → Bool
try_aborts_round TokenLost ends control = false
try_aborts_round fate ends control =
    effect_aborts_round (effect_reached core_table ends control) control.requests.pending

-- the effect ends a halt
abbrev pub effect_ends_halt : Effect → PendingWrite → Bool
effect_ends_halt (Applies bytes) pendings.Clear = true
effect_ends_halt _ _ = false

-- whether the end of a halt takes effect in a try
abbrev pub try_clears : Fate → HostTransferState → DevControlState CoreState → Bool
try_clears TokenLost ends control = false
try_clears fate ends control =
    effect_ends_halt (effect_reached core_table ends control) control.requests.pending

-- the core with another answer and another write to carry out
abbrev pub with_answer_of : CoreState → CoreState → CoreState
with_answer_of core other = record core { answer = other.answer; pending = other.pending }

-- the core after a try, but for what it answers: a write that takes effect is carried out
abbrev pub core_after_effect : Effect → CoreState → CoreState
core_after_effect (Applies bytes) core = core_after_write core bytes core.pending
core_after_effect _ core = core

-- what a try brings about at the device: nothing if its first packets are lost
abbrev pub core_after_try : Fate → HostTransferState → DevControlState CoreState → CoreState
core_after_try TokenLost ends control = control.requests
core_after_try fate ends control = core_after_effect (effect_reached core_table ends control) control.requests

-- A try of the transfer that runs leads both ends on by functions; where its request is done the host goes on too,
-- unless memory runs out. At the device only a write that is carried out changes more than what it answers; a
-- configuration takes effect for a host that is `Parsed`, an open round is aborted by a Halt or a Clear alone, and a
-- halt is ended by a Clear, with which the device's pipe starts again.
pub record StepsAsFunction (fate : Fate) (host : HostDeviceState) (transfer : Transfer)
    (old : DevControlState CoreState)
    (result : Result Progress StackFault) (after : HostDeviceState)
    (new : DevControlState CoreState) : Type 0 where
  pub device_then : new ≡ control_tried core_table fate transfer.ends old
  pub host_then :
      ((result ≡ Ok (progress_of (transfer_after_try fate transfer old).stage))
      × (after ≡ host_after_try fate host transfer old
      (phase_after_try
      (transfer_after_try fate transfer old).stage transfer.request host.addr new.requests host.phase)))
      ⊎ ((result ≡ Err Memory) × ((transfer_after_try fate transfer old).stage ≡ Done)
      × TakesMemory transfer.request
      × (after ≡ host_after_try fate host transfer old host.phase))
  pub needs : may_begin transfer.request (state_of host.phase) ≡ true
  pub brings : new.requests ≡ with_answer_of (core_after_try fate transfer.ends old) new.requests
  pub parsed : try_configures fate transfer.ends old ≡ true → state_of host.phase ≡ states.Parsed
  pub aborted : try_aborts_round fate transfer.ends old ≡ true → request_aborts_round transfer.request ≡ true
  pub clears : try_clears fate transfer.ends old ≡ true → transfer.request ≡ Clear
  pub cleared : transfer.request ≡ Clear → (transfer_after_try fate transfer old).stage ≡ Done
      → StartsAtData0 new.requests
