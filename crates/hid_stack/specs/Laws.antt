-- Laws of what a bus answers, which hold whatever runs it (our choice).
use Rattle.std.specs.Prelude.{◌≡◌, ◌≢◌, ℕ, false, List, [], ◌++◌, Some, None, Result, Ok, Err}
use Rattle.usb_transact.specs.declared.host.Took.{Took}
use Rattle.usb_control.specs.declared.host.Progress.{Progress}
use Rattle.usb_control.specs.Device.{DevControlState}
use Rattle.usb_control.specs.TryFunctions.{AppliesBy, PreparesBy}
use Rattle.hid_requests.specs.declared.request.Request.{Request}
use Rattle.hid_requests.specs.RequestSetup.{FitsRequest}
use Rattle.hid_layout.specs.Parsing.{ParsesTo}
use Rattle.hid_layout.specs.declared.control.ControlId.{ControlId}
use Rattle.hid_report_descriptor.specs.declared.usage.Usage.{Usage}
use Rattle.hid_snapshots.specs.declared.event.Event.{Event}
use Rattle.hid_layout.specs.Controls.{items_of}
use Rattle.usb_transact.specs.declared.transaction.Fate.{Fate}
use Rattle.usb_transact.specs.Fate.{arrives_under}
use Rattle.hid_device.specs.Device.{DeviceState, core_of}
use Rattle.hid_bus.specs.Rounds.{Polls}
use Rattle.hid_device.specs.Core.{CoreState, IsSound}
use Rattle.hid_device.specs.RequestTable.{core_table}
use Rattle.hid_host.specs.declared.host.Transfer.{Transfer}
use Rattle.hid_host.specs.Host.{ControlSteps, HostDeviceState, begin_refusal, host_after_begin, host_after_reply, running}
use Rattle.hid_host.specs.Phase.{IfReady}
use Rattle.hid_stack.specs.Slot.{IsPair, link_of, pair_member}
use Rattle.hid_stack.specs.Polls.{IsPollByPackets}
use Rattle.hid_bus.specs.LinkState.{events_of_step}
use Rattle.hid_device.specs.declared.config.Config.{Config}
use Rattle.hid_host.specs.declared.fault.StackFault.{StackFault}
use Rattle.hid_host.specs.declared.fault.StackFault.TheVariants.{Memory}
use Rattle.hid_bus.specs.declared.step.Step.{Step}
use Rattle.hid_bus.specs.declared.step.Told.{Told}
use Rattle.hid_bus.specs.declared.step.Delivered.{Delivered}
use Rattle.hid_stack.specs.Members.{Member, MemberStep, Scheduled, begin_refusal_at, member_after}
use Rattle.hid_stack.specs.Rig.{bus_after_all, deliveries_of_steps}
use Rattle.hid_stack.specs.Transfers.{BeginsNone}
use Rattle.hid_stack.specs.Trails.{Trail, trail_after, trail_from}
use Rattle.hid_stack.specs.HostInvariant.{IsConsistent, IsConsistentBy, IsNoRefusal, LeavesTransfers}
use Rattle.hid_stack.specs.ControlSteps.{StepsAsFunction}
use Rattle.hid_bus.specs.declared.start.Start.{Start}
use Rattle.hid_stack.specs.StepResult.{PollReturns, StepReturns}
use Rattle.hid_stack.specs.Attaching.{Attaches, Finds}

-- a step has one result at most
abbrev pub ResultIsUnique : Type 0
ResultIsUnique =
    (members : List Member) (step : Step) (told other : Told) → StepReturns members step told
    → StepReturns members step other → told ≡ other

-- a usage names one control at most, or none for one cause
abbrev pub FindsOneControl : Type 0
FindsOneControl =
    (members : List Member) (dev : ℕ) (usage : Usage) (found other : Result ControlId StackFault)
    → Finds members dev usage found → Finds members dev usage other → found ≡ other

-- a device is attached in one way at most, or refused for one cause, out of memory aside
abbrev pub AttachesOneDevice : Type 0
AttachesOneDevice =
    (room : ℕ) (config : Config) (descriptor : List ℕ) (start : Start) (members after others : List Member)
    (result other : Result ℕ StackFault)
    → Attaches room config descriptor start members result after
    → Attaches room config descriptor start members other others
    → result ≢ Err Memory → other ≢ Err Memory → (result ≡ other) × (after ≡ others)

-- Over any steps of a bus, where it stands after them and what was delivered after what was there before.
abbrev pub ForAllRuns : (List Member → List Member → List Step → List Delivered → List Delivered → Type 0)
    → Type 0
ForAllRuns says =
    (before after : List Member) (steps : List Step) (old new : List Delivered)
    → after ≡ bus_after_all before steps → new ≡ old ++ deliveries_of_steps before steps
    → says before after steps old new

-- Of a request that may begin and fits its setup, at a device whose descriptor is laid out, and of any steps of the
-- device after it among which no other begins and no reset comes.
abbrev pub ForAllTransfers : (Member → Request → List MemberStep → Type 0) → Type 0
ForAllTransfers says =
    (m : Member) (request : Request) (steps : List MemberStep)
    → ParsesTo m.descriptor m.layout → FitsRequest request → begin_refusal_at m request ≡ None
    → BeginsNone steps → says m request steps

-- A request that begins leaves what the host knows of its device, and the trail of its transfer begins with it.
abbrev pub BeginsKeepConsistent : Type 0
BeginsKeepConsistent =
    (trail : Trail) (host : HostDeviceState) (request : Request) (control : DevControlState CoreState)
    → FitsRequest request → begin_refusal host request ≡ None → IsConsistentBy trail host control
    → IsConsistentBy (trail_from control.requests) (host_after_begin host request) control

-- a try of the transfer that runs between a host and a virtual device
abbrev pub IsVirtualTry : Fate → HostDeviceState → DevControlState CoreState → Result Progress StackFault
    → HostDeviceState
    → DevControlState CoreState → Type 0
IsVirtualTry fate host old result after new =
    ControlSteps (PreparesBy core_table) (AppliesBy core_table) core_table.answer_of fate host old result after new

-- A try leaves what the host knows of its device, whatever is lost of it, and nothing that the device answers is
-- refused. Its trail goes on by the fate and by how the device stands, which decides where a SETUP arrives.
abbrev pub TriesKeepConsistent : Type 0
TriesKeepConsistent =
    (trail : Trail) (fate : Fate) (host after : HostDeviceState) (old new : DevControlState CoreState)
    (result : Result Progress StackFault)
    → IsSound old.requests → IsConsistentBy trail host old → IsVirtualTry fate host old result after new
    → IsConsistentBy (trail_after fate (running host.transfer) old trail) after new × IsNoRefusal result

-- The answer to a poll leaves what the host knows of its device.
abbrev pub RepliesKeepConsistent : Type 0
RepliesKeepConsistent =
    (trail : Trail) (host : HostDeviceState) (control : DevControlState CoreState) (took : Took)
    → IsConsistentBy trail host control
    → IfReady host.phase (λ known. IsConsistentBy trail (host_after_reply host known took) control)

-- What happens to a device beside its endpoint 0 leaves what its host knows of it.
abbrev pub OthersKeepConsistent : Type 0
OthersKeepConsistent =
    (trail : Trail) (host : HostDeviceState) (old new : DevControlState CoreState)
    → LeavesTransfers host.clearing old new → IsConsistentBy trail host old → IsConsistentBy trail host new

-- A try of the transfer that runs leads a host that knows its virtual device, and that device, on by functions.
abbrev pub TriesAreFunctions : Type 0
TriesAreFunctions =
    (fate : Fate) (host after : HostDeviceState) (transfer : Transfer) (old new : DevControlState CoreState)
    (result : Result Progress StackFault)
    → IsSound old.requests → IsConsistent host old → running host.transfer ≡ Some transfer
    → IsVirtualTry fate host old result after new → StepsAsFunction fate host transfer old result after new

-- a member was made with what another was
pub record HasSameOrigin (m n : Member) : Type 0 where
  pub addr : n.addr ≡ m.addr
  pub config : n.config ≡ m.config
  pub descriptor : n.descriptor ≡ m.descriptor
  pub layout : n.layout ≡ m.layout

-- What a poll of a device by its own host comes to: the two stand as the member does after its step, and what is
-- returned and delivered is that of the step.
pub record IsPollOfPair (fate : Fate) (device : DeviceState) (host : HostDeviceState)
    (result : Result Told StackFault) (device_then : DeviceState) (host_then : HostDeviceState)
    (events : List Event) : Type 0 where
  pub told : (told : Told) × (result ≡ Ok told)
      × PollReturns (core_of device).layout (link_of (core_of device) host.phase) fate told
  pub after : pair_member device_then host_then
      ≡ member_after (pair_member device host) (Scheduled (Polls fate))
  pub delivers : events
      ≡ events_of_step (items_of (core_of device).layout) (link_of (core_of device) host.phase) (Polls fate)
  pub pair : IsPair device_then host_then.clearing host_then.phase

-- The packets that a fate lets arrive come to the table of polls.
abbrev pub PacketsMakePolls : Type 0
PacketsMakePolls =
    (fate : Fate) (device : DeviceState) (host : HostDeviceState) (result : Result Told StackFault)
    (device_then : DeviceState) (host_then : HostDeviceState) (events : List Event)
    → IsPair device false host.phase → host.clearing ≡ false
    → IsPollByPackets
    (arrives_under fate) device host host.clearing host.phase result device_then host_then [] events
    → IsPollOfPair fate device host result device_then host_then events
