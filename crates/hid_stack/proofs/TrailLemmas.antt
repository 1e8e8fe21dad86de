-- A host that knows its device by some trail, where what came before isn't told.
use Rattle.std.proofs.Common.{◌≡◌, ℕ, true, None, Result}
use Rattle.usb_transact.specs.declared.transaction.Fate.{Fate}
use Rattle.usb_transact.specs.declared.host.Took.{Took}
use Rattle.usb_control.specs.declared.host.Progress.{Progress}
use Rattle.usb_control.specs.TryFunctions.{AppliesBy, PreparesBy}
use Rattle.usb_control.specs.Device.{DevControlState}
use Rattle.hid_requests.specs.declared.request.Request.{Request}
use Rattle.hid_requests.specs.RequestSetup.{FitsRequest}
use Rattle.hid_device.specs.Core.{CoreState, IsSound}
use Rattle.hid_device.specs.RequestTable.{core_table}
use Rattle.hid_host.specs.declared.fault.StackFault.{StackFault}
use Rattle.hid_host.specs.declared.phase.HostPhase.{HostPhase}
use Rattle.hid_host.specs.declared.phase.HostPhase.TheVariants.{Cold, Described, Parsed, Ready}
use Rattle.hid_host.specs.Host.{ControlSteps, HostDeviceState, begin_refusal, cold_host, host_after_begin, host_after_reply, ready_host, running}
use Rattle.hid_host.specs.Phase.{IfReady}
use Rattle.hid_host.specs.Ready.{ReadyHostState}
use Rattle.hid_stack.specs.HostInvariant.{IsConsistent, IsConsistentBy, IsNoRefusal, LeavesTransfers}
use Rattle.hid_stack.specs.Trails.{Trail, trail_after, trail_from}

abbrev ControlStep : Fate → HostDeviceState → DevControlState CoreState → Result Progress StackFault → HostDeviceState
    → DevControlState CoreState → Type 0
ControlStep fate host old result after new = ControlSteps (PreparesBy core_table) (AppliesBy core_table) core_table.answer_of fate host old result after new

pub some_cold :
    ((trail : Trail) (addr : ℕ) (control : DevControlState CoreState) → IsConsistentBy trail (cold_host addr) control)
    → (addr : ℕ) (control : DevControlState CoreState) → IsConsistent (cold_host addr) control
some_cold law addr control = let trail : Trail = trail_from control.requests in record { trail = trail; by = law trail addr control }

pub some_ready :
    ((trail : Trail) (addr : ℕ) (control : DevControlState CoreState) → control.requests.is_configured ≡ true
    → IsConsistentBy trail (ready_host addr control.requests.layout) control)
    → (addr : ℕ) (control : DevControlState CoreState) → control.requests.is_configured ≡ true
    → IsConsistent (ready_host addr control.requests.layout) control
some_ready law addr control configured = let trail : Trail = trail_from control.requests in record { trail = trail; by = law trail addr control configured }

pub some_begun :
    ((trail : Trail) (host : HostDeviceState) (request : Request) (control : DevControlState CoreState)
    → FitsRequest request
    → begin_refusal host request ≡ None → IsConsistentBy trail host control
    → IsConsistentBy (trail_from control.requests) (host_after_begin host request) control)
    → (host : HostDeviceState) (request : Request) (control : DevControlState CoreState) → FitsRequest request
    → begin_refusal host request ≡ None → IsConsistent host control
    → IsConsistent (host_after_begin host request) control
some_begun law host request control fits none knows = record { trail = trail_from control.requests; by = law knows.trail host request control fits none knows.by }

pub some_steps :
    ((trail : Trail) (fate : Fate) (host after : HostDeviceState) (old new : DevControlState CoreState)
    (result : Result Progress StackFault) → IsSound old.requests → IsConsistentBy trail host old
    → ControlStep fate host old result after new
    → IsConsistentBy (trail_after fate (running host.transfer) old trail) after new × IsNoRefusal result)
    → (fate : Fate) (host after : HostDeviceState) (old new : DevControlState CoreState)
    (result : Result Progress StackFault)
    → IsSound old.requests → IsConsistent host old
    → ControlStep fate host old result after new → IsConsistent after new × IsNoRefusal result
some_steps law fate host after old new result sound knows steps =
    let behind = law knows.trail fate host after old new result sound knows.by steps in
    (record { trail = trail_after fate (running host.transfer) old knows.trail; by = behind.0 }, behind.1)

-- the answer to a poll
some_at : (trail : Trail) (phase : HostPhase) (after : ReadyHostState → HostDeviceState)
    (control : DevControlState CoreState)
    → IfReady phase (λ known. IsConsistentBy trail (after known) control)
    → IfReady phase (λ known. IsConsistent (after known) control)
some_at trail Cold after control h = tt
some_at trail (Described info) after control h = tt
some_at trail (Parsed info layout) after control h = tt
some_at trail (Ready known) after control h = record { trail = trail; by = h }

pub some_replies :
    ((trail : Trail) (host : HostDeviceState) (control : DevControlState CoreState) (took : Took)
    → IsConsistentBy trail host control
    → IfReady host.phase (λ known. IsConsistentBy trail (host_after_reply host known took) control))
    → (host : HostDeviceState) (control : DevControlState CoreState) (took : Took) → IsConsistent host control
    → IfReady host.phase (λ known. IsConsistent (host_after_reply host known took) control)
some_replies law host control took knows =
    some_at knows.trail host.phase (λ known. host_after_reply host known took) control
    (law knows.trail host control took knows.by)

pub some_meanwhile :
    ((trail : Trail) (host : HostDeviceState) (old new : DevControlState CoreState)
    → LeavesTransfers host.clearing old new
    → IsConsistentBy trail host old → IsConsistentBy trail host new)
    → (host : HostDeviceState) (old new : DevControlState CoreState) → LeavesTransfers host.clearing old new
    → IsConsistent host old → IsConsistent host new
some_meanwhile law host old new leaves knows = record { trail = knows.trail; by = law knows.trail host old new leaves knows.by }
