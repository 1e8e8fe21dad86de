-- A host that begins a request, and the member that it is then with its device (USB 2.0, 8.5.3).
use Rattle.std.proofs.Common.{◌≡◌, ◌∙◌, ℕ, Bool, ◌||◌, Option, Some, None, Result, Ok, Err, ap, sym}
use Rattle.std.specs.Prelude.{IfOk, OnOk}
use Rattle.usb_control.specs.declared.setup.Setup.{Setup}
use Rattle.usb_control.specs.Device.{DevControlState}
use Rattle.usb_control.specs.Host.{at_start}
use Rattle.hid_requests.specs.declared.request.Request.{Request}
use Rattle.hid_requests.specs.RequestSetup.{FitsRequest, sends_of}
use Rattle.hid_device.specs.Core.{CoreState}
use Rattle.hid_device.specs.Device.{DeviceState, core_of}
use Rattle.hid_host.specs.declared.fault.StackFault.{StackFault}
use Rattle.hid_host.specs.declared.host.Transfer.{Transfer}
use Rattle.hid_host.specs.Host.{HostDeviceState, begin_refusal, clearing_with, host_after_begin, transfer_of}
use Rattle.hid_stack.specs.HostInvariant.{IsConsistent, asking_of}
use Rattle.hid_host.specs.Phase.{asking_at, state_of}
use Rattle.hid_stack.specs.Members.{Begins, expected_toggle_of, member_after, member_after_begin, member_held_toggle}
use Rattle.hid_stack.specs.Slot.{AreConsistentEnds, pair_member}
use Rattle.hid_stack.proofs.TryLemmas.{halts_so, holds_still}

-- a transfer that has yet to make its first try, with this setup
abbrev transfer_with : ℕ → Request → Setup → Transfer
transfer_with addr request setup = record { request = request; ends = at_start addr setup (sends_of request) }

begins_so : (device : DeviceState) (host : HostDeviceState) (request : Request)
    → AreConsistentEnds device host.clearing host.phase → IsConsistent (host_after_begin host request) device.control
    → host.addr ≡ device.addr → begin_refusal host request ≡ None
    → pair_member device (host_after_begin host request) ≡ member_after (pair_member device host) (Begins request)
begins_so device host request together knows home none =
    let core = core_of device in
    let m = pair_member device host in
    let there = pair_member device (host_after_begin host request) in
    let began = member_after_begin None m request in
    let transfer : Some (transfer_of host.addr (asking_at host.phase) request) ≡ Some (transfer_of device.addr (asking_of core) request)
    = ap (λ (s : Setup). Some (transfer_with host.addr request s)) knows.by.transfer.asked ∙ ap (λ (a : ℕ). Some (transfer_of a (asking_of core) request)) home in
    let held = holds_still device core host.addr host.transfer host.clearing (clearing_with request host.clearing) host.phase together
    ∙ ap (λ (h : Bool). member_held_toggle (state_of host.phase) (h || clearing_with request host.clearing)
    (expected_toggle_of m)) (sym (halts_so core host.phase)) in
    ap (λ (t : Option Transfer). record there { transfer = t }) transfer
    ∙ ap (λ (h : Option Bool). record began { held = h }) held
    ∙ sym (ap (λ (o : Option StackFault). member_after_begin o m request) none)

-- laws of hosts that know their devices
abbrev BeginsKnow : Type 0
BeginsKnow =
    (host : HostDeviceState) (request : Request) (control : DevControlState CoreState) → FitsRequest request
    → begin_refusal host request ≡ None → IsConsistent host control
    → IsConsistent (host_after_begin host request) control

pub begun_so : (result : Result (Unit {0}) StackFault) (device : DeviceState) (host host_then : HostDeviceState)
    (request : Request) → BeginsKnow → AreConsistentEnds device host.clearing host.phase
    → IsConsistent host device.control → host.addr ≡ device.addr
    → OnOk result ((begin_refusal host request ≡ None) × (host_then ≡ host_after_begin host request))
    → IfOk result (λ _. FitsRequest request)
    → OnOk result (pair_member device host_then ≡ member_after (pair_member device host) (Begins request))
begun_so (Ok _) device host host_then request law together knows home (none, begun_is) fits =
    ap (pair_member device) begun_is
    ∙ begins_so device host request together (law host request device.control fits none knows) home none
begun_so (Err fault) device host host_then request law together knows home begins fits = tt
