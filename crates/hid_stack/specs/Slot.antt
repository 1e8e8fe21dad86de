-- A device and its host as one member of the bus (USB 2.0, 8.6 and 9.4.5; our choice).
use Rattle.std.specs.Prelude.{◌≡◌, ℕ, Bool, true, false, not, ◌||◌, List, Option, Some, None, Result, Ok, Err}
use Rattle.std.specs.Bool.{beq}
use Rattle.hid_layout.specs.Layout.{Contents}
use Rattle.hid_layout.specs.Reports.{IsLayout}
use Rattle.hid_layout.specs.Controls.{Item, items_of}
use Rattle.hid_snapshots.specs.declared.control_state.ControlState.{ControlState}
use Rattle.hid_snapshots.specs.Pieces.{pieces_of}
use Rattle.hid_snapshots.specs.ControlStates.{blank, FitsView}
use Rattle.hid_requests.specs.declared.codes.TheConstants.{REPORT_ENDPOINT as ENDPOINT}
use Rattle.hid_device.specs.Core.{CoreState, IsSound}
use Rattle.hid_device.specs.Device.{DeviceState, core_of}
use Rattle.hid_host.specs.declared.phase.HostPhase.{HostPhase}
use Rattle.hid_host.specs.declared.phase.HostPhase.TheVariants.{Ready}
use Rattle.hid_host.specs.Host.{HostDeviceState}
use Rattle.hid_host.specs.Ready.{ReadyHostState}
use Rattle.hid_bus.specs.LinkState.{LinkState, OpenRound}
use Rattle.hid_host.specs.Phase.{state_of}
use Rattle.usb_transact.specs.declared.transaction.Fate.{Fate}
use Rattle.usb_control.specs.declared.fault.ControlFault.TheVariants.{NoTransfer}
use Rattle.usb_control.specs.declared.host.Progress.{Progress}
use Rattle.usb_control.specs.Host.{progress_of}
use Rattle.hid_host.specs.declared.fault.StackFault.{StackFault}
use Rattle.hid_host.specs.declared.fault.StackFault.TheVariants.{Control, Memory}
use Rattle.hid_host.specs.declared.host.Transfer.{Transfer}
use Rattle.hid_stack.specs.Members.{Member, endpoint_of, member_after_try, member_after_try_in, member_out_of_memory, member_transfer_after, partial_report_of, toggle_if_held}
use Rattle.hid_stack.specs.Rig.{AllocatesResult, TriesWithMemory}

-- the open round of a device and its host: its current piece has crossed exactly where the two toggles differ
abbrev pub round_between : List Item → Bool → Bool → Option ℕ → ℕ → Option OpenRound
round_between items toggle expects None piece = None
round_between items toggle expects (Some r) piece =
    Some (record { report = r; pieces = pieces_of items r; piece = piece; crossed = not (beq toggle expects) })

-- the link state of a device and its ready host
abbrev pub link_of_pair : CoreState → ReadyHostState → LinkState
link_of_pair core known = record {
  reports = core.reports;
  current = round_between (items_of core.layout) core.toggle known.pipe.expects core.current core.piece;
  toggle = core.toggle;
  view = known.view;
  halted = core.halted;
}

-- the link state of a device and its host: one that isn't ready has the initial view
abbrev pub link_of : CoreState → HostPhase → LinkState
link_of core (Ready known) = link_of_pair core known
link_of core _ = record {
  reports = core.reports;
  current = round_between (items_of core.layout) core.toggle core.toggle core.current core.piece;
  toggle = core.toggle;
  view = blank (items_of core.layout);
  halted = core.halted;
}

-- the toggle that a host holds: a ready host does while the endpoint is halted or a clear is pending
abbrev pub held_toggle : CoreState → Bool → HostPhase → Option Bool
held_toggle core clearing (Ready known) = toggle_if_held (core.halted || clearing) known.pipe.expects
held_toggle core clearing _ = None

-- The member that a device and its host are.
abbrev pub pair_member : DeviceState → HostDeviceState → Member
pair_member device host = record {
  addr = device.addr;
  config = (core_of device).config;
  descriptor = (core_of device).descriptor;
  layout = (core_of device).layout;
  link = link_of (core_of device) host.phase;
  endpoint = endpoint_of device.control;
  host = state_of host.phase;
  transfer = host.transfer;
  clearing = host.clearing;
  held = held_toggle (core_of device) host.clearing host.phase;
}

-- the toggles of both ends are the same, unless a round is open
abbrev pub TogglesAgree : Bool → Bool → Option ℕ → Type 0
TogglesAgree toggle expects None = toggle ≡ expects
TogglesAgree toggle expects (Some r) = Unit {0}

-- Without an open round the host expects the device's toggle, unless the endpoint is halted or its clear is pending.
abbrev pub TogglesAgreeUnless : Bool → Bool → Bool → Option ℕ → Type 0
TogglesAgreeUnless true toggle expects current = Unit {0}
TogglesAgreeUnless false toggle expects current = TogglesAgree toggle expects current

-- The host has got the pieces of the open round that crossed, unless the endpoint is halted or its clear is pending: a
-- halt may have ended the round that its bytes are of.
abbrev pub HasReceivedUnless : Bool → Contents → List ControlState → Option OpenRound → List ℕ → Type 0
HasReceivedUnless true layout parts current bytes = Unit {0}
HasReceivedUnless false layout parts current bytes = bytes ≡ partial_report_of layout parts current

-- A device that is configured, and what its ready host keeps, with a clear that is pending or not: the host polls the
-- device, has its layout, expects the device's toggle where no round is open, and has got the pieces that crossed of
-- the one that is open, and nothing else.
pub record ArePaired (device : DeviceState) (known : ReadyHostState) (clearing : Bool) : Type 0 where
  pub configured : (core_of device).is_configured ≡ true
  pub layout : known.layout ≡ (core_of device).layout
  pub addr : known.pipe.addr ≡ device.addr
  pub endp : known.pipe.endp ≡ ENDPOINT
  pub even : TogglesAgreeUnless ((core_of device).halted || clearing)
      (core_of device).toggle known.pipe.expects (core_of device).current
  pub got : HasReceivedUnless ((core_of device).halted || clearing) (core_of device).layout
      (core_of device).reports.fixed (link_of_pair (core_of device) known).current known.collected
  pub sound : IsSound (core_of device)
  pub laid : IsLayout known.layout
  pub fits : FitsView (items_of known.layout) known.view

-- a device and its host are a pair: the host is ready, and the two stand together
abbrev pub IsPair : DeviceState → Bool → HostPhase → Type 0
IsPair device clearing (Ready known) = ArePaired device known clearing
IsPair device clearing _ = ⊥

-- a device of which no round has opened, as before it is configured
pub record IsUntouched (core : CoreState) : Type 0 where
  pub sound : IsSound core
  pub no_round : core.current ≡ None
  pub even : core.toggle ≡ false

-- a device and its host stand together: they are paired where the host is ready, and before that no round opens
abbrev pub AreConsistentEnds : DeviceState → Bool → HostPhase → Type 0
AreConsistentEnds device clearing (Ready known) = ArePaired device known clearing
AreConsistentEnds device clearing _ = IsUntouched (core_of device)

-- A try of the transfer that runs, at the two ends: both go on, but that the host stays where memory runs out for
-- what its request gives.
abbrev pub TriesOnPair : Fate → Member → Option Transfer → Result Progress StackFault → Member → Type 0
TriesOnPair fate m None result new = (result ≡ Err (Control NoTransfer)) × (new ≡ m)
TriesOnPair fate m (Some t) (Ok progress) new =
    (progress ≡ progress_of (member_transfer_after fate m t).stage) × (new ≡ member_after_try fate m (Some t))
TriesOnPair fate m (Some t) (Err fault) new =
    (fault ≡ Memory) × AllocatesResult fate m (Some t) × (new ≡ member_after_try_in fate m t m.host)

-- A try of the transfer that runs, where one does: both ends go on, but that the host stays where memory runs out for
-- what its request gives, and that nothing is tried where it runs out for what may be dropped.
abbrev pub TriesTransfer :
    Fate → Member → Option Transfer → Result Progress StackFault → Member → Type 0
TriesTransfer fate m None result new = (result ≡ Err (Control NoTransfer)) × (new ≡ m)
TriesTransfer fate m (Some t) (Ok progress) new =
    (progress ≡ progress_of (member_transfer_after fate m t).stage) × (new ≡ member_after_try fate m (Some t))
TriesTransfer fate m (Some t) (Err fault) new =
    (fault ≡ Memory) × TriesWithMemory fate m (Some t) × (new ≡ member_out_of_memory fate m (Some t))
