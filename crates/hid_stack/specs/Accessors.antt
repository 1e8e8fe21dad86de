-- What the two ends of a member show (USB 2.0, 8.5.4 and 8.6).
use Rattle.std.specs.Prelude.{◌≡◌, ℕ, true, List, length, Option, Some, None, Result, Err}
use Rattle.std.specs.Option.{option_map}
use Rattle.hid_requests.specs.declared.codes.TheConstants.{REPORT_ENDPOINT as ENDPOINT}
use Rattle.hid_device.specs.Core.{piece_at}
use Rattle.hid_device.specs.Device.{DeviceState, core_of}
use Rattle.usb_control.specs.declared.host.Outcome.{Outcome}
use Rattle.hid_host.specs.declared.fault.StackFault.{StackFault}
use Rattle.hid_host.specs.declared.fault.StackFault.TheVariants.{NoDevice}
use Rattle.hid_host.specs.Host.{HostDeviceState, ShowsLast}
use Rattle.hid_host.specs.declared.phase.HostPhase.{HostPhase}
use Rattle.hid_host.specs.declared.phase.HostPhase.TheVariants.{Cold, Described, Parsed, Ready}
use Rattle.hid_host.specs.Phase.{IsReady, state_of}
use Rattle.hid_host.specs.Ready.{ReadyHostState}
use Rattle.hid_device.specs.RequestTable.{config_info}
use Rattle.hid_stack.specs.Members.{Member, endpoint_of, expected_toggle_of, partial_report_of}
use Rattle.hid_stack.specs.Rig.{member_at}

-- The device of a member: it was made as the member says, it stands as the link state does, with the same open round
-- and current piece, the same toggle and the same halt, and its endpoint 0 is the member's.
pub record ShowsDevice (m : Member) (d : DeviceState) : Type 0 where
  pub home : d.addr ≡ m.addr
  pub config : (core_of d).config ≡ m.config
  pub descriptor : (core_of d).descriptor ≡ m.descriptor
  pub layout : (core_of d).layout ≡ m.layout
  pub reports : (core_of d).reports ≡ m.link.reports
  pub open_report : (core_of d).current ≡ option_map (λ round. round.report) m.link.current
  pub open_piece : piece_at (core_of d) ≡ option_map (λ round. round.piece) m.link.current
  pub toggle : (core_of d).toggle ≡ m.link.toggle
  pub halted : (core_of d).halted ≡ m.link.halted
  pub endpoint : endpoint_of d.control ≡ m.endpoint

-- What the ready host of a member keeps: the toggle that it expects is the device's other one exactly while the current
-- piece has crossed, or the one that is held. Where none is held it has got of the open round the pieces that crossed,
-- while not all have, and nothing of any other.
pub record ShowsKnown (m : Member) (known : ReadyHostState) : Type 0 where
  pub layout : known.layout ≡ m.layout
  pub polls : known.pipe ≡ record { addr = m.addr; endp = ENDPOINT; expects = expected_toggle_of m }
  pub view : known.view ≡ m.link.view
  pub got : m.held ≡ None → known.collected ≡ partial_report_of m.layout m.link.reports.fixed m.link.current

-- what the host of a member knows: before it is ready what the configuration says of the device, and then its layout
abbrev pub ShowsPhase : Member → HostPhase → Type 0
ShowsPhase m Cold = Unit {0}
ShowsPhase m (Described info) = info ≡ config_info m.config (length m.descriptor)
ShowsPhase m (Parsed info layout) = (info ≡ config_info m.config (length m.descriptor)) × (layout ≡ m.layout)
ShowsPhase m (Ready known) = ShowsKnown m known

-- The host of a member: it is the one of the device at the member's address, is in the member's state, and knows what
-- is so of the device. It is ready only while the device is configured, and then has its layout.
pub record ShowsHost (m : Member) (h : HostDeviceState) : Type 0 where
  pub home : h.addr ≡ m.addr
  pub state : state_of h.phase ≡ m.host
  pub knows : ShowsPhase m h.phase
  pub configured : IsReady h.phase → m.endpoint.is_configured ≡ true
  pub transfer : h.transfer ≡ m.transfer
  pub clearing : h.clearing ≡ m.clearing

-- what the member with a number gives, if one has it
abbrev pub MemberGives : {A : Type 0} → (Member → A → Type 0) → List Member → ℕ → A → Type 0
MemberGives shows members dev given = (m : Member) × (member_at members dev ≡ Some m) × shows m given

-- what is shown of the transfer that a device's host began last
abbrev pub ShowsTransfer : Option Member → Result Outcome StackFault → Type 0
ShowsTransfer None shown = shown ≡ Err NoDevice
ShowsTransfer (Some m) shown = ShowsLast m.transfer shown
