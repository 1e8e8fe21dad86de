-- What the two ends of a member show is what stands.
use Rattle.std.proofs.Common.{◌≡◌, ◌∙◌, ℕ, Bool, true, false, List, Option, Some, None, refl, ap, sym}
use Rattle.std.specs.Prelude.{◌||◌}
use Rattle.std.specs.Option.{option_map}
use Rattle.hid_layout.specs.Controls.{Item, items_of}
use Rattle.hid_layout.specs.Layout.{Contents}
use Rattle.hid_snapshots.specs.declared.control_state.ControlState.{ControlState}
use Rattle.usb_transact.specs.Host.{HostPipeState}
use Rattle.hid_bus.specs.LinkState.{OpenRound}
use Rattle.hid_requests.specs.declared.codes.TheConstants.{REPORT_ENDPOINT as ENDPOINT}
use Rattle.hid_device.specs.Device.{DeviceState, core_of}
use Rattle.hid_host.specs.declared.host.Transfer.{Transfer}
use Rattle.hid_host.specs.declared.phase.HostPhase.{HostPhase}
use Rattle.hid_host.specs.declared.phase.HostPhase.TheVariants.{Cold, Described, Parsed, Ready}
use Rattle.hid_host.specs.Host.{HostDeviceState}
use Rattle.hid_stack.specs.HostInvariant.{IsConsistent, IsConsistentAt}
use Rattle.hid_host.specs.Ready.{ReadyHostState}
use Rattle.hid_stack.specs.Members.{partial_report_of, toggle_if_held}
use Rattle.hid_stack.specs.Accessors.{ShowsDevice, ShowsHost, ShowsKnown}
use Rattle.hid_stack.specs.Slot.{AreConsistentEnds, ArePaired, HasReceivedUnless, link_of, pair_member, round_between}
use Rattle.hid_stack.proofs.TryLemmas.{expects_so, host_by}

-- ---- the device

report_shown : (items : List Item) (t e : Bool) (current : Option ℕ) (piece : ℕ)
    → current ≡ option_map (λ (round : OpenRound). round.report) (round_between items t e current piece)
report_shown items t e None piece = refl
report_shown items t e (Some r) piece = refl

piece_shown : (items : List Item) (t e : Bool) (current : Option ℕ) (piece : ℕ)
    → (elim current as (λ _. Option ℕ) [ None ↦ None | Some r ↦ Some piece ])
    ≡ option_map (λ (round : OpenRound). round.piece) (round_between items t e current piece)
piece_shown items t e None piece = refl
piece_shown items t e (Some r) piece = refl

shows_device_at : (device : DeviceState) (addr : ℕ) (transfer : Option Transfer) (clearing : Bool) (phase : HostPhase) (e : Bool)
    → (link_of (core_of device) phase).current
    ≡ round_between (items_of (core_of device).layout) (core_of device).toggle e (core_of device).current
    (core_of device).piece
    → (link_of (core_of device) phase).reports ≡ (core_of device).reports
    → (link_of (core_of device) phase).toggle ≡ (core_of device).toggle
    → (link_of (core_of device) phase).halted ≡ (core_of device).halted
    → ShowsDevice (pair_member device (host_by addr transfer clearing phase)) device
shows_device_at device addr transfer clearing phase e current standing odd halted =
    let core = core_of device in
    let items = items_of core.layout in
    record {
      home = refl;
      config = refl;
      descriptor = refl;
      layout = refl;
      reports = sym standing;
      open_report =
          report_shown items core.toggle e core.current core.piece
          ∙ ap (option_map (λ (round : OpenRound). round.report)) (sym current);
      open_piece =
          piece_shown items core.toggle e core.current core.piece
          ∙ ap (option_map (λ (round : OpenRound). round.piece)) (sym current);
      toggle = sym odd;
      halted = sym halted;
      endpoint = refl;
    }

pub shows_device : (device : DeviceState) (host : HostDeviceState) → ShowsDevice (pair_member device host) device
shows_device device host = by_phase host.phase
  where
    by_phase : (phase : HostPhase)
        → ShowsDevice (pair_member device (host_by host.addr host.transfer host.clearing phase)) device
    by_phase Cold = shows_device_at device host.addr host.transfer host.clearing Cold (core_of device).toggle refl refl refl refl
    by_phase (Described info) = shows_device_at device host.addr host.transfer host.clearing (Described info) (core_of device).toggle refl refl refl refl
    by_phase (Parsed info layout) = shows_device_at device host.addr host.transfer host.clearing (Parsed info layout) (core_of device).toggle refl refl refl refl
    by_phase (Ready known) = shows_device_at device host.addr host.transfer host.clearing (Ready known) known.pipe.expects refl refl refl refl

-- ---- its host

abbrev pipe_by : ℕ → ℕ → Bool → HostPipeState
pipe_by addr endp expects = record { addr = addr; endp = endp; expects = expects }

got_shown : (b expects : Bool) (layout : Contents) (parts : List ControlState) (current : Option OpenRound)
    (bytes : List ℕ) → HasReceivedUnless b layout parts current bytes → toggle_if_held b expects ≡ None
    → bytes ≡ partial_report_of layout parts current
got_shown true expects layout parts current bytes got none = absurd (cc)
got_shown false expects layout parts current bytes got none = got

shows_known : (device : DeviceState) (addr : ℕ) (transfer : Option Transfer) (clearing : Bool)
    (known : ReadyHostState)
    → ArePaired device known clearing
    → ShowsKnown (pair_member device (host_by addr transfer clearing (Ready known))) known
shows_known device addr transfer clearing known pair = record {
  layout = pair.layout;
  polls = ap (λ (a : ℕ). pipe_by a known.pipe.endp known.pipe.expects) pair.addr ∙ ap (λ (n : ℕ). pipe_by device.addr n known.pipe.expects) pair.endp
      ∙ ap (pipe_by device.addr ENDPOINT) (sym (expects_so device addr transfer clearing known pair));
  view = refl;
  got = got_shown ((core_of device).halted || clearing) known.pipe.expects (core_of device).layout
      (core_of device).reports.fixed
      (round_between (items_of (core_of device).layout) (core_of device).toggle known.pipe.expects (core_of device).current (core_of device).piece) known.collected pair.got;
}

shows_at : (device : DeviceState) (addr : ℕ) (transfer : Option Transfer) (clearing : Bool) (phase : HostPhase)
    → AreConsistentEnds device clearing phase → IsConsistentAt phase addr (core_of device) → addr ≡ device.addr
    → ShowsHost (pair_member device (host_by addr transfer clearing phase)) (host_by addr transfer clearing phase)
shows_at device addr transfer clearing Cold together knows home = record { home = home; state = refl; knows = tt; configured = λ ready. absurd ready; transfer = refl; clearing = refl }
shows_at device addr transfer clearing (Described info) together knows home = record { home = home; state = refl; knows = knows; configured = λ ready. absurd ready; transfer = refl; clearing = refl }
shows_at device addr transfer clearing (Parsed info layout) together knows home = record { home = home; state = refl; knows = knows; configured = λ ready. absurd ready; transfer = refl; clearing = refl }
shows_at device addr transfer clearing (Ready known) together knows home = record {
  home = home;
  state = refl;
  knows = shows_known device addr transfer clearing known together;
  configured = λ ready. together.configured;
  transfer = refl;
  clearing = refl;
}

pub shows_host : (device : DeviceState) (host : HostDeviceState) → AreConsistentEnds device host.clearing host.phase
    → IsConsistent host device.control → host.addr ≡ device.addr → ShowsHost (pair_member device host) host
shows_host device host together knows home = shows_at device host.addr host.transfer host.clearing host.phase together knows.by.phase home
