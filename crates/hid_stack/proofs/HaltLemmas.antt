-- What a halt of a device tells: as the link state of the device and its host says.
use Rattle.std.proofs.Common.{◌≡◌, ◌∙◌, ℕ, Bool, true, false, List, [], Option, Some, None, refl, ap, sym, subst, not}
use Rattle.std.specs.Prelude.{if◌then◌else◌, ◌&&◌, ◌||◌}
use Rattle.std.specs.Bool.{beq}
use Rattle.hid_layout.specs.Controls.{Item, items_of}
use Rattle.hid_layout.specs.Layout.{Contents}
use Rattle.hid_snapshots.specs.declared.event.Event.{Event}
use Rattle.hid_snapshots.specs.Views.{drops_between}
use Rattle.hid_bus.specs.DeviceHistory.{abort_events}
use Rattle.hid_bus.specs.LinkState.{LinkState, OpenRound, has_all_pieces}
use Rattle.hid_snapshots.specs.Pieces.{is_last_piece}
use Rattle.hid_device.specs.Core.{CoreState, IsSound, halted_core, piece_at, round_of}
use Rattle.hid_device.specs.Device.{DeviceState, core_of, halted_device}
use Rattle.usb_control.specs.Device.{DevControlState}
use Rattle.hid_host.specs.declared.phase.HostPhase.{HostPhase}
use Rattle.hid_host.specs.declared.phase.HostPhase.TheVariants.{Cold, Described, Parsed, Ready}
use Rattle.hid_host.specs.declared.host.Transfer.{Transfer}
use Rattle.hid_host.specs.Host.{HostDeviceState}
use Rattle.hid_host.specs.Phase.{state_of}
use Rattle.hid_stack.specs.HostInvariant.{IsConsistent, LeavesTransfers, host_with_core}
use Rattle.hid_host.specs.ResetEvents.{awaited_at, awaited_report, host_abort_events, part_abort_events}
use Rattle.hid_stack.specs.Members.{Halts, events_of_event_if, expected_toggle_of, halt_bus_event_of, member_after, member_after_halt, member_held_toggle, toggle_if_held}
use Rattle.hid_stack.specs.Slot.{AreConsistentEnds, held_toggle, link_of, pair_member, round_between}
use Rattle.hid_stack.specs.StepResult.{awaited_of}
use Rattle.hid_stack.proofs.TransferLemmas.{halted_with}
use Rattle.hid_stack.proofs.TryLemmas.{expects_so, host_by}

-- ---- what is reported

-- what a device shows of its open round
abbrev round_shown : Bool → Option ℕ → Option (ℕ × Bool)
round_shown toggle current = elim current [ None ↦ None | Some r ↦ Some (r, toggle) ]

abbrev piece_shown_of : Option ℕ → ℕ → Option ℕ
piece_shown_of current piece = elim current [ None ↦ None | Some r ↦ Some piece ]

-- a ready host awaits the round that hasn't crossed
by_round : (items : List Item) (toggle expects : Bool) (current : Option ℕ) (piece : ℕ)
    → awaited_report items expects (round_shown toggle current) (piece_shown_of current piece)
    ≡ (elim (round_between items toggle expects current piece) as
    (λ _. Option ℕ) [ None ↦ None | Some round ↦ (if has_all_pieces round then None else Some round.report) ])
by_round items toggle expects None piece = refl
by_round items toggle expects (Some r) piece = by_toggles (beq toggle expects) (is_last_piece items r piece)
  where
    by_toggles : (b last : Bool) → (if b || not last then Some r else None) ≡ (if not b && last then None else Some r)
    by_toggles true last = refl
    by_toggles false true = refl
    by_toggles false false = refl

pub awaits_none : (s : LinkState) → s.current ≡ None → awaited_of s ≡ None
awaits_none s none =
    ap (λ o. elim o as
    (λ _. Option ℕ) [
      | None ↦ None
      | Some round ↦
          (if has_all_pieces round then None else Some round.report)
    ]) none

-- what a halt tells is the motion of the round that is awaited
pub cut_awaited : (items : List Item) (s : LinkState)
    → abort_events items s ≡ part_abort_events items s.view s.reports.fixed (awaited_of s)
cut_awaited items s = by_current s.current
  where
    by_open : (round : OpenRound) (b : Bool)
        → (if b then [] else drops_between items round.report s.view s.view s.reports.fixed)
        ≡ part_abort_events items s.view s.reports.fixed (if b then None else Some round.report)
    by_open round true = refl
    by_open round false = refl

    by_current : (o : Option OpenRound)
        → (elim o as
        (λ _. List Event) [
          | None ↦ []
          | Some round ↦
              (if has_all_pieces round then [] else drops_between items round.report s.view s.view s.reports.fixed)
        ])
        ≡ part_abort_events items s.view s.reports.fixed
        (elim o as
        (λ _. Option ℕ) [ None ↦ None | Some round ↦ (if has_all_pieces round then None else Some round.report) ])
    by_current None = refl
    by_current (Some round) = by_open round (has_all_pieces round)

-- where no round is open nothing is
pub cut_nothing : (items : List Item) (s : LinkState) → s.current ≡ None → abort_events items s ≡ []
cut_nothing items s none =
    cut_awaited items s ∙ ap (part_abort_events items s.view s.reports.fixed) (awaits_none s none)

none_between : (core : CoreState) (expects : Bool) → core.current ≡ None → round_between (items_of core.layout) core.toggle expects core.current core.piece ≡ None
none_between core expects none = ap (λ (o : Option ℕ). round_between (items_of core.layout) core.toggle expects o core.piece) none

pub unready_open : (device : DeviceState) (clearing : Bool) (phase : HostPhase)
    → AreConsistentEnds device clearing phase
    → (core_of device).current ≡ None → (link_of (core_of device) phase).current ≡ None
unready_open device clearing Cold together none = none_between (core_of device) (core_of device).toggle none
unready_open device clearing (Described info) together none = none_between (core_of device) (core_of device).toggle none
unready_open device clearing (Parsed info layout) together none = none_between (core_of device) (core_of device).toggle none
unready_open device clearing (Ready known) together none = none_between (core_of device) known.pipe.expects none

-- a device and its host stand so that the host awaits what their link state says
pub awaited_so : (device : DeviceState) (clearing : Bool) (phase : HostPhase)
    → AreConsistentEnds device clearing phase
    → awaited_at phase (round_of (core_of device)) (piece_at (core_of device))
    ≡ awaited_of (link_of (core_of device) phase)
awaited_so device clearing Cold together =
    sym (awaits_none (link_of (core_of device) Cold) (unready_open device clearing Cold together together.no_round))
awaited_so device clearing (Described info) together =
    sym (awaits_none (link_of (core_of device) Cold) (unready_open device clearing Cold together together.no_round))
awaited_so device clearing (Parsed info layout) together =
    sym (awaits_none (link_of (core_of device) Cold) (unready_open device clearing Cold together together.no_round))
awaited_so device clearing (Ready known) together =
    let core = core_of device in
    ap (λ (l : Contents). awaited_report (items_of l) known.pipe.expects (round_of core)
    (piece_at core)) together.layout
    ∙ by_round (items_of core.layout) core.toggle known.pipe.expects core.current core.piece

pub told_at_cut : (device : DeviceState) (clearing : Bool) (phase : HostPhase)
    → AreConsistentEnds device clearing phase
    → host_abort_events phase (round_of (core_of device)) (piece_at (core_of device)) (core_of device).reports.fixed
    ≡ abort_events (items_of (core_of device).layout) (link_of (core_of device) phase)
told_at_cut device clearing Cold together =
    sym (cut_nothing (items_of (core_of device).layout) (link_of (core_of device) Cold)
    (unready_open device clearing Cold together together.no_round))
told_at_cut device clearing (Described info) together =
    sym (cut_nothing (items_of (core_of device).layout) (link_of (core_of device) Cold)
    (unready_open device clearing Cold together together.no_round))
told_at_cut device clearing (Parsed info layout) together =
    sym (cut_nothing (items_of (core_of device).layout) (link_of (core_of device) Cold)
    (unready_open device clearing Cold together together.no_round))
told_at_cut device clearing (Ready known) together =
    let core = core_of device in
    ap (λ (l : Contents). part_abort_events (items_of l) known.view core.reports.fixed
    (awaited_report (items_of l) known.pipe.expects (round_of core) (piece_at core))) together.layout
    ∙ ap (part_abort_events (items_of core.layout) known.view core.reports.fixed)
    (by_round (items_of core.layout) core.toggle known.pipe.expects core.current core.piece)
    ∙ sym (cut_awaited (items_of core.layout) (link_of core (Ready known)))

-- ---- a halt by the device itself

-- a device that isn't configured has no round to end
halts_where : (device : DeviceState) (clearing : Bool) (phase : HostPhase) (b : Bool)
    → (core_of device).is_configured ≡ b → AreConsistentEnds device clearing phase
    → abort_events (items_of (core_of device).layout) (link_of (core_of device) phase)
    ≡ events_of_event_if (items_of (core_of device).layout) (link_of (core_of device) phase) (halt_bus_event_of b)
halts_where device clearing phase true is together = refl
halts_where device clearing Cold false is together =
    cut_nothing (items_of (core_of device).layout) (link_of (core_of device) Cold)
    (unready_open device clearing Cold together together.no_round)
halts_where device clearing (Described info) false is together =
    cut_nothing (items_of (core_of device).layout) (link_of (core_of device) Cold)
    (unready_open device clearing Cold together together.no_round)
halts_where device clearing (Parsed info layout) false is together =
    cut_nothing (items_of (core_of device).layout) (link_of (core_of device) Cold)
    (unready_open device clearing Cold together together.no_round)
halts_where device clearing (Ready known) false is together = let wrong : true ≡ false = sym together.configured ∙ is in absurd (cc)

pub told_at_halt : (device : DeviceState) (clearing : Bool) (phase : HostPhase)
    → AreConsistentEnds device clearing phase
    → abort_events (items_of (core_of device).layout) (link_of (core_of device) phase)
    ≡ events_of_event_if (items_of (core_of device).layout) (link_of (core_of device) phase)
    (halt_bus_event_of (core_of device).is_configured)
told_at_halt device clearing phase together = halts_where device clearing phase (core_of device).is_configured refl together

-- the device after it, where it is configured
abbrev halted_now : DeviceState → DeviceState
halted_now d = record {
  addr = d.addr;
  control = record { requests = halted_core (core_of d); stage = d.control.stage; last_packet = d.control.last_packet };
  awaits_ack = false;
}

halted_of : (d : DeviceState) (b : Bool) → (core_of d).is_configured ≡ b → halted_device d ≡ (if b then halted_now d else d)
halted_of d b is = ap (λ (x : Bool). if x then halted_now d else d) is

halted_together : (device : DeviceState) (clearing : Bool) (phase : HostPhase)
    → IsSound (halted_core (core_of device)) → AreConsistentEnds device clearing phase
    → AreConsistentEnds (halted_now device) clearing phase
halted_together device clearing Cold sound together = record { sound = sound; no_round = refl; even = together.even }
halted_together device clearing (Described info) sound together = record { sound = sound; no_round = refl; even = together.even }
halted_together device clearing (Parsed info layout) sound together = record { sound = sound; no_round = refl; even = together.even }
halted_together device clearing (Ready known) sound pair = record {
  configured = pair.configured;
  layout = pair.layout;
  addr = pair.addr;
  endp = pair.endp;
  even = tt;
  got = tt;
  sound = sound;
  laid = pair.laid;
  fits = pair.fits;
}

-- what is held then
halted_holds : (device : DeviceState) (addr : ℕ) (transfer : Option Transfer) (clearing : Bool) (phase : HostPhase)
    → AreConsistentEnds device clearing phase
    → held_toggle (halted_core (core_of device)) clearing phase
    ≡ member_held_toggle (state_of phase) true
    (expected_toggle_of (pair_member device (host_by addr transfer clearing phase)))
halted_holds device addr transfer clearing Cold together = refl
halted_holds device addr transfer clearing (Described info) together = refl
halted_holds device addr transfer clearing (Parsed info layout) together = refl
halted_holds device addr transfer clearing (Ready known) pair =
    ap (toggle_if_held true) (sym (expects_so device addr transfer clearing known pair))

halted_joint : (device : DeviceState) (addr : ℕ) (transfer : Option Transfer) (clearing : Bool) (phase : HostPhase)
    → AreConsistentEnds device clearing phase
    → pair_member (halted_now device) (host_by addr transfer clearing phase)
    ≡ member_after_halt true (pair_member device (host_by addr transfer clearing phase))
halted_joint device addr transfer clearing phase together =
    let host = host_by addr transfer clearing phase in
    let there = pair_member (halted_now device) host in
    ap (λ (s : LinkState). record there { link = s }) (halted_with (core_of device) (core_of device) phase)
    ∙ ap (λ (h : Option Bool). record (member_after_halt true (pair_member device host)) { held = h })
    (halted_holds device addr transfer clearing phase together)

-- what a halt comes to at the two ends
pub record HaltsPair (device device_then : DeviceState) (host : HostDeviceState) : Type 0 where
  pub after : pair_member device_then host ≡ member_after (pair_member device host) Halts
  pub together : AreConsistentEnds device_then host.clearing host.phase
  pub knows : IsConsistent host device_then.control
  pub home : device_then.addr ≡ device.addr
  pub layout : (core_of device_then).layout ≡ (core_of device).layout

abbrev OthersLeave : Type 0
OthersLeave =
    (host : HostDeviceState) (old new : DevControlState CoreState) → LeavesTransfers host.clearing old new
    → IsConsistent host old → IsConsistent host new

abbrev HaltsLeave : Type 0
HaltsLeave =
    (clearing : Bool) (control : DevControlState CoreState)
    → LeavesTransfers clearing control (host_with_core control (halted_core control.requests))

halts_if : (device : DeviceState) (host : HostDeviceState) (b : Bool) → (core_of device).is_configured ≡ b
    → OthersLeave → HaltsLeave → IsSound (core_of (if b then halted_now device else device))
    → AreConsistentEnds device host.clearing host.phase → IsConsistent host device.control
    → HaltsPair device (if b then halted_now device else device) host
halts_if device host true is others leave sound together knows = record {
  after = halted_joint device host.addr host.transfer host.clearing host.phase together
      ∙ ap (λ (x : Bool). member_after_halt x (pair_member device host)) (sym is);
  together = halted_together device host.clearing host.phase sound together;
  knows = others host device.control (halted_now device).control (leave host.clearing device.control) knows;
  home = refl;
  layout = refl;
}
halts_if device host false is others leave sound together knows = record {
  after = ap (λ (x : Bool). member_after_halt x (pair_member device host)) (sym is);
  together = together;
  knows = knows;
  home = refl;
  layout = refl;
}

pub halts_so : (device device_then : DeviceState) (host : HostDeviceState) → OthersLeave → HaltsLeave
    → device_then ≡ halted_device device → IsSound (core_of device_then)
    → AreConsistentEnds device host.clearing host.phase → IsConsistent host device.control
    → HaltsPair device device_then host
halts_so device device_then host others leave is sound together knows =
    let b = (core_of device).is_configured in
    let same : device_then ≡ (if b then halted_now device else device) = is ∙ halted_of device b refl in
    subst (λ (d : DeviceState). HaltsPair device d host) (sym same)
    (halts_if device host b refl others leave (subst (λ (d : DeviceState). IsSound (core_of d)) same sound) together knows)
