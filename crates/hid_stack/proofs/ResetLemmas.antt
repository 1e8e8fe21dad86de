-- What a reset of a device and its host tells: as the link state of the two says.
use Rattle.std.proofs.Common.{◌≡◌, ◌∙◌, ◌+◌, ◌++◌, ℕ, Bool, true, false, List, [], ◌∷◌, Option, Some, None, refl, ap, sym, subst, not}
use Rattle.std.specs.Prelude.{if◌then◌else◌, ◌&&◌, ◌||◌}
use Rattle.std.specs.Bool.{beq}
use Rattle.hid_layout.specs.Controls.{Item, items_of}
use Rattle.hid_snapshots.specs.ControlStates.{blank}
use Rattle.hid_snapshots.specs.declared.control_state.ControlState.{ControlState}
use Rattle.hid_snapshots.specs.declared.event.Event.{Event}
use Rattle.hid_snapshots.specs.Views.{changes_between, changes_from, drops_between}
use Rattle.hid_usages.proofs.CrossingLemmas.{same_state}
use Rattle.hid_bus.specs.DeviceHistory.{reset_events, state_after}
use Rattle.hid_bus.specs.DeviceHistory as bus
use Rattle.hid_bus.specs.LinkState.{LinkState, has_all_pieces}
use Rattle.hid_snapshots.specs.Pieces.{is_last_piece}
use Rattle.hid_device.specs.Core.{CoreState, IsSound, piece_at, reset_core, round_of}
use Rattle.hid_device.specs.Device.{DeviceState, core_of, reset_device}
use Rattle.hid_host.specs.declared.phase.HostPhase.{HostPhase}
use Rattle.hid_host.specs.declared.phase.HostPhase.TheVariants.{Cold, Described, Parsed, Ready}
use Rattle.hid_host.specs.Host.{HostDeviceState, cold_host}
use Rattle.hid_stack.specs.HostInvariant.{IsConsistent}
use Rattle.hid_host.specs.ResetEvents.{awaited_report, host_reset_events, release_events}
use Rattle.usb_control.specs.Device.{DevControlState}
use Rattle.hid_stack.specs.Members.{Resets, member_after}
use Rattle.hid_stack.specs.Slot.{AreConsistentEnds, IsUntouched, link_of, pair_member, round_between}

-- a view that stays tells nothing
pub same_view : (i : ℕ) (items : List Item) (item_states : List ControlState) → changes_from i items item_states item_states ≡ []
same_view i [] item_states = refl
same_view i (item ∷ items) [] = refl
same_view i (item ∷ items) (item_state ∷ item_states) =
    ap (λ (es : List Event). es ++ changes_from (i + 1) items item_states item_states) (same_state i item.form item_state) ∙ same_view (i + 1) items item_states

-- what is told of an open round
abbrev round_told_back : List Item → List ControlState → List ControlState → Bool → Bool → Option ℕ → ℕ → List Event
round_told_back items view parts toggle expects current piece = elim (round_between items toggle expects current piece) as (λ _. List Event) [
  | None ↦ changes_between items view (blank items)
  | Some round ↦ (if has_all_pieces round then changes_between items view (blank items)
      else drops_between items round.report view (blank items) parts)
]

-- a ready host awaits the round that hasn't crossed
by_round : (items : List Item) (view parts : List ControlState) (toggle expects : Bool) (current : Option ℕ)
    (piece : ℕ)
    → release_events items view parts
    (awaited_report items expects
    (elim current as (λ _. Option (ℕ × Bool)) [ None ↦ None | Some r ↦ Some (r, toggle) ])
    (elim current as (λ _. Option ℕ) [ None ↦ None | Some r ↦ Some piece ]))
    ≡ round_told_back items view parts toggle expects current piece
by_round items view parts toggle expects None piece = refl
by_round items view parts toggle expects (Some r) piece = by_toggles (beq toggle expects) (is_last_piece items r piece)
  where
    by_toggles : (b last : Bool) → release_events items view parts (if b || not last then Some r else None)
        ≡ (if not b && last then changes_between items view (blank items) else drops_between items r view (blank items) parts)
    by_toggles true last = refl
    by_toggles false true = refl
    by_toggles false false = refl

unready_tells : (core : CoreState) → IsUntouched core
    → [] ≡ round_told_back (items_of core.layout)
    (blank (items_of core.layout)) core.reports.fixed core.toggle core.toggle core.current core.piece
unready_tells core untouched =
    let items = items_of core.layout in
    sym (ap (λ (o : Option ℕ). round_told_back items
    (blank items) core.reports.fixed core.toggle core.toggle o core.piece) untouched.no_round
    ∙ same_view 0 items (blank items))

pub told_at_reset : (device : DeviceState) (clearing : Bool) (phase : HostPhase)
    → AreConsistentEnds device clearing phase
    → host_reset_events phase (round_of (core_of device)) (piece_at (core_of device)) (core_of device).reports.fixed
    ≡ reset_events (items_of (core_of device).layout) (link_of (core_of device) phase)
told_at_reset device clearing Cold together = unready_tells (core_of device) together
told_at_reset device clearing (Described info) together = unready_tells (core_of device) together
told_at_reset device clearing (Parsed info layout) together = unready_tells (core_of device) together
told_at_reset device clearing (Ready known) together =
    let core = core_of device in
    ap (λ l. release_events (items_of l) known.view core.reports.fixed
    (awaited_report (items_of l) known.pipe.expects (round_of core) (piece_at core))) together.layout
    ∙ by_round
    (items_of core.layout) known.view core.reports.fixed core.toggle known.pipe.expects core.current core.piece

-- the link state is reset, however far the host had come
reset_link : (core : CoreState) (phase : HostPhase)
    → link_of (reset_core core) Cold ≡ state_after (items_of core.layout) (link_of core phase) bus.Resets
reset_link core Cold = refl
reset_link core (Described info) = refl
reset_link core (Parsed info layout) = refl
reset_link core (Ready known) = refl

-- what a reset of the two comes to
pub record ResetsPair (device device_then : DeviceState) (host host_then : HostDeviceState) : Type 0 where
  pub after : pair_member device_then host_then ≡ member_after (pair_member device host) Resets
  pub together : AreConsistentEnds device_then host_then.clearing host_then.phase
  pub knows : IsConsistent host_then device_then.control
  pub home : (host_then.addr ≡ host.addr) × (device_then.addr ≡ device.addr)
  pub layout : (core_of device_then).layout ≡ (core_of device).layout

pub resets_so : (device device_then : DeviceState) (host host_then : HostDeviceState)
    → ((addr : ℕ) (control : DevControlState CoreState) → IsConsistent (cold_host addr) control)
    → device_then ≡ reset_device device → host_then ≡ cold_host host.addr → IsSound (core_of device_then) → ResetsPair device device_then host host_then
resets_so device device_then host host_then begins device_is host_is sound =
    let both : ResetsPair device (reset_device device) host (cold_host host.addr) = record {
      after = ap (λ (s : LinkState). record (member_after (pair_member device host) Resets) { link = s })
          (reset_link (core_of device) host.phase);
      together = record { sound = subst (λ (d : DeviceState). IsSound (core_of d)) device_is sound; no_round = refl; even = refl };
      knows = begins host.addr (reset_device device).control;
      home = (refl, refl);
      layout = refl;
    } in
    subst (λ (d : DeviceState). ResetsPair device d host host_then) (sym device_is)
    (subst (λ (h : HostDeviceState). ResetsPair device (reset_device device) host h) (sym host_is) both)
