-- A host that isn't ready has told nothing of its device, and no step of that delivers anything.
use Rattle.std.proofs.Common.{◌≡◌, ◌≢◌, ◌∙◌, ◌++◌, ℕ, Bool, true, false, List, [], map, Option, Some, None, Result, Ok, Err, refl, ap, sym, subst, append-nil}
use Rattle.std.specs.Prelude.{if◌then◌else◌, OnOk, OnErr}
use Rattle.hid_layout.specs.Controls.{Item, items_of}
use Rattle.hid_snapshots.specs.declared.event.Event.{Event}
use Rattle.hid_snapshots.specs.ControlStates.{blank}
use Rattle.hid_snapshots.specs.Views.{changes_between, drops_between}
use Rattle.usb_transact.specs.declared.transaction.Fate.{Fate}
use Rattle.hid_bus.specs.DeviceHistory.{BusEvent, Own, Idles, Configures, abort_events, reset_events}
use Rattle.hid_bus.specs.DeviceHistory as bus
use Rattle.hid_bus.specs.Rounds.{Polls}
use Rattle.hid_bus.specs.LinkState.{LinkState, OpenRound, has_all_pieces}
use Rattle.hid_device.specs.Core.{CoreState}
use Rattle.hid_device.specs.Device.{DeviceState, core_of}
use Rattle.hid_host.specs.declared.fault.StackFault.{StackFault}
use Rattle.hid_host.specs.declared.host.Transfer.{Transfer}
use Rattle.hid_host.specs.declared.phase.HostPhase.{HostPhase}
use Rattle.hid_host.specs.declared.phase.HostPhase.TheVariants.{Cold, Described, Parsed, Ready}
use Rattle.hid_host.specs.declared.phase.HostState.{HostState}
use Rattle.hid_host.specs.declared.phase.HostState.TheVariants as states
use Rattle.hid_host.specs.Host.{HostDeviceState, running}
use Rattle.hid_host.specs.Phase.{may_poll}
use Rattle.hid_bus.specs.declared.step.Step.{Step}
use Rattle.hid_bus.specs.declared.step.Step.TheVariants.{Change, Frame, Poll, Begin, Control, Halt, Reset}
use Rattle.hid_bus.specs.declared.step.Delivered.{Delivered}
use Rattle.hid_stack.specs.Members.{Member, MemberStep, Scheduled, Controls, Halts, Resets, control_of_member, bus_event_of_step, events_of_event_if, halt_bus_event_of, poll_bus_event, try_bus_event}
use Rattle.hid_stack.specs.Rig.{deliveries_of_step, member_at, member_deliveries, with_device_number}
use Rattle.hid_stack.specs.Slot.{AreConsistentEnds, IsUntouched, pair_member, round_between}
use Rattle.hid_stack.specs.Steps.{HasReportedNothing, UnreadyDeliversNothing, device_of_step}
use Rattle.hid_stack.proofs.MemberLemmas.{IsEffect, brings_effect}
use Rattle.hid_stack.proofs.ResetLemmas.{same_view}
use Rattle.hid_stack.proofs.TryLemmas.{host_by}

-- ---- what a host has told

none_open : (core : CoreState) → IsUntouched core → round_between (items_of core.layout) core.toggle core.toggle core.current core.piece ≡ None
none_open core untouched = ap (λ (o : Option ℕ). round_between (items_of core.layout) core.toggle core.toggle o core.piece) untouched.no_round

abbrev pub ToldOnceReady : Member → Type 0
ToldOnceReady m = m.host ≢ states.Ready → HasReportedNothing m

untold_at : (device : DeviceState) (addr : ℕ) (transfer : Option Transfer) (clearing : Bool) (phase : HostPhase)
    → AreConsistentEnds device clearing phase
    → ToldOnceReady (pair_member device (host_by addr transfer clearing phase))
untold_at device addr transfer clearing Cold together = λ unready. record { view = refl; quiet = none_open (core_of device) together }
untold_at device addr transfer clearing (Described info) together = λ unready. record { view = refl; quiet = none_open (core_of device) together }
untold_at device addr transfer clearing (Parsed info layout) together = λ unready. record { view = refl; quiet = none_open (core_of device) together }
untold_at device addr transfer clearing (Ready known) together = λ unready. absurd (unready refl)

pub untold : (device : DeviceState) (host : HostDeviceState) → AreConsistentEnds device host.clearing host.phase
    → ToldOnceReady (pair_member device host)
untold device host together = untold_at device host.addr host.transfer host.clearing host.phase together

-- ---- what is delivered then

cut_none : (items : List Item) (s : LinkState) → s.current ≡ None → abort_events items s ≡ []
cut_none items s none = ap (λ (o : Option OpenRound). elim o as (λ _. List Event) [
  | None ↦ []
  | Some round ↦ (if has_all_pieces round then [] else drops_between items round.report s.view s.view s.reports.fixed)
]) none

reset_none : (items : List Item) (s : LinkState) → s.view ≡ blank items → s.current ≡ None → reset_events items s ≡ []
reset_none items s view none =
    ap (λ (o : Option OpenRound). elim o as (λ _. List Event) [
      | None ↦ changes_between items s.view (blank items)
      | Some round ↦ (if has_all_pieces round then changes_between items s.view (blank items)
          else drops_between items round.report s.view (blank items) s.reports.fixed)
    ]) none
    ∙ ap (λ v. changes_between items v (blank items)) view ∙ same_view 0 items (blank items)

effect_none : (items : List Item) (s : LinkState) (o : Option BusEvent) → IsEffect o → s.current ≡ None
    → events_of_event_if items s o ≡ []
effect_none items s None is none = refl
effect_none items s (Some (Own x)) is none = absurd is
effect_none items s (Some (Idles idle)) is none = refl
effect_none items s (Some Configures) is none = refl
effect_none items s (Some bus.Halts) is none = cut_none items s none
effect_none items s (Some bus.Clears) is none = cut_none items s none
effect_none items s (Some bus.Resets) is none = absurd is

poll_none : (m : Member) (fate : Fate) → m.host ≢ states.Ready
    → events_of_event_if (items_of m.layout) m.link (bus_event_of_step m (Scheduled (Polls fate))) ≡ []
poll_none m fate unready =
    ap (λ (b : Bool). events_of_event_if (items_of m.layout) m.link (poll_bus_event b fate)) (by_host m.host unready)
  where
    by_host : (host : HostState) → host ≢ states.Ready → may_poll host m.clearing ≡ false
    by_host states.Cold unready = refl
    by_host states.Described unready = refl
    by_host states.Parsed unready = refl
    by_host states.Ready unready = absurd (unready refl)

try_none : (m : Member) (fate : Fate) → HasReportedNothing m
    → events_of_event_if (items_of m.layout) m.link (bus_event_of_step m (Controls fate)) ≡ []
try_none m fate told = by_transfer (running m.transfer)
  where
    by_transfer : (o : Option Transfer) → events_of_event_if (items_of m.layout) m.link (try_bus_event fate m o) ≡ []
    by_transfer None = refl
    by_transfer (Some t) =
        effect_none (items_of m.layout) m.link (try_bus_event fate m (Some t))
        (brings_effect fate t.ends (control_of_member m)) told.quiet

halt_none : (m : Member) → HasReportedNothing m
    → events_of_event_if (items_of m.layout) m.link (bus_event_of_step m Halts) ≡ []
halt_none m told = by_configured m.endpoint.is_configured
  where
    by_configured : (b : Bool) → events_of_event_if (items_of m.layout) m.link (halt_bus_event_of b) ≡ []
    by_configured true = cut_none (items_of m.layout) m.link told.quiet
    by_configured false = refl

one_none : (members : List Member) (d dev : ℕ) (m : Member) (y : MemberStep) → Some d ≡ Some dev
    → member_at members dev ≡ Some m → events_of_event_if (items_of m.layout) m.link (bus_event_of_step m y) ≡ []
    → member_deliveries members d y ≡ []
one_none members d dev m y names here quiet =
    let same : d ≡ dev = cc in
    ap (λ (o : Option Member). elim o as
    (λ _. List Delivered) [
      | None ↦ []
      | Some t ↦
          map (with_device_number d) (events_of_event_if (items_of t.layout) t.link (bus_event_of_step t y))
    ])
    (ap (member_at members) same ∙ here)
    ∙ ap (map (with_device_number d)) quiet

step_none : (members : List Member) (x : Step) (dev : ℕ) (m : Member) → device_of_step x ≡ Some dev
    → member_at members dev ≡ Some m → m.host ≢ states.Ready → HasReportedNothing m
    → deliveries_of_step members x ≡ []
step_none members (Change d change) dev m names here unready told = refl
step_none members Frame dev m names here unready told = refl
step_none members (Poll d fate) dev m names here unready told = one_none members d dev m (Scheduled (Polls fate)) names here (poll_none m fate unready)
step_none members (Begin d request) dev m names here unready told = refl
step_none members (Control d fate) dev m names here unready told = one_none members d dev m (Controls fate) names here (try_none m fate told)
step_none members (Halt d) dev m names here unready told = one_none members d dev m Halts names here (halt_none m told)
step_none members (Reset d) dev m names here unready told =
    one_none members d dev m Resets names here (reset_none (items_of m.layout) m.link told.view told.quiet)

pub tells_nothing : {A : Type 0} (members : List Member) (x : Step) (dev : ℕ) (m : Member) (r : Result A StackFault)
    (old new : List Delivered) → device_of_step x ≡ Some dev → member_at members dev ≡ Some m
    → ToldOnceReady m → OnOk r (new ≡ old ++ deliveries_of_step members x) → OnErr r (new ≡ old)
    → UnreadyDeliversNothing members x old new
tells_nothing {A = A} members x dev m r old new names here told events err_events d k names_it is_here unready =
    let both : Some dev ≡ Some d = sym names ∙ names_it in
    let same : dev ≡ d = cc in
    let found : Some k ≡ Some m = sym is_here ∙ ap (member_at members) (sym same) ∙ here in
    let is : k ≡ m = cc in
    let unready_too : m.host ≢ states.Ready = subst (λ (n : Member). n.host ≢ states.Ready) is unready in
    by_result r events err_events (step_none members x dev m names here unready_too (told unready_too))
  where
    by_result : (r : Result A StackFault) → OnOk r (new ≡ old ++ deliveries_of_step members x) → OnErr r (new ≡ old)
        → deliveries_of_step members x ≡ [] → new ≡ old
    by_result (Ok told) events err_events none = events ∙ ap (λ (es : List Delivered). old ++ es) none ∙ append-nil old
    by_result (Err fault) events err_events none = err_events
