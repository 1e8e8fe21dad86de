-- What a try tells of the round that it ends: as the link state of the device and its host before it says.
use Rattle.std.proofs.Common.{◌≡◌, ◌∙◌, ℕ, Bool, true, false, List, [], Option, Some, None, Result, Ok, Err, refl, ap, sym, subst}
use Rattle.std.specs.Prelude.{IfSome, ◌||◌, if◌then◌else◌, not, unwrap_or}
use Rattle.std.specs.Bool.{beq}
use Rattle.hid_layout.specs.Controls.{Item, items_of}
use Rattle.hid_layout.specs.Layout.{Contents}
use Rattle.hid_snapshots.specs.declared.control_state.ControlState.{ControlState}
use Rattle.hid_snapshots.specs.ControlStates.{FitsShown}
use Rattle.hid_snapshots.specs.Parts.{IsInput}
use Rattle.hid_snapshots.specs.Pieces.{is_last_piece}
use Rattle.hid_snapshots.specs.Views.{drops_between}
use Rattle.hid_bus.specs.DeviceHistory.{BusEvent, Own, Idles, Configures, abort_events}
use Rattle.hid_bus.specs.DeviceHistory as bus
use Rattle.hid_bus.specs.ReportState.{ReportState, with_abort}
use Rattle.hid_bus.specs.LinkState.{LinkState, open_report}
use Rattle.hid_device.specs.Core.{piece_at, round_of}
use Rattle.hid_device.specs.Device.{DeviceState, core_of}
use Rattle.usb_transact.specs.declared.transaction.Fate.{Fate}
use Rattle.usb_control.specs.declared.host.HostStage.{HostStage}
use Rattle.usb_control.specs.declared.host.HostStage.TheVariants as stages
use Rattle.usb_control.specs.declared.host.Progress.{Progress}
use Rattle.hid_requests.specs.declared.request.Request.{Request}
use Rattle.hid_requests.specs.declared.request.Request.TheVariants as requests
use Rattle.hid_host.specs.declared.fault.StackFault.{StackFault}
use Rattle.hid_host.specs.declared.host.Transfer.{Transfer}
use Rattle.hid_host.specs.declared.phase.HostPhase.{HostPhase}
use Rattle.hid_host.specs.declared.phase.HostPhase.TheVariants.{Cold, Described, Parsed, Ready}
use Rattle.hid_host.specs.declared.phase.HostState.TheVariants as states
use Rattle.hid_host.specs.Host.{HostDeviceState, may_abort_round, request_aborts_round}
use Rattle.hid_host.specs.Phase.{IfReady, state_of}
use Rattle.hid_host.specs.ResetEvents.{SuitsRound, awaited_at, awaited_report, reported_drops, part_abort_events}
use Rattle.hid_stack.specs.Members.{Member, control_of_member, events_of_event_if, host_state_after, host_state_after_try, member_transfer_after, state_after_event_if, try_bus_event}
use Rattle.hid_stack.specs.Slot.{AreConsistentEnds, TriesOnPair, link_of, pair_member}
use Rattle.hid_stack.specs.Sums.{AbortsByRequest, AbortsNone, IsBetween}
use Rattle.hid_stack.specs.StepResult.{awaited_of, drops_after_try}
use Rattle.hid_stack.proofs.MemberLemmas.{IsEffect, brings_effect, quiet_effect}
use Rattle.hid_stack.proofs.HaltLemmas.{awaits_none, cut_awaited, cut_nothing, unready_open}
use Rattle.hid_stack.proofs.TryLemmas.{IsOpenBehind}

-- ---- the report that is awaited is one of the layout

input_awaited : (layout : Contents) (items : List Item) (expects : Bool) (round : Option (ℕ × Bool)) (piece : Option ℕ) → IfSome round (λ it. IsInput layout it.0)
    → IfSome (awaited_report items expects round piece) (λ r. IsInput layout r)
input_awaited layout items expects None piece input = tt
input_awaited layout items expects (Some round) piece input = by_toggles (beq round.1 expects || not (is_last_piece items round.0 (unwrap_or piece 0)))
  where
    by_toggles : (b : Bool) → IfSome (if b then Some round.0 else None) (λ r. IsInput layout r)
    by_toggles true = input
    by_toggles false = tt

pub suits_awaited : (device : DeviceState) (clearing : Bool) (phase : HostPhase)
    → AreConsistentEnds device clearing phase
    → IfReady phase (λ known. SuitsRound known.layout (round_of (core_of device)) (core_of device).reports.fixed)
    → IfSome (awaited_at phase (round_of (core_of device)) (piece_at (core_of device))) (λ r. IsInput (core_of device).layout r)
suits_awaited device clearing Cold together suits = tt
suits_awaited device clearing (Described info) together suits = tt
suits_awaited device clearing (Parsed info layout) together suits = tt
suits_awaited device clearing (Ready known) together suits =
    subst (λ (l : Contents). IfSome (awaited_at (Ready known) (round_of (core_of device)) (piece_at (core_of device))) (λ r. IsInput l r)) together.layout
    (input_awaited known.layout (items_of known.layout) known.pipe.expects (round_of (core_of device)) (piece_at (core_of device)) suits.input)

-- what a host is given of a round
pub round_suits : (phase : HostPhase) (round : Option (ℕ × Bool)) (parts : List ControlState)
    → IfReady phase (λ known. SuitsRound known.layout round parts)
    → IfReady phase (λ known. IfSome round (λ it. IsInput known.layout it.0))
round_suits Cold round parts suits = tt
round_suits (Described info) round parts suits = tt
round_suits (Parsed info layout) round parts suits = tt
round_suits (Ready known) round parts suits = suits.input

-- a report of the device is one that its host knows
pub report_suits : (device : DeviceState) (clearing : Bool) (phase : HostPhase) (r : ℕ)
    → AreConsistentEnds device clearing phase → IsInput (core_of device).layout r
    → IfReady phase (λ known. IsInput known.layout r)
report_suits device clearing Cold r together input = tt
report_suits device clearing (Described info) r together input = tt
report_suits device clearing (Parsed info layout) r together input = tt
report_suits device clearing (Ready known) r together input = subst (λ (l : Contents). IsInput l r) (sym together.layout) input

pub parts_suit : (device : DeviceState) (clearing : Bool) (phase : HostPhase)
    → AreConsistentEnds device clearing phase
    → IfReady phase (λ known. FitsShown (items_of known.layout) (core_of device).reports.fixed)
parts_suit device clearing Cold together = tt
parts_suit device clearing (Described info) together = tt
parts_suit device clearing (Parsed info layout) together = tt
parts_suit device clearing (Ready known) together =
    subst (λ (l : Contents). FitsShown (items_of l) (core_of device).reports.fixed)
    (sym together.layout) together.sound.fixed

-- ---- a round that is awaited is gone after a try where a halt or a clear took effect

tried_tells : (items : List Item) (s : LinkState) (bus_event : Option BusEvent) (before now : Option ℕ)
    → IsEffect bus_event → IsOpenBehind before bus_event now → (before ≡ None → s.current ≡ None) → now ≡ None
    → (bus_event ≡ Some Configures → s.current ≡ None) → abort_events items s ≡ events_of_event_if items s bus_event
tried_tells items s None before now is behind none gone apart = cut_nothing items s (none (sym behind ∙ gone))
tried_tells items s (Some (Own x)) before now is behind none gone apart = absurd is
tried_tells items s (Some (Idles idle)) before now is behind none gone apart = cut_nothing items s (none (sym behind ∙ gone))
tried_tells items s (Some Configures) before now is behind none gone apart = cut_nothing items s (apart refl)
tried_tells items s (Some bus.Halts) before now is behind none gone apart = refl
tried_tells items s (Some bus.Clears) before now is behind none gone apart = refl
tried_tells items s (Some bus.Resets) before now is behind none gone apart = absurd is

-- where it is open still nothing is told
still_open : (bus_event : Option BusEvent) (before : Option ℕ) (r : ℕ) → IsOpenBehind before bus_event (Some r)
    → AbortsNone bus_event
still_open None before r behind = tt
still_open (Some (Own x)) before r behind = tt
still_open (Some (Idles idle)) before r behind = tt
still_open (Some Configures) before r behind = absurd (cc)
still_open (Some bus.Halts) before r behind = absurd (cc)
still_open (Some bus.Clears) before r behind = absurd (cc)
still_open (Some bus.Resets) before r behind = tt

-- where it is open no more, it was cut
was_cut : (bus_event : Option BusEvent) (before : Option ℕ) → IsEffect bus_event → IsOpenBehind before bus_event None
    → (before ≡ None → ⊥) → (bus_event ≡ Some Configures → ⊥) → AbortsNone bus_event → ⊥
was_cut None before is behind was_open apart none = was_open (sym behind)
was_cut (Some (Own x)) before is behind was_open apart none = is
was_cut (Some (Idles idle)) before is behind was_open apart none = was_open (sym behind)
was_cut (Some Configures) before is behind was_open apart none = apart refl
was_cut (Some bus.Halts) before is behind was_open apart none = none
was_cut (Some bus.Clears) before is behind was_open apart none = none
was_cut (Some bus.Resets) before is behind was_open apart none = is

-- ---- what the two ends keep of it then

-- the view and the parts that were fixed
record Keeps (s s' : LinkState) : Type 0 where
  view : s'.view ≡ s.view
  fixed : s'.reports.fixed ≡ s.reports.fixed

cut_fixed : (o : Option ℕ) (d : ReportState) → (with_abort o d).fixed ≡ d.fixed
cut_fixed None d = refl
cut_fixed (Some r) d = refl

cut_keeps : (items : List Item) (s : LinkState) (bus_event : Option BusEvent) → (AbortsNone bus_event → ⊥)
    → Keeps s (state_after_event_if items s bus_event)
cut_keeps items s None aborted = absurd (aborted tt)
cut_keeps items s (Some (Own x)) aborted = absurd (aborted tt)
cut_keeps items s (Some (Idles idle)) aborted = absurd (aborted tt)
cut_keeps items s (Some Configures) aborted = absurd (aborted tt)
cut_keeps items s (Some bus.Halts) aborted = record { view = refl; fixed = cut_fixed (open_report s.current) s.reports }
cut_keeps items s (Some bus.Clears) aborted =
    record { view = refl; fixed = cut_fixed (open_report s.current) s.reports }
cut_keeps items s (Some bus.Resets) aborted = absurd (aborted tt)

tried_link : (fate : Fate) (m : Member) (o : Option Transfer) (result : Result Progress StackFault) (new : Member)
    → TriesOnPair fate m o result new
    → new.link ≡ state_after_event_if (items_of m.layout) m.link (try_bus_event fate m o)
tried_link fate m None result new tries = ap (λ (n : Member). n.link) tries.1
tried_link fate m (Some t) (Ok progress) new tries = ap (λ (n : Member). n.link) tries.1
tried_link fate m (Some t) (Err fault) new tries = ap (λ (n : Member). n.link) tries.2

-- a host whose request aborts a round stays ready
stays_behind : (q : Request) → (request_aborts_round q ≡ false → ⊥) → host_state_after q states.Ready ≡ states.Ready
stays_behind requests.Halt aborts = refl
stays_behind requests.Clear aborts = refl
stays_behind requests.Device aborts = refl
stays_behind requests.Config aborts = absurd (aborts refl)
stays_behind requests.Report aborts = absurd (aborts refl)
stays_behind requests.Configure aborts = refl
stays_behind requests.Status aborts = refl
stays_behind requests.GetConfiguration aborts = refl
stays_behind (requests.Idle id time) aborts = refl
stays_behind (requests.GetIdle id) aborts = refl
stays_behind (requests.Protocol boot) aborts = refl
stays_behind requests.GetProtocol aborts = refl
stays_behind (requests.GetReport kind id) aborts = refl
stays_behind (requests.SetReport kind id set) aborts = refl
stays_behind requests.EndpointStatus aborts = refl

stays_at : (stage : HostStage) (q : Request) → (request_aborts_round q ≡ false → ⊥)
    → host_state_after_try stage q states.Ready ≡ states.Ready
stays_at stages.Done q aborts = stays_behind q aborts
stays_at stages.Setup q aborts = refl
stays_at (stages.DataIn one) q aborts = refl
stays_at (stages.DataOut sent one) q aborts = refl
stays_at stages.StatusIn q aborts = refl
stays_at stages.StatusOut q aborts = refl
stays_at (stages.Failed fault) q aborts = refl

tried_ready : (fate : Fate) (m : Member) (o : Option Transfer) (result : Result Progress StackFault) (new : Member)
    → TriesOnPair fate m o result new → AbortsByRequest fate m o
    → (AbortsNone (try_bus_event fate m o) → ⊥) → m.host ≡ states.Ready → new.host ≡ states.Ready
tried_ready fate m None result new tries aborts aborted ready = absurd (aborted tt)
tried_ready fate m (Some t) (Ok progress) new tries aborts aborted ready =
    let stage = (member_transfer_after fate m t).stage in
    ap (λ (n : Member). n.host) tries.1 ∙ ap (host_state_after_try stage t.request) ready
    ∙ stays_at stage t.request (λ other. aborted (aborts other))
tried_ready fate m (Some t) (Err fault) new tries aborts aborted ready = ap (λ (n : Member). n.host) tries.2 ∙ ready

-- ---- what is reported

-- a host awaits a round where it is ready
awaits_ready : (device : DeviceState) (clearing : Bool) (phase : HostPhase) (r : ℕ)
    → AreConsistentEnds device clearing phase → awaited_of (link_of (core_of device) phase) ≡ Some r
    → state_of phase ≡ states.Ready
awaits_ready device clearing Cold r together is =
    let wrong : None ≡ Some r =
    sym (awaits_none (link_of (core_of device) Cold)
    (unready_open device clearing Cold together together.no_round)) ∙ is in absurd (cc)
awaits_ready device clearing (Described info) r together is =
    let wrong : None ≡ Some r =
    sym (awaits_none (link_of (core_of device) Cold)
    (unready_open device clearing Cold together together.no_round)) ∙ is in absurd (cc)
awaits_ready device clearing (Parsed info layout) r together is =
    let wrong : None ≡ Some r =
    sym (awaits_none (link_of (core_of device) Cold)
    (unready_open device clearing Cold together together.no_round)) ∙ is in absurd (cc)
awaits_ready device clearing (Ready known) r together is = refl

open_awaited : (s : LinkState) (r : ℕ) → awaited_of s ≡ Some r → s.current ≡ None → ⊥
open_awaited s r is none = let wrong : None ≡ Some r = sym (awaits_none s none) ∙ is in absurd (cc)

-- a ready host tells it by its view and its layout, which are those of the link state
drops_ready : (device : DeviceState) (clearing : Bool) (phase : HostPhase) (r : ℕ) → state_of phase ≡ states.Ready
    → AreConsistentEnds device clearing phase
    → (let s : LinkState =
    link_of (core_of device) phase in reported_drops phase r (core_of device).reports.fixed
    ≡ drops_between (items_of (core_of device).layout) r s.view s.view s.reports.fixed)
drops_ready device clearing Cold r ready together = absurd (cc)
drops_ready device clearing (Described info) r ready together = absurd (cc)
drops_ready device clearing (Parsed info layout) r ready together = absurd (cc)
drops_ready device clearing (Ready known) r ready together =
    ap (λ (l : Contents). drops_between (items_of l) r known.view known.view
    (core_of device).reports.fixed) together.layout

tried_effect : (fate : Fate) (m : Member) (o : Option Transfer) → IsEffect (try_bus_event fate m o)
tried_effect fate m None = tt
tried_effect fate m (Some t) = brings_effect fate t.ends (control_of_member m)

-- of the round that was awaited before it
drops_tried : (fate : Fate) (device device_then : DeviceState) (host host_then : HostDeviceState)
    (o : Option Transfer) (result : Result Progress StackFault) (r : ℕ)
    → TriesOnPair fate (pair_member device host) o result (pair_member device_then host_then)
    → AbortsByRequest fate (pair_member device host) o
    → AreConsistentEnds device host.clearing host.phase
    → AreConsistentEnds device_then host_then.clearing host_then.phase
    → (core_of device_then).layout ≡ (core_of device).layout
    → (AbortsNone (try_bus_event fate (pair_member device host) o) → ⊥)
    → awaited_of (pair_member device host).link ≡ Some r
    → (let s : LinkState =
    (pair_member device host).link in reported_drops host_then.phase r (core_of device_then).reports.fixed
    ≡ drops_between (items_of (core_of device).layout) r s.view s.view s.reports.fixed)
drops_tried fate device device_then host host_then o result r tries aborts together together_then layout aborted is =
    let m = pair_member device host in
    let s = m.link in
    let s' = link_of (core_of device_then) host_then.phase in
    let ready : state_of host_then.phase ≡ states.Ready =
    tried_ready fate m o result (pair_member device_then host_then) tries aborts aborted
    (awaits_ready device host.clearing host.phase r together is) in
    let same : s' ≡ state_after_event_if (items_of m.layout) s (try_bus_event fate m o) =
    tried_link fate m o result (pair_member device_then host_then) tries in
    let keeps : Keeps s s' =
    subst (Keeps s) (sym same) (cut_keeps (items_of m.layout) s (try_bus_event fate m o) aborted) in
    drops_ready device_then host_then.clearing host_then.phase r ready together_then
    ∙ ap (λ (l : Contents). drops_between (items_of l) r s'.view s'.view s'.reports.fixed) layout
    ∙ ap (λ (v : List ControlState). drops_between
    (items_of (core_of device).layout) r v v s'.reports.fixed) keeps.view
    ∙ ap (λ (parts : List ControlState). drops_between
    (items_of (core_of device).layout) r s.view s.view parts) keeps.fixed

-- while it is open nothing is
open_tells : (a : Option ℕ) (round : ℕ × Bool) (phase : HostPhase) (parts : List ControlState)
    → drops_after_try a (Some round) phase parts ≡ []
open_tells None round phase parts = refl
open_tells (Some report) round phase parts = refl

-- what is reported after a try is what befell the device by it
pub told_at_try : (fate : Fate) (device device_then : DeviceState) (host host_then : HostDeviceState)
    (o : Option Transfer) (result : Result Progress StackFault)
    → TriesOnPair fate (pair_member device host) o result (pair_member device_then host_then)
    → AbortsByRequest fate (pair_member device host) o
    → IsBetween (pair_member device host).link (try_bus_event fate (pair_member device host) o)
    → IsOpenBehind (core_of device).current (try_bus_event fate (pair_member device host) o)
    (core_of device_then).current
    → AreConsistentEnds device host.clearing host.phase
    → AreConsistentEnds device_then host_then.clearing host_then.phase
    → (core_of device_then).layout ≡ (core_of device).layout
    → drops_after_try (awaited_of (link_of (core_of device) host.phase)) (round_of (core_of device_then)) host_then.phase
    (core_of device_then).reports.fixed
    ≡ events_of_event_if (items_of (core_of device).layout) (link_of (core_of device) host.phase)
    (try_bus_event fate (pair_member device host) o)
told_at_try fate device device_then host host_then o result tries aborts between open_then together together_then layout = by_awaited (awaited_of s) refl (core_of device_then).current refl
  where
    m : Member
    m = pair_member device host

    s : LinkState
    s = m.link

    items : List Item
    items = items_of (core_of device).layout

    bus_event : Option BusEvent
    bus_event = try_bus_event fate m o

    shown : Option ℕ → Option (ℕ × Bool)
    shown current = elim current as (λ _. Option (ℕ × Bool)) [ None ↦ None | Some r ↦ Some (r, (core_of device_then).toggle) ]

    apart : bus_event ≡ Some Configures → s.current ≡ None
    apart is = subst (IsBetween s) is between

    by_awaited : (a : Option ℕ) → awaited_of s ≡ a → (now : Option ℕ) → (core_of device_then).current ≡ now
        → drops_after_try a (shown now) host_then.phase (core_of device_then).reports.fixed
        ≡ events_of_event_if items s bus_event
    by_awaited a is (Some now) same =
        open_tells a (now, (core_of device_then).toggle) host_then.phase (core_of device_then).reports.fixed
        ∙ sym (quiet_effect items s bus_event (tried_effect fate m o)
        (still_open bus_event (core_of device).current now
        (subst (IsOpenBehind (core_of device).current bus_event) same open_then)))
    by_awaited None is None same =
        sym (cut_awaited items s ∙ ap (part_abort_events items s.view s.reports.fixed) is)
        ∙ tried_tells items s bus_event (core_of device).current (core_of device_then).current
        (tried_effect fate m o) open_then (unready_open device host.clearing host.phase together) same apart
    by_awaited (Some r) is None same =
        drops_tried fate device device_then host host_then o result r tries aborts together together_then layout
        (was_cut bus_event (core_of device).current (tried_effect fate m o)
        (subst (IsOpenBehind (core_of device).current bus_event) same open_then)
        (λ none. open_awaited s r is (unready_open device host.clearing host.phase together none)) (λ configures. open_awaited s r is (apart configures))) is
        ∙ sym (cut_awaited items s ∙ ap (part_abort_events items s.view s.reports.fixed) is)
        ∙ tried_tells items s bus_event (core_of device).current (core_of device_then).current
        (tried_effect fate m o) open_then (unready_open device host.clearing host.phase together) same apart

-- where the request of the transfer cuts no round, nothing is
pub untold_at_try : (fate : Fate) (m : Member) (o : Option Transfer) → AbortsByRequest fate m o
    → may_abort_round o ≡ false → events_of_event_if (items_of m.layout) m.link (try_bus_event fate m o) ≡ []
untold_at_try fate m o aborts none =
    quiet_effect (items_of m.layout) m.link (try_bus_event fate m o) (tried_effect fate m o) (uncut o aborts none)
  where
    uncut : (t : Option Transfer) → AbortsByRequest fate m t → may_abort_round t ≡ false
        → AbortsNone (try_bus_event fate m t)
    uncut None c n = tt
    uncut (Some t) c n = c n
