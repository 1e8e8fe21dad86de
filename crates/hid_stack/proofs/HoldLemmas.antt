-- Each host of a bus holds its toggle while its endpoint is halted or a Clear is pending, whatever happens to its
-- device.
use Rattle.std.proofs.Common.{◌≡◌, ◌∙◌, ◌++◌, ℕ, Bool, true, false, List, [], ◌∷◌, Option, Some, None, refl, ap, sym, subst, cond, eqb, ◌-◌, Result, Ok, Err, OnOk, IfErr}
use Rattle.std.specs.Prelude.{if◌then◌else◌, ◌||◌, is_some, IfSome, slice_get}
use Rattle.usb_transact.specs.declared.transaction.Fate.{Fate}
use Rattle.usb_transact.specs.declared.transaction.Fate.TheVariants.{Clean, TokenLost, ReplyLost, AckLost}
use Rattle.usb_control.specs.declared.host.HostStage.{HostStage}
use Rattle.usb_control.specs.declared.host.HostStage.TheVariants as stages
use Rattle.usb_control.specs.Host.{IsRunning}
use Rattle.usb_control.specs.Transfer.{start}
use Rattle.hid_layout.specs.Controls.{Item, items_of}
use Rattle.hid_layout.specs.Layout.{Contents}
use Rattle.hid_requests.specs.declared.request.Request.{Request}
use Rattle.hid_requests.specs.declared.request.Request.TheVariants as requests
use Rattle.hid_bus.specs.ReportState.{due_where}
use Rattle.hid_bus.specs.Rounds.{Changes, Frame, Polls}
use Rattle.hid_bus.specs.LinkState.{LinkState, OpenRound, expected_toggle, round_after_poll, state_after_answer, state_after_step, state_at_token, with_open_report}
use Rattle.hid_bus.specs.DeviceHistory.{Configures, BusEvent, RoundEnded, LinkConfigured, RoundAborted, TogglesReset, BusReset, LinkOutcome, Idles, Own, state_after_all, history_after, history_after_all, rounds_as_outcomes, flipped_toggle, outcomes_of_events, outcomes_of_event, toggle_after_outcomes, toggle_after_round}
use Rattle.hid_bus.specs.DeviceHistory as bus
use Rattle.hid_host.specs.declared.fault.StackFault.{StackFault}
use Rattle.hid_host.specs.declared.fault.StackFault.TheVariants.{Control, NotReady}
use Rattle.usb_control.specs.declared.fault.ControlFault.TheVariants.{Busy}
use Rattle.hid_host.specs.declared.host.Transfer.{Transfer}
use Rattle.hid_host.specs.declared.phase.HostState.{HostState}
use Rattle.hid_host.specs.declared.phase.HostState.TheVariants as states
use Rattle.hid_host.specs.Host.{clearing_after, clearing_with, request_aborts_round, running, running_at}
use Rattle.hid_host.specs.Phase.{may_begin, may_poll}
use Rattle.hid_bus.specs.declared.step.Step.{Step}
use Rattle.hid_stack.specs.ExpectedToggles.{AllHoldToggles, HoldsToggle}
use Rattle.std.proofs.lemmas.List.Elements.{All-get_or, All-map, All-push, All-set, All-weaker}
use Rattle.std.proofs.lemmas.Option.{get_or_from_slice_get, slice_get_within}
use Rattle.hid_device.specs.declared.config.Config.{Config}
use Rattle.hid_bus.specs.declared.start.Start.{Start}
use Rattle.hid_bus.specs.declared.start.Start.TheVariants as starts
use Rattle.hid_bus.specs.declared.step.Step.TheVariants.{Change as ChangeStep, Frame as FrameStep, Poll as PollStep, Begin as BeginStep, Control as ControlStep, Halt as HaltStep, Reset as ResetStep}
use Rattle.hid_bus.specs.declared.step.Told.{Told}
use Rattle.hid_host.specs.declared.fault.StackFault.TheVariants as faults
use Rattle.hid_stack.specs.Attaching.{member_at_start}
use Rattle.hid_stack.specs.Members.{Begins, Controls, Halts, Member, MemberStep, Resets, Scheduled, begin_refusal_at, control_of_member, expected_toggle_after_try, expected_toggle_of, host_state_after, host_state_after_try, member_after, member_after_begin, member_after_halt, member_after_try, member_after_try_in, member_held_toggle, member_out_of_memory, member_transfer_after, poll_bus_event, polls_it, state_after_event_if, try_bus_event}
use Rattle.hid_stack.specs.Rig.{bus_after, bus_after_all, bus_after_refusal, member_at, bus_after_member_step, bus_after_try_out_of_memory, with_member}
use Rattle.hid_stack.proofs.MemberLemmas.{IsEffect, brings_effect}

-- ---- polls of a halted endpoint

opened_by_halted : (items : List Item) (s : LinkState) (due : Option ℕ)
    → (with_open_report items s due).halted ≡ s.halted
opened_by_halted items s None = refl
opened_by_halted items s (Some r) = refl

opened_halted : (items : List Item) (s : LinkState) → (state_at_token items s).halted ≡ s.halted
opened_halted items s =
    elim s.current as
    (λ (o : Option OpenRound).
    (elim o as
    (λ _. LinkState) [
      | Some round ↦ s
      | None ↦
          with_open_report items s (due_where items s.halted s.reports)
    ]).halted ≡ s.halted)
    [ Some round ↦ refl | None ↦ opened_by_halted items s (due_where items s.halted s.reports) ]

polled_halted : (items : List Item) (s : LinkState) (round : OpenRound) (fate : Fate)
    → (round_after_poll items s round fate).halted ≡ s.halted
polled_halted items s round Clean = refl
polled_halted items s round TokenLost = refl
polled_halted items s round ReplyLost = refl
polled_halted items s round AckLost = refl

answered_halted : (items : List Item) (s : LinkState) (fate : Fate)
    → (state_after_answer items s fate).halted ≡ s.halted
answered_halted items s fate =
    elim s.current as
    (λ (o : Option OpenRound).
    (elim o as (λ _. LinkState) [ None ↦ s | Some round ↦ round_after_poll items s round fate ]).halted
    ≡ s.halted)
    [ None ↦ refl | Some round ↦ polled_halted items s round fate ]

pub poll_halted : (items : List Item) (s : LinkState) (fate : Fate)
    → (state_after_step items s (Polls fate)).halted ≡ s.halted
poll_halted items s TokenLost = answered_halted items s TokenLost
poll_halted items s Clean = answered_halted items (state_at_token items s) Clean ∙ opened_halted items s
poll_halted items s ReplyLost = answered_halted items (state_at_token items s) ReplyLost ∙ opened_halted items s
poll_halted items s AckLost = answered_halted items (state_at_token items s) AckLost ∙ opened_halted items s

-- ---- the toggle that is held

abbrev pub shown : Option Bool → Bool → Bool
shown held else_expects = elim held as (λ _. Bool) [ Some expects ↦ expects | None ↦ else_expects ]

pub held_self : (host : HostState) (holds e x : Bool)
    → member_held_toggle host holds e ≡ member_held_toggle host holds (shown (member_held_toggle host holds e) x)
held_self states.Ready true e x = refl
held_self states.Ready false e x = refl
held_self states.Cold holds e x = refl
held_self states.Described holds e x = refl
held_self states.Parsed holds e x = refl

pub held_with : (host : HostState) (holds : Bool) (held : Option Bool) (e x : Bool)
    → held ≡ member_held_toggle host holds e → held ≡ member_held_toggle host holds (shown held x)
held_with host holds held e x is =
    is ∙ held_self host holds e x ∙ ap (λ (o : Option Bool). member_held_toggle host holds (shown o x)) (sym is)

pub polls_ready : (host : HostState) (clearing : Bool) → may_poll host clearing ≡ true → (host ≡ states.Ready) × (clearing ≡ false)
polls_ready states.Ready false polls = (refl, refl)
polls_ready states.Ready true polls = absurd (cc)
polls_ready states.Cold clearing polls = absurd (cc)
polls_ready states.Described clearing polls = absurd (cc)
polls_ready states.Parsed clearing polls = absurd (cc)

-- ---- what a try makes of the host

behind_ready : (request : Request) → may_begin request states.Ready ≡ true
    → host_state_after request states.Ready ≡ states.Ready
behind_ready requests.Device may = refl
behind_ready requests.Config may = absurd (cc)
behind_ready requests.Report may = absurd (cc)
behind_ready requests.Configure may = absurd (cc)
behind_ready requests.Status may = refl
behind_ready requests.GetConfiguration may = refl
behind_ready (requests.Idle id time) may = refl
behind_ready (requests.GetIdle id) may = refl
behind_ready (requests.Protocol boot) may = refl
behind_ready requests.GetProtocol may = refl
behind_ready (requests.GetReport kind id) may = refl
behind_ready (requests.SetReport kind id bytes) may = refl
behind_ready requests.Halt may = refl
behind_ready requests.Clear may = refl
behind_ready requests.EndpointStatus may = refl

pub stays_ready : (stage : HostStage) (request : Request) (host : HostState) → host ≡ states.Ready
    → may_begin request host ≡ true → host_state_after_try stage request host ≡ states.Ready
stays_ready stages.Done request host ready may =
    ap (host_state_after request) ready ∙ behind_ready request (sym (ap (may_begin request) ready) ∙ may)
stays_ready stages.Setup request host ready may = ready
stays_ready (stages.DataIn one) request host ready may = ready
stays_ready (stages.DataOut sent one) request host ready may = ready
stays_ready stages.StatusIn request host ready may = ready
stays_ready stages.StatusOut request host ready may = ready
stays_ready (stages.Failed fault) request host ready may = ready

pub runs_stays : (stage : HostStage) (request : Request) (host : HostState) → IsRunning stage
    → host_state_after_try stage request host ≡ host
runs_stays stages.Done request host run = absurd (cc)
runs_stays stages.Setup request host run = refl
runs_stays (stages.DataIn one) request host run = refl
runs_stays (stages.DataOut sent one) request host run = refl
runs_stays stages.StatusIn request host run = refl
runs_stays stages.StatusOut request host run = refl
runs_stays (stages.Failed fault) request host run = absurd (cc)

pub runs_clearing : (stage : HostStage) (request : Request) (clearing : Bool) → IsRunning stage
    → clearing_after stage request clearing ≡ clearing
runs_clearing stages.Done request clearing run = absurd (cc)
runs_clearing stages.Setup request clearing run = refl
runs_clearing (stages.DataIn one) request clearing run = refl
runs_clearing (stages.DataOut sent one) request clearing run = refl
runs_clearing stages.StatusIn request clearing run = refl
runs_clearing stages.StatusOut request clearing run = refl
runs_clearing (stages.Failed fault) request clearing run = absurd (cc)

-- what holds of a transfer where it runs
pub running_if : (P : Transfer → Type 0) (t : Transfer) (stage : HostStage) → (IsRunning stage → P t) → IfSome (running_at t stage) P
running_if P t stages.Done h = tt
running_if P t stages.Setup h = h refl
running_if P t (stages.DataIn one) h = h refl
running_if P t (stages.DataOut sent one) h = h refl
running_if P t stages.StatusIn h = h refl
running_if P t stages.StatusOut h = h refl
running_if P t (stages.Failed fault) h = tt

-- ---- after a step of the device

effect_even : (items : List Item) (s : LinkState) (o : Option BusEvent) → IsEffect o → s.toggle ≡ false
    → (state_after_event_if items s o).toggle ≡ false
effect_even items s None is even = even
effect_even items s (Some (Own x)) is even = absurd is
effect_even items s (Some (Idles idle)) is even = even
effect_even items s (Some Configures) is even = refl
effect_even items s (Some bus.Halts) is even = even
effect_even items s (Some bus.Clears) is even = refl
effect_even items s (Some bus.Resets) is even = absurd is

pub tried_effect : (fate : Fate) (m : Member) (t : Transfer) → IsEffect (try_bus_event fate m (Some t))
tried_effect fate m t = brings_effect fate t.ends (control_of_member m)

pub polls_holds : (b : Bool) (fate : Fate) (m : Member) → polls_it m ≡ b → HoldsToggle m
    → HoldsToggle (record m { link = state_after_event_if (items_of m.layout) m.link (poll_bus_event b fate) })
polls_holds false fate m is h = h
polls_holds true fate m is h =
    let s = state_after_event_if (items_of m.layout) m.link (poll_bus_event true fate) in
    let halted : s.halted ≡ m.link.halted = poll_halted (items_of m.layout) m.link fate in
    record {
      held = held_with m.host (s.halted || m.clearing) m.held (expected_toggle_of m) (expected_toggle s)
          (h.held ∙ ap (λ (b : Bool). member_held_toggle m.host (b || m.clearing) (expected_toggle_of m))
          (sym halted));
      even = λ apart. absurd (apart (polls_ready m.host m.clearing is).0);
      needs = h.needs;
      pends = h.pends;
    }

may_if : (busy may : Bool) → (if busy then Some (Control Busy) else if may then None else Some NotReady) ≡ None → may ≡ true
may_if true may h = absurd (cc)
may_if false true h = refl
may_if false false h = absurd (cc)

pub begins_holds : (o : Option StackFault) (m : Member) (request : Request) → begin_refusal_at m request ≡ o
    → HoldsToggle m → HoldsToggle (member_after_begin o m request)
begins_holds (Some fault) m request is h = h
begins_holds None m request is h = record {
  held = held_self m.host (m.link.halted || clearing_with request m.clearing) (expected_toggle_of m)
      (expected_toggle m.link);
  even = h.even;
  needs = may_if (is_some (running m.transfer)) (may_begin request m.host) is;
  pends = λ clears. ap (λ (q : Request). clearing_with q m.clearing) clears;
}

tried_holds : (fate : Fate) (m : Member) (t : Transfer) (host : HostState) → running m.transfer ≡ Some t
    → (IsRunning (member_transfer_after fate m t).stage → host ≡ m.host)
    → (m.host ≡ states.Ready → host ≡ states.Ready)
    → HoldsToggle m → HoldsToggle (member_after_try_in fate m t host)
tried_holds fate m t host runs same stays h =
    let n = member_after_try_in fate m t host in
    let stage = (member_transfer_after fate m t).stage in
    let needs : may_begin t.request m.host ≡ true = subst (λ (o : Option Transfer). IfSome o (λ u. may_begin u.request m.host ≡ true)) runs h.needs in
    let pends : t.request ≡ requests.Clear → m.clearing ≡ true = subst (λ (o : Option Transfer). IfSome o (λ u. u.request ≡ requests.Clear → m.clearing ≡ true)) runs h.pends in
    record {
      held = held_self host (n.link.halted || n.clearing)
          (expected_toggle_after_try stage t.request (expected_toggle_of m))
          (expected_toggle n.link);
      even = λ apart. effect_even (items_of m.layout) m.link (try_bus_event fate m (Some t)) (tried_effect fate m t)
          (h.even (λ ready. apart (stays ready)));
      needs = running_if (λ u. may_begin u.request host ≡ true)
          (record t { ends = member_transfer_after fate m t }) stage
          (λ run. ap (may_begin t.request) (same run) ∙ needs);
      pends = running_if (λ u. u.request ≡ requests.Clear → n.clearing ≡ true)
          (record t { ends = member_transfer_after fate m t }) stage
          (λ run is. runs_clearing stage t.request m.clearing run ∙ pends is);
    }

pub controls_holds : (fate : Fate) (o : Option Transfer) (m : Member) → running m.transfer ≡ o → HoldsToggle m
    → HoldsToggle (member_after_try fate m o)
controls_holds fate None m runs h = h
controls_holds fate (Some t) m runs h =
    let stage = (member_transfer_after fate m t).stage in
    let needs : may_begin t.request m.host ≡ true = subst (λ (o : Option Transfer). IfSome o (λ u. may_begin u.request m.host ≡ true)) runs h.needs in
    tried_holds fate m t (host_state_after_try stage t.request m.host) runs (runs_stays stage t.request m.host)
    (λ ready. stays_ready stage t.request m.host ready needs) h

pub halts_holds : (b : Bool) (m : Member) → HoldsToggle m → HoldsToggle (member_after_halt b m)
halts_holds false m h = h
halts_holds true m h = record {
  held = held_self m.host (true || m.clearing) (expected_toggle_of m) m.link.toggle;
  even = h.even;
  needs = h.needs;
  pends = h.pends;
}

pub after_holds : (x : MemberStep) (m : Member) → HoldsToggle m → HoldsToggle (member_after m x)
after_holds (Scheduled (Changes change)) m h = record { held = h.held; even = h.even; needs = h.needs; pends = h.pends }
after_holds (Scheduled Frame) m h = record { held = h.held; even = h.even; needs = h.needs; pends = h.pends }
after_holds (Scheduled (Polls fate)) m h = polls_holds (polls_it m) fate m refl h
after_holds (Begins request) m h = begins_holds (begin_refusal_at m request) m request refl h
after_holds (Controls fate) m h = controls_holds fate (running m.transfer) m refl h
after_holds Halts m h = halts_holds m.endpoint.is_configured m h
after_holds Resets m h = record { held = refl; even = λ apart. refl; needs = tt; pends = tt }

pub unconcluded_holds : (fate : Fate) (o : Option Transfer) (m : Member) → running m.transfer ≡ o → HoldsToggle m
    → HoldsToggle (member_out_of_memory fate m o)
unconcluded_holds fate None m runs h = h
unconcluded_holds fate (Some t) m runs h = by_request (request_aborts_round t.request)
  where
    by_request : (b : Bool) → HoldsToggle (if b then m else member_after_try_in fate m t m.host)
    by_request true = h
    by_request false = tried_holds fate m t m.host runs (λ run. refl) (λ ready. ready) h

-- ---- on a bus

at_place : (members : List Member) (i : ℕ) (m : Member) → AllHoldToggles members → slice_get members i ≡ Some m → HoldsToggle m
at_place members i m all h =
    let within = slice_get_within members i m h in
    subst HoldsToggle (get_or_from_slice_get members i m m h) (All-get_or HoldsToggle members i m within all)

pub member_holds : (members : List Member) (device : ℕ) (m : Member) → AllHoldToggles members → member_at members device ≡ Some m → HoldsToggle m
member_holds members device m all h = by_number (eqb device 0) h
  where
    by_number : (b : Bool) → cond b None (slice_get members (device - 1)) ≡ Some m → HoldsToggle m
    by_number true k = absurd (cc)
    by_number false k = at_place members (device - 1) m all k

one_holds : (members : List Member) (device : ℕ) (x : MemberStep) → AllHoldToggles members → AllHoldToggles (bus_after_member_step members device x)
one_holds members device x all = by_member (member_at members device) refl
  where
    by_member : (o : Option Member) → member_at members device ≡ o → AllHoldToggles (elim o as (λ _. List Member) [ None ↦ members | Some m ↦ with_member members device (member_after m x) ])
    by_member None e = all
    by_member (Some m) e = All-set HoldsToggle members (device - 1) (member_after m x) (after_holds x m (member_holds members device m all e)) all

pub bus_holds : (members : List Member) (x : Step) → AllHoldToggles members → AllHoldToggles (bus_after members x)
bus_holds members (ChangeStep device change) all = one_holds members device (Scheduled (Changes change)) all
bus_holds members FrameStep all =
    let framed : Member → Member = λ m. member_after m (Scheduled Frame) in
    All-map HoldsToggle framed members (All-weaker HoldsToggle (λ m. HoldsToggle (framed m)) (λ m h. after_holds (Scheduled Frame) m h) members all)
bus_holds members (PollStep device fate) all = one_holds members device (Scheduled (Polls fate)) all
bus_holds members (BeginStep device request) all = one_holds members device (Begins request) all
bus_holds members (ControlStep device fate) all = one_holds members device (Controls fate) all
bus_holds members (HaltStep device) all = one_holds members device Halts all
bus_holds members (ResetStep device) all = one_holds members device Resets all

pub all_hold : (members : List Member) (steps : List Step) → AllHoldToggles members → AllHoldToggles (bus_after_all members steps)
all_hold members [] all = all
all_hold members (x ∷ steps) all = all_hold (bus_after members x) steps (bus_holds members x all)

tries_hold : (members : List Member) (device : ℕ) (fate : Fate) → AllHoldToggles members → AllHoldToggles (bus_after_try_out_of_memory members device fate)
tries_hold members device fate all = by_member (member_at members device) refl
  where
    by_member : (o : Option Member) → member_at members device ≡ o
        → AllHoldToggles
        (elim o as
        (λ _. List Member) [
          | None ↦ members
          | Some m ↦
              with_member members device (member_out_of_memory fate m (running m.transfer))
        ])
    by_member None e = all
    by_member (Some m) e =
        All-set HoldsToggle members (device - 1) (member_out_of_memory fate m (running m.transfer))
        (unconcluded_holds fate (running m.transfer) m refl (member_holds members device m all e)) all

-- also after a step that is refused
refused_hold : (members : List Member) (x : Step) (e : StackFault) → AllHoldToggles members
    → AllHoldToggles (bus_after_refusal members x e)
refused_hold members (ControlStep device fate) faults.Memory all = tries_hold members device fate all
refused_hold members (ControlStep device fate) faults.NoDevice all = all
refused_hold members (ControlStep device fate) faults.NotReady all = all
refused_hold members (ControlStep device fate) (faults.Refused f) all = all
refused_hold members (ControlStep device fate) (faults.Control f) all = all
refused_hold members (ControlStep device fate) (faults.BadDescriptor f) all = all
refused_hold members (ControlStep device fate) (faults.Report f) all = all
refused_hold members (ControlStep device fate) faults.TooManyDevices all = all
refused_hold members (ChangeStep device change) e all = all
refused_hold members FrameStep e all = all
refused_hold members (PollStep device fate) e all = all
refused_hold members (BeginStep device request) e all = all
refused_hold members (HaltStep device) e all = all
refused_hold members (ResetStep device) e all = all

pub stepped_hold : (members state_after_step : List Member) (x : Step) (result : Result Told StackFault)
    → OnOk result (state_after_step ≡ bus_after members x)
    → IfErr result (λ e. state_after_step ≡ bus_after_refusal members x e)
    → AllHoldToggles members → AllHoldToggles state_after_step
stepped_hold members state_after_step x (Ok told) done refused all =
    subst AllHoldToggles (sym done) (bus_holds members x all)
stepped_hold members state_after_step x (Err e) done refused all =
    subst AllHoldToggles (sym refused) (refused_hold members x e all)

-- where a device was attached
pub starts_hold : (start : Start) (addr : ℕ) (config : Config) (descriptor : List ℕ) (layout : Contents) → HoldsToggle (member_at_start start addr config descriptor layout)
starts_hold starts.Ready addr config descriptor layout = record { held = refl; even = λ apart. refl; needs = tt; pends = tt }
starts_hold starts.Cold addr config descriptor layout = record { held = refl; even = λ apart. refl; needs = tt; pends = tt }

pub attached_hold : (members new : List Member) (m : Member) (start : Start) (addr : ℕ) (config : Config) (descriptor : List ℕ) (layout : Contents) → AllHoldToggles members
    → m ≡ member_at_start start addr config descriptor layout → new ≡ members ++ m ∷ [] → AllHoldToggles new
attached_hold members new m start addr config descriptor layout all is new_is =
    subst AllHoldToggles (sym new_is) (All-push HoldsToggle members m all (subst HoldsToggle (sym is) (starts_hold start addr config descriptor layout)))
