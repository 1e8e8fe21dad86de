-- A ready host without a pending Clear expects the parity of the pieces that crossed, over any list of steps.
use Rattle.std.proofs.Common.{◌≡◌, ◌≢◌, ◌∙◌, ◌++◌, ◌⊎◌, inl, inr, ℕ, Bool, true, false, List, [], ◌∷◌, Option, Some, None, refl, ap, sym, subst, arith}
use Rattle.std.specs.Prelude.{if◌then◌else◌, ◌&&◌, ◌||◌, not, IfSome}
use Rattle.std.specs.List.{cons_option}
use Rattle.std.proofs.lemmas.Bool.{cases_Bool}
use Rattle.usb_transact.specs.declared.transaction.Fate.{Fate}
use Rattle.usb_transact.specs.declared.transaction.Fate.TheVariants.{Clean, TokenLost, ReplyLost, AckLost}
use Rattle.usb_control.specs.declared.host.HostStage.{HostStage}
use Rattle.usb_control.specs.declared.host.HostStage.TheVariants as stages
use Rattle.usb_control.specs.declared.setup.Setup.{Setup as SetupOf}
use Rattle.usb_control.specs.TryFunctions.{control_tried, effect_reached, is_applied, takes_effect}
use Rattle.usb_control.specs.Device.{Answers, Applies, Decides as Decides', DevControlState, Effect}
use Rattle.usb_control.specs.Host.{HostTransferState, IsRunning}
use Rattle.usb_control.specs.Interleaving.{decision_now, is_effect}
use Rattle.usb_control.specs.Transfer.{Accepted, Decision, Nothing, Past, Piece, Place, Position, Refused, Setup, Shape, Status, TakesEffect, act_at, applies, data_pieces, place_after_decision, place_after_piece, place_after_setup, place_after_try_at, transfer_shape}
use Rattle.usb_control.proofs.LawLemmas.{begins, done_is}
use Rattle.usb_control.proofs.InterleavingLemmas.{goes_by}
use Rattle.hid_layout.specs.Controls.{Item, items_of}
use Rattle.hid_layout.specs.Layout.{Contents}
use Rattle.hid_requests.specs.declared.request.Request.{Request}
use Rattle.hid_requests.specs.declared.request.Request.TheVariants as requests
use Rattle.hid_requests.specs.RequestSetup.{sends_of}
use Rattle.hid_requests.proofs.RequestKindLemmas.{sends_so, encoded_so}
use Rattle.hid_bus.specs.Rounds.{Changes, Frame, Polls, Round, RoundHistory, open_rounds, pieces_crossed}
use Rattle.hid_bus.specs.LinkState.{LinkState, OpenRound, expected_toggle, state_after_step}
use Rattle.hid_bus.specs.DeviceHistory.{Configures, BusEvent, RoundEnded, LinkConfigured, RoundAborted, TogglesReset, BusReset, LinkOutcome, Idles, Own, state_after_all, history_after, history_after_all, rounds_as_outcomes, flipped_toggle, outcomes_of_events, outcomes_of_event, toggle_after_outcomes, toggle_after_round}
use Rattle.hid_bus.specs.DeviceHistory as bus
use Rattle.hid_bus.specs.HistoryState.{history_from}
use Rattle.hid_bus.proofs.HistoryEventLemmas.{history_goes_on}
use Rattle.hid_requests.specs.declared.codes.TheConstants.{REPORT_ENDPOINT as ENDPOINT}
use Rattle.hid_device.specs.declared.decisions.PendingWrite.TheVariants as pendings
use Rattle.hid_device.specs.Core.{CoreState}
use Rattle.hid_device.specs.RequestTable.{core_table}
use Rattle.hid_host.specs.declared.fault.StackFault.{StackFault}
use Rattle.hid_snapshots.specs.declared.change.Change.{Change}
use Rattle.hid_host.specs.declared.host.Transfer.{Transfer}
use Rattle.hid_host.specs.declared.phase.HostState.{HostState}
use Rattle.hid_host.specs.declared.phase.HostState.TheVariants as states
use Rattle.hid_host.specs.Host.{clearing_after, clearing_with, is_clear, running, transfer_of}
use Rattle.hid_host.specs.Phase.{may_begin, may_poll}
use Rattle.hid_bus.specs.declared.step.Step.{Step}
use Rattle.hid_stack.specs.ExpectedToggles.{AllHoldToggles, ExpectsParity, HoldsToggle, HostsExpectParity, parity_after}
use Rattle.hid_stack.specs.HostInvariant.{IsAfterSetup, IsDecided, asking_of}
use Rattle.hid_stack.specs.Members.{Begins, Controls, Halts, Member, MemberStep, Resets, Scheduled, begin_refusal_at, bus_event_of_step, bus_events_of_steps, control_of_member, core_of_member, effect_bus_event, expected_toggle_after_try, expected_toggle_of, halt_bus_event_of, host_state_after, host_state_after_try, member_after, member_after_all, member_after_begin, member_after_halt, member_after_try, member_after_try_in, member_held_toggle, member_transfer_after, poll_bus_event, polls_it, state_after_event_if, try_bus_event, try_bus_event_of, write_bus_event}
use Rattle.hid_stack.specs.Rig.{bus_after_all, member_at, member_steps}
use Rattle.hid_stack.specs.Trails.{Trail, trail_from}
use Rattle.hid_stack.specs.Transfers.{ends_at, setup_at}
use Rattle.hid_stack.proofs.CountLemmas.{Stood, stood_halted, stood_scheduled, stood_tried, trail_on}
use Rattle.hid_stack.proofs.HoldLemmas.{after_holds, begins_holds, controls_holds, halts_holds, member_holds, poll_halted, polls_holds, polls_ready, running_if, shown, stays_ready, tried_effect}
use Rattle.hid_stack.proofs.Isolation.{states as states_so}
use Rattle.hid_stack.proofs.HostInvariantLemmas.{IsAccepted, applies_past, applies_piece, clear_pends}
use Rattle.hid_stack.proofs.LawLemmas.{runs_so}
use Rattle.hid_stack.proofs.MemberLemmas.{IsEffect, layout_stays}
use Rattle.hid_stack.proofs.PlacesLemmas.{accepted_reaches, open_place, past_applied, refused_applied, silent_stays}

-- ---- the toggle after what happens

-- with the pieces of the round that is open
abbrev parity : Bool → RoundHistory → Bool
parity base c = toggle_after_round pieces_crossed base c.current

abbrev history_by : List Item → RoundHistory → Option BusEvent → RoundHistory
history_by items c None = c
history_by items c (Some bus_event) = history_after items c bus_event

abbrev base_by : List Item → RoundHistory → Bool → Option BusEvent → Bool
base_by items c base None = base
base_by items c base (Some bus_event) =
    toggle_after_outcomes pieces_crossed base (outcomes_of_event items c bus_event)

abbrev parity_by : List Item → RoundHistory → Bool → Option BusEvent → Bool
parity_by items c base o = parity (base_by items c base o) (history_by items c o)

toggle_append : (xs ys : List LinkOutcome) (odd : Bool)
    → toggle_after_outcomes pieces_crossed odd (xs ++ ys)
    ≡ toggle_after_outcomes pieces_crossed (toggle_after_outcomes pieces_crossed odd xs) ys
toggle_append [] ys odd = refl
toggle_append (RoundEnded round ∷ xs) ys odd = toggle_append xs ys (flipped_toggle (pieces_crossed round) odd)
toggle_append (LinkConfigured ∷ xs) ys odd = toggle_append xs ys false
toggle_append (RoundAborted current ∷ xs) ys odd = toggle_append xs ys (toggle_after_round pieces_crossed odd current)
toggle_append (TogglesReset ∷ xs) ys odd = toggle_append xs ys false
toggle_append (BusReset current ∷ xs) ys odd = toggle_append xs ys false

ends_so : (current : Option Round) (base : Bool)
    → toggle_after_outcomes pieces_crossed base (rounds_as_outcomes (open_rounds current))
    ≡ toggle_after_round pieces_crossed base current
ends_so None base = refl
ends_so (Some round) base = refl

begins_so : (current : Option Round) (base : Bool)
    → toggle_after_outcomes pieces_crossed base (rounds_as_outcomes (open_rounds current) ++ LinkConfigured ∷ [])
    ≡ false
begins_so None base = refl
begins_so (Some round) base = refl

one_bus_event : (items : List Item) (c : RoundHistory) (base : Bool) (o : Option BusEvent)
    (bus_events : List BusEvent)
    → toggle_after_outcomes pieces_crossed base (outcomes_of_events items (cons_option o bus_events) c)
    ≡ toggle_after_outcomes pieces_crossed (base_by items c base o)
    (outcomes_of_events items bus_events (history_by items c o))
one_bus_event items c base None bus_events = refl
one_bus_event items c base (Some bus_event) bus_events =
    toggle_append (outcomes_of_event items c bus_event)
    (outcomes_of_events items bus_events (history_after items c bus_event)) base

-- what a try brings about leaves it, or makes it even
effect_parity : (items : List Item) (c : RoundHistory) (base : Bool) (o : Option BusEvent) → IsEffect o
    → parity base c ≡ false → parity_by items c base o ≡ false
effect_parity items c base None is even = even
effect_parity items c base (Some (Own x)) is even = absurd is
effect_parity items c base (Some (Idles idle)) is even = even
effect_parity items c base (Some Configures) is even = begins_so c.current base
effect_parity items c base (Some bus.Halts) is even = even
effect_parity items c base (Some bus.Clears) is even = refl
effect_parity items c base (Some bus.Resets) is even = absurd is

-- where a halt stands after it, it leaves it
halted_parity : (items : List Item) (s : LinkState) (c : RoundHistory) (base : Bool) (o : Option BusEvent)
    → IsEffect o → (state_after_event_if items s o).halted ≡ true → parity_by items c base o ≡ parity base c
halted_parity items s c base None is halted = refl
halted_parity items s c base (Some (Own x)) is halted = absurd is
halted_parity items s c base (Some (Idles idle)) is halted = refl
halted_parity items s c base (Some Configures) is halted = absurd (cc)
halted_parity items s c base (Some bus.Halts) is halted = refl
halted_parity items s c base (Some bus.Clears) is halted = absurd (cc)
halted_parity items s c base (Some bus.Resets) is halted = absurd is

clears_parity : (items : List Item) (c : RoundHistory) (base : Bool) (o : Option BusEvent) → o ≡ Some bus.Clears
    → parity_by items c base o ≡ false
clears_parity items c base o is = ap (parity_by items c base) is

-- ---- a halted endpoint

abbrev IsQuiet : LinkState → RoundHistory → Type 0
IsQuiet s c = s.halted ≡ true → (c.halted ≡ true) × (c.current ≡ None)

effect_quiet : (items : List Item) (s : LinkState) (c : RoundHistory) (o : Option BusEvent) → IsEffect o → IsQuiet s c
    → IsQuiet (state_after_event_if items s o) (history_by items c o)
effect_quiet items s c None is quiet = quiet
effect_quiet items s c (Some (Own x)) is quiet = absurd is
effect_quiet items s c (Some (Idles idle)) is quiet = quiet
effect_quiet items s c (Some Configures) is quiet = λ halted. absurd (cc)
effect_quiet items s c (Some bus.Halts) is quiet = λ halted. (refl, refl)
effect_quiet items s c (Some bus.Clears) is quiet = λ halted. absurd (cc)
effect_quiet items s c (Some bus.Resets) is quiet = absurd is

-- a poll of it opens no round, and closes none
abbrev StaysAtPoll : List Item → Bool → Fate → RoundHistory → Type 0
StaysAtPoll items base fate c =
    (history_after items c (Own (Polls fate)) ≡ c)
    × (toggle_after_outcomes pieces_crossed base (outcomes_of_event items c (Own (Polls fate))) ≡ base)

quiet_poll : (items : List Item) (base : Bool) (fate : Fate) (c : RoundHistory)
    → (c.halted ≡ true) × (c.current ≡ None) → StaysAtPoll items base fate c
quiet_poll items base fate c quiet =
    subst (λ (h : Bool). StaysAtPoll items base fate
    (record { reports = c.reports; current = c.current; halted = h })) (sym quiet.0)
    (subst (λ (o : Option Round). StaysAtPoll items base fate
    (record { reports = c.reports; current = o; halted = true })) (sym quiet.1) (by_fate fate))
  where
    by_fate : (f : Fate) → StaysAtPoll items base f (record { reports = c.reports; current = None; halted = true })
    by_fate TokenLost = (refl, refl)
    by_fate Clean = (refl, refl)
    by_fate ReplyLost = (refl, refl)
    by_fate AckLost = (refl, refl)

-- where no halt stands the host expects what the rounds say, whatever comes
abbrev FollowsParity : List Item → LinkState → RoundHistory → Bool → Type 0
FollowsParity items s c base =
    (bus_events : List BusEvent) → (state_after_all items s bus_events).halted ≡ false
    → expected_toggle (state_after_all items s bus_events)
    ≡ toggle_after_outcomes pieces_crossed base (outcomes_of_events items bus_events c)

follows_by : (items : List Item) (s : LinkState) (c : RoundHistory) (base : Bool) (o : Option BusEvent)
    → FollowsParity items s c base
    → FollowsParity items (state_after_event_if items s o) (history_by items c o) (base_by items c base o)
follows_by items s c base None h = h
follows_by items s c base (Some bus_event) h =
    λ bus_events going. h (bus_event ∷ bus_events) going ∙ one_bus_event items c base (Some bus_event) bus_events

follows_now : (items : List Item) (s : LinkState) (c : RoundHistory) (base : Bool) → FollowsParity items s c base
    → s.halted ≡ false → expected_toggle s ≡ parity base c
follows_now items s c base h going = h [] going ∙ ends_so c.current base

-- ---- the toggle that is held

-- a host that may poll shows it where the endpoint is halted, and else what is expected of the link state
shows_held : (host : HostState) (halted clearing e x wanted : Bool) → may_poll host clearing ≡ true
    → (halted ≡ true → e ≡ wanted) → (halted ≡ false → x ≡ wanted)
    → shown (member_held_toggle host (halted || clearing) e) x ≡ wanted
shows_held states.Ready true false e x wanted polls held going = held refl
shows_held states.Ready false false e x wanted polls held going = going refl
shows_held states.Ready halted true e x wanted polls held going = absurd (cc)
shows_held states.Cold halted clearing e x wanted polls held going = absurd (cc)
shows_held states.Described halted clearing e x wanted polls held going = absurd (cc)
shows_held states.Parsed halted clearing e x wanted polls held going = absurd (cc)

ready_or_not : (host : HostState) → (host ≡ states.Ready) ⊎ (host ≢ states.Ready)
ready_or_not states.Ready = inl refl
ready_or_not states.Cold = inr (λ e. cc)
ready_or_not states.Described = inr (λ e. cc)
ready_or_not states.Parsed = inr (λ e. cc)

-- ---- what a try makes of the host

-- only a Configure that is done makes a host ready
behind_made : (request : Request) (host : HostState) → host ≢ states.Ready
    → host_state_after request host ≡ states.Ready → request ≡ requests.Configure
behind_made requests.Configure host apart is = refl
behind_made requests.Config host apart is = absurd (cc)
behind_made requests.Report host apart is = absurd (cc)
behind_made requests.Device host apart is = absurd (apart is)
behind_made requests.Status host apart is = absurd (apart is)
behind_made requests.GetConfiguration host apart is = absurd (apart is)
behind_made (requests.Idle id time) host apart is = absurd (apart is)
behind_made (requests.GetIdle id) host apart is = absurd (apart is)
behind_made (requests.Protocol boot) host apart is = absurd (apart is)
behind_made requests.GetProtocol host apart is = absurd (apart is)
behind_made (requests.GetReport kind id) host apart is = absurd (apart is)
behind_made (requests.SetReport kind id bytes) host apart is = absurd (apart is)
behind_made requests.Halt host apart is = absurd (apart is)
behind_made requests.Clear host apart is = absurd (apart is)
behind_made requests.EndpointStatus host apart is = absurd (apart is)

made_ready : (stage : HostStage) (request : Request) (host : HostState) → host ≢ states.Ready
    → host_state_after_try stage request host ≡ states.Ready → (stage ≡ stages.Done) × (request ≡ requests.Configure)
made_ready stages.Done request host apart is = (refl, behind_made request host apart is)
made_ready stages.Setup request host apart is = absurd (apart is)
made_ready (stages.DataIn one) request host apart is = absurd (apart is)
made_ready (stages.DataOut sent one) request host apart is = absurd (apart is)
made_ready stages.StatusIn request host apart is = absurd (apart is)
made_ready stages.StatusOut request host apart is = absurd (apart is)
made_ready (stages.Failed fault) request host apart is = absurd (apart is)

-- only a Clear that is done ends one that is pending
clear_so : (request : Request) → not (is_clear request) ≡ false → request ≡ requests.Clear
clear_so requests.Clear is = refl
clear_so requests.Device is = absurd (cc)
clear_so requests.Config is = absurd (cc)
clear_so requests.Report is = absurd (cc)
clear_so requests.Configure is = absurd (cc)
clear_so requests.Status is = absurd (cc)
clear_so requests.GetConfiguration is = absurd (cc)
clear_so (requests.Idle id time) is = absurd (cc)
clear_so (requests.GetIdle id) is = absurd (cc)
clear_so (requests.Protocol boot) is = absurd (cc)
clear_so requests.GetProtocol is = absurd (cc)
clear_so (requests.GetReport kind id) is = absurd (cc)
clear_so (requests.SetReport kind id bytes) is = absurd (cc)
clear_so requests.Halt is = absurd (cc)
clear_so requests.EndpointStatus is = absurd (cc)

and_true : (b : Bool) → b && true ≡ false → b ≡ false
and_true true is = absurd (cc)
and_true false is = refl

cleared : (stage : HostStage) (request : Request) (clearing : Bool) → clearing ≡ true
    → clearing_after stage request clearing ≡ false → (stage ≡ stages.Done) × (request ≡ requests.Clear)
cleared stages.Done request true was is = (refl, clear_so request (and_true (not (is_clear request)) is))
cleared stages.Done request false was is = absurd (cc)
cleared stages.Setup request clearing was is = absurd (cc)
cleared (stages.DataIn one) request clearing was is = absurd (cc)
cleared (stages.DataOut sent one) request clearing was is = absurd (cc)
cleared stages.StatusIn request clearing was is = absurd (cc)
cleared stages.StatusOut request clearing was is = absurd (cc)
cleared (stages.Failed fault) request clearing was is = absurd (cc)

-- a request that neither configures nor clears leaves the toggle
kept_done : (request : Request) (e : Bool) → request ≢ requests.Configure → request ≢ requests.Clear
    → expected_toggle_after_try stages.Done request e ≡ e
kept_done requests.Configure e apart other = absurd (apart refl)
kept_done requests.Clear e apart other = absurd (other refl)
kept_done requests.Device e apart other = refl
kept_done requests.Config e apart other = refl
kept_done requests.Report e apart other = refl
kept_done requests.Status e apart other = refl
kept_done requests.GetConfiguration e apart other = refl
kept_done (requests.Idle id time) e apart other = refl
kept_done (requests.GetIdle id) e apart other = refl
kept_done (requests.Protocol boot) e apart other = refl
kept_done requests.GetProtocol e apart other = refl
kept_done (requests.GetReport kind id) e apart other = refl
kept_done (requests.SetReport kind id bytes) e apart other = refl
kept_done requests.Halt e apart other = refl
kept_done requests.EndpointStatus e apart other = refl

keeps_toggle : (stage : HostStage) (request : Request) (e : Bool) → request ≢ requests.Configure
    → request ≢ requests.Clear → expected_toggle_after_try stage request e ≡ e
keeps_toggle stages.Done request e apart other = kept_done request e apart other
keeps_toggle stages.Setup request e apart other = refl
keeps_toggle (stages.DataIn one) request e apart other = refl
keeps_toggle (stages.DataOut sent one) request e apart other = refl
keeps_toggle stages.StatusIn request e apart other = refl
keeps_toggle stages.StatusOut request e apart other = refl
keeps_toggle (stages.Failed fault) request e apart other = refl

done_configure : (stage : HostStage) (request : Request) (e : Bool)
    → (stage ≡ stages.Done) × (request ≡ requests.Configure) → expected_toggle_after_try stage request e ≡ false
done_configure stage request e is =
    ap (λ (s : HostStage). expected_toggle_after_try s request e) is.0
    ∙ ap (λ (q : Request). expected_toggle_after_try stages.Done q e) is.1

done_clear : (stage : HostStage) (request : Request) (e : Bool) → (stage ≡ stages.Done) × (request ≡ requests.Clear)
    → expected_toggle_after_try stage request e ≡ false
done_clear stage request e is =
    ap (λ (s : HostStage). expected_toggle_after_try s request e) is.0
    ∙ ap (λ (q : Request). expected_toggle_after_try stages.Done q e) is.1

-- ---- a Clear takes effect

takes_unless : (b : Bool) → not b ≡ true → is_effect (if b then Nothing else TakesEffect) ≡ true
takes_unless true h = absurd (cc)
takes_unless false h = refl

applied_effect : (shape : Shape) (fate : Fate) (decision : Decision) (answer : Option (List ℕ)) → applies shape fate Status ≡ true → is_effect (act_at Status shape fate decision (Accepted answer) false) ≡ true
applied_effect shape TokenLost decision answer h = absurd (cc)
applied_effect shape Clean decision answer h = takes_unless shape.reads h
applied_effect shape ReplyLost decision answer h = takes_unless shape.reads h
applied_effect shape AckLost decision answer h = takes_unless shape.reads h

or_so : (a b : Bool) → a || b ≡ true → (a ≡ true) ⊎ (b ≡ true)
or_so true b h = inl refl
or_so false b h = inr h

setup_before : (fate : Fate) (count : ℕ) (decision : Decision) (place : Place)
    → (place_after_setup fate count decision place).applied ≡ true → place.applied ≡ true
setup_before TokenLost count decision place h = sym (silent_stays place).applied ∙ h
setup_before ReplyLost count decision place h = let none : false ≡ true =
    sym (silent_stays (place_after_decision count decision place)).applied ∙ h in absurd (cc)
setup_before AckLost count decision place h = let none : false ≡ true =
    sym (silent_stays (place_after_decision count decision place)).applied ∙ h in absurd (cc)
setup_before Clean count decision place h = absurd (cc)

-- a write that took effect after a try had done so before, or does in it
applied_by : (shape : Shape) (fate : Fate) (decision : Decision) (p : Position) (q : Decision) (a : Bool) (place : Place) → place.host ≡ p → place.decision ≡ q → place.applied ≡ a
    → (place_after_try_at p shape fate decision place).applied ≡ true
    → (a ≡ true) ⊎ (is_effect (act_at p shape fate decision q a) ≡ true)
applied_by shape fate decision p q true place at held was h = inl refl
applied_by shape fate decision Setup q false place at held was h = inl (sym was ∙ setup_before fate (data_pieces shape decision) decision place h)
applied_by shape fate decision (Piece k) Refused false place at held was h = inl (sym was ∙ refused_before shape fate place held h)
  where
    refused_before : (s : Shape) (f : Fate) (pl : Place) → pl.decision ≡ Refused
        → (place_after_piece s f pl.decision pl).applied ≡ true → pl.applied ≡ true
    refused_before s f pl is took =
        sym (refused_applied s f pl) ∙ ap (λ (d : Decision). (place_after_piece s f d pl).applied) (sym is) ∙ took
applied_by shape fate decision Status Refused false place at held was h =
    inl (sym was ∙ sym (refused_applied shape fate place)
    ∙ ap (λ (d : Decision). (place_after_piece shape fate d place).applied) (sym held) ∙ h)
applied_by shape fate decision Past Refused false place at held was h =
    inl (sym was ∙ sym (refused_applied shape fate place)
    ∙ ap (λ (d : Decision). (place_after_piece shape fate d place).applied) (sym held) ∙ h)
applied_by shape fate decision (Piece k) (Accepted answer) false place at held was h =
    let took =
    sym (accepted_reaches shape fate answer place).applied
    ∙ ap (λ (d : Decision). (place_after_piece shape fate d place).applied) (sym held) ∙ h in
    let here : applies shape fate (Piece k) || place.applied ≡ true = sym (ap (λ (x : Position). applies shape fate x || place.applied) at) ∙ took in
    inl (sym was ∙ sym (ap (λ (b : Bool). b || place.applied) (applies_piece shape fate k)) ∙ here)
applied_by shape fate decision Past (Accepted answer) false place at held was h =
    let took =
    sym (accepted_reaches shape fate answer place).applied
    ∙ ap (λ (d : Decision). (place_after_piece shape fate d place).applied) (sym held) ∙ h in
    let here : applies shape fate Past || place.applied ≡ true = sym (ap (λ (x : Position). applies shape fate x || place.applied) at) ∙ took in
    inl (sym was ∙ sym (ap (λ (b : Bool). b || place.applied) (applies_past shape fate)) ∙ here)
applied_by shape fate decision Status (Accepted answer) false place at held was h =
    let took =
    sym (accepted_reaches shape fate answer place).applied
    ∙ ap (λ (d : Decision). (place_after_piece shape fate d place).applied) (sym held) ∙ h in
    let here : applies shape fate Status || place.applied ≡ true = sym (ap (λ (x : Position). applies shape fate x || place.applied) at) ∙ took in
    elim (or_so (applies shape fate Status) place.applied here) [
      | inl now ↦ inr (applied_effect shape fate decision answer now)
      | inr before ↦ inl (sym was ∙ before)
    ]

-- only the status of an accepted request does
effect_accepts : (shape : Shape) (fate : Fate) (decision : Decision) (p : Position) (q : Decision) (a : Bool)
    → is_effect (act_at p shape fate decision q a) ≡ true → IsAfterSetup p × IsAccepted q
effect_accepts shape TokenLost decision p q a h = absurd (cc)
effect_accepts shape Clean decision Setup q a h = absurd (cc)
effect_accepts shape ReplyLost decision Setup q a h = absurd (cc)
effect_accepts shape AckLost decision Setup q a h = absurd (cc)
effect_accepts shape Clean decision (Piece k) q a h = absurd (cc)
effect_accepts shape ReplyLost decision (Piece k) q a h = absurd (cc)
effect_accepts shape AckLost decision (Piece k) q a h = absurd (cc)
effect_accepts shape Clean decision Past q a h = absurd (cc)
effect_accepts shape ReplyLost decision Past q a h = absurd (cc)
effect_accepts shape AckLost decision Past q a h = absurd (cc)
effect_accepts shape Clean decision Status Refused a h = absurd (cc)
effect_accepts shape ReplyLost decision Status Refused a h = absurd (cc)
effect_accepts shape AckLost decision Status Refused a h = absurd (cc)
effect_accepts shape Clean decision Status (Accepted answer) a h = (tt, tt)
effect_accepts shape ReplyLost decision Status (Accepted answer) a h = (tt, tt)
effect_accepts shape AckLost decision Status (Accepted answer) a h = (tt, tt)

effect_clears : (e : Effect) (core : CoreState) → is_applied e ≡ true → core.pending ≡ pendings.Clear
    → effect_bus_event e core ≡ Some bus.Clears
effect_clears (Answers answer stage last_packet) core h pends = absurd (cc)
effect_clears (Decides' bytes) core h pends = absurd (cc)
effect_clears (Applies bytes) core h pends = ap (write_bus_event core) pends

brought_clears : (fate : Fate) (ends : HostTransferState) (control : DevControlState CoreState) → takes_effect core_table fate ends control ≡ true → control.requests.pending ≡ pendings.Clear
    → try_bus_event_of fate ends control ≡ Some bus.Clears
brought_clears TokenLost ends control h pends = absurd (cc)
brought_clears Clean ends control h pends = effect_clears (effect_reached core_table ends control) control.requests h pends
brought_clears ReplyLost ends control h pends = effect_clears (effect_reached core_table ends control) control.requests h pends
brought_clears AckLost ends control h pends = effect_clears (effect_reached core_table ends control) control.requests h pends

-- ---- a list of steps

-- A Clear that runs is at a place, and where it took effect the parity is even.
record IsEvenOnce (m : Member) (t : Transfer) (wanted : Bool) : Type 0 where
  trail : Trail
  stood : Stood m t trail
  even : trail.place.applied ≡ true → wanted ≡ false

record Tracks (m : Member) (c : RoundHistory) (base : Bool) : Type 0 where
  holds : HoldsToggle m
  follows : FollowsParity (items_of m.layout) m.link c base
  quiet : IsQuiet m.link c
  ready : polls_it m ≡ true → expected_toggle_of m ≡ parity base c
  unready : m.host ≢ states.Ready → parity base c ≡ false
  clears : IfSome (running m.transfer) (λ t. t.request ≡ requests.Clear → IsEvenOnce m t (parity base c))

abbrev TracksBy : Member → Member → RoundHistory → Bool → Option BusEvent → Type 0
TracksBy m n c base o = Tracks n (history_by (items_of m.layout) c o) (base_by (items_of m.layout) c base o)

none_running : (P : Transfer → Type 0) (o : Option Transfer) (Q : Transfer → Type 0) → IfSome o P → ((t : Transfer) → P t → Q t) → IfSome o Q
none_running P None Q h go = tt
none_running P (Some t) Q h go = go t h

changes_tracks : (x : Change) (m : Member) (c : RoundHistory) (base : Bool) → Tracks m c base
    → TracksBy m (member_after m (Scheduled (Changes x))) c base (Some (Own (Changes x)))
changes_tracks x m c base k = record {
  holds = after_holds (Scheduled (Changes x)) m k.holds;
  follows = follows_by (items_of m.layout) m.link c base (Some (Own (Changes x))) k.follows;
  quiet = k.quiet;
  ready = k.ready;
  unready = k.unready;
  clears = none_running (λ t. t.request ≡ requests.Clear → IsEvenOnce m t (parity base c)) (running m.transfer) (λ t. t.request ≡ requests.Clear → IsEvenOnce (member_after m (Scheduled (Changes x))) t (parity base c)) k.clears
      (λ t h is. let e = h is in record { trail = e.trail; stood = stood_scheduled (Changes x) m t e.trail e.stood; even = e.even });
}

frame_tracks : (m : Member) (c : RoundHistory) (base : Bool) → Tracks m c base
    → TracksBy m (member_after m (Scheduled Frame)) c base (Some (Own Frame))
frame_tracks m c base k = record {
  holds = after_holds (Scheduled Frame) m k.holds;
  follows = follows_by (items_of m.layout) m.link c base (Some (Own Frame)) k.follows;
  quiet = k.quiet;
  ready = k.ready;
  unready = k.unready;
  clears = none_running (λ t. t.request ≡ requests.Clear → IsEvenOnce m t (parity base c)) (running m.transfer) (λ t. t.request ≡ requests.Clear → IsEvenOnce (member_after m (Scheduled Frame)) t (parity base c)) k.clears
      (λ t h is. let e = h is in record { trail = e.trail; stood = stood_scheduled Frame m t e.trail e.stood; even = e.even });
}

polls_tracks : (b : Bool) (fate : Fate) (m : Member) (c : RoundHistory) (base : Bool) → polls_it m ≡ b
    → Tracks m c base
    → TracksBy m (record m { link = state_after_event_if (items_of m.layout) m.link (poll_bus_event b fate) }) c base
    (poll_bus_event b fate)
polls_tracks false fate m c base is k = k
polls_tracks true fate m c base is k =
    let items = items_of m.layout in
    let o : Option BusEvent = poll_bus_event true fate in
    let s = state_after_event_if items m.link o in
    let n : Member = record m { link = s } in
    let halted : s.halted ≡ m.link.halted = poll_halted items m.link fate in
    let follows = follows_by items m.link c base o k.follows in
    let up = polls_ready m.host m.clearing is in
    let stays : m.link.halted ≡ true → parity_by items c base o ≡ parity base c
    = λ h. let q =
    quiet_poll items base fate c (k.quiet h) in ap (λ (d : RoundHistory). parity (base_by items c base o) d) q.0
    ∙ ap (λ (b : Bool). parity b c) q.1 in
    record {
      holds = polls_holds true fate m is k.holds;
      follows = follows;
      quiet = λ h. let was = k.quiet (sym halted ∙ h) in let q =
          quiet_poll items base fate c was in
          subst (λ (d : RoundHistory). (d.halted ≡ true) × (d.current ≡ None)) (sym q.0) was;
      ready = λ polls. ap (λ (x : Option Bool). shown x (expected_toggle s)) k.holds.held
          ∙ shows_held m.host m.link.halted m.clearing (expected_toggle_of m) (expected_toggle s)
          (parity_by items c base o) is (λ h. k.ready is ∙ sym (stays h))
          (λ going. follows_now items s (history_by items c o) (base_by items c base o) follows (halted ∙ going));
      unready = λ apart. absurd (apart up.0);
      clears = none_running (λ t. t.request ≡ requests.Clear → m.clearing ≡ true) (running m.transfer) (λ t. t.request ≡ requests.Clear → IsEvenOnce n t (parity_by items c base o)) k.holds.pends
          (λ t h clear. let wrong : true ≡ false = sym (h clear) ∙ up.1 in absurd (cc));
    }

begins_tracks : (o : Option StackFault) (m : Member) (request : Request) (c : RoundHistory) (base : Bool)
    → begin_refusal_at m request ≡ o → Tracks m c base → Tracks (member_after_begin o m request) c base
begins_tracks (Some fault) m request c base is k = k
begins_tracks None m request c base is k =
    let n : Member = member_after_begin None m request in
    let x = expected_toggle m.link in
    record {
      holds = begins_holds None m request is k.holds;
      follows = k.follows;
      quiet = k.quiet;
      ready = λ polls. shows_held m.host m.link.halted n.clearing (expected_toggle_of m) x (parity base c) polls
          (λ h. k.ready (ap (may_poll m.host) (none_before request m.clearing (polls_ready m.host n.clearing polls).1) ∙ ap (λ (z : HostState). may_poll z false) (polls_ready m.host n.clearing polls).0))
          (λ going. follows_now (items_of m.layout) m.link c base k.follows going);
      unready = k.unready;
      clears = λ clear. subst
          (λ (q : Request). IsEvenOnce (member_after_begin None m q)
          (transfer_of m.addr (asking_of (core_of_member m)) q)
          (parity base c)) (sym clear) (record {
            trail = trail_from (core_of_member m);
            stood = record {
              asked = refl;
              encoded = encoded_so requests.Clear (record { report_length = 0; endpoint = ENDPOINT }) tt (omega arith) (omega arith);
              fits = tt;
              stands = begins core_table.answer_of m.addr (setup_at m requests.Clear) (sends_of requests.Clear)
                  (control_of_member (member_after_begin None m requests.Clear))
                  (sends_so requests.Clear (asking_of (core_of_member m)));
              decided = λ behind. absurd behind;
            };
            even = λ took. absurd (cc);
          });
    }
  where
    none_before : (q : Request) (clearing : Bool) → clearing_with q clearing ≡ false → clearing ≡ false
    none_before q clearing h = or_false (is_clear q) clearing h
      where
        or_false : (a b : Bool) → a || b ≡ false → b ≡ false
        or_false true b h = absurd (cc)
        or_false false b h = h

halts_tracks : (b : Bool) (m : Member) (c : RoundHistory) (base : Bool) → Tracks m c base
    → TracksBy m (member_after_halt b m) c base (halt_bus_event_of b)
halts_tracks false m c base k = k
halts_tracks true m c base k = record {
  holds = halts_holds true m k.holds;
  follows = follows_by (items_of m.layout) m.link c base (Some bus.Halts) k.follows;
  quiet = λ h. (refl, refl);
  ready = λ polls. shows_held m.host true m.clearing (expected_toggle_of m) m.link.toggle (parity base c) polls
      (λ h. k.ready polls) (λ going. absurd (cc));
  unready = k.unready;
  clears = none_running (λ t. t.request ≡ requests.Clear → IsEvenOnce m t (parity base c)) (running m.transfer)
      (λ t. t.request ≡ requests.Clear → IsEvenOnce (member_after_halt true m) t (parity base c)) k.clears
      (λ t h is. let e = h is in record { trail = e.trail; stood = stood_halted true m t e.trail e.stood; even = e.even });
}

-- a try of a Clear, and one that is done
record TriesClear (fate : Fate) (m : Member) (t : Transfer) (host : HostState) (wanted : Bool) : Type 0 where
  once : IsEvenOnce (member_after_try_in fate m t host) (record t { ends = member_transfer_after fate m t }) wanted
  done : (member_transfer_after fate m t).stage ≡ stages.Done → wanted ≡ false

clear_tried : (fate : Fate) (m : Member) (t : Transfer) (host : HostState) (c : RoundHistory) (base : Bool)
    → IsRunning t.ends.stage → t.request ≡ requests.Clear → IsEvenOnce m t (parity base c)
    → TriesClear fate m t host (parity_by (items_of m.layout) c base (try_bus_event fate m (Some t)))
clear_tried fate m t host c base runs clear e =
    let items = items_of m.layout in
    let o = try_bus_event fate m (Some t) in
    let shape = transfer_shape t.ends.setup in
    let decision = decision_now core_table (ends_at m t) in
    let trail = e.trail in
    let place = trail.place in
    let g = goes_by core_table (sends_of t.request) place fate (ends_at m t) e.stood.encoded runs e.stood.stands in
    let behind = trail_on fate m t trail in
    let even : behind.place.applied ≡ true → parity_by items c base o ≡ false
    = λ h. elim (applied_by shape fate decision place.host place.decision place.applied place refl refl refl h) [
      | inl before ↦ effect_parity items c base o (tried_effect fate m t) (e.even before)
      | inr takes ↦
          let says = effect_accepts shape fate decision place.host place.decision place.applied takes in
          clears_parity items c base o
          (brought_clears fate t.ends (control_of_member m) (g.takes ∙ takes)
          (clear_pends trail.decider (core_of_member m) place.decision says.1
          (subst (λ (q : Request). IsDecided q trail.decider (core_of_member m) place.decision) clear
          (e.stood.decided says.0))))
    ] in
    let writes : shape.reads ≡ false =
    ap (λ (s : SetupOf). (transfer_shape s).reads) e.stood.asked
    ∙ ap (λ (q : Request). (transfer_shape (setup_at m q)).reads) clear in
    let apart =
    open_place core_table.answer_of shape (sends_of t.request) place t.ends
    (control_of_member m) e.stood.stands runs in
    record {
      once = record { trail = behind; stood = stood_tried fate m t trail host e.stood g; even = even };
      done = λ is.
          let there =
          (done_is core_table.answer_of (transfer_shape (member_transfer_after fate m t).setup)
          (sends_of t.request) behind.place (member_transfer_after fate m t)
          (control_tried core_table fate t.ends (control_of_member m)) g.stands).0 is in
          even (past_applied shape fate decision place.host place.decision place writes refl apart there.1);
    }

tried_tracks : (fate : Fate) (m : Member) (t : Transfer) (c : RoundHistory) (base : Bool)
    → running m.transfer ≡ Some t → Tracks m c base
    → TracksBy m (member_after_try fate m (Some t)) c base (try_bus_event fate m (Some t))
tried_tracks fate m t c base runs k =
    let items = items_of m.layout in
    let o = try_bus_event fate m (Some t) in
    let s = state_after_event_if items m.link o in
    let ends = member_transfer_after fate m t in
    let host = host_state_after_try ends.stage t.request m.host in
    let clearing = clearing_after ends.stage t.request m.clearing in
    let effect = tried_effect fate m t in
    let wanted = parity_by items c base o in
    let e = expected_toggle_after_try ends.stage t.request (expected_toggle_of m) in
    let is_running : IsRunning t.ends.stage = (runs_so m.transfer t runs).1 in
    let needs : may_begin t.request m.host ≡ true = subst (λ (x : Option Transfer). IfSome x (λ u. may_begin u.request m.host ≡ true)) runs k.holds.needs in
    let pends : t.request ≡ requests.Clear → m.clearing ≡ true = subst (λ (x : Option Transfer). IfSome x (λ u. u.request ≡ requests.Clear → m.clearing ≡ true)) runs k.holds.pends in
    let clears : t.request ≡ requests.Clear → IsEvenOnce m t (parity base c) = subst (λ (x : Option Transfer). IfSome x (λ u. u.request ≡ requests.Clear → IsEvenOnce m u (parity base c))) runs k.clears in
    let follows = follows_by items m.link c base o k.follows in
    let unready : m.host ≢ states.Ready → wanted ≡ false = λ apart. effect_parity items c base o effect (k.unready apart) in
    let held : may_poll host clearing ≡ true → s.halted ≡ true → e ≡ wanted
    = λ polls halted.
    let up = polls_ready host clearing polls in
    elim (ready_or_not m.host) [
      | inr apart ↦
          done_configure ends.stage t.request (expected_toggle_of m)
          (made_ready ends.stage t.request m.host apart up.0) ∙ sym (unready apart)
      | inl ready ↦ elim (cases_Bool m.clearing) [
        | inl pending ↦
            let done = cleared ends.stage t.request m.clearing pending up.1 in
            done_clear ends.stage t.request (expected_toggle_of m) done
            ∙ sym ((clear_tried fate m t host c base is_running done.1 (clears done.1)).done done.0)
        | inr none ↦
            let polled : polls_it m ≡ true = ap (λ (z : HostState). may_poll z m.clearing) ready ∙ ap (may_poll states.Ready) none in
            let no_configure : t.request ≢ requests.Configure
            = λ is. let wrong : false ≡ true = sym (ap (may_begin requests.Configure) ready) ∙ sym (ap (λ (q : Request). may_begin q m.host) is) ∙ needs in absurd (cc) in
            let no_clear : t.request ≢ requests.Clear = λ is. let wrong : false ≡ true = sym none ∙ pends is in absurd (cc) in
            keeps_toggle ends.stage t.request (expected_toggle_of m) no_configure no_clear ∙ k.ready polled
            ∙ sym (halted_parity items m.link c base o effect halted)
      ]
    ] in
    record {
      holds = controls_holds fate (Some t) m runs k.holds;
      follows = follows;
      quiet = effect_quiet items m.link c o effect k.quiet;
      ready = λ polls. shows_held host s.halted clearing e (expected_toggle s) wanted polls (held polls)
          (λ going. follows_now items s (history_by items c o) (base_by items c base o) follows going);
      unready = λ apart. unready (λ ready. apart (stays_ready ends.stage t.request m.host ready needs));
      clears = running_if (λ u. u.request ≡ requests.Clear → IsEvenOnce (member_after_try fate m (Some t)) u wanted)
          (record t { ends = ends }) ends.stage
          (λ run is. (clear_tried fate m t host c base is_running is (clears is)).once);
    }

controls_tracks : (fate : Fate) (o : Option Transfer) (m : Member) (c : RoundHistory) (base : Bool)
    → running m.transfer ≡ o → Tracks m c base
    → TracksBy m (member_after_try fate m o) c base (try_bus_event fate m o)
controls_tracks fate None m c base runs k = k
controls_tracks fate (Some t) m c base runs k = tried_tracks fate m t c base runs k

step_tracks : (x : MemberStep) (m : Member) (c : RoundHistory) (base : Bool) → Tracks m c base
    → TracksBy m (member_after m x) c base (bus_event_of_step m x)
step_tracks (Scheduled (Changes change)) m c base k = changes_tracks change m c base k
step_tracks (Scheduled Frame) m c base k = frame_tracks m c base k
step_tracks (Scheduled (Polls fate)) m c base k = polls_tracks (polls_it m) fate m c base refl k
step_tracks (Begins request) m c base k = begins_tracks (begin_refusal_at m request) m request c base refl k
step_tracks (Controls fate) m c base k = controls_tracks fate (running m.transfer) m c base refl k
step_tracks Halts m c base k = halts_tracks m.endpoint.is_configured m c base k
step_tracks Resets m c base k = record {
  holds = after_holds Resets m k.holds;
  follows = follows_by (items_of m.layout) m.link c base (Some bus.Resets) k.follows;
  quiet = λ halted. absurd (cc);
  ready = λ polls. absurd (cc);
  unready = λ apart. refl;
  clears = tt;
}

tracked : (steps : List MemberStep) (m : Member) (c : RoundHistory) (base : Bool) → Tracks m c base
    → polls_it (member_after_all m steps) ≡ true
    → expected_toggle_of (member_after_all m steps)
    ≡ toggle_after_outcomes pieces_crossed base
    (outcomes_of_events (items_of m.layout) (bus_events_of_steps m steps) c)
tracked [] m c base k polls = k.ready polls ∙ sym (ends_so c.current base)
tracked (x ∷ steps) m c base k polls =
    let items = items_of m.layout in
    let n = member_after m x in
    let o = bus_event_of_step m x in
    tracked steps n (history_by items c o) (base_by items c base o) (step_tracks x m c base k) polls
    ∙ ap (λ (l : Contents). toggle_after_outcomes pieces_crossed (base_by items c base o)
    (outcomes_of_events (items_of l) (bus_events_of_steps n steps) (history_by items c o))) (layout_stays m x)
    ∙ sym (one_bus_event items c base o (bus_events_of_steps n steps))

-- ---- where it begins

-- what was expected of a halted endpoint doesn't count once the halt is over
restarts : (items : List Item) (bus_events : List BusEvent) (c : RoundHistory) (a b : Bool) → c.halted ≡ true
    → c.current ≡ None → (history_after_all items bus_events c).halted ≡ false
    → toggle_after_outcomes pieces_crossed a (outcomes_of_events items bus_events c)
    ≡ toggle_after_outcomes pieces_crossed b (outcomes_of_events items bus_events c)
restarts items [] c a b halted none going = let wrong : true ≡ false = sym halted ∙ going in absurd (cc)
restarts items (Own (Changes x) ∷ bus_events) c a b halted none going =
    restarts items bus_events (history_after items c (Own (Changes x))) a b halted none going
restarts items (Own Frame ∷ bus_events) c a b halted none going =
    restarts items bus_events (history_after items c (Own Frame)) a b halted none going
restarts items (Own (Polls fate) ∷ bus_events) c a b halted none going =
    let at_a = quiet_poll items a fate c (halted, none) in
    let at_b = quiet_poll items b fate c (halted, none) in
    let next = history_after items c (Own (Polls fate)) in
    let later = outcomes_of_events items bus_events next in
    let behind : (history_after_all items bus_events c).halted ≡ false =
    sym (ap (λ (d : RoundHistory). (history_after_all items bus_events d).halted) at_a.0) ∙ going in
    toggle_append (outcomes_of_event items c (Own (Polls fate))) later a
    ∙ ap (λ (x : Bool). toggle_after_outcomes pieces_crossed x later) at_a.1
    ∙ ap (λ (d : RoundHistory). toggle_after_outcomes pieces_crossed a (outcomes_of_events items bus_events d)) at_a.0
    ∙ restarts items bus_events c a b halted none behind
    ∙ sym (ap
    (λ (d : RoundHistory). toggle_after_outcomes pieces_crossed b (outcomes_of_events items bus_events d)) at_b.0)
    ∙ sym (ap (λ (x : Bool). toggle_after_outcomes pieces_crossed x later) at_b.1)
    ∙ sym (toggle_append (outcomes_of_event items c (Own (Polls fate))) later b)
restarts items (Idles idle ∷ bus_events) c a b halted none going =
    restarts items bus_events (history_after items c (Idles idle)) a b halted none going
restarts items (Configures ∷ bus_events) c a b halted none going =
    let next = history_after items c Configures in
    let later = outcomes_of_events items bus_events next in
    toggle_append (outcomes_of_event items c Configures) later a
    ∙ ap (λ (x : Bool). toggle_after_outcomes pieces_crossed x later)
    (begins_so c.current a ∙ sym (begins_so c.current b))
    ∙ sym (toggle_append (outcomes_of_event items c Configures) later b)
restarts items (bus.Halts ∷ bus_events) c a b halted none going =
    let next = history_after items c bus.Halts in
    ap (λ (o : Option Round). toggle_after_outcomes pieces_crossed (toggle_after_round pieces_crossed a o)
    (outcomes_of_events items bus_events next)) none
    ∙ restarts items bus_events next a b refl refl going
    ∙ sym (ap
    (λ (o : Option Round). toggle_after_outcomes pieces_crossed (toggle_after_round pieces_crossed b o)
    (outcomes_of_events items bus_events next)) none)
restarts items (bus.Clears ∷ bus_events) c a b halted none going = refl
restarts items (bus.Resets ∷ bus_events) c a b halted none going = refl

quiet_expects : (s : LinkState) → s.current ≡ None → expected_toggle s ≡ s.toggle
quiet_expects s none =
    ap (λ (o : Option OpenRound). elim o as
    (λ _. Bool) [ None ↦ s.toggle | Some round ↦ (if round.crossed then not s.toggle else s.toggle) ]) none

-- of an endpoint that isn't halted the toggle is the device's
not_held : (host : HostState) (e : Bool) → member_held_toggle host false e ≡ None
not_held states.Ready e = refl
not_held states.Cold e = refl
not_held states.Described e = refl
not_held states.Parsed e = refl

not_ready : (host : HostState) (holds e : Bool) → host ≢ states.Ready → member_held_toggle host holds e ≡ None
not_ready states.Ready holds e apart = absurd (apart refl)
not_ready states.Cold holds e apart = refl
not_ready states.Described holds e apart = refl
not_ready states.Parsed holds e apart = refl

starts_follow : (m : Member) → HoldsToggle m → m.link.current ≡ None → m.clearing ≡ false
    → FollowsParity (items_of m.layout) m.link (history_from m.link) (expected_toggle_of m)
starts_follow m h none clear bus_events going =
    let items = items_of m.layout in
    let c = history_from m.link in
    let lived = history_goes_on items m.link bus_events none in
    lived.expects going ∙ elim (cases_Bool m.link.halted) [
      | inl halted ↦
          restarts items bus_events c m.link.toggle (expected_toggle_of m) halted refl (sym lived.halted ∙ going)
      | inr going_on ↦
          let held : m.held ≡ None =
          h.held ∙ ap (λ (b : Bool). member_held_toggle m.host (b || m.clearing) (expected_toggle_of m)) going_on
          ∙ ap (λ (b : Bool). member_held_toggle m.host b (expected_toggle_of m)) clear
          ∙ not_held m.host (expected_toggle_of m) in
          let same : expected_toggle_of m ≡ m.link.toggle =
          ap (λ (o : Option Bool). shown o (expected_toggle m.link)) held ∙ quiet_expects m.link none in
          ap (λ (b : Bool). toggle_after_outcomes pieces_crossed b (outcomes_of_events items bus_events c)) (sym same)
    ]

starts_even : (m : Member) → HoldsToggle m → m.link.current ≡ None → m.host ≢ states.Ready
    → expected_toggle_of m ≡ false
starts_even m h none apart =
    let held : m.held ≡ None = h.held ∙ not_ready m.host (m.link.halted || m.clearing) (expected_toggle_of m) apart in
    ap (λ (o : Option Bool). shown o (expected_toggle m.link)) held ∙ quiet_expects m.link none ∙ h.even apart

pub expects_parity : (m : Member) (steps : List MemberStep) → HoldsToggle m → ExpectsParity m steps
expects_parity m steps h none clear polls = tracked steps m (history_from m.link) (expected_toggle_of m) (record {
  holds = h;
  follows = starts_follow m h none clear;
  quiet = λ halted. (halted, refl);
  ready = λ now. refl;
  unready = λ apart. starts_even m h none apart;
  clears = none_running (λ t. t.request ≡ requests.Clear → m.clearing ≡ true) (running m.transfer)
      (λ t. t.request ≡ requests.Clear → IsEvenOnce m t (expected_toggle_of m)) h.pends
      (λ t pends is. let wrong : true ≡ false = sym (pends is) ∙ clear in absurd (cc));
}) polls

pub hosts_expect : (before state_after_step : List Member) (steps : List Step) → AllHoldToggles before
    → state_after_step ≡ bus_after_all before steps → HostsExpectParity before steps state_after_step
hosts_expect before state_after_step steps all is device m n at_before at_after none clear polls =
    let xs = member_steps device steps in
    let there : Some (member_after_all m xs) ≡ Some n = sym (states_so steps before device m at_before) ∙ sym (ap (λ (ms : List Member). member_at ms device) is) ∙ at_after in
    let same : member_after_all m xs ≡ n = cc in
    let polls_there : polls_it (member_after_all m xs) ≡ true = subst (λ (k : Member). polls_it k ≡ true) (sym same) polls in
    subst (λ (k : Member). expected_toggle_of k ≡ parity_after m xs) same
    (expects_parity m xs (member_holds before device m all at_before) none clear polls_there)
