-- A host on a bus agrees with its device where that has nothing to send.
use Rattle.std.proofs.Common.{◌≡◌, ◌≤◌, ◌+◌, ◌++◌, ◌-◌, ℕ, zero, suc, Bool, true, false, cond, eqb, get_or, List, [], ◌∷◌, length, replicate, Option, Some, None, refl, ap, sym, ◌∙◌, subst, arith}
use Rattle.std.specs.Prelude.{IfSome}
use Rattle.std.specs.List.{cons_option, slice_get}
use Rattle.std.specs.Option.{option_map}
use Rattle.std.proofs.lemmas.Bool.Decides.{nat_tests}
use Rattle.std.proofs.lemmas.List.{length-replicate}
use Rattle.std.proofs.lemmas.Option.{get_or_from_slice_get}
use Rattle.std.proofs.Math.Seq.{map-set_same}
use Rattle.hid_layout.specs.Layout.{Contents}
use Rattle.hid_layout.specs.Controls.{Item, items_of}
use Rattle.hid_snapshots.specs.declared.control_state.ControlState.{ControlState}
use Rattle.hid_snapshots.specs.ControlStates.{FitsSnapshot, blank}
use Rattle.hid_snapshots.specs.Parts.{has_zeros}
use Rattle.hid_snapshots.proofs.BlankLemmas.{blank_fits}
use Rattle.hid_snapshots.proofs.FillLemmas.{set_length}
use Rattle.usb_transact.specs.declared.host.Took.TheVariants.{Again, Fresh, Nak, Silent}
use Rattle.usb_transact.specs.declared.transaction.Fate.{Fate}
use Rattle.usb_transact.specs.declared.transaction.Fate.TheVariants.{Clean, TokenLost, ReplyLost, AckLost}
use Rattle.usb_control.specs.TryFunctions.{effect_reached}
use Rattle.usb_control.specs.Device.{Answers, Applies, Decides, DevControlState, Effect}
use Rattle.usb_control.specs.Host.{HostTransferState}
use Rattle.hid_bus.specs.declared.start.Start.{Start}
use Rattle.hid_bus.specs.declared.start.Start.TheVariants as starts
use Rattle.hid_bus.specs.declared.step.Step.{Step}
use Rattle.hid_bus.specs.declared.step.Step.TheVariants.{Poll}
use Rattle.hid_bus.specs.declared.step.Told.{Told}
use Rattle.hid_bus.specs.ReportState.{ReportState, due_where, initial_reports}
use Rattle.hid_bus.specs.Rounds.{OwnStep, Changes, Frame, Polls, closed_count}
use Rattle.hid_bus.specs.LinkState.{LinkState, OpenRound, initial_link, state_after_steps, state_at_token, with_open_report}
use Rattle.hid_bus.specs.DeviceHistory.{BusEvent, state_after_all}
use Rattle.hid_bus.specs.Agreement.{HasNothingToSend, AnswersNak, Agrees, AreSentIn, SetsEach, AllSetEach}
use Rattle.hid_bus.specs.Convergence.{AreSendable, AreStill, IsAtRest, fates_of, polls_needed}
use Rattle.hid_bus.proofs.HistoryLemmas.{link}
use Rattle.hid_bus.proofs.AgreementLemmas.{agrees_at_nak, items_are_sent}
use Rattle.hid_bus.proofs.NakLemmas.{nak_says_nothing, unmoved}
use Rattle.hid_bus.proofs.IdleLemmas.{event_idle}
use Rattle.hid_bus.proofs.FairnessLemmas.{clean_in_time}
use Rattle.hid_bus.proofs.RoundLemmas.{agrees_after_clean_polls, blank_sendable}
use Rattle.hid_device.specs.Inputs.{input_count, AreInputsFirst}
use Rattle.hid_device.specs.Core.{CoreState}
use Rattle.hid_device.specs.declared.config.Config.{Config}
use Rattle.hid_device.specs.RequestTable.{core_table, with_idle_time}
use Rattle.hid_device.specs.declared.decisions.PendingWrite.{PendingWrite}
use Rattle.hid_device.specs.declared.decisions.PendingWrite.TheVariants as pendings
use Rattle.hid_device.proofs.InputLemmas.{inputs_first}
use Rattle.hid_host.specs.declared.host.Transfer.{Transfer}
use Rattle.hid_host.specs.Host.{request_aborts_round, running}
use Rattle.hid_stack.specs.Attaching.{CanAttach, member_at_start}
use Rattle.hid_stack.specs.Members.{Member, MemberStep, Scheduled, Begins, Controls, Halts, Resets, bus_event_of_step, bus_events_of_steps, control_of_member, effect_bus_event, halt_bus_event_of, member_after, member_after_all, member_out_of_memory, out_of_memory_bus_event, poll_bus_event, polls_it, state_after_event_if, try_bus_event, try_bus_event_of, write_bus_event}
use Rattle.hid_stack.specs.Rig.{HasOnlySchedule, bus_after, bus_after_all, bus_after_try_out_of_memory, device_steps, member_at, member_step, member_steps, with_member}
use Rattle.hid_stack.specs.BusHistory.{Action, Attached, DeviceAction, Taken, Takes, Unconcluded, Unconcludes, bus_after_actions, bus_event_of_action, bus_events_of_actions, device_action, member_after_action, member_after_actions}
use Rattle.hid_stack.specs.StepResult.{PollReturns, piece_shown, took_at_poll}
use Rattle.hid_stack.specs.Agreement.{AgreeAtNak, AgreeFromAttach, AgreeIfNakIsReceived, AgreesIfSilent, AllStartUnpolled, ComeToRest, IsUnpolled, ReceivesNak, RestFromAttach, RestsIn, StartsUnpolled}
use Rattle.hid_stack.proofs.AttachLemmas.{stands_still}
use Rattle.hid_stack.proofs.BusHistoryLemmas.{actions_layout, actions_links, after_own_act, taken_state, unconcluded_state}
use Rattle.hid_stack.proofs.MemberLemmas.{layouts_stay, links, ready_stands, unconcluded_layout}
use Rattle.hid_stack.proofs.Isolation.{only_schedule, states, step_state}
use Rattle.hid_stack.proofs.RoomLemmas.{bus_layouts, layout_of_member, layouts}
use Rattle.hid_stack.proofs.SlotLemmas.{laid_by}

-- ---- the idle times that a request sets

idle_long : (idle : List ℕ) (report : Option ℕ) (time n : ℕ) → length idle ≡ n → length (with_idle_time idle report time) ≡ n
idle_long idle None time n long = length-replicate (length idle) time ∙ long
idle_long idle (Some r) time n long = set_length idle r time ∙ long

written_sets : (n : ℕ) (core : CoreState) (pending : PendingWrite) → length core.reports.idle ≡ n
    → IfSome (write_bus_event core pending) (SetsEach n)
written_sets n core pendings.Nothing long = tt
written_sets n core pendings.Configure long = tt
written_sets n core (pendings.Keep i) long = tt
written_sets n core (pendings.Idle report time) long = idle_long core.reports.idle report time n long
written_sets n core (pendings.Protocol protocol) long = tt
written_sets n core pendings.Halt long = tt
written_sets n core pendings.Clear long = tt

effect_sets : (n : ℕ) (effect : Effect) (core : CoreState) → length core.reports.idle ≡ n → IfSome (effect_bus_event effect core) (SetsEach n)
effect_sets n (Answers answer stage last_packet) core long = tt
effect_sets n (Decides bytes) core long = tt
effect_sets n (Applies bytes) core long = written_sets n core core.pending long

try_sets : (n : ℕ) (fate : Fate) (ends : HostTransferState) (control : DevControlState CoreState) → length control.requests.reports.idle ≡ n
    → IfSome (try_bus_event_of fate ends control) (SetsEach n)
try_sets n TokenLost ends control long = tt
try_sets n Clean ends control long = effect_sets n (effect_reached core_table ends control) control.requests long
try_sets n ReplyLost ends control long = effect_sets n (effect_reached core_table ends control) control.requests long
try_sets n AckLost ends control long = effect_sets n (effect_reached core_table ends control) control.requests long

tried_sets : (n : ℕ) (fate : Fate) (m : Member) (o : Option Transfer) → length m.link.reports.idle ≡ n → IfSome (try_bus_event fate m o) (SetsEach n)
tried_sets n fate m None long = tt
tried_sets n fate m (Some t) long = try_sets n fate t.ends (control_of_member m) long

polled_sets : (n : ℕ) (polls : Bool) (fate : Fate) → IfSome (poll_bus_event polls fate) (SetsEach n)
polled_sets n true fate = tt
polled_sets n false fate = tt

halted_sets : (n : ℕ) (b : Bool) → IfSome (halt_bus_event_of b) (SetsEach n)
halted_sets n true = tt
halted_sets n false = tt

step_sets : (n : ℕ) (m : Member) (x : MemberStep) → length m.link.reports.idle ≡ n → IfSome (bus_event_of_step m x) (SetsEach n)
step_sets n m (Scheduled (Changes change)) long = tt
step_sets n m (Scheduled Frame) long = tt
step_sets n m (Scheduled (Polls fate)) long = polled_sets n (polls_it m) fate
step_sets n m (Begins request) long = tt
step_sets n m (Controls fate) long = tried_sets n fate m (running m.transfer) long
step_sets n m Halts long = halted_sets n m.endpoint.is_configured
step_sets n m Resets long = tt

one_event : (items : List Item) (n : ℕ) (s : LinkState) (o : Option BusEvent) → IfSome o (SetsEach n) → length s.reports.idle ≡ n
    → length (state_after_all items s (cons_option o [])).reports.idle ≡ n
one_event items n s None sets long = long
one_event items n s (Some x) sets long = event_idle items n s x sets long

more_sets : (n : ℕ) (o : Option BusEvent) (bus_events : List BusEvent) → IfSome o (SetsEach n) → AllSetEach n bus_events → AllSetEach n (cons_option o bus_events)
more_sets n None bus_events sets rest = rest
more_sets n (Some x) bus_events sets rest = (sets, rest)

steps_set : (n : ℕ) (steps : List MemberStep) (m : Member) → length m.link.reports.idle ≡ n → AllSetEach n (bus_events_of_steps m steps)
steps_set n [] m long = tt
steps_set n (x ∷ steps) m long =
    let sets : IfSome (bus_event_of_step m x) (SetsEach n) = step_sets n m x long in
    let stays : length (member_after m x).link.reports.idle ≡ n =
    ap (λ (s : LinkState). length s.reports.idle) (links (x ∷ []) m) ∙ one_event (items_of m.layout) n m.link (bus_event_of_step m x) sets long in
    more_sets n (bus_event_of_step m x) (bus_events_of_steps (member_after m x) steps) sets (steps_set n steps (member_after m x) stays)

-- ---- one device

act_sets : (n : ℕ) (m : Member) (act : DeviceAction) → length m.link.reports.idle ≡ n → IfSome (bus_event_of_action m act) (SetsEach n)
act_sets n m (Takes x) long = step_sets n m x long
act_sets n m (Unconcludes fate) long = by_transfer (running m.transfer)
  where
    by_transfer : (o : Option Transfer) → IfSome (out_of_memory_bus_event fate m o) (SetsEach n)
    by_transfer None = tt
    by_transfer (Some t) = by_request (request_aborts_round t.request)
      where
        by_request : (b : Bool) → IfSome (cond b None (try_bus_event fate m (Some t))) (SetsEach n)
        by_request true = tt
        by_request false = tried_sets n fate m (Some t) long

acts_set : (n : ℕ) (acts : List DeviceAction) (m : Member) → length m.link.reports.idle ≡ n → AllSetEach n (bus_events_of_actions m acts)
acts_set n [] m long = tt
acts_set n (act ∷ acts) m long =
    let sets : IfSome (bus_event_of_action m act) (SetsEach n) = act_sets n m act long in
    let stays : length (member_after_action m act).link.reports.idle ≡ n =
    ap (λ (s : LinkState). length s.reports.idle) (actions_links (act ∷ []) m) ∙ one_event (items_of m.layout) n m.link (bus_event_of_action m act) sets long in
    more_sets n (bus_event_of_action m act) (bus_events_of_actions (member_after_action m act) acts) sets (acts_set n acts (member_after_action m act) stays)

-- the device n is what these bus events made of m, which was unpolled
record Became (m n : Member) (snapshot : List ControlState) (idle : List ℕ) (bus_events : List BusEvent) : Type 0 where
  unpolled : IsUnpolled m snapshot idle
  layout : n.layout ≡ m.layout
  link : n.link ≡ state_after_all (items_of m.layout) m.link bus_events
  sets : AllSetEach (length m.link.reports.idle) bus_events

each_set : (m n : Member) (snapshot : List ControlState) (idle : List ℕ) (bus_events : List BusEvent) → Became m n snapshot idle bus_events
    → AllSetEach (length idle) bus_events
each_set m n snapshot idle bus_events became =
    subst (λ (k : ℕ). AllSetEach k bus_events) (ap (λ (s : LinkState). length s.reports.idle) became.unpolled.link) became.sets

each_sent : (m : Member) (snapshot : List ControlState) (idle : List ℕ) → IsUnpolled m snapshot idle → AreSentIn (length idle) (items_of m.layout)
each_sent m snapshot idle unpolled =
    let counts : AreInputsFirst m.layout.reports = inputs_first m.descriptor m.layout unpolled.lays in
    subst (λ (k : ℕ). AreSentIn k (items_of m.layout)) (sym unpolled.each) (items_are_sent m.layout (input_count m.layout.reports) counts.no_others)

became_link : (m n : Member) (snapshot : List ControlState) (idle : List ℕ) (bus_events : List BusEvent) → Became m n snapshot idle bus_events
    → n.link ≡ state_after_all (items_of m.layout) (initial_link (items_of m.layout) snapshot idle) bus_events
became_link m n snapshot idle bus_events became =
    became.link ∙ ap (λ (s : LinkState). state_after_all (items_of m.layout) s bus_events) became.unpolled.link

agrees_by : (m n : Member) (snapshot : List ControlState) (idle : List ℕ) (bus_events : List BusEvent) → Became m n snapshot idle bus_events
    → AgreesIfSilent n
agrees_by m n snapshot idle bus_events became =
    let items : List Item = items_of m.layout in
    subst (λ (l : Contents). HasNothingToSend (items_of l) n.link → Agrees (items_of l) n.link) (sym became.layout)
    (subst (λ (s : LinkState). HasNothingToSend items s → Agrees items s) (sym (became_link m n snapshot idle bus_events became))
    (agrees_at_nak items snapshot idle bus_events became.unpolled.fits (each_sent m snapshot idle became.unpolled)
    (each_set m n snapshot idle bus_events became)))

-- it rests after these own steps if enough of its polls lose nothing
abbrev pub RestsBy : List Item → LinkState → List OwnStep → Type 0
RestsBy items s xs =
    s.halted ≡ false → AreStill s.reports.idle xs → polls_needed items s ≤ closed_count (fates_of xs)
    → IsAtRest items (state_after_steps items s xs)

rests_by : (m n : Member) (snapshot : List ControlState) (idle : List ℕ) (bus_events : List BusEvent) (xs : List OwnStep)
    → Became m n snapshot idle bus_events → has_zeros (items_of m.layout) ≡ true → AreSendable (items_of m.layout) snapshot
    → RestsBy (items_of n.layout) n.link xs
rests_by m n snapshot idle bus_events xs became zeros sendable =
    let items : List Item = items_of m.layout in
    let rests : RestsBy items (state_after_all items (initial_link items snapshot idle) bus_events) xs =
    λ going still few. agrees_after_clean_polls items snapshot idle bus_events xs
    (record {
      fits = became.unpolled.fits;
      zeros = zeros;
      sendable = sendable;
      sent = each_sent m snapshot idle became.unpolled;
      each = each_set m n snapshot idle bus_events became;
      going = going;
      still = still;
    }) few in
    subst (λ (l : Contents). RestsBy (items_of l) n.link xs) (sym became.layout)
    (subst (λ (s : LinkState). RestsBy items s xs) (sym (became_link m n snapshot idle bus_events became)) rests)

-- a device that its host polls, after steps at which neither a request of it nor a halt or a reset comes
pub stands_after : (device : ℕ) (n : Member) (steps : List Step) (bus : List Member) → member_at bus device ≡ Some n → polls_it n ≡ true
    → HasOnlySchedule device steps
    → member_at (bus_after_all bus steps) device ≡ Some (record n { link = state_after_steps (items_of n.layout) n.link (device_steps device steps) })
stands_after device n steps bus there polled only =
    states steps bus device n there
    ∙ ap (λ (own : List MemberStep). Some (member_after_all n own)) (only_schedule device steps only)
    ∙ ap (λ (o : Member). Some o) (ready_stands (device_steps device steps) n polled)

rests_in : (k device : ℕ) (n : Member) (steps : List Step) (bus : List Member) → member_at bus device ≡ Some n
    → RestsBy (items_of n.layout) n.link (device_steps device steps) → RestsIn k device n steps (bus_after_all bus steps)
rests_in k device n steps bus there rests alone enough =
    let xs : List OwnStep = device_steps device steps in (
      record n { link = state_after_steps (items_of n.layout) n.link xs },
      stands_after device n steps bus there alone.polled alone.only,
      rests alone.going alone.still (clean_in_time k (polls_needed (items_of n.layout) n.link) (fates_of xs) enough.0 enough.1),
    )

-- ---- on a bus

became_by_steps : (device : ℕ) (m : Member) (snapshot : List ControlState) (idle : List ℕ) (steps : List Step) → IsUnpolled m snapshot idle
    → Became m (member_after_all m (member_steps device steps)) snapshot idle (bus_events_of_steps m (member_steps device steps))
became_by_steps device m snapshot idle steps unpolled = record {
  unpolled = unpolled;
  layout = layouts_stay (member_steps device steps) m;
  link = links (member_steps device steps) m;
  sets = steps_set (length m.link.reports.idle) (member_steps device steps) m refl;
}

pub agree_at_nak : (before after : List Member) (steps : List Step) → after ≡ bus_after_all before steps → AgreeAtNak before steps after
agree_at_nak before after steps is device m snapshot idle there unpolled =
    let own : List MemberStep = member_steps device steps in (
      member_after_all m own,
      ap (λ (ms : List Member). member_at ms device) is ∙ states steps before device m there,
      agrees_by m (member_after_all m own) snapshot idle (bus_events_of_steps m own) (became_by_steps device m snapshot idle steps unpolled),
    )

all_append : (first more : List Step) (bus : List Member) → bus_after_all bus (first ++ more) ≡ bus_after_all (bus_after_all bus first) more
all_append [] more bus = refl
all_append (x ∷ first) more bus = all_append first more (bus_after bus x)

pub come_to_rest : (k : ℕ) (before : List Member) (earlier later : List Step) (after : List Member) → after ≡ bus_after_all before (earlier ++ later)
    → ComeToRest k before earlier later after
come_to_rest k before earlier later after is device m snapshot idle there unpolled zeros sendable =
    let own : List MemberStep = member_steps device earlier in
    let n : Member = member_after_all m own in
    let here : member_at (bus_after_all before earlier) device ≡ Some n = states earlier before device m there in (
      n,
      here,
      subst (λ (bus : List Member). RestsIn k device n later bus) (sym (is ∙ all_append earlier later before))
          (rests_in k device n later (bus_after_all before earlier) here
          (rests_by m n snapshot idle (bus_events_of_steps m own) (device_steps device later)
          (became_by_steps device m snapshot idle earlier unpolled) zeros sendable)),
    )

-- ---- where NAK is received

token_halted : (items : List Item) (d : ReportState) (odd : Bool) (view : List ControlState) (halted : Bool) (current : Option OpenRound)
    → (state_at_token items (link d current odd view halted)).halted ≡ halted
token_halted items d odd view halted (Some round) = refl
token_halted items d odd view halted None = by_due (due_where items halted d)
  where
    by_due : (o : Option ℕ) → (with_open_report items (link d None odd view halted) o).halted ≡ halted
    by_due None = refl
    by_due (Some r) = refl

took_nak : (d : ReportState) (odd : Bool) (view : List ControlState) (piece : List ℕ) (halted : Bool) (current : Option OpenRound)
    → took_at_poll (link d current odd view halted) piece ≡ Nak → (halted ≡ false) × (current ≡ None)
took_nak d odd view piece true current h = absurd (cc)
took_nak d odd view piece false None h = (refl, refl)
took_nak d odd view piece false (Some round) h = by_crossed round.crossed h
  where
    by_crossed : (b : Bool) → cond b Again (Fresh (record { items = piece })) ≡ Nak → (false ≡ false) × (Some round ≡ None)
    by_crossed true k = absurd (cc)
    by_crossed false k = absurd (cc)

nak_at_token : (layout : Contents) (s : LinkState) (piece : List ℕ) → took_at_poll (state_at_token (items_of layout) s) piece ≡ Nak
    → AnswersNak (items_of layout) s
nak_at_token layout s piece h =
    let t : LinkState = state_at_token (items_of layout) s in
    let nak : (t.halted ≡ false) × (t.current ≡ None) = took_nak t.reports t.toggle t.view piece t.halted t.current h in
    record {
      halted = sym (token_halted (items_of layout) s.reports s.toggle s.view s.halted s.current) ∙ nak.0;
      none_opens = nak.1;
    }

poll_nak : (layout : Contents) (s : LinkState) (fate : Fate) (told : Told) → PollReturns layout s fate told → ReceivesNak told
    → AnswersNak (items_of layout) s
poll_nak layout s TokenLost told is nak = let wrong : Silent ≡ Nak = subst ReceivesNak is nak in absurd (cc)
poll_nak layout s ReplyLost told is nak = let wrong : Silent ≡ Nak = subst ReceivesNak is nak in absurd (cc)
poll_nak layout s Clean told is nak =
    nak_at_token layout s (piece_shown layout (state_at_token (items_of layout) s)) (subst ReceivesNak is nak)
poll_nak layout s AckLost told is nak =
    nak_at_token layout s (piece_shown layout (state_at_token (items_of layout) s)) (subst ReceivesNak is nak)

eqb_same : (d : ℕ) → eqb d d ≡ true
eqb_same d = grind (arith, nat_tests)

-- such a poll changes neither end
poll_stays : (device : ℕ) (n : Member) (fate : Fate) → HasNothingToSend (items_of n.layout) n.link
    → member_after_all n (member_steps device (Poll device fate ∷ [])) ≡ n
poll_stays device n fate nothing =
    ap (λ (b : Bool). member_after_all n (cons_option (cond b (Some (Scheduled (Polls fate))) None) [])) (eqb_same device)
    ∙ by_polls (polls_it n)
  where
    by_polls : (b : Bool) → record n { link = state_after_event_if (items_of n.layout) n.link (poll_bus_event b fate) } ≡ n
    by_polls false = refl
    by_polls true = ap (λ (s : LinkState). record n { link = s }) (unmoved (items_of n.layout) n.link fate nothing).1

pub agree_where_nak_is_received : (before after : List Member) (steps : List Step) → after ≡ bus_after_all before steps
    → AgreeIfNakIsReceived before steps after
agree_where_nak_is_received before after steps is device m snapshot idle fate told there unpolled returns nak =
    let agree : (n : Member) × (member_at after device ≡ Some n) × AgreesIfSilent n =
    agree_at_nak before after steps is device m snapshot idle there unpolled in
    let n : Member = agree.0 in
    let polled : PollReturns n.layout n.link fate told =
    subst (λ (o : Option Member). elim o as (λ _. Type 0) [ None ↦ ⊥ | Some k ↦ PollReturns k.layout k.link fate told ]) agree.1 returns in
    let nothing : HasNothingToSend (items_of n.layout) n.link =
    nak_says_nothing (items_of n.layout) n.link (poll_nak n.layout n.link fate told polled nak) in (
      n,
      agree.1,
      states (Poll device fate ∷ []) after device n agree.1 ∙ ap (λ (o : Member). Some o) (poll_stays device n fate nothing),
      agree.2 nothing,
    )

-- ---- from an attach on

pub starts_unpolled : (start : Start) (dev : ℕ) (config : Config) (descriptor : List ℕ) (layout : Contents) → CanAttach dev config descriptor layout
    → StartsUnpolled (member_at_start start dev config descriptor layout)
starts_unpolled start dev config descriptor layout suits = by_start start
  where
    items : List Item
    items = items_of layout

    idle : List ℕ
    idle = replicate (input_count layout.reports) 0

    fits : FitsSnapshot items (blank items)
    fits = blank_fits layout (laid_by descriptor layout suits.serves.lays)

    long : length idle ≡ input_count layout.reports
    long = length-replicate (input_count layout.reports) 0

    by_start : (s : Start) → StartsUnpolled (member_at_start s dev config descriptor layout)
    by_start starts.Ready = record {
      unpolled = record { link = refl; lays = suits.serves.lays; fits = fits; each = long };
      zeros = suits.serves.zeros;
      sendable = blank_sendable items;
    }
    by_start starts.Cold = record {
      unpolled = record {
        link = ap (λ (k : ℕ). record (initial_link items (blank items) idle) {
          reports = record (initial_reports items (blank items) idle) { frames = replicate k 0; aborted = replicate k false };
        }) (sym long);
        lays = suits.serves.lays;
        fits = fits;
        each = long;
      };
      zeros = suits.serves.zeros;
      sendable = blank_sendable items;
    }

-- a device, as these actions left one that started unpolled
record Lived (n : Member) : Type 0 where
  start : Member
  acts : List DeviceAction
  starts : StartsUnpolled start
  is : n ≡ member_after_actions start acts

abbrev AllLived : List Member → Type 0
AllLived members = (dev : ℕ) (n : Member) → member_at members dev ≡ Some n → Lived n

one_more : (acts : List DeviceAction) (act : DeviceAction) (m : Member)
    → member_after_actions m (acts ++ act ∷ []) ≡ member_after_action (member_after_actions m acts) act
one_more [] act m = refl
one_more (first ∷ acts) act m = one_more acts act (member_after_action m first)

lived_more : (n : Member) (act : Option DeviceAction) → Lived n → Lived (after_own_act n act)
lived_more n None lived = lived
lived_more n (Some act) lived = record {
  start = lived.start;
  acts = lived.acts ++ act ∷ [];
  starts = lived.starts;
  is = ap (λ (m : Member). member_after_action m act) lived.is ∙ sym (one_more lived.acts act lived.start);
}

-- the numbers of the devices stay

got_layout : (members : List Member) (i : ℕ) → option_map layout_of_member (slice_get members i) ≡ slice_get (layouts members) i
got_layout [] i = refl
got_layout (m ∷ members) zero = refl
got_layout (m ∷ members) (suc i) = got_layout members i

member_layout : (members : List Member) (dev : ℕ)
    → option_map layout_of_member (member_at members dev) ≡ cond (eqb dev 0) None (slice_get (layouts members) (dev - 1))
member_layout members dev = by_number (eqb dev 0)
  where
    by_number : (b : Bool) → option_map layout_of_member (cond b None (slice_get members (dev - 1))) ≡ cond b None (slice_get (layouts members) (dev - 1))
    by_number true = refl
    by_number false = got_layout members (dev - 1)

-- a device that is there afterwards was there before
was_there : (members after : List Member) (dev : ℕ) (n : Member) → layouts after ≡ layouts members → member_at after dev ≡ Some n
    → (k : Member) × (member_at members dev ≡ Some k)
was_there members after dev n same there = by_member (member_at members dev) refl
  where
    by_member : (o : Option Member) → member_at members dev ≡ o → (k : Member) × (member_at members dev ≡ Some k)
    by_member (Some k) e = (k, e)
    by_member None e =
        let wrong : Some n.layout ≡ None =
        ap (option_map layout_of_member) (sym there) ∙ member_layout after dev
        ∙ ap (λ (ls : List Contents). cond (eqb dev 0) None (slice_get ls (dev - 1))) same
        ∙ sym (member_layout members dev) ∙ ap (option_map layout_of_member) e in absurd (cc)

last_got : (members : List Member) (i : ℕ) (m n : Member) → slice_get members i ≡ None → slice_get (members ++ m ∷ []) i ≡ Some n → n ≡ m
last_got [] zero m n none there = let same : Some m ≡ Some n = there in cc
last_got [] (suc i) m n none there = let wrong : None ≡ Some n = there in absurd (cc)
last_got (x ∷ members) zero m n none there = let wrong : Some x ≡ None = none in absurd (cc)
last_got (x ∷ members) (suc i) m n none there = last_got members i m n none there

last_there : (members : List Member) (dev : ℕ) (m n : Member) → member_at members dev ≡ None → member_at (members ++ m ∷ []) dev ≡ Some n → n ≡ m
last_there members dev m n = by_number (eqb dev 0)
  where
    by_number : (b : Bool) → cond b None (slice_get members (dev - 1)) ≡ None → cond b None (slice_get (members ++ m ∷ []) (dev - 1)) ≡ Some n → n ≡ m
    by_number true none there = absurd (cc)
    by_number false none there = last_got members (dev - 1) m n none there

-- each action leaves each device so

same_member : (n k : Member) → Some n ≡ Some k → n ≡ k
same_member n k e = cc

lived_attached : (members : List Member) (m : Member) → StartsUnpolled m → AllLived members → AllLived (members ++ m ∷ [])
lived_attached members m starts all dev n there = by_member (member_at members dev) refl
  where
    by_member : (o : Option Member) → member_at members dev ≡ o → Lived n
    by_member None e = record { start = m; acts = []; starts = starts; is = last_there members dev m n e there }
    by_member (Some k) e =
        subst Lived (same_member k n (sym (stands_still members (m ∷ []) dev k e) ∙ there)) (all dev k e)

lived_taken : (members : List Member) (x : Step) → AllLived members → AllLived (bus_after members x)
lived_taken members x all dev n there =
    let before = was_there members (bus_after members x) dev n (bus_layouts members x) there in
    let after : member_at (bus_after members x) dev ≡ Some (after_own_act before.0 (device_action dev (Taken x))) =
    step_state dev members before.0 x before.1 ∙ ap (λ (t : Member). Some t) (taken_state before.0 (member_step dev x)) in
    subst Lived (same_member (after_own_act before.0 (device_action dev (Taken x))) n (sym after ∙ there))
    (lived_more before.0 (device_action dev (Taken x)) (all dev before.0 before.1))

unconcluded_layouts : (members : List Member) (d : ℕ) (fate : Fate) → layouts (bus_after_try_out_of_memory members d fate) ≡ layouts members
unconcluded_layouts members d fate = by_member (member_at members d) refl
  where
    by_number : (b : Bool) (m : Member) → cond b None (slice_get members (d - 1)) ≡ Some m → m.layout ≡ (get_or members (d - 1) m).layout
    by_number true m h = absurd (cc)
    by_number false m h = ap layout_of_member (sym (get_or_from_slice_get members (d - 1) m m h))

    by_member : (o : Option Member) → member_at members d ≡ o
        → layouts (elim o as (λ _. List Member) [ None ↦ members | Some m ↦ with_member members d (member_out_of_memory fate m (running m.transfer)) ])
        ≡ layouts members
    by_member None e = refl
    by_member (Some m) e =
        map-set_same layout_of_member members (d - 1) (member_out_of_memory fate m (running m.transfer)) m
        (unconcluded_layout fate m (running m.transfer) ∙ by_number (eqb d 0) m e)

lived_unconcluded : (members : List Member) (d : ℕ) (fate : Fate) → AllLived members → AllLived (bus_after_try_out_of_memory members d fate)
lived_unconcluded members d fate all dev n there =
    let before = was_there members (bus_after_try_out_of_memory members d fate) dev n (unconcluded_layouts members d fate) there in
    let after : member_at (bus_after_try_out_of_memory members d fate) dev ≡ Some (after_own_act before.0 (device_action dev (Unconcluded d fate))) =
    unconcluded_state d dev members before.0 fate before.1 in
    subst Lived (same_member (after_own_act before.0 (device_action dev (Unconcluded d fate))) n (sym after ∙ there))
    (lived_more before.0 (device_action dev (Unconcluded d fate)) (all dev before.0 before.1))

all_lived : (acts : List Action) (members : List Member) → AllStartUnpolled acts → AllLived members → AllLived (bus_after_actions members acts)
all_lived [] members starts all = all
all_lived (Attached m ∷ acts) members starts all = all_lived acts (members ++ m ∷ []) starts.1 (lived_attached members m starts.0 all)
all_lived (Taken x ∷ acts) members starts all = all_lived acts (bus_after members x) starts (lived_taken members x all)
all_lived (Unconcluded d fate ∷ acts) members starts all =
    all_lived acts (bus_after_try_out_of_memory members d fate) starts (lived_unconcluded members d fate all)

none_there : (dev : ℕ) (n : Member) → member_at [] dev ≡ Some n → Lived n
none_there dev n = by_number (eqb dev 0)
  where
    by_number : (b : Bool) → cond b None (slice_get [] (dev - 1)) ≡ Some n → Lived n
    by_number true there = absurd (cc)
    by_number false there = absurd (cc)

became_lived : (n : Member) (lived : Lived n)
    → Became lived.start n (blank (items_of lived.start.layout)) (replicate (input_count lived.start.layout.reports) 0)
    (bus_events_of_actions lived.start lived.acts)
became_lived n lived = record {
  unpolled = lived.starts.unpolled;
  layout = ap (λ (m : Member). m.layout) lived.is ∙ actions_layout lived.acts lived.start;
  link = ap (λ (m : Member). m.link) lived.is ∙ actions_links lived.acts lived.start;
  sets = acts_set (length lived.start.link.reports.idle) lived.acts lived.start refl;
}

pub agree_from_attach : (acts : List Action) → AgreeFromAttach acts
agree_from_attach acts starts dev n there =
    let lived : Lived n = all_lived acts [] starts none_there dev n there in
    agrees_by lived.start n (blank (items_of lived.start.layout)) (replicate (input_count lived.start.layout.reports) 0)
    (bus_events_of_actions lived.start lived.acts) (became_lived n lived)

-- a device that was attached rests after any own steps from here on, if enough of its polls lose nothing
pub attached_rests_by : (acts : List Action) → AllStartUnpolled acts → (dev : ℕ) (n : Member) (xs : List OwnStep)
    → member_at (bus_after_actions [] acts) dev ≡ Some n → RestsBy (items_of n.layout) n.link xs
attached_rests_by acts starts dev n xs there =
    let lived : Lived n = all_lived acts [] starts none_there dev n there in
    rests_by lived.start n (blank (items_of lived.start.layout)) (replicate (input_count lived.start.layout.reports) 0)
    (bus_events_of_actions lived.start lived.acts) xs (became_lived n lived) lived.starts.zeros lived.starts.sendable

pub rest_from_attach : (k : ℕ) (acts : List Action) (later : List Step) → RestFromAttach k acts later
rest_from_attach k acts later starts dev n there =
    rests_in k dev n later (bus_after_actions [] acts) there (attached_rests_by acts starts dev n (device_steps dev later) there)
