-- What the steps of one device make of it and its host.
use Rattle.std.proofs.Common.{ℕ, ◌≡◌, ◌++◌, ◌∙◌, List, [], ◌∷◌, Bool, true, false, Option, Some, None, map, refl, sym, ap, subst}
use Rattle.std.specs.Prelude.{if◌then◌else◌}
use Rattle.std.specs.List.{cons_option}
use Rattle.hid_layout.specs.Controls.{Item, items_of}
use Rattle.usb_transact.specs.declared.transaction.Fate.{Fate}
use Rattle.usb_transact.specs.declared.transaction.Fate.TheVariants.{Clean, TokenLost, ReplyLost, AckLost}
use Rattle.usb_control.specs.TryFunctions.{effect_reached}
use Rattle.usb_control.specs.Device.{Answers, Applies, Decides, DevControlState, Effect}
use Rattle.usb_control.specs.Host.{HostTransferState}
use Rattle.hid_requests.specs.declared.request.Request.{Request}
use Rattle.hid_bus.specs.DeviceHistory.{BusEvent, Own, Idles, Configures, state_after, state_after_all, steps_as_events, events_of_history}
use Rattle.hid_bus.specs.DeviceHistory as bus
use Rattle.hid_bus.specs.Motion.{AreBetweenRounds}
use Rattle.hid_bus.specs.Rounds.{OwnStep, Changes, Frame, Polls}
use Rattle.hid_bus.specs.LinkState.{LinkState, state_after_steps}
use Rattle.hid_host.specs.declared.fault.StackFault.{StackFault}
use Rattle.hid_host.specs.declared.host.Transfer.{Transfer}
use Rattle.hid_host.specs.Host.{request_aborts_round, running}
use Rattle.hid_stack.specs.Members.{Member, MemberStep, Scheduled, Begins, Controls, Halts, Resets, state_after_event_if, begin_refusal_at, member_after_begin, try_bus_event_of, bus_event_of_step, bus_events_of_steps, effect_bus_event, events_of_event_if, halt_bus_event_of, member_after_halt, member_after, member_after_all, polls_it, step_bus_event, try_bus_event, member_after_try, member_after_try_in, out_of_memory_bus_event, member_out_of_memory, write_bus_event}
use Rattle.hid_layout.specs.Layout.{Contents}
use Rattle.hid_device.specs.declared.config.Config.{Config}
use Rattle.hid_device.specs.declared.decisions.PendingWrite.{PendingWrite}
use Rattle.hid_device.specs.declared.decisions.PendingWrite.TheVariants as pendings
use Rattle.hid_device.specs.Core.{CoreState}
use Rattle.hid_device.specs.RequestTable.{core_table}
use Rattle.hid_stack.specs.Laws.{HasSameOrigin}
use Rattle.hid_stack.specs.Sums.{AbortsNone, IsBetween}

-- ---- what stays, and how the link state stands

-- what a device was made with
abbrev Made : Type 0
Made = ℕ × Config × List ℕ × Contents

abbrev made_of : Member → Made
made_of m = (m.addr, m.config, m.descriptor, m.layout)

begun_made : (o : Option StackFault) (m : Member) (request : Request)
    → made_of (member_after_begin o m request) ≡ made_of m
begun_made (Some fault) m request = refl
begun_made None m request = refl

tried_made : (fate : Fate) (m : Member) (o : Option Transfer) → made_of (member_after_try fate m o) ≡ made_of m
tried_made fate m None = refl
tried_made fate m (Some t) = refl

halted_made : (b : Bool) (m : Member) → made_of (member_after_halt b m) ≡ made_of m
halted_made true m = refl
halted_made false m = refl

made_stays : (m : Member) (x : MemberStep) → made_of (member_after m x) ≡ made_of m
made_stays m (Scheduled x) = refl
made_stays m (Begins request) = begun_made (begin_refusal_at m request) m request
made_stays m (Controls fate) = tried_made fate m (running m.transfer)
made_stays m Halts = halted_made m.endpoint.is_configured m
made_stays m Resets = refl

made_stays_all : (xs : List MemberStep) (m : Member) → made_of (member_after_all m xs) ≡ made_of m
made_stays_all [] m = refl
made_stays_all (x ∷ xs) m = made_stays_all xs (member_after m x) ∙ made_stays m x

pub stays_as_made : (m : Member) (steps : List MemberStep) → HasSameOrigin m (member_after_all m steps)
stays_as_made m steps =
    let same = made_stays_all steps m in
    record {
      addr = ap (λ (p : Made). p.0) same;
      config = ap (λ (p : Made). p.1) same;
      descriptor = ap (λ (p : Made). p.2) same;
      layout = ap (λ (p : Made). p.3) same;
    }

pub layout_stays : (m : Member) (x : MemberStep) → (member_after m x).layout ≡ m.layout
layout_stays m x = ap (λ (p : Made). p.3) (made_stays m x)

begun_link : (o : Option StackFault) (m : Member) (request : Request) → (member_after_begin o m request).link ≡ m.link
begun_link (Some fault) m request = refl
begun_link None m request = refl

tried_link : (fate : Fate) (m : Member) (o : Option Transfer)
    → (member_after_try fate m o).link ≡ state_after_event_if (items_of m.layout) m.link (try_bus_event fate m o)
tried_link fate m None = refl
tried_link fate m (Some t) = refl

halted_link : (b : Bool) (m : Member)
    → (member_after_halt b m).link ≡ state_after_event_if (items_of m.layout) m.link (halt_bus_event_of b)
halted_link true m = refl
halted_link false m = refl

pub link_is : (m : Member) (x : MemberStep)
    → (member_after m x).link ≡ state_after_event_if (items_of m.layout) m.link (bus_event_of_step m x)
link_is m (Scheduled x) = refl
link_is m (Begins request) = begun_link (begin_refusal_at m request) m request
link_is m (Controls fate) = tried_link fate m (running m.transfer)
link_is m Halts = halted_link m.endpoint.is_configured m
link_is m Resets = refl

-- a try that isn't concluded leaves both as one that is, or nothing was tried
pub unconcluded_layout : (fate : Fate) (m : Member) (o : Option Transfer)
    → (member_out_of_memory fate m o).layout ≡ m.layout
unconcluded_layout fate m None = refl
unconcluded_layout fate m (Some t) = by_request (request_aborts_round t.request)
  where
    by_request : (b : Bool) → (if b then m else member_after_try_in fate m t m.host).layout ≡ m.layout
    by_request true = refl
    by_request false = refl

pub unconcluded_link : (fate : Fate) (m : Member) (o : Option Transfer)
    → (member_out_of_memory fate m o).link
    ≡ state_after_event_if (items_of m.layout) m.link (out_of_memory_bus_event fate m o)
unconcluded_link fate m None = refl
unconcluded_link fate m (Some t) = by_request (request_aborts_round t.request)
  where
    by_request : (b : Bool)
        → (if b then m else member_after_try_in fate m t m.host).link
        ≡ state_after_event_if (items_of m.layout) m.link (if b then None else try_bus_event fate m (Some t))
    by_request true = refl
    by_request false = refl

-- what a try brings about is no step of the schedule, and no reset
abbrev pub IsEffect : Option BusEvent → Type 0
IsEffect (Some (Own x)) = ⊥
IsEffect (Some bus.Resets) = ⊥
IsEffect _ = Unit {0}

written_effect : (core : CoreState) (pending : PendingWrite) → IsEffect (write_bus_event core pending)
written_effect core pendings.Nothing = tt
written_effect core pendings.Configure = tt
written_effect core (pendings.Keep i) = tt
written_effect core (pendings.Idle report time) = tt
written_effect core (pendings.Protocol protocol) = tt
written_effect core pendings.Halt = tt
written_effect core pendings.Clear = tt

is_effect : (effect : Effect) (core : CoreState) → IsEffect (effect_bus_event effect core)
is_effect (Answers answer stage last_packet) core = tt
is_effect (Decides bytes) core = tt
is_effect (Applies bytes) core = written_effect core core.pending

pub brings_effect : (fate : Fate) (ends : HostTransferState) (control : DevControlState CoreState)
    → IsEffect (try_bus_event_of fate ends control)
brings_effect TokenLost ends control = tt
brings_effect Clean ends control = is_effect (effect_reached core_table ends control) control.requests
brings_effect ReplyLost ends control = is_effect (effect_reached core_table ends control) control.requests
brings_effect AckLost ends control = is_effect (effect_reached core_table ends control) control.requests

-- so it delivers nothing where it cuts no round
pub quiet_effect : (items : List Item) (s : LinkState) (o : Option BusEvent) → IsEffect o → AbortsNone o
    → events_of_event_if items s o ≡ []
quiet_effect items s None is none = refl
quiet_effect items s (Some (Own x)) is none = absurd is
quiet_effect items s (Some (Idles idle)) is none = refl
quiet_effect items s (Some Configures) is none = refl
quiet_effect items s (Some bus.Halts) is none = absurd none
quiet_effect items s (Some bus.Clears) is none = absurd none
quiet_effect items s (Some bus.Resets) is none = absurd is

-- ---- lists of steps

pub state_after_more : (items : List Item) (s : LinkState) (o : Option BusEvent) (bus_events : List BusEvent)
    → state_after_all items (state_after_event_if items s o) bus_events
    ≡ state_after_all items s (cons_option o bus_events)
state_after_more items s None bus_events = refl
state_after_more items s (Some bus_event) bus_events = refl

pub told_more : (items : List Item) (s : LinkState) (o : Option BusEvent) (bus_events : List BusEvent)
    → events_of_event_if items s o ++ events_of_history items (state_after_event_if items s o) bus_events
    ≡ events_of_history items s (cons_option o bus_events)
told_more items s None bus_events = refl
told_more items s (Some bus_event) bus_events = refl

pub links : (xs : List MemberStep) (m : Member)
    → (member_after_all m xs).link ≡ state_after_all (items_of m.layout) m.link (bus_events_of_steps m xs)
links [] m = refl
links (x ∷ xs) m =
    let next = member_after m x in
    links xs next ∙ ap (λ l. state_after_all (items_of l) next.link (bus_events_of_steps next xs)) (layout_stays m x)
    ∙ ap (λ (s : LinkState). state_after_all (items_of m.layout) s (bus_events_of_steps next xs)) (link_is m x)
    ∙ state_after_more (items_of m.layout) m.link (bus_event_of_step m x) (bus_events_of_steps next xs)

pub layouts_stay : (xs : List MemberStep) (m : Member) → (member_after_all m xs).layout ≡ m.layout
layouts_stay xs m = ap (λ (p : Made). p.3) (made_stays_all xs m)

-- what a step tells, and those after it
pub told_on : (m : Member) (x : MemberStep) (xs : List MemberStep)
    → events_of_event_if (items_of m.layout) m.link (bus_event_of_step m x)
    ++ events_of_history (items_of m.layout) (member_after m x).link (bus_events_of_steps (member_after m x) xs)
    ≡ events_of_history (items_of m.layout) m.link (bus_events_of_steps m (x ∷ xs))
told_on m x xs =
    ap (λ (s : LinkState). events_of_event_if (items_of m.layout) m.link (bus_event_of_step m x)
    ++ events_of_history (items_of m.layout) s (bus_events_of_steps (member_after m x) xs)) (link_is m x)
    ∙ told_more (items_of m.layout) m.link (bus_event_of_step m x) (bus_events_of_steps (member_after m x) xs)

-- ---- a device that is polled, by its schedule alone

abbrev scheduled : List OwnStep → List MemberStep
scheduled steps = map (λ x. Scheduled x) steps

ready_bus_event : (polls : Bool) (x : OwnStep) → polls ≡ true → step_bus_event polls x ≡ Some (Own x)
ready_bus_event polls (Changes change) ready = refl
ready_bus_event polls Frame ready = refl
ready_bus_event polls (Polls fate) ready = ap (λ (b : Bool). step_bus_event b (Polls fate)) ready

ready_after_step : (m : Member) (x : OwnStep) → polls_it m ≡ true
    → member_after m (Scheduled x) ≡ record m { link = state_after (items_of m.layout) m.link (Own x) }
ready_after_step m x ready =
    ap (λ (o : Option BusEvent). record m { link = state_after_event_if (items_of m.layout) m.link o })
    (ready_bus_event (polls_it m) x ready)

pub ready_bus_events : (xs : List OwnStep) (m : Member) → polls_it m ≡ true
    → bus_events_of_steps m (scheduled xs) ≡ steps_as_events xs
ready_bus_events [] m ready = refl
ready_bus_events (x ∷ xs) m ready =
    ap (λ (o : Option BusEvent). cons_option o (bus_events_of_steps (member_after m (Scheduled x)) (scheduled xs)))
    (ready_bus_event (polls_it m) x ready)
    ∙ ap (λ (ds : List BusEvent). Own x ∷ ds) (ready_bus_events xs (member_after m (Scheduled x)) ready)

pub ready_stands : (xs : List OwnStep) (m : Member) → polls_it m ≡ true
    → member_after_all m (scheduled xs) ≡ record m { link = state_after_steps (items_of m.layout) m.link xs }
ready_stands [] m ready = refl
ready_stands (x ∷ xs) m ready =
    ap (λ (n : Member). member_after_all n (scheduled xs)) (ready_after_step m x ready)
    ∙ ready_stands xs (record m { link = state_after (items_of m.layout) m.link (Own x) }) ready

-- ---- between rounds

pub between_one : (m : Member) (x : MemberStep) → IsBetween m.link (bus_event_of_step m x)
    → AreBetweenRounds (items_of m.layout) m.link (bus_events_of_steps m (x ∷ []))
between_one m x between = by_bus_event (bus_event_of_step m x) between
  where
    by_bus_event : (o : Option BusEvent) → IsBetween m.link o
        → AreBetweenRounds (items_of m.layout) m.link (cons_option o [])
    by_bus_event None h = tt
    by_bus_event (Some bus_event) h = (h, tt)

between_by : (items : List Item) (ds es : List BusEvent) (s : LinkState) → AreBetweenRounds items s ds
    → AreBetweenRounds items (state_after_all items s ds) es → AreBetweenRounds items s (ds ++ es)
between_by items [] es s h k = k
between_by items (d ∷ ds) es s h k = (h.0, between_by items ds es (state_after items s d) h.1 k)

bus_events_append : (xs ys : List MemberStep) (m : Member)
    → bus_events_of_steps m (xs ++ ys) ≡ bus_events_of_steps m xs ++ bus_events_of_steps (member_after_all m xs) ys
bus_events_append [] ys m = refl
bus_events_append (x ∷ xs) ys m =
    ap (cons_option (bus_event_of_step m x)) (bus_events_append xs ys (member_after m x))
    ∙ by_bus_event (bus_event_of_step m x) (bus_events_of_steps (member_after m x) xs)
    (bus_events_of_steps (member_after_all (member_after m x) xs) ys)
  where
    by_bus_event : (o : Option BusEvent) (ds es : List BusEvent) → cons_option o (ds ++ es) ≡ cons_option o ds ++ es
    by_bus_event None ds es = refl
    by_bus_event (Some bus_event) ds es = refl

pub between_append : (xs ys : List MemberStep) (m : Member)
    → AreBetweenRounds (items_of m.layout) m.link (bus_events_of_steps m xs)
    → AreBetweenRounds (items_of (member_after_all m xs).layout) (member_after_all m xs).link
    (bus_events_of_steps (member_after_all m xs) ys)
    → AreBetweenRounds (items_of m.layout) m.link (bus_events_of_steps m (xs ++ ys))
between_append xs ys m first later =
    let n = member_after_all m xs in
    let here =
    subst (λ l. AreBetweenRounds (items_of l) n.link (bus_events_of_steps n ys)) (layouts_stay xs m) later in
    let there =
    subst (λ (s : LinkState). AreBetweenRounds (items_of m.layout) s (bus_events_of_steps n ys))
    (links xs m) here in
    subst (AreBetweenRounds (items_of m.layout) m.link) (sym (bus_events_append xs ys m))
    (between_by (items_of m.layout) (bus_events_of_steps m xs) (bus_events_of_steps n ys) m.link first there)
