-- Each device of a bus by itself, and one more step of a run.
use Rattle.std.proofs.Common.{◌≡◌, ◌++◌, ℕ, suc, ◌+◌, ◌-◌, ◌<◌, Bool, true, false, List, [], ◌∷◌, Option, Some, None, length, cond, get_or, not, take, map, eqb, refl, sym, ap, ◌∙◌, subst, inl, inr, ◌⊎◌, arith, append_assoc, append-nil}
use Rattle.std.specs.Prelude.{slice_get}
use Rattle.std.specs.List.{cons_option}
use Rattle.std.specs.Option.{option_map}
use Rattle.std.proofs.lemmas.List.{take_more}
use Rattle.std.proofs.lemmas.Option.{slice_get-map, slice_get_within}
use Rattle.std.proofs.lemmas.Bool.Decides.{nat_tests}
use Rattle.std.proofs.lemmas.Bool.{cases_Bool}
use Rattle.hid_layout.specs.Controls.{items_of}
use Rattle.hid_layout.specs.Layout.{Contents}
use Rattle.hid_snapshots.specs.declared.event.Event.{Event}
use Rattle.hid_snapshots.proofs.ItemLemmas.{set_here, set_there}
use Rattle.hid_bus.specs.Rounds.{OwnStep, Changes, Polls}
use Rattle.hid_bus.specs.Rounds as own_steps
use Rattle.hid_bus.specs.HistoryState.{FollowsHistory, history_from}
use Rattle.hid_bus.specs.DeviceHistory.{events_of_history, history_after_all, outcomes_of_events}
use Rattle.hid_bus.specs.LinkState.{LinkState, events_of_steps, state_after_steps}
use Rattle.hid_host.specs.declared.phase.HostState.{HostState}
use Rattle.hid_host.specs.declared.phase.HostState.TheVariants.{Ready}
use Rattle.hid_host.specs.Phase.{may_poll}
use Rattle.hid_bus.specs.declared.step.Step.{Step}
use Rattle.hid_bus.specs.declared.step.Step.TheVariants.{Change, Frame, Poll, Begin, Control, Halt, Reset}
use Rattle.hid_bus.specs.declared.step.Delivered.{Delivered}
use Rattle.hid_bus.specs.Delivered.{from_device}
use Rattle.hid_bus.proofs.DeliveredLemmas.{from_append}
use Rattle.hid_stack.specs.Members.{Member, MemberStep, Scheduled, Begins, Controls, Halts, Resets, bus_event_of_step, bus_events_of_steps, events_of_event_if, member_after, member_after_all}
use Rattle.hid_stack.specs.Rig.{HasOnlySchedule, member_at, with_member, bus_after_member_step, bus_after, with_device_number, member_deliveries, deliveries_of_step, bus_after_all, deliveries_of_steps, is_scheduled, member_step, member_steps, own_step, device_steps, IsIsolated}
use Rattle.hid_stack.specs.Headline.{DeliversChanges, DevicesFollowHistories, KeepsToRounds}
use Rattle.hid_bus.proofs.HistoryEventLemmas.{history_goes_on}
use Rattle.hid_bus.proofs.ScheduleLemmas.{delivers_epoch, own_told as own_told_in, stands_by_rounds}
use Rattle.hid_stack.proofs.MemberLemmas.{layout_stays, links, ready_bus_events, ready_stands, told_on}

same_places : (d e : ℕ) → eqb d 0 ≡ false → eqb e 0 ≡ false → d - 1 ≡ e - 1 → d ≡ e
same_places d e some_d some_e same = grind (arith, nat_tests)

-- a device's number is not 0
pub no_zero : (members : List Member) (dev : ℕ) (m : Member) → member_at members dev ≡ Some m → eqb dev 0 ≡ false
no_zero members dev m h = elim (cases_Bool (eqb dev 0)) [
  | inl z ↦ let none : None ≡ Some m = sym (ap (λ (b : Bool). cond b None (slice_get members (dev - 1))) z) ∙ h in cc
  | inr some ↦ some
]

pub at_place : (members : List Member) (dev : ℕ) → eqb dev 0 ≡ false → member_at members dev ≡ slice_get members (dev - 1)
at_place members dev some = ap (λ (b : Bool). cond b None (slice_get members (dev - 1))) some

pub with_same : (members : List Member) (dev : ℕ) (m n : Member) → member_at members dev ≡ Some m → member_at (with_member members dev n) dev ≡ Some n
with_same members dev m n h =
    let some = no_zero members dev m h in
    at_place (with_member members dev n) dev some ∙ set_here members (dev - 1) n (slice_get_within members (dev - 1) m (sym (at_place members dev some) ∙ h))

pub with_other : (members : List Member) (d dev : ℕ) (m k n : Member) → (d ≡ dev → ⊥) → member_at members d ≡ Some k → member_at members dev ≡ Some m → member_at (with_member members d n) dev ≡ Some m
with_other members d dev m k n ne g h =
    let some = no_zero members dev m h in
    let some_d = no_zero members d k g in
    let apart : d - 1 ≡ dev - 1 → ⊥ = λ e. ne (same_places d dev some_d some e) in
    at_place (with_member members d n) dev some ∙ set_there members (d - 1) (dev - 1) n apart ∙ sym (at_place members dev some) ∙ h

-- one step of the bus, at one device
abbrev pub after_own : Member → Option MemberStep → Member
after_own m None = m
after_own m (Some x) = member_after m x

abbrev pub own_events : Member → Option MemberStep → List Event
own_events m None = []
own_events m (Some x) = events_of_event_if (items_of m.layout) m.link (bus_event_of_step m x)

pub same_or_not : (d device : ℕ) → ((d ≡ device) × (eqb d device ≡ true)) ⊎ ((d ≡ device → ⊥) × (eqb d device ≡ false))
same_or_not d device = grind (arith, nat_tests)

state_same : (device : ℕ) (members : List Member) (m : Member) (y : MemberStep) → member_at members device ≡ Some m → member_at (bus_after_member_step members device y) device ≡ Some (member_after m y)
state_same device members m y h =
    ap (λ (o : Option Member). member_at (elim o as (λ _. List Member) [ None ↦ members | Some t ↦ with_member members device (member_after t y) ]) device) h
    ∙ with_same members device m (member_after m y) h

state_other : (d device : ℕ) (members : List Member) (m : Member) (y : MemberStep) → (d ≡ device → ⊥) → member_at members device ≡ Some m → member_at (bus_after_member_step members d y) device ≡ Some m
state_other d device members m y ne h =
    elim (member_at members d) as (λ (o : Option Member). member_at members d ≡ o → member_at (elim o as (λ _. List Member) [ None ↦ members | Some t ↦ with_member members d (member_after t y) ]) device ≡ Some m)
    [ None ↦ λ g. h | Some t ↦ λ g. with_other members d device m t (member_after t y) ne g h ] refl

-- a step that names a device
abbrev if_own : ℕ → ℕ → MemberStep → Option MemberStep
if_own d device y = cond (eqb d device) (Some y) None

one_state : (d device : ℕ) (members : List Member) (m : Member) (y : MemberStep) → member_at members device ≡ Some m → member_at (bus_after_member_step members d y) device ≡ Some (after_own m (if_own d device y))
one_state d device members m y h = elim (same_or_not d device) [
  | inl same ↦
      let hit : eqb device device ≡ true = subst (λ (n : ℕ). eqb n device ≡ true) same.0 same.1 in
      subst (λ (n : ℕ). member_at (bus_after_member_step members n y) device ≡ Some (after_own m (if_own n device y))) (sym same.0)
      (state_same device members m y h ∙ sym (ap (λ (b : Bool). Some (after_own m (cond b (Some y) None))) hit))
  | inr other ↦ state_other d device members m y other.0 h ∙ sym (ap (λ (b : Bool). Some (after_own m (cond b (Some y) None))) other.1)
]

member_at-map : (f : Member → Member) (members : List Member) (device : ℕ) (m : Member) → member_at members device ≡ Some m → member_at (map f members) device ≡ Some (f m)
member_at-map f members device m h =
    let some = no_zero members device m h in
    at_place (map f members) device some ∙ slice_get-map f members (device - 1) ∙ ap (option_map f) (sym (at_place members device some) ∙ h)

pub step_state : (device : ℕ) (members : List Member) (m : Member) (x : Step) → member_at members device ≡ Some m → member_at (bus_after members x) device ≡ Some (after_own m (member_step device x))
step_state device members m (Change d change) h = one_state d device members m (Scheduled (Changes change)) h
step_state device members m Frame h = member_at-map (λ (n : Member). member_after n (Scheduled own_steps.Frame)) members device m h
step_state device members m (Poll d fate) h = one_state d device members m (Scheduled (Polls fate)) h
step_state device members m (Begin d request) h = one_state d device members m (Begins request) h
step_state device members m (Control d fate) h = one_state d device members m (Controls fate) h
step_state device members m (Halt d) h = one_state d device members m Halts h
step_state device members m (Reset d) h = one_state d device members m Resets h

-- what one step delivers of one device
from_tagged_same : (device : ℕ) (es : List Event) → eqb device device ≡ true
    → from_device device (map (with_device_number device) es) ≡ es
from_tagged_same device [] h = refl
from_tagged_same device (e ∷ es) h = rw h (ap (λ (es : List Event). e ∷ es) (from_tagged_same device es h))

pub from_tagged_other : (d device : ℕ) (es : List Event) → eqb d device ≡ false
    → from_device device (map (with_device_number d) es) ≡ []
from_tagged_other d device [] h = refl
from_tagged_other d device (e ∷ es) h = rw h (from_tagged_other d device es h)

events_same : (device : ℕ) (members : List Member) (m : Member) (y : MemberStep) → eqb device device ≡ true
    → member_at members device ≡ Some m
    → from_device device (member_deliveries members device y)
    ≡ events_of_event_if (items_of m.layout) m.link (bus_event_of_step m y)
events_same device members m y hit h =
    ap (λ (o : Option Member). from_device device
    (elim o as
    (λ _. List Delivered) [
      | None ↦ []
      | Some t ↦
          map (with_device_number device) (events_of_event_if (items_of t.layout) t.link (bus_event_of_step t y))
    ])) h
    ∙ from_tagged_same device (events_of_event_if (items_of m.layout) m.link (bus_event_of_step m y)) hit

events_other : (d device : ℕ) (members : List Member) (y : MemberStep) → eqb d device ≡ false
    → from_device device (member_deliveries members d y) ≡ []
events_other d device members y miss =
    elim (member_at members d) as
    (λ (o : Option Member). from_device device
    (elim o as
    (λ _. List Delivered) [
      | None ↦ []
      | Some t ↦
          map (with_device_number d) (events_of_event_if (items_of t.layout) t.link (bus_event_of_step t y))
    ]) ≡ []) [
      | None ↦ refl
      | Some t ↦
          from_tagged_other d device (events_of_event_if (items_of t.layout) t.link (bus_event_of_step t y)) miss
    ]

one_told : (d device : ℕ) (members : List Member) (m : Member) (y : MemberStep) → member_at members device ≡ Some m
    → from_device device (member_deliveries members d y) ≡ own_events m (if_own d device y)
one_told d device members m y h = elim (same_or_not d device) [
  | inl same ↦
      let hit : eqb device device ≡ true = subst (λ (n : ℕ). eqb n device ≡ true) same.0 same.1 in
      subst (λ (n : ℕ). from_device device (member_deliveries members n y) ≡ own_events m (if_own n device y))
      (sym same.0)
      (events_same device members m y hit h ∙ sym (ap (λ (b : Bool). own_events m (cond b (Some y) None)) hit))
  | inr other ↦ events_other d device members y other.1 ∙ sym (ap (λ (b : Bool). own_events m (cond b (Some y) None)) other.1)
]

-- what delivers nothing tells nothing, whosever step it is
quiet_own : (m : Member) (d device : ℕ) (y : MemberStep)
    → events_of_event_if (items_of m.layout) m.link (bus_event_of_step m y) ≡ []
    → [] ≡ own_events m (if_own d device y)
quiet_own m d device y quiet = by_number (eqb d device)
  where
    by_number : (b : Bool) → [] ≡ own_events m (cond b (Some y) None)
    by_number true = sym quiet
    by_number false = refl

pub step_events : (device : ℕ) (members : List Member) (m : Member) (x : Step) → member_at members device ≡ Some m
    → from_device device (deliveries_of_step members x) ≡ own_events m (member_step device x)
step_events device members m (Change d change) h = quiet_own m d device (Scheduled (Changes change)) refl
step_events device members m Frame h = refl
step_events device members m (Poll d fate) h = one_told d device members m (Scheduled (Polls fate)) h
step_events device members m (Begin d request) h = quiet_own m d device (Begins request) refl
step_events device members m (Control d fate) h = one_told d device members m (Controls fate) h
step_events device members m (Halt d) h = one_told d device members m Halts h
step_events device members m (Reset d) h = one_told d device members m Resets h

-- one more own step
own_states : (m : Member) (o : Option MemberStep) (steps : List MemberStep) → member_after_all (after_own m o) steps ≡ member_after_all m (cons_option o steps)
own_states m None steps = refl
own_states m (Some x) steps = refl

own_told : (m : Member) (o : Option MemberStep) (steps : List MemberStep)
    → own_events m o
    ++ events_of_history (items_of m.layout) (after_own m o).link (bus_events_of_steps (after_own m o) steps)
    ≡ events_of_history (items_of m.layout) m.link (bus_events_of_steps m (cons_option o steps))
own_told m None steps = refl
own_told m (Some x) steps = told_on m x steps

after_own-layout : (m : Member) (o : Option MemberStep) → (after_own m o).layout ≡ m.layout
after_own-layout m None = refl
after_own-layout m (Some x) = layout_stays m x

-- whole lists
pub states : (steps : List Step) (members : List Member) (device : ℕ) (m : Member) → member_at members device ≡ Some m → member_at (bus_after_all members steps) device ≡ Some (member_after_all m (member_steps device steps))
states [] members device m h = h
states (x ∷ steps) members device m h =
    states steps (bus_after members x) device (after_own m (member_step device x)) (step_state device members m x h)
    ∙ ap (λ (t : Member). Some t) (own_states m (member_step device x) (member_steps device steps))

-- one step, and what is delivered after it
told_later : (x : Step) (rest : List Delivered) (steps : List Step) (members : List Member) (device : ℕ) (m : Member) → member_at members device ≡ Some m
    → (let device_steps =
    after_own m (member_step device x) in from_device device rest
    ≡ events_of_history (items_of device_steps.layout) device_steps.link
    (bus_events_of_steps device_steps (member_steps device steps)))
    → from_device device (deliveries_of_step members x ++ rest)
    ≡ events_of_history (items_of m.layout) m.link (bus_events_of_steps m (member_steps device (x ∷ steps)))
told_later x rest steps members device m h later =
    let device_steps = after_own m (member_step device x) in
    let here =
    ap (λ (l : Contents). events_of_history (items_of l) device_steps.link
    (bus_events_of_steps device_steps (member_steps device steps))) (after_own-layout m (member_step device x)) in
    from_append device (deliveries_of_step members x) rest
    ∙ ap (λ (es : List Event). es ++ from_device device rest) (step_events device members m x h)
    ∙ ap (λ (es : List Event). own_events m (member_step device x) ++ es) (later ∙ here)
    ∙ own_told m (member_step device x) (member_steps device steps)

told : (steps : List Step) (members : List Member) (device : ℕ) (m : Member) → member_at members device ≡ Some m
    → from_device device (deliveries_of_steps members steps)
    ≡ events_of_history (items_of m.layout) m.link (bus_events_of_steps m (member_steps device steps))
told [] members device m h = refl
told (x ∷ steps) members device m h =
    told_later x (deliveries_of_steps (bus_after members x) steps) steps members device m h
    (told steps (bus_after members x) device (after_own m (member_step device x)) (step_state device members m x h))

pub isolated : (members after : List Member) (steps : List Step) (old new : List Delivered)
    → after ≡ bus_after_all members steps → new ≡ old ++ deliveries_of_steps members steps
    → IsIsolated members after steps old new
isolated members after steps old new states_are told_are = record {
  states = λ device m h. ap (λ (ms : List Member). member_at ms device) states_are ∙ states steps members device m h;
  events = λ device m h. ap (from_device device) told_are ∙ from_append device old (deliveries_of_steps members steps)
      ∙ ap (λ (es : List Event). from_device device old ++ es) (told steps members device m h);
}

-- steps of which none is of a transfer of a device are its schedule
only_step : (device : ℕ) (x : Step) → is_scheduled device x ≡ true → member_step device x ≡ option_map (λ y. Scheduled y) (own_step device x)
only_step device (Change d change) h = by_number (eqb d device)
  where
    by_number : (b : Bool) → cond b (Some (Scheduled (Changes change))) None ≡ option_map (λ y. Scheduled y) (cond b (Some (Changes change)) None)
    by_number true = refl
    by_number false = refl
only_step device Frame h = refl
only_step device (Poll d fate) h = by_number (eqb d device)
  where
    by_number : (b : Bool) → cond b (Some (Scheduled (Polls fate))) None ≡ option_map (λ y. Scheduled y) (cond b (Some (Polls fate)) None)
    by_number true = refl
    by_number false = refl
only_step device (Begin d request) h = by_number (eqb d device) h
  where
    by_number : (b : Bool) → not b ≡ true → cond b (Some (Begins request)) None ≡ None
    by_number true k = absurd (cc)
    by_number false k = refl
only_step device (Control d fate) h = by_number (eqb d device) h
  where
    by_number : (b : Bool) → not b ≡ true → cond b (Some (Controls fate)) None ≡ None
    by_number true k = absurd (cc)
    by_number false k = refl
only_step device (Halt d) h = by_number (eqb d device) h
  where
    by_number : (b : Bool) → not b ≡ true → cond b (Some Halts) None ≡ None
    by_number true k = absurd (cc)
    by_number false k = refl
only_step device (Reset d) h = by_number (eqb d device) h
  where
    by_number : (b : Bool) → not b ≡ true → cond b (Some Resets) None ≡ None
    by_number true k = absurd (cc)
    by_number false k = refl

cons_mapped : (o : Option OwnStep) (xs : List OwnStep) → cons_option (option_map (λ y. Scheduled y) o) (map (λ y. Scheduled y) xs) ≡ map (λ y. Scheduled y) (cons_option o xs)
cons_mapped None xs = refl
cons_mapped (Some x) xs = refl

pub only_schedule : (device : ℕ) (steps : List Step) → HasOnlySchedule device steps
    → member_steps device steps ≡ map (λ y. Scheduled y) (device_steps device steps)
only_schedule device [] h = refl
only_schedule device (x ∷ steps) h =
    ap (λ (o : Option MemberStep). cons_option o (member_steps device steps)) (only_step device x (h 0 x (omega arith)))
    ∙ ap (cons_option (option_map (λ y. Scheduled y) (own_step device x))) (only_schedule device steps (λ k d lt. h (suc k) d (omega (arith, lt))))
    ∙ cons_mapped (own_step device x) (device_steps device steps)

-- a device that was just configured is polled
fresh_polls : (m : Member) → m.host ≡ Ready → m.clearing ≡ false → may_poll m.host m.clearing ≡ true
fresh_polls m ready clear = ap (λ (h : HostState). may_poll h m.clearing) ready ∙ ap (may_poll Ready) clear

-- a device that was just configured delivers the events of its epoch
pub headline : (members : List Member) (steps : List Step) (old new : List Delivered)
    → new ≡ old ++ deliveries_of_steps members steps → DeliversChanges members steps old new
headline members steps old new told_are device m snapshot idle h just only =
    let items = items_of m.layout in
    ap (from_device device) told_are ∙ from_append device old (deliveries_of_steps members steps)
    ∙ ap (λ (es : List Event). from_device device old ++ es)
    (told steps members device m h
    ∙ ap (λ (xs : List MemberStep). events_of_history items m.link (bus_events_of_steps m xs))
    (only_schedule device steps only)
    ∙ ap (events_of_history items m.link)
    (ready_bus_events (device_steps device steps) m (fresh_polls m just.host just.clear))
    ∙ own_told_in items (device_steps device steps) m.link
    ∙ ap (λ (s : LinkState). events_of_steps items s (device_steps device steps)) just.link
    ∙ delivers_epoch items snapshot idle (device_steps device steps))

-- each device without an open round stands by the rounds of its own steps
pub keeps_to_rounds : (members after : List Member) (steps : List Step) → after ≡ bus_after_all members steps → KeepsToRounds members steps after
keeps_to_rounds members after steps states_are device m h ready none_open only = (
  state_after_steps (items_of m.layout) m.link (device_steps device steps),
  ap (λ (ms : List Member). member_at ms device) states_are ∙ states steps members device m h
      ∙ ap (λ (xs : List MemberStep). Some (member_after_all m xs)) (only_schedule device steps only)
      ∙ ap (λ (n : Member). Some n) (ready_stands (device_steps device steps) m ready),
  stands_by_rounds (items_of m.layout) m.link (device_steps device steps) none_open,
)

-- each device without an open round goes on as its history says, whatever happens to it
pub devices_live : (members after : List Member) (steps : List Step) (old new : List Delivered)
    → after ≡ bus_after_all members steps → new ≡ old ++ deliveries_of_steps members steps
    → DevicesFollowHistories members steps after old new
devices_live members after steps old new states_are told_are device m h none_open =
    let xs = member_steps device steps in
    let apart = isolated members after steps old new states_are told_are in
    let holds = history_goes_on (items_of m.layout) m.link (bus_events_of_steps m xs) none_open in (
      member_after_all m xs,
      events_of_history (items_of m.layout) m.link (bus_events_of_steps m xs),
      apart.states device m h,
      apart.events device m h,
      subst (λ (s : LinkState). FollowsHistory (items_of m.layout) m.link.view m.link.toggle
          (outcomes_of_events (items_of m.layout) (bus_events_of_steps m xs) (history_from m.link))
          (history_after_all (items_of m.layout) (bus_events_of_steps m xs) (history_from m.link))
          (events_of_history (items_of m.layout) m.link (bus_events_of_steps m xs)) s) (sym (links xs m)) holds,
    )

pub ruleset by_itself = (isolated, headline, keeps_to_rounds, devices_live)

-- one more step of a run: the bus, and what was delivered
after_push : (s : List Member) (steps : List Step) (step : Step) → bus_after_all s (steps ++ step ∷ []) ≡ bus_after (bus_after_all s steps) step
after_push s [] step = refl
after_push s (x ∷ steps) step = after_push (bus_after s x) steps step

delivered_push : (s : List Member) (steps : List Step) (step : Step)
    → deliveries_of_steps s (steps ++ step ∷ []) ≡ deliveries_of_steps s steps
    ++ deliveries_of_step (bus_after_all s steps) step
delivered_push s [] step = append-nil (deliveries_of_step s step)
delivered_push s (x ∷ steps) step =
    rw (delivered_push (bus_after s x) steps step)
    (sym (append_assoc (deliveries_of_step s x) (deliveries_of_steps (bus_after s x) steps)
    (deliveries_of_step (bus_after_all (bus_after s x) steps) step)))

pub ran_more : (s mid new : List Member) (steps : List Step) (i : ℕ) (d : Step) → i < length steps → mid ≡ bus_after_all s (take i steps) → new ≡ bus_after mid (get_or steps i d) → new ≡ bus_after_all s (take (i + 1) steps)
ran_more s mid new steps i d lt before one = one ∙ ap (λ (m : List Member). bus_after m (get_or steps i d)) before ∙ sym (ap (bus_after_all s) (take_more steps i d lt) ∙ after_push s (take i steps) (get_or steps i d))

pub told_more : (s mid : List Member) (first old new : List Delivered) (steps : List Step) (i : ℕ) (d : Step)
    → i < length steps → mid ≡ bus_after_all s (take i steps) → old ≡ first ++ deliveries_of_steps s (take i steps)
    → new ≡ old ++ deliveries_of_step mid (get_or steps i d)
    → new ≡ first ++ deliveries_of_steps s (take (i + 1) steps)
told_more s mid first old new steps i d lt before told one =
    let more : deliveries_of_steps s (take (i + 1) steps) ≡ deliveries_of_steps s (take i steps)
    ++ deliveries_of_step (bus_after_all s (take i steps)) (get_or steps i d)
    = ap (deliveries_of_steps s) (take_more steps i d lt) ∙ delivered_push s (take i steps) (get_or steps i d) in
    one ∙ ap (λ (es : List Delivered). es ++ deliveries_of_step mid (get_or steps i d)) told
    ∙ ap (λ (m : List Member). (first ++ deliveries_of_steps s (take i steps))
    ++ deliveries_of_step m (get_or steps i d)) before
    ∙ append_assoc first (deliveries_of_steps s (take i steps))
    (deliveries_of_step (bus_after_all s (take i steps)) (get_or steps i d))
    ∙ ap (λ (es : List Delivered). first ++ es) (sym more)
