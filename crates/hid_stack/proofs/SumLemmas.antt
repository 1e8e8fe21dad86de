-- The sum of motion over steps of a bus.
use Rattle.std.proofs.Common.{◌≡◌, ◌<◌, ◌+◌, ◌++◌, ◌+ℤ◌, ℕ, ℤ, inl, inr, ◌-◌, Bool, true, false, List, [], ◌∷◌, Option, Some, None, cond, eqb, get_or, length, take, refl, ap, sym, ◌∙◌, subst, arith}
use Rattle.std.specs.List.{cons_option, slice_get}
use Rattle.std.specs.Prelude.{IfSome}
use Rattle.std.proofs.lemmas.Bool.Decides.{nat_tests}
use Rattle.std.proofs.lemmas.Int.{ints}
use Rattle.std.proofs.lemmas.List.{take_more}
use Rattle.std.proofs.lemmas.List.Elements.{All-get_or, All-map, All-push, All-set, All-weaker}
use Rattle.std.proofs.lemmas.Option.{get_or_from_slice_get, slice_get_within}
use Rattle.hid_layout.specs.Controls.{Item, items_of}
use Rattle.hid_layout.specs.Layout.{Contents}
use Rattle.usb_transact.specs.declared.transaction.Fate.{Fate}
use Rattle.hid_layout.specs.declared.control.ControlId.{ControlId}
use Rattle.hid_bus.specs.DeviceHistory.{BusEvent, Own, Idles, Configures, state_after, state_after_all, events_of_history}
use Rattle.hid_bus.specs.DeviceHistory as bus
use Rattle.hid_bus.specs.Motion.{AreBetweenRounds, motion_of_events, Conserves, link_motion, accepted_steps_of_events, HasMotions}
use Rattle.hid_bus.specs.Rounds.{Changes, Polls}
use Rattle.hid_bus.specs.Rounds as own_steps
use Rattle.hid_bus.specs.LinkState.{LinkState}
use Rattle.hid_host.specs.declared.fault.StackFault.{StackFault}
use Rattle.hid_host.specs.declared.fault.StackFault.TheVariants.{NoDevice, NotReady, Refused, BadDescriptor, Report, TooManyDevices, Memory}
use Rattle.hid_host.specs.declared.fault.StackFault.TheVariants as faults
use Rattle.hid_host.specs.declared.host.Transfer.{Transfer}
use Rattle.hid_host.specs.Host.{request_aborts_round, running}
use Rattle.hid_bus.specs.declared.step.Step.{Step}
use Rattle.hid_bus.specs.declared.step.Step.TheVariants.{Change, Frame, Poll, Begin, Control, Halt, Reset}
use Rattle.hid_bus.specs.declared.step.Delivered.{Delivered}
use Rattle.hid_bus.specs.Delivered.{from_device}
use Rattle.hid_stack.specs.Members.{Member, MemberStep, Scheduled, Begins, Controls, Halts, Resets, state_after_event_if, try_bus_event_of, control_of_member, bus_event_of_step, bus_events_of_steps, halt_bus_event_of, member_after, member_after_all, polls_it, step_bus_event, try_bus_event, out_of_memory_bus_event, member_out_of_memory}
use Rattle.hid_stack.specs.Rig.{member_at, with_member, bus_after_member_step, bus_after_try_out_of_memory, bus_after_refusal, bus_after, bus_after_all, deliveries_of_steps, member_step, member_steps}
use Rattle.hid_stack.specs.Sums.{AbortsByRequest, AbortsNone, AllHaveMotions, ConfiguresBetweenRounds, ConservesMotion, IsBetween, OnlyHaltsAbort, RefusedKeepMotion}
use Rattle.hid_stack.proofs.Isolation.{isolated, same_or_not, states as states_of, with_other, with_same}
use Rattle.hid_stack.proofs.MemberLemmas.{IsEffect, between_append, between_one, brings_effect, layout_stays, layouts_stay, link_is, links, unconcluded_layout, unconcluded_link}
use Rattle.hid_bus.proofs.ItemMotionLemmas.{given_append}
use Rattle.hid_bus.proofs.MotionLemmas.{lived_has, histories_keep_motion}

abbrev pub HasItsMotions : Member → Type 0
HasItsMotions m = HasMotions (items_of m.layout) m.link

all_at : (members : List Member) (i : ℕ) (m : Member) → AllHaveMotions members → slice_get members i ≡ Some m → HasItsMotions m
all_at members i m all h =
    let within = slice_get_within members i m h in
    subst HasItsMotions (get_or_from_slice_get members i m m h) (All-get_or HasItsMotions members i m within all)

-- the device of a number
member_has : (members : List Member) (device : ℕ) (m : Member) → AllHaveMotions members → member_at members device ≡ Some m → HasItsMotions m
member_has members device m all h = by_number (eqb device 0) h
  where
    by_number : (b : Bool) → cond b None (slice_get members (device - 1)) ≡ Some m → HasItsMotions m
    by_number true k = absurd (cc)
    by_number false k = all_at members (device - 1) m all k

-- after what happens to it, where something does
state_after_has : (items : List Item) (s : LinkState) (o : Option BusEvent) → HasMotions items s
    → HasMotions items (state_after_event_if items s o)
state_after_has items s None has = has
state_after_has items s (Some bus_event) has = lived_has items s (bus_event ∷ []) has

has_with : (m n : Member) (o : Option BusEvent) → n.layout ≡ m.layout
    → n.link ≡ state_after_event_if (items_of m.layout) m.link o → HasItsMotions m → HasItsMotions n
has_with m n o layout link has =
    subst (λ (l : Contents). HasMotions (items_of l) n.link) (sym layout)
    (subst (HasMotions (items_of m.layout)) (sym link) (state_after_has (items_of m.layout) m.link o has))

pub after_member : (m : Member) (x : MemberStep) → HasItsMotions m → HasItsMotions (member_after m x)
after_member m x has = has_with m (member_after m x) (bus_event_of_step m x) (layout_stays m x) (link_is m x) has

pub after_unconcluded : (fate : Fate) (m : Member) (o : Option Transfer) → HasItsMotions m
    → HasItsMotions (member_out_of_memory fate m o)
after_unconcluded fate m o has =
    has_with m (member_out_of_memory fate m o) (out_of_memory_bus_event fate m o) (unconcluded_layout fate m o)
    (unconcluded_link fate m o) has

one_has : (members : List Member) (device : ℕ) (x : MemberStep) → AllHaveMotions members → AllHaveMotions (bus_after_member_step members device x)
one_has members device x all = by_member (member_at members device) refl
  where
    by_member : (o : Option Member) → member_at members device ≡ o → AllHaveMotions (elim o as (λ _. List Member) [ None ↦ members | Some m ↦ with_member members device (member_after m x) ])
    by_member None e = all
    by_member (Some m) e = All-set HasItsMotions members (device - 1) (member_after m x) (after_member m x (member_has members device m all e)) all

-- After a step, and where a device is attached, every device keeps its motions again.
pub bus_has : (members : List Member) (x : Step) → AllHaveMotions members → AllHaveMotions (bus_after members x)
bus_has members (Change device change) all = one_has members device (Scheduled (Changes change)) all
bus_has members Frame all =
    let framed : Member → Member = λ m. member_after m (Scheduled own_steps.Frame) in
    All-map HasItsMotions framed members (All-weaker HasItsMotions (λ m. HasItsMotions (framed m)) (λ m has. after_member m (Scheduled own_steps.Frame) has) members all)
bus_has members (Poll device fate) all = one_has members device (Scheduled (Polls fate)) all
bus_has members (Begin device request) all = one_has members device (Begins request) all
bus_has members (Control device fate) all = one_has members device (Controls fate) all
bus_has members (Halt device) all = one_has members device Halts all
bus_has members (Reset device) all = one_has members device Resets all

pub all_has : (members : List Member) (steps : List Step) → AllHaveMotions members → AllHaveMotions (bus_after_all members steps)
all_has members [] all = all
all_has members (x ∷ steps) all = all_has (bus_after members x) steps (bus_has members x all)

pub attached_has : (members : List Member) (m : Member) → AllHaveMotions members → HasItsMotions m → AllHaveMotions (members ++ m ∷ [])
attached_has members m all has = All-push HasItsMotions members m all has

-- The sum over steps of the bus.
pub sums_up : (before behind : List Member) (steps : List Step) (old new : List Delivered) → AllHaveMotions before → ConfiguresBetweenRounds before steps
    → behind ≡ bus_after_all before steps → new ≡ old ++ deliveries_of_steps before steps
    → ConservesMotion before behind steps old new
sums_up before behind steps old new all between states_are told_are device m n h k c =
    let apart = isolated before behind steps old new states_are told_are in
    let items = items_of m.layout in
    let xs = member_steps device steps in
    let bus_events = bus_events_of_steps m xs in
    let sum : Conserves c (accepted_steps_of_events items m.link bus_events) (link_motion items m.link c)
    (events_of_history items m.link bus_events) (link_motion items (state_after_all items m.link bus_events) c)
    = histories_keep_motion items m.link (member_has before device m all h) bus_events (between device m h) c in
    let told : motion_of_events c (from_device device new)
    ≡ motion_of_events c (from_device device old) +ℤ motion_of_events c
    (events_of_history items m.link bus_events)
    = ap (motion_of_events c) (apart.events device m h)
    ∙ given_append c (from_device device old) (events_of_history items m.link bus_events) in
    let stands : Some n ≡ Some (member_after_all m xs) = sym k ∙ apart.states device m h in
    let same : n ≡ member_after_all m xs = cc in
    let still : link_motion (items_of n.layout) n.link c
    ≡ link_motion items (state_after_all items m.link bus_events) c
    = ap (λ (t : Member). link_motion (items_of t.layout) t.link c) same
    ∙ ap (λ (l : Contents). link_motion (items_of l) (member_after_all m xs).link c) (layouts_stay xs m)
    ∙ ap (λ (s : LinkState). link_motion items s c) (links xs m) in
    omega (arith, ints, sum, told, still)

-- ---- configurations come between rounds

abbrev StepIsBetween : Member → Option MemberStep → Type 0
StepIsBetween m None = Unit {0}
StepIsBetween m (Some x) = IsBetween m.link (bus_event_of_step m x)

between_of : (m : Member) (o : Option MemberStep) → StepIsBetween m o
    → AreBetweenRounds (items_of m.layout) m.link (bus_events_of_steps m (cons_option o []))
between_of m None h = tt
between_of m (Some x) h = between_one m x h

polled_between : (m : Member) (polls : Bool) (fate : Fate) → IsBetween m.link (step_bus_event polls (Polls fate))
polled_between m true fate = tt
polled_between m false fate = tt

halted_between : (m : Member) (is_configured : Bool) → IsBetween m.link (halt_bus_event_of is_configured)
halted_between m true = tt
halted_between m false = tt

if_between : (m : Member) (b : Bool) (x : MemberStep) → (b ≡ true → IsBetween m.link (bus_event_of_step m x))
    → StepIsBetween m (cond b (Some x) None)
if_between m true x h = h refl
if_between m false x h = tt

-- what is no try of a transfer
abbrev pub IsNoTry : Step → Type 0
IsNoTry (Control dev fate) = ⊥
IsNoTry _ = Unit {0}

step_between : (device : ℕ) (m : Member) (x : Step) → IsNoTry x → StepIsBetween m (member_step device x)
step_between device m (Change d change) no_try = if_between m (eqb d device) (Scheduled (Changes change)) (λ h. tt)
step_between device m Frame no_try = tt
step_between device m (Poll d fate) no_try = if_between m (eqb d device) (Scheduled (Polls fate)) (λ h. polled_between m (polls_it m) fate)
step_between device m (Begin d request) no_try = if_between m (eqb d device) (Begins request) (λ h. tt)
step_between device m (Control d fate) no_try = absurd no_try
step_between device m (Halt d) no_try = if_between m (eqb d device) Halts (λ h. halted_between m m.endpoint.is_configured)
step_between device m (Reset d) no_try = if_between m (eqb d device) Resets (λ h. tt)

pub others_between : (members : List Member) (x : Step) → IsNoTry x → ConfiguresBetweenRounds members (x ∷ [])
others_between members x no_try device m h = between_of m (member_step device x) (step_between device m x no_try)

same_device : (d device : ℕ) → eqb d device ≡ true → d ≡ device
same_device d device h = grind (arith, nat_tests)

pub try_between : (members : List Member) (dev : ℕ) (fate : Fate) (found : Option Member)
    → member_at members dev ≡ found → IfSome found (λ m. IsBetween m.link (bus_event_of_step m (Controls fate)))
    → ConfiguresBetweenRounds members (Control dev fate ∷ [])
try_between members dev fate found at_place between device m h =
    between_of m (member_step device (Control dev fate)) (if_between m (eqb dev device) (Controls fate) (λ same.
    let here : found ≡ Some m = sym at_place ∙ ap (member_at members) (same_device dev device same) ∙ h in
    subst (λ (o : Option Member). IfSome o
    (λ k. IsBetween k.link (bus_event_of_step k (Controls fate)))) here between))

steps_append : (device : ℕ) (xs ys : List Step) → member_steps device (xs ++ ys) ≡ member_steps device xs ++ member_steps device ys
steps_append device [] ys = refl
steps_append device (x ∷ xs) ys = ap (cons_option (member_step device x)) (steps_append device xs ys) ∙ by_step (member_step device x) (member_steps device xs) (member_steps device ys)
  where
    by_step : (o : Option MemberStep) (ds es : List MemberStep) → cons_option o (ds ++ es) ≡ cons_option o ds ++ es
    by_step None ds es = refl
    by_step (Some y) ds es = refl

-- one more step of a run
pub between_more : (members mid : List Member) (steps : List Step) (i : ℕ) (d : Step) → i < length steps → mid ≡ bus_after_all members (take i steps)
    → ConfiguresBetweenRounds members (take i steps) → ConfiguresBetweenRounds mid (get_or steps i d ∷ []) → ConfiguresBetweenRounds members (take (i + 1) steps)
between_more members mid steps i d lt before first one device m h =
    let x : Step = get_or steps i d in
    let xs = member_steps device (take i steps) in
    let n = member_after_all m xs in
    let here : member_at mid device ≡ Some n = ap (λ (ms : List Member). member_at ms device) before ∙ states_of (take i steps) members device m h in
    let all : member_steps device (take (i + 1) steps) ≡ xs ++ member_steps device (x ∷ []) = ap (member_steps device) (take_more steps i d lt) ∙ steps_append device (take i steps) (x ∷ []) in
    subst (λ (ys : List MemberStep). AreBetweenRounds (items_of m.layout) m.link (bus_events_of_steps m ys)) (sym all)
    (between_append xs (member_steps device (x ∷ [])) m (first device m h) (one device n here))

-- ---- a step that is refused keeps the motions

abbrev motion_at : Member → ControlId → ℤ
motion_at m c = link_motion (items_of m.layout) m.link c

effect_keeps : (items : List Item) (s : LinkState) (o : Option BusEvent) (c : ControlId) → HasMotions items s
    → IsEffect o → IsBetween s o → AbortsNone o
    → link_motion items (state_after_event_if items s o) c ≡ link_motion items s c
effect_keeps items s None c has is between none = refl
effect_keeps items s (Some (Own x)) c has is between none = absurd is
effect_keeps items s (Some bus.Halts) c has is between none = absurd none
effect_keeps items s (Some bus.Clears) c has is between none = absurd none
effect_keeps items s (Some bus.Resets) c has is between none = absurd is
effect_keeps items s (Some (Idles idle)) c has is between none =
    let sum : Conserves c [] (link_motion items s c) [] (link_motion items (state_after items s (Idles idle)) c) =
    histories_keep_motion items s has (Idles idle ∷ []) (between, tt) c in
    omega (arith, ints, sum)
effect_keeps items s (Some Configures) c has is between none =
    let sum : Conserves c [] (link_motion items s c) [] (link_motion items (state_after items s Configures) c) =
    histories_keep_motion items s has (Configures ∷ []) (between, tt) c in
    omega (arith, ints, sum)

tried_keeps : (fate : Fate) (m : Member) (o : Option Transfer) (c : ControlId) → HasItsMotions m
    → IsBetween m.link (try_bus_event fate m o) → AbortsByRequest fate m o
    → link_motion (items_of m.layout)
    (state_after_event_if (items_of m.layout) m.link (out_of_memory_bus_event fate m o)) c ≡ motion_at m c
tried_keeps fate m None c has between aborts = refl
tried_keeps fate m (Some t) c has between aborts = by_request (request_aborts_round t.request) aborts
  where
    by_request : (b : Bool) → (b ≡ false → AbortsNone (try_bus_event fate m (Some t)))
        → link_motion (items_of m.layout)
        (state_after_event_if (items_of m.layout) m.link (cond b None (try_bus_event fate m (Some t)))) c
        ≡ motion_at m c
    by_request true none = refl
    by_request false none =
        effect_keeps (items_of m.layout) m.link (try_bus_event_of fate t.ends (control_of_member m)) c has
        (brings_effect fate t.ends (control_of_member m)) between (none refl)

unconcluded_keeps : (fate : Fate) (m : Member) (c : ControlId) → HasItsMotions m
    → IsBetween m.link (bus_event_of_step m (Controls fate)) → AbortsByRequest fate m (running m.transfer)
    → motion_at (member_out_of_memory fate m (running m.transfer)) c ≡ motion_at m c
unconcluded_keeps fate m c has between aborts =
    let u = member_out_of_memory fate m (running m.transfer) in
    ap (λ (l : Contents). link_motion (items_of l) u.link c) (unconcluded_layout fate m (running m.transfer))
    ∙ ap (λ (s : LinkState). link_motion (items_of m.layout) s c) (unconcluded_link fate m (running m.transfer))
    ∙ tried_keeps fate m (running m.transfer) c has between aborts

same_keeps : (n k : Member) (c : ControlId) → (let o = Some n in o) ≡ Some k → motion_at n c ≡ motion_at k c
same_keeps n k c same = let is : n ≡ k = cc in ap (λ (m : Member). motion_at m c) is

between_back : (s : LinkState) (items : List Item) (o : Option BusEvent) → AreBetweenRounds items s (cons_option o [])
    → IsBetween s o
between_back s items None h = tt
between_back s items (Some bus_event) h = h.0

names_itself : (d : ℕ) → eqb d d ≡ true
names_itself d = grind (arith, nat_tests)

between_at : (members : List Member) (dev : ℕ) (fate : Fate) (m : Member)
    → ConfiguresBetweenRounds members (Control dev fate ∷ []) → member_at members dev ≡ Some m
    → IsBetween m.link (bus_event_of_step m (Controls fate))
between_at members dev fate m between h =
    let here =
    subst (λ (b : Bool). AreBetweenRounds (items_of m.layout) m.link
    (bus_events_of_steps m (cons_option (cond b (Some (Controls fate)) None) []))) (names_itself dev)
    (between dev m h) in
    between_back m.link (items_of m.layout) (bus_event_of_step m (Controls fate)) here

one_keeps : (members : List Member) (dev device : ℕ) (fate : Fate) (k n : Member) (c : ControlId)
    → AllHaveMotions members → ConfiguresBetweenRounds members (Control dev fate ∷ [])
    → OnlyHaltsAbort members (Control dev fate)
    → member_at members device ≡ Some k → member_at (bus_after_try_out_of_memory members dev fate) device ≡ Some n → motion_at n c ≡ motion_at k c
one_keeps members dev device fate k n c all between aborts h stands = by_found (member_at members dev) refl stands
  where
    by_found : (found : Option Member) → member_at members dev ≡ found
        → member_at
        (elim found as
        (λ _. List Member) [
          | None ↦ members
          | Some m ↦
              with_member members dev (member_out_of_memory fate m (running m.transfer))
        ]) device ≡ Some n
        → motion_at n c ≡ motion_at k c
    by_found None e there = same_keeps n k c (sym there ∙ h)
    by_found (Some m) e there =
        let u = member_out_of_memory fate m (running m.transfer) in
        elim (same_or_not dev device) [
          | inl same ↦
              let is_u : member_at (with_member members dev u) device ≡ Some u = ap (member_at (with_member members dev u)) (sym same.0) ∙ with_same members dev m u e in
              let is_m : Some m ≡ Some k = sym e ∙ ap (member_at members) same.0 ∙ h in
              same_keeps n u c (sym there ∙ is_u) ∙ unconcluded_keeps fate m c (member_has members dev m all e) (between_at members dev fate m between e) (aborts m e) ∙ same_keeps m k c is_m
          | inr other ↦ same_keeps n k c (sym there ∙ with_other members dev device k m u other.0 e h)
        ]

pub refused_keep : RefusedKeepMotion
refused_keep members (Control dev fate) Memory device k n c all between aborts h there = one_keeps members dev device fate k n c all between aborts h there
refused_keep members (Control dev fate) NoDevice device k n c all between aborts h there = same_keeps n k c (sym there ∙ h)
refused_keep members (Control dev fate) NotReady device k n c all between aborts h there = same_keeps n k c (sym there ∙ h)
refused_keep members (Control dev fate) (Refused f) device k n c all between aborts h there = same_keeps n k c (sym there ∙ h)
refused_keep members (Control dev fate) (faults.Control f) device k n c all between aborts h there = same_keeps n k c (sym there ∙ h)
refused_keep members (Control dev fate) (BadDescriptor f) device k n c all between aborts h there = same_keeps n k c (sym there ∙ h)
refused_keep members (Control dev fate) (Report f) device k n c all between aborts h there = same_keeps n k c (sym there ∙ h)
refused_keep members (Control dev fate) TooManyDevices device k n c all between aborts h there = same_keeps n k c (sym there ∙ h)
refused_keep members (Change dev change) e device k n c all between aborts h there = same_keeps n k c (sym there ∙ h)
refused_keep members Frame e device k n c all between aborts h there = same_keeps n k c (sym there ∙ h)
refused_keep members (Poll dev fate) e device k n c all between aborts h there = same_keeps n k c (sym there ∙ h)
refused_keep members (Begin dev request) e device k n c all between aborts h there = same_keeps n k c (sym there ∙ h)
refused_keep members (Halt dev) e device k n c all between aborts h there = same_keeps n k c (sym there ∙ h)
refused_keep members (Reset dev) e device k n c all between aborts h there = same_keeps n k c (sym there ∙ h)

-- the sum where a run stops
pub sums_stop : (before mid new : List Member) (steps : List Step) (x : Step) (e : StackFault)
    (old out : List Delivered) → AllHaveMotions before → ConfiguresBetweenRounds before steps
    → ConfiguresBetweenRounds mid (x ∷ []) → OnlyHaltsAbort mid x
    → mid ≡ bus_after_all before steps → out ≡ old ++ deliveries_of_steps before steps
    → new ≡ bus_after_refusal mid x e → ConservesMotion before new steps old out
sums_stop before mid new steps x e old out all between between_here aborts mid_is told_is new_is device m n h there c =
    let k = member_after_all m (member_steps device steps) in
    let at_mid : member_at mid device ≡ Some k = ap (λ (ms : List Member). member_at ms device) mid_is ∙ states_of steps before device m h in
    let at_new : member_at (bus_after_refusal mid x e) device ≡ Some n =
    sym (ap (λ (ms : List Member). member_at ms device) new_is) ∙ there in
    let all_mid : AllHaveMotions mid = subst AllHaveMotions (sym mid_is) (all_has before steps all) in
    subst (Conserves c
    (accepted_steps_of_events (items_of m.layout) m.link (bus_events_of_steps m (member_steps device steps)))
    (motion_of_events c (from_device device old) +ℤ motion_at m c) (from_device device out))
    (sym (refused_keep mid x e device k n c all_mid between_here aborts at_mid at_new))
    (sums_up before mid steps old out all between mid_is told_is device m k h at_mid c)

pub ruleset sums = (sums_up, all_has)
