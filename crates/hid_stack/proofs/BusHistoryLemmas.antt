-- A device of a bus to which devices are attached meanwhile is a function of its attach and its own steps alone.
use Rattle.std.proofs.Common.{◌≡◌, ◌∙◌, ◌<◌, ◌-◌, ◌++◌, inl, inr, ℕ, Bool, true, false, List, [], ◌∷◌, length, map, cond, eqb, Option, Some, None, refl, ap, sym, subst, arith, append_assoc}
use Rattle.std.specs.Prelude.{slice_get}
use Rattle.std.specs.List.{All, cons_option, filter_map}
use Rattle.std.specs.Option.{option_map}
use Rattle.std.proofs.lemmas.List.{length-map}
use Rattle.std.proofs.lemmas.List.Elements.{All-head, All-tail}
use Rattle.std.proofs.lemmas.Option.{slice_get_past}
use Rattle.hid_layout.specs.Controls.{items_of}
use Rattle.hid_layout.specs.Layout.{Contents}
use Rattle.usb_transact.specs.declared.transaction.Fate.{Fate}
use Rattle.hid_host.specs.declared.host.Transfer.{Transfer}
use Rattle.hid_host.specs.Host.{request_aborts_round, running}
use Rattle.hid_bus.specs.HistoryState.{FollowsHistory, history_from}
use Rattle.hid_bus.specs.DeviceHistory.{events_of_history, history_after_all, outcomes_of_events, state_after_all}
use Rattle.hid_bus.specs.Rounds.{Polls}
use Rattle.hid_bus.specs.LinkState.{LinkState}
use Rattle.hid_bus.proofs.HistoryEventLemmas.{history_goes_on}
use Rattle.hid_snapshots.specs.declared.event.Event.{Event}
use Rattle.hid_bus.specs.declared.step.Step.{Step}
use Rattle.hid_bus.specs.declared.step.Step.TheVariants.{Change, Frame, Poll, Begin, Control, Halt, Reset}
use Rattle.hid_bus.specs.declared.step.Delivered.{Delivered}
use Rattle.hid_bus.specs.Delivered.{from_device}
use Rattle.hid_bus.proofs.DeliveredLemmas.{from_append}
use Rattle.hid_stack.specs.Members.{Member, MemberStep, Scheduled, Controls, Halts, Resets, state_after_event_if, control_of_member, bus_event_of_step, events_of_event_if, member_after, try_bus_event, out_of_memory_bus_event, member_out_of_memory}
use Rattle.hid_stack.specs.Rig.{bus_after, deliveries_of_step, member_at, member_deliveries, member_step, bus_after_try_out_of_memory, with_device_number, with_member}
use Rattle.hid_stack.specs.Sums.{AbortsByRequest, AbortsNone}
use Rattle.hid_stack.specs.BusHistory.{Action, Attached, DeliversHistory, DeviceAction, EndNoRounds, HasMemoryFor, IsItsOwn, Taken, Takes, Unconcluded, Unconcludes, bus_after_actions, bus_event_of_action, bus_events_of_actions, deliveries_of_actions, device_action, device_actions, member_after_action, member_after_actions, next_number}
use Rattle.hid_stack.proofs.AttachLemmas.{stands_last, stands_still}
use Rattle.hid_stack.proofs.Isolation.{after_own, from_tagged_other, own_events, same_or_not, step_events, step_state, with_other, with_same}
use Rattle.hid_stack.proofs.MemberLemmas.{brings_effect, layout_stays, link_is, quiet_effect, state_after_more, told_more, unconcluded_layout, unconcluded_link}
use Rattle.hid_stack.proofs.RoomLemmas.{bus_layouts, layout_of_member}

-- ---- one act, at one device

abbrev pub after_own_act : Member → Option DeviceAction → Member
after_own_act m None = m
after_own_act m (Some act) = member_after_action m act

abbrev own_act_events : Member → Option DeviceAction → List Event
own_act_events m None = []
own_act_events m (Some act) = events_of_event_if (items_of m.layout) m.link (bus_event_of_action m act)

act_link : (m : Member) (act : DeviceAction)
    → (member_after_action m act).link ≡ state_after_event_if (items_of m.layout) m.link (bus_event_of_action m act)
act_link m (Takes x) = link_is m x
act_link m (Unconcludes fate) = unconcluded_link fate m (running m.transfer)

act_layout : (m : Member) (act : DeviceAction) → (member_after_action m act).layout ≡ m.layout
act_layout m (Takes x) = layout_stays m x
act_layout m (Unconcludes fate) = unconcluded_layout fate m (running m.transfer)

-- a try at which memory runs out tells nothing
unconcluded_quiet : (fate : Fate) (m : Member) (o : Option Transfer) → AbortsByRequest fate m o
    → events_of_event_if (items_of m.layout) m.link (out_of_memory_bus_event fate m o) ≡ []
unconcluded_quiet fate m None aborts = refl
unconcluded_quiet fate m (Some t) aborts = by_request (request_aborts_round t.request) aborts
  where
    by_request : (b : Bool) → (b ≡ false → AbortsNone (try_bus_event fate m (Some t)))
        → events_of_event_if (items_of m.layout) m.link (cond b None (try_bus_event fate m (Some t))) ≡ []
    by_request true none = refl
    by_request false none =
        quiet_effect (items_of m.layout) m.link (try_bus_event fate m (Some t))
        (brings_effect fate t.ends (control_of_member m)) (none refl)

-- a step is an act of the device that it is a step of
pub taken_state : (m : Member) (o : Option MemberStep) → after_own m o ≡ after_own_act m (option_map (λ x. Takes x) o)
taken_state m None = refl
taken_state m (Some x) = refl

-- a try of the device at which memory runs out is an act of it
abbrev if_own_act : ℕ → ℕ → Fate → Option DeviceAction
if_own_act d device fate = cond (eqb d device) (Some (Unconcludes fate)) None

unconcluded_same : (d device : ℕ) (members : List Member) (m : Member) (fate : Fate) → d ≡ device → member_at members device ≡ Some m
    → member_at (bus_after_try_out_of_memory members d fate) device ≡ Some (member_out_of_memory fate m (running m.transfer))
unconcluded_same d device members m fate same h =
    let there : member_at members d ≡ Some m = ap (member_at members) same ∙ h in
    let u : Member = member_out_of_memory fate m (running m.transfer) in
    ap (λ (o : Option Member). member_at
    (elim o as
    (λ _. List Member) [
      | None ↦ members
      | Some t ↦
          with_member members d (member_out_of_memory fate t (running t.transfer))
    ]) device) there
    ∙ ap (member_at (with_member members d u)) (sym same) ∙ with_same members d m u there

unconcluded_other : (d device : ℕ) (members : List Member) (m : Member) (fate : Fate) → (d ≡ device → ⊥) → member_at members device ≡ Some m → member_at (bus_after_try_out_of_memory members d fate) device ≡ Some m
unconcluded_other d device members m fate other h =
    elim (member_at members d) as
    (λ (o : Option Member). member_at members d ≡ o
    → member_at
    (elim o as
    (λ _. List Member) [
      | None ↦ members
      | Some t ↦
          with_member members d (member_out_of_memory fate t (running t.transfer))
    ]) device ≡ Some m) [
      | None ↦ λ g. h
      | Some t ↦
          λ g. with_other members d device m t (member_out_of_memory fate t (running t.transfer)) other g h
    ] refl

pub unconcluded_state : (d device : ℕ) (members : List Member) (m : Member) (fate : Fate) → member_at members device ≡ Some m
    → member_at (bus_after_try_out_of_memory members d fate) device ≡ Some (after_own_act m (if_own_act d device fate))
unconcluded_state d device members m fate h = elim (same_or_not d device) [
  | inl same ↦ unconcluded_same d device members m fate same.0 h ∙ sym (ap (λ (b : Bool). Some (after_own_act m (cond b (Some (Unconcludes fate)) None))) same.1)
  | inr other ↦ unconcluded_other d device members m fate other.0 h ∙ sym (ap (λ (b : Bool). Some (after_own_act m (cond b (Some (Unconcludes fate)) None))) other.1)
]

-- ---- after its attach

abbrev acts_of : ℕ → List Action → List DeviceAction
acts_of device acts = filter_map (device_action device) acts

own_acts : (m : Member) (o : Option DeviceAction) (actions : List DeviceAction)
    → member_after_actions (after_own_act m o) actions ≡ member_after_actions m (cons_option o actions)
own_acts m None actions = refl
own_acts m (Some act) actions = refl

state_behind_acts : (acts : List Action) (members : List Member) (device : ℕ) (m : Member)
    → member_at members device ≡ Some m
    → member_at (bus_after_actions members acts) device ≡ Some (member_after_actions m (acts_of device acts))
state_behind_acts [] members device m h = h
state_behind_acts (Attached k ∷ acts) members device m h = state_behind_acts acts (members ++ k ∷ []) device m (stands_still members (k ∷ []) device m h)
state_behind_acts (Taken x ∷ acts) members device m h =
    let own = device_action device (Taken x) in
    state_behind_acts acts (bus_after members x) device (after_own_act m own) (step_state device members m x h ∙ ap (λ (t : Member). Some t) (taken_state m (member_step device x)))
    ∙ ap (λ (t : Member). Some t) (own_acts m own (acts_of device acts))
state_behind_acts (Unconcluded d fate ∷ acts) members device m h =
    let own = if_own_act d device fate in
    state_behind_acts acts (bus_after_try_out_of_memory members d fate) device (after_own_act m own) (unconcluded_state d device members m fate h)
    ∙ ap (λ (t : Member). Some t) (own_acts m own (acts_of device acts))

-- what an act tells, and those after it
device_action-layout : (m : Member) (o : Option DeviceAction) → (after_own_act m o).layout ≡ m.layout
device_action-layout m None = refl
device_action-layout m (Some act) = act_layout m act

own_act_told : (m : Member) (o : Option DeviceAction) (actions : List DeviceAction)
    → own_act_events m o
    ++ events_of_history (items_of m.layout) (after_own_act m o).link
    (bus_events_of_actions (after_own_act m o) actions)
    ≡ events_of_history (items_of m.layout) m.link (bus_events_of_actions m (cons_option o actions))
own_act_told m None actions = refl
own_act_told m (Some act) actions =
    let items = items_of m.layout in
    ap (λ (s : LinkState). events_of_event_if items m.link (bus_event_of_action m act)
    ++ events_of_history items s (bus_events_of_actions (member_after_action m act) actions)) (act_link m act)
    ∙ told_more items m.link (bus_event_of_action m act) (bus_events_of_actions (member_after_action m act) actions)

taken_events : (m : Member) (o : Option MemberStep) → own_events m o ≡ own_act_events m (option_map (λ x. Takes x) o)
taken_events m None = refl
taken_events m (Some x) = refl

unconcluded_events : (d device : ℕ) (m : Member) (fate : Fate) (actions : List DeviceAction)
    → EndNoRounds m (cons_option (if_own_act d device fate) actions)
    → own_act_events m (if_own_act d device fate) ≡ []
unconcluded_events d device m fate actions = by_number (eqb d device)
  where
    by_number : (b : Bool) → EndNoRounds m (cons_option (cond b (Some (Unconcludes fate)) None) actions)
        → own_act_events m (cond b (Some (Unconcludes fate)) None) ≡ []
    by_number true ends = unconcluded_quiet fate m (running m.transfer) ends.0
    by_number false ends = refl

rest_ends : (m : Member) (o : Option DeviceAction) (actions : List DeviceAction)
    → EndNoRounds m (cons_option o actions) → EndNoRounds (after_own_act m o) actions
rest_ends m None actions ends = ends
rest_ends m (Some act) actions ends = ends.1

told_later_acts : (acts : List Action) (members : List Member) (device : ℕ) (m : Member)
    → member_at members device ≡ Some m → EndNoRounds m (acts_of device acts)
    → from_device device (deliveries_of_actions members acts)
    ≡ events_of_history (items_of m.layout) m.link (bus_events_of_actions m (acts_of device acts))
told_later_acts [] members device m h ends = refl
told_later_acts (Attached k ∷ acts) members device m h ends = told_later_acts acts (members ++ k ∷ []) device m (stands_still members (k ∷ []) device m h) ends
told_later_acts (Taken x ∷ acts) members device m h ends =
    let own = device_action device (Taken x) in
    let actions = acts_of device acts in
    let next = after_own_act m own in
    let rest = deliveries_of_actions (bus_after members x) acts in
    from_append device (deliveries_of_step members x) rest
    ∙ ap (λ (es : List Event). es ++ from_device device rest) (step_events device members m x h ∙ taken_events m (member_step device x))
    ∙ ap (λ (es : List Event). own_act_events m own ++ es)
    (told_later_acts acts (bus_after members x) device next
    (step_state device members m x h ∙ ap (λ (t : Member). Some t) (taken_state m (member_step device x)))
    (rest_ends m own actions ends)
    ∙ ap (λ (l : Contents). events_of_history (items_of l) next.link (bus_events_of_actions next actions))
    (device_action-layout m own))
    ∙ own_act_told m own actions
told_later_acts (Unconcluded d fate ∷ acts) members device m h ends =
    let own = if_own_act d device fate in
    let actions = acts_of device acts in
    let next = after_own_act m own in
    told_later_acts acts (bus_after_try_out_of_memory members d fate) device next (unconcluded_state d device members m fate h)
    (rest_ends m own actions ends)
    ∙ ap (λ (l : Contents). events_of_history (items_of l) next.link (bus_events_of_actions next actions))
    (device_action-layout m own)
    ∙ sym (ap
    (λ (es : List Event). es ++ events_of_history (items_of m.layout) next.link (bus_events_of_actions next actions))
    (unconcluded_events d device m fate actions ends))
    ∙ own_act_told m own actions

pub actions_layout : (actions : List DeviceAction) (m : Member) → (member_after_actions m actions).layout ≡ m.layout
actions_layout [] m = refl
actions_layout (act ∷ actions) m = actions_layout actions (member_after_action m act) ∙ act_layout m act

pub actions_links : (actions : List DeviceAction) (m : Member)
    → (member_after_actions m actions).link
    ≡ state_after_all (items_of m.layout) m.link (bus_events_of_actions m actions)
actions_links [] m = refl
actions_links (act ∷ actions) m =
    let next = member_after_action m act in
    actions_links actions next
    ∙ ap (λ l. state_after_all (items_of l) next.link (bus_events_of_actions next actions)) (act_layout m act)
    ∙ ap (λ (s : LinkState). state_after_all (items_of m.layout) s (bus_events_of_actions next actions))
    (act_link m act)
    ∙ state_after_more (items_of m.layout) m.link (bus_event_of_action m act) (bus_events_of_actions next actions)

-- where memory is missing at no try of the device, no such try ends a round
with_memory_end : (acts : List Action) (device : ℕ) (m : Member) → All (HasMemoryFor device) acts
    → EndNoRounds m (acts_of device acts)
with_memory_end [] device m has = tt
with_memory_end (Attached k ∷ acts) device m has =
    with_memory_end acts device m (All-tail (HasMemoryFor device) (Attached k) acts has)
with_memory_end (Taken x ∷ acts) device m has =
    by_step (λ n. with_memory_end acts device n (All-tail (HasMemoryFor device) (Taken x) acts has))
    (member_step device x)
  where
    by_step : ((n : Member) → EndNoRounds n (acts_of device acts)) → (o : Option MemberStep)
        → EndNoRounds m (cons_option (option_map (λ y. Takes y) o) (acts_of device acts))
    by_step later None = later m
    by_step later (Some y) = (tt, later (member_after m y))
with_memory_end (Unconcluded dev fate ∷ acts) device m has = elim (same_or_not dev device) [
  | inl same ↦ absurd (All-head (HasMemoryFor device) (Unconcluded dev fate) acts has same.0)
  | inr other ↦
      subst
      (λ (b : Bool). EndNoRounds m (cons_option (cond b (Some (Unconcludes fate)) None) (acts_of device acts)))
      (sym other.1)
      (with_memory_end acts device m (All-tail (HasMemoryFor device) (Unconcluded dev fate) acts has))
]

-- ---- before it

pub same_many : (members : List Member) (x : Step) → length (bus_after members x) ≡ length members
same_many members x =
    sym (length-map (bus_after members x) layout_of_member) ∙ ap length (bus_layouts members x) ∙ length-map members layout_of_member

-- no step of a device that isn't there delivers anything under its number
absent : (members : List Member) (device : ℕ) → length members < device → member_at members device ≡ None
absent members device past = by_number (eqb device 0)
  where
    by_number : (b : Bool) → cond b None (slice_get members (device - 1)) ≡ None
    by_number true = refl
    by_number false = slice_get_past members (device - 1) (omega (arith, past))

nothing_yet : (members : List Member) (d device : ℕ) (y : MemberStep) → member_at members device ≡ None
    → from_device device (member_deliveries members d y) ≡ []
nothing_yet members d device y none = elim (same_or_not d device) [
  | inl same ↦
      ap (λ (o : Option Member). from_device device
      (elim o as
      (λ _. List Delivered) [
        | None ↦ []
        | Some t ↦
            map (with_device_number d) (events_of_event_if (items_of t.layout) t.link (bus_event_of_step t y))
      ]))
      (ap (member_at members) same.0 ∙ none)
  | inr other ↦
      elim (member_at members d) as
      (λ (o : Option Member). from_device device
      (elim o as
      (λ _. List Delivered) [
        | None ↦ []
        | Some t ↦
            map (with_device_number d) (events_of_event_if (items_of t.layout) t.link (bus_event_of_step t y))
      ]) ≡ []) [
        | None ↦ refl
        | Some t ↦
            from_tagged_other d device (events_of_event_if (items_of t.layout) t.link (bus_event_of_step t y)) other.1
      ]
]

step_tells_nothing : (members : List Member) (device : ℕ) (x : Step) → member_at members device ≡ None
    → from_device device (deliveries_of_step members x) ≡ []
step_tells_nothing members device (Change dev change) none = refl
step_tells_nothing members device Frame none = refl
step_tells_nothing members device (Poll dev fate) none = nothing_yet members dev device (Scheduled (Polls fate)) none
step_tells_nothing members device (Begin dev request) none = refl
step_tells_nothing members device (Control dev fate) none = nothing_yet members dev device (Controls fate) none
step_tells_nothing members device (Halt dev) none = nothing_yet members dev device Halts none
step_tells_nothing members device (Reset dev) none = nothing_yet members dev device Resets none

-- what isn't there at the end wasn't there before
absent_before : (acts : List Action) (members : List Member) (device : ℕ)
    → member_at (bus_after_actions members acts) device ≡ None → member_at members device ≡ None
absent_before acts members device none = by_member (member_at members device) refl
  where
    by_member : (o : Option Member) → member_at members device ≡ o → o ≡ None
    by_member None e = refl
    by_member (Some m) e = let there : None ≡ Some (member_after_actions m (acts_of device acts)) =
        sym none ∙ state_behind_acts acts members device m e in absurd (cc)

pub nothing_of : (acts : List Action) (members : List Member) (device : ℕ)
    → member_at (bus_after_actions members acts) device ≡ None
    → from_device device (deliveries_of_actions members acts) ≡ []
nothing_of [] members device none = refl
nothing_of (Attached m ∷ acts) members device none = nothing_of acts (members ++ m ∷ []) device none
nothing_of (Taken x ∷ acts) members device none =
    let before : member_at members device ≡ None = absent_before (Taken x ∷ acts) members device none in
    from_append device (deliveries_of_step members x) (deliveries_of_actions (bus_after members x) acts)
    ∙ ap (λ (es : List Event). es ++ from_device device (deliveries_of_actions (bus_after members x) acts))
    (step_tells_nothing members device x before)
    ∙ nothing_of acts (bus_after members x) device none
nothing_of (Unconcluded dev fate ∷ acts) members device none = nothing_of acts (bus_after_try_out_of_memory members dev fate) device none

-- ---- whole lists

pub bus_append : (before later : List Action) (members : List Member)
    → bus_after_actions members (before ++ later) ≡ bus_after_actions (bus_after_actions members before) later
bus_append [] later members = refl
bus_append (Attached m ∷ before) later members = bus_append before later (members ++ m ∷ [])
bus_append (Taken x ∷ before) later members = bus_append before later (bus_after members x)
bus_append (Unconcluded dev fate ∷ before) later members = bus_append before later (bus_after_try_out_of_memory members dev fate)

pub delivered_append : (before later : List Action) (members : List Member)
    → deliveries_of_actions members (before ++ later) ≡ deliveries_of_actions members before
    ++ deliveries_of_actions (bus_after_actions members before) later
delivered_append [] later members = refl
delivered_append (Attached m ∷ before) later members = delivered_append before later (members ++ m ∷ [])
delivered_append (Taken x ∷ before) later members =
    ap (λ (ds : List Delivered). deliveries_of_step members x ++ ds)
    (delivered_append before later (bus_after members x))
    ∙ sym (append_assoc (deliveries_of_step members x) (deliveries_of_actions (bus_after members x) before)
    (deliveries_of_actions (bus_after_actions (bus_after members x) before) later))
delivered_append (Unconcluded dev fate ∷ before) later members = delivered_append before later (bus_after_try_out_of_memory members dev fate)

pub its_own : (before : List Action) (m : Member) (later : List Action) → IsItsOwn before m later
its_own before m later =
    let there = bus_after_actions [] before in
    let device = next_number before in
    let stands = stands_last there m in
    let xs = device_actions before later in
    let none : member_at there device ≡ None = absent there device (omega arith) in
    let told : EndNoRounds m xs → DeliversHistory before m later =
    λ ends. ap (from_device device) (delivered_append before (Attached m ∷ later) [])
    ∙ from_append device (deliveries_of_actions [] before) (deliveries_of_actions (there ++ m ∷ []) later)
    ∙ ap (λ (es : List Event). es ++ from_device device (deliveries_of_actions (there ++ m ∷ []) later))
    (nothing_of before [] device none)
    ∙ told_later_acts later (there ++ m ∷ []) device m stands ends in
    record {
      state = ap (λ (ms : List Member). member_at ms device) (bus_append before (Attached m ∷ later) [])
          ∙ state_behind_acts later (there ++ m ∷ []) device m stands;
      events_of_steps = λ has. told (with_memory_end later device m has);
      events = told;
      history = λ none_open.
          subst (λ (s : LinkState). FollowsHistory (items_of m.layout) m.link.view m.link.toggle
          (outcomes_of_events (items_of m.layout) (bus_events_of_actions m xs) (history_from m.link))
          (history_after_all (items_of m.layout) (bus_events_of_actions m xs) (history_from m.link))
          (events_of_history (items_of m.layout) m.link (bus_events_of_actions m xs)) s) (sym (actions_links xs m))
          (history_goes_on (items_of m.layout) m.link (bus_events_of_actions m xs) none_open);
    }
