-- Room for what steps deliver; and no step changes a layout.
use Rattle.std.proofs.Common.{◌≡◌, ◌∙◌, ◌≤◌, ◌<◌, ◌+◌, ◌-◌, ◌++◌, ℕ, zero, suc, Bool, true, false, List, [], ◌∷◌, length, map, take, get_or, cond, eqb, not, Option, Some, None, Result, Ok, Err, refl, ap, sym, subst, arith}
use Rattle.std.specs.Prelude.{slice_get, IfOk, IfSome}
use Rattle.std.proofs.Math.Seq.{map-set_same}
use Rattle.std.proofs.lemmas.Bool.Decides.{nat_tests}
use Rattle.std.proofs.lemmas.List.{take_more}
use Rattle.std.proofs.lemmas.List.Elements.{All-get_or}
use Rattle.std.proofs.lemmas.Option.{get_or_from_slice_get}
use Rattle.std.proofs.lemmas.Simd.{map-map}
use Rattle.hid_layout.specs.Controls.{items_of, max_events}
use Rattle.hid_layout.specs.Layout.{Contents}
use Rattle.hid_bus.specs.Rounds.{Changes, Polls}
use Rattle.hid_bus.specs.Rounds as own_steps
use Rattle.hid_bus.specs.declared.step.Step.{Step}
use Rattle.hid_bus.specs.declared.step.Step.TheVariants.{Change, Frame, Poll, Begin, Control, Halt, Reset}
use Rattle.hid_bus.specs.declared.step.Told.{Told}
use Rattle.hid_host.specs.Host.{running}
use Rattle.hid_stack.specs.Members.{Member, MemberStep, Scheduled, Begins, Controls, Halts, Resets, member_after}
use Rattle.hid_stack.specs.Rig.{AreScheduled, member_at, with_member, bus_after_member_step, bus_after, bus_after_all, HasRoomAt, HasRoomFor, HasRoomToTry, is_scheduled, max_events_of_step, max_events_of_steps, refusal, bus_after_refusal, bus_after_stop, IsRefusal, NoneIsRefused, StopsAt}
use Rattle.hid_host.specs.declared.fault.StackFault.{StackFault}
use Rattle.hid_stack.proofs.MemberLemmas.{layout_stays}

abbrev pub layout_of_member : Member → Contents
layout_of_member m = m.layout

abbrev pub layouts : List Member → List Contents
layouts members = map layout_of_member members

found_layout : (members : List Member) (i : ℕ) (m : Member) → slice_get members i ≡ Some m → m.layout ≡ (get_or members i m).layout
found_layout members i m h = ap layout_of_member (sym (get_or_from_slice_get members i m m h))

one_layouts : (members : List Member) (dev : ℕ) (x : MemberStep) → layouts (bus_after_member_step members dev x) ≡ layouts members
one_layouts members dev x = by_member (member_at members dev) refl
  where
    by_number : (b : Bool) (m : Member) → cond b None (slice_get members (dev - 1)) ≡ Some m → m.layout ≡ (get_or members (dev - 1) m).layout
    by_number true m h = absurd (cc)
    by_number false m h = found_layout members (dev - 1) m h

    by_member : (o : Option Member) → member_at members dev ≡ o → layouts (elim o as (λ _. List Member) [ None ↦ members | Some m ↦ with_member members dev (member_after m x) ]) ≡ layouts members
    by_member None e = refl
    by_member (Some m) e = map-set_same layout_of_member members (dev - 1) (member_after m x) m (layout_stays m x ∙ by_number (eqb dev 0) m e)

pub bus_layouts : (members : List Member) (x : Step) → layouts (bus_after members x) ≡ layouts members
bus_layouts members (Change dev change) = one_layouts members dev (Scheduled (Changes change))
bus_layouts members Frame = map-map layout_of_member (λ (m : Member). member_after m (Scheduled own_steps.Frame)) members
bus_layouts members (Poll dev fate) = one_layouts members dev (Scheduled (Polls fate))
bus_layouts members (Begin dev request) = one_layouts members dev (Begins request)
bus_layouts members (Control dev fate) = one_layouts members dev (Controls fate)
bus_layouts members (Halt dev) = one_layouts members dev Halts
bus_layouts members (Reset dev) = one_layouts members dev Resets

-- what a device can deliver
abbrev polled_most : Option Member → ℕ
polled_most found = elim found [ None ↦ 0 | Some m ↦ max_events (items_of m.layout) ]

most_push : (members : List Member) (steps : List Step) (x : Step)
    → max_events_of_steps members (steps ++ x ∷ [])
    ≡ max_events_of_steps members steps + max_events_of_step (bus_after_all members steps) x
most_push members [] x = omega arith
most_push members (y ∷ steps) x = omega (arith, most_push (bus_after members y) steps x)

-- one more step of a run
pub most_more : (members mid : List Member) (steps : List Step) (i : ℕ) (d : Step) (first used new : ℕ) → i < length steps → mid ≡ bus_after_all members (take i steps)
    → used ≤ first + max_events_of_steps members (take i steps)
    → new ≤ used + max_events_of_step mid (get_or steps i d)
    → new ≤ first + max_events_of_steps members (take (i + 1) steps)
most_more members mid steps i d first used new lt before few one =
    let more =
    ap (max_events_of_steps members) (take_more steps i d lt)
    ∙ most_push members (take i steps) (get_or steps i d) in
    let same = ap (λ (ms : List Member). max_events_of_step ms (get_or steps i d)) before in
    omega (arith, few, one, more, same)

-- the steps up to one of them deliver no more than all of them
most_part : (members : List Member) (steps : List Step) (i : ℕ) (d : Step) → i < length steps
    → max_events_of_steps members (take i steps) + max_events_of_step (bus_after_all members (take i steps))
    (get_or steps i d) ≤ max_events_of_steps members steps
most_part members [] i d lt = absurd (omega arith)
most_part members (x ∷ steps) zero d lt = omega arith
most_part members (x ∷ steps) (suc i) d lt = omega (arith, most_part (bus_after members x) steps i d (omega arith))

-- what is delivered at most fits with less in the way
most_fits : (o : Option Member) (more used capacity now : ℕ) → used ≤ more → capacity ≤ now → IfSome o (λ (m : Member). more + max_events (items_of m.layout) ≤ capacity)
    → IfSome o (λ (m : Member). used + max_events (items_of m.layout) ≤ now)
most_fits None more used capacity now less grows has = tt
most_fits (Some m) more used capacity now less grows has = omega (arith, has, less, grows)

-- a step that is of no transfer of any device
abbrev IsOfNone : Step → Type 0
IsOfNone x = (device : ℕ) → is_scheduled device x ≡ true

names_itself : (d : ℕ) → not (eqb d d) ≡ true → ⊥
names_itself d h = grind (arith, nat_tests)

has_room : (members : List Member) (x : Step) (used capacity : ℕ) → IsOfNone x
    → used + max_events_of_step members x ≤ capacity → HasRoomFor members x used capacity
has_room members (Change dev change) used capacity none room = tt
has_room members Frame used capacity none room = tt
has_room members (Poll dev fate) used capacity none room = by_member (member_at members dev) room
  where
    by_member : (o : Option Member) → used + polled_most o ≤ capacity → IfSome o (λ (m : Member). used + max_events (items_of m.layout) ≤ capacity)
    by_member None h = tt
    by_member (Some m) h = h
has_room members (Halt dev) used capacity none room = absurd (names_itself dev (none dev))
has_room members (Reset dev) used capacity none room = absurd (names_itself dev (none dev))
has_room members (Begin dev request) used capacity none room = absurd (names_itself dev (none dev))
has_room members (Control dev fate) used capacity none room = absurd (names_itself dev (none dev))

none_at : (steps : List Step) (i : ℕ) (d : Step) → i < length steps → AreScheduled steps → IsOfNone (get_or steps i d)
none_at steps i d lt all device = All-get_or (λ x. is_scheduled device x ≡ true) steps i d lt (all device)

-- where there is room for all steps, there is room for each as it comes
pub room_at : (members mid : List Member) (steps : List Step) (i : ℕ) (d : Step) (first used capacity now : ℕ) → i < length steps → mid ≡ bus_after_all members (take i steps)
    → used ≤ first + max_events_of_steps members (take i steps) → capacity ≤ now → AreScheduled steps
    → first + max_events_of_steps members steps ≤ capacity → HasRoomFor mid (get_or steps i d) used now
room_at members mid steps i d first used capacity now lt before few grows all room =
    let same = ap (λ (ms : List Member). max_events_of_step ms (get_or steps i d)) before in
    let part = most_part members steps i d lt in
    has_room mid (get_or steps i d) used now (none_at steps i d lt all) (omega (arith, few, grows, room, same, part))

read_at : (steps : List Step) (i : ℕ) (d : Step) → i < length steps → slice_get steps i ≡ Some (get_or steps i d)
read_at [] i d lt = absurd (omega (arith, lt))
read_at (x ∷ steps) zero d lt = refl
read_at (x ∷ steps) (suc i) d lt = read_at steps i d (omega (arith, lt))

-- where there is room for a step, there is with less in the way
more_room : (members : List Member) (x : Step) (more used capacity now : ℕ) → used ≤ more → capacity ≤ now → HasRoomFor members x more capacity → HasRoomFor members x used now
more_room members (Change dev change) more used capacity now less grows has = tt
more_room members Frame more used capacity now less grows has = tt
more_room members (Poll dev fate) more used capacity now less grows has = most_fits (member_at members dev) more used capacity now less grows has
more_room members (Halt dev) more used capacity now less grows has = most_fits (member_at members dev) more used capacity now less grows has
more_room members (Reset dev) more used capacity now less grows has = most_fits (member_at members dev) more used capacity now less grows has
more_room members (Begin dev request) more used capacity now less grows has = absurd has
more_room members (Control dev fate) more used capacity now less grows has = by_member (member_at members dev) has
  where
    by_member : (o : Option Member) → IfSome o (λ (m : Member). HasRoomToTry fate m (running m.transfer) more capacity) → IfSome o (λ (m : Member). HasRoomToTry fate m (running m.transfer) used now)
    by_member None h = tt
    by_member (Some m) h = (λ aborts. let fits = h.0 aborts in omega (arith, fits, less, grows), h.1)

-- where there is room at a step of a run, there is as it comes
pub room_here : (members mid : List Member) (steps : List Step) (i : ℕ) (d : Step) (first used capacity now : ℕ) → i < length steps → mid ≡ bus_after_all members (take i steps)
    → used ≤ first + max_events_of_steps members (take i steps) → capacity ≤ now
    → HasRoomAt members steps i first capacity → HasRoomFor mid (get_or steps i d) used now
room_here members mid steps i d first used capacity now lt before few grows has =
    let most : ℕ = first + max_events_of_steps members (take i steps) in
    let here : HasRoomFor (bus_after_all members (take i steps)) (get_or steps i d) most capacity
    = subst (λ (o : Option Step). IfSome o (λ x. HasRoomFor (bus_after_all members (take i steps)) x most capacity)) (read_at steps i d lt) has in
    more_room mid (get_or steps i d) most used capacity now few grows (subst (λ (ms : List Member). HasRoomFor ms (get_or steps i d) most capacity) (sym before) here)

-- where a run stops, the refused step leaves the bus so
pub stopped : (members mid new : List Member) (steps : List Step) (i : ℕ) (d : Step) (e : StackFault) → i < length steps → mid ≡ bus_after_all members (take i steps)
    → new ≡ bus_after_refusal mid (get_or steps i d) e → new ≡ bus_after_stop members steps i e
stopped members mid new steps i d e lt before one =
    one ∙ ap (λ (ms : List Member). bus_after_refusal ms (get_or steps i d) e) before
    ∙ sym (ap
    (λ (o : Option Step). elim o as
    (λ _. List Member) [ None ↦ members | Some x ↦ bus_after_refusal (bus_after_all members (take i steps)) x e ])
    (read_at steps i d lt))

pub stops_at : (members mid : List Member) (steps : List Step) (i : ℕ) (d : Step) (e : StackFault) → i < length steps → NoneIsRefused members (take i steps) → mid ≡ bus_after_all members (take i steps)
    → IsRefusal mid (get_or steps i d) e → StopsAt members steps i e
stops_at members mid steps i d e lt none before refused = (
  lt,
  none,
  subst (λ (o : Option Step). IfSome o (λ x. IsRefusal (bus_after_all members (take i steps)) x e)) (sym (read_at steps i d lt))
      (subst (λ (ms : List Member). IsRefusal ms (get_or steps i d) e) before refused),
)

-- what is reported isn't refused
pub not_refused : (o : Option StackFault) (r : Result Told StackFault) (told : Told) → r ≡ Ok told → ((e : StackFault) → o ≡ Some e → r ≡ Err e) → o ≡ None
not_refused None r told is refused = refl
not_refused (Some e) r told is refused = let wrong : Ok told ≡ Err e = sym is ∙ refused e refl in absurd (cc)

none_push : (xs : List Step) (members : List Member) (x : Step) → NoneIsRefused members xs → refusal (bus_after_all members xs) x ≡ None → NoneIsRefused members (xs ++ x ∷ [])
none_push [] members x none here = (here, tt)
none_push (y ∷ xs) members x none here = (none.0, none_push xs (bus_after members y) x none.1 here)

pub goes_on_more : (members mid : List Member) (steps : List Step) (i : ℕ) (d : Step) → i < length steps → mid ≡ bus_after_all members (take i steps)
    → NoneIsRefused members (take i steps) → refusal mid (get_or steps i d) ≡ None → NoneIsRefused members (take (i + 1) steps)
goes_on_more members mid steps i d lt before none here =
    subst (NoneIsRefused members) (sym (take_more steps i d lt))
    (none_push (take i steps) members (get_or steps i d) none (subst (λ (ms : List Member). refusal ms (get_or steps i d) ≡ None) before here))

-- what a request that begins names fits its setup
pub fits_of : (r : Result Told StackFault) (told : Told) {P : Type 0} → r ≡ Ok told → IfOk r (λ told. P) → P
fits_of (Ok t) told is fits = fits
fits_of (Err e) told is fits = absurd (cc)
