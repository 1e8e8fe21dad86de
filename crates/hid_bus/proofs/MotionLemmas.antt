-- Steps keep the motion of a control.
use Rattle.std.proofs.Common.{◌≡◌, ℕ, zero, suc, ◌+◌, ◌<◌, Bool, true, false, not, cond, ◌&&◌, ◌==◌, List, [], ◌∷◌, ◌++◌, length, map, Option, Some, None, Ok, Err, ℤ, pos, ◌+ℤ◌, refl, ap, sym, ◌∙◌, arith, subst}
use Rattle.std.specs.List.{slice_get, slice_set}
use Rattle.std.specs.Option.{unwrap_or}
use Rattle.std.proofs.lemmas.Int.{ints}
use Rattle.std.proofs.lemmas.List.{length-map}
use Rattle.std.proofs.lemmas.Bool.Decides.{nat_tests, Decides-eqb}
use Rattle.std.proofs.lemmas.Option.{slice_get_within}
use Rattle.hid_layout.specs.declared.control.Control.{Control}
use Rattle.hid_layout.specs.declared.control.ControlId.{ControlId}
use Rattle.hid_layout.specs.Controls.{Form, NoControls, Elements, Keys, Item, control_of, form_at, controls_of_form}
use Rattle.hid_snapshots.specs.declared.control_state.ControlState.{ControlState}
use Rattle.hid_snapshots.specs.declared.control_state.ControlState.TheVariants.{Absent}
use Rattle.hid_snapshots.specs.declared.change.Change.{Change}
use Rattle.hid_snapshots.specs.declared.change.Change.TheVariants.{Press, Release, Set, Null, Move}
use Rattle.hid_snapshots.specs.ControlStates.{HasRoom, FitControlStates, InSnapshot, InPart, FitsSnapshot, FitsShown, FitsView, blank_state, blank}
use Rattle.hid_snapshots.specs.Events.{control_at, change_events}
use Rattle.hid_snapshots.specs.Parts.{blank_parts, is_of, item_at, by_item, shown_state, shown_part_of, shown_parts, minus_motion, without_motion_of, without_part_motion, motion_of}
use Rattle.hid_snapshots.specs.Snapshots.{OrFault, motion_in, changed_state, target, state_at, with_state, change_at, snapshot_after}
use Rattle.hid_snapshots.specs.Views.{view_item_after, view_after_part, form_motions, part_of, events_from, events_between, changes_from, changes_between, drops_between, as_dropped}
use Rattle.hid_snapshots.proofs.ItemLemmas.{got, control_found, set_here, set_there}
use Rattle.hid_snapshots.proofs.PartLemmas.{by_item_length}
use Rattle.hid_snapshots.specs.declared.event.Event.{Event}
use Rattle.hid_snapshots.specs.declared.event.Event.TheVariants as event
use Rattle.usb_transact.specs.declared.transaction.Fate.{Fate}
use Rattle.usb_transact.specs.declared.transaction.Fate.TheVariants.{Clean, TokenLost, ReplyLost, AckLost}
use Rattle.hid_bus.specs.Motion.{Conserves, open_motion, accepted_steps_of_events, AreBetweenRounds, KeepsThroughHistory, motion_of_event, motion_of_events, motion_of_change, motion_of_steps, link_motion, is_done, is_move_accepted, step_if, accepted_steps, are_accepted, KeepsEach, HasMotions, kept_motions, relative_controls, KeepsMotion, KeepsAccepted}
use Rattle.hid_bus.specs.Rounds.{OwnStep, Changes, Frame, Polls, part_events}
use Rattle.hid_bus.specs.ReportState.{ReportState, due_where, with_abort}
use Rattle.hid_bus.specs.LinkState.{LinkState, OpenRound, open_report, is_last, has_all_pieces, completes, piece_after, initial_link, with_open_report, state_at_token, state_before_answer, state_after_answer, state_after_step, poll_events, events_of_step, events_of_steps, state_after_steps}
use Rattle.hid_bus.specs.DeviceHistory.{BusEvent, Own, Idles, Configures, Halts, Clears, Resets, steps_as_events, state_after, state_after_all, abort_events, reset_events, events_of_history}
use Rattle.hid_bus.proofs.HistoryLemmas.{link}
use Rattle.hid_bus.proofs.ScheduleLemmas.{own_told, own_stands}
use Rattle.hid_bus.proofs.ItemMotionLemmas.{blank_moves, room_moves, shown_moves, minus_moves, split_motion, amount_at, ChangesMotion, changed_motion, has_motion_at, given_append, quiet_changes, told_here, told_elsewhere}

joined : {A : Type 0} (x y : A) (xs ys : List A) → x ≡ y → xs ≡ ys → x ∷ xs ≡ y ∷ ys
joined x y xs ys h k = cc

first_same : (x y : Option ℕ) (xs ys : List (Option ℕ)) → x ∷ xs ≡ y ∷ ys → x ≡ y
first_same x y xs ys h = cc

rest_same : (x y : Option ℕ) (xs ys : List (Option ℕ)) → x ∷ xs ≡ y ∷ ys → xs ≡ ys
rest_same x y xs ys h = cc

rooms_moving : (items : List Item) (item_states : List ControlState) → length item_states ≡ length items
    → ((i : ℕ) (item : Item) (item_state : ControlState) → slice_get items i ≡ Some item → slice_get item_states i ≡ Some item_state
    → HasRoom (controls_of_form item.form) item_state) → KeepsEach items item_states
rooms_moving [] [] same rooms = refl
rooms_moving [] (item_state ∷ item_states) same rooms = absurd (omega arith)
rooms_moving (item ∷ items) [] same rooms = absurd (omega arith)
rooms_moving (item ∷ items) (item_state ∷ item_states) same rooms =
    joined (kept_motions item_state) (relative_controls item.form) _ _ (room_moves item.form item_state (rooms 0 item item_state refl refl)) (rooms_moving items item_states (omega arith) (λ i. rooms (suc i)))

suits_moving : (stands : Form → ControlState → Type 0) (items : List Item) (item_states : List ControlState)
    → FitControlStates stands items item_states → KeepsEach items item_states
suits_moving stands items item_states fits = rooms_moving items item_states fits.one_each fits.room

moving_length : (items : List Item) (item_states : List ControlState) → KeepsEach items item_states → length item_states ≡ length items
moving_length [] [] h = refl
moving_length [] (item_state ∷ item_states) h = absurd (cc)
moving_length (item ∷ items) [] h = absurd (cc)
moving_length (item ∷ items) (item_state ∷ item_states) h = ap suc (moving_length items item_states (rest_same _ _ _ _ h))

-- control states put together item by item
moving_by : (f : Item → ControlState → ControlState → ControlState) (items : List Item) (xs bs : List ControlState)
    → ((item : Item) (a b : ControlState) → kept_motions a ≡ relative_controls item.form
    → kept_motions b ≡ relative_controls item.form → kept_motions (f item a b) ≡ relative_controls item.form)
    → KeepsEach items xs → KeepsEach items bs → KeepsEach items (by_item f items xs bs)
moving_by f [] xs bs each h k = refl
moving_by f (item ∷ items) [] bs each h k = absurd (cc)
moving_by f (item ∷ items) (a ∷ xs) [] each h k = absurd (cc)
moving_by f (item ∷ items) (a ∷ xs) (b ∷ bs) each h k =
    joined (kept_motions (f item a b)) (relative_controls item.form) _ _ (each item a b (first_same _ _ _ _ h) (first_same _ _ _ _ k)) (moving_by f items xs bs each (rest_same _ _ _ _ h) (rest_same _ _ _ _ k))

moving_shown : (items : List Item) (r : ℕ) (item_states parts : List ControlState) → KeepsEach items item_states
    → KeepsEach items parts → KeepsEach items (shown_parts items r item_states parts)
moving_shown items r item_states parts =
    moving_by (shown_part_of r) items item_states parts (λ item a b h k. by_report item a b (is_of r item) h k)
  where
    by_report : (item : Item) (a b : ControlState) (of_it : Bool) → kept_motions a ≡ relative_controls item.form
        → kept_motions b ≡ relative_controls item.form
        → kept_motions (cond of_it (shown_state (controls_of_form item.form) a) b) ≡ relative_controls item.form
    by_report item a b true h k = shown_moves (controls_of_form item.form) a ∙ h
    by_report item a b false h k = k

moving_taken : (items : List Item) (r : ℕ) (item_states parts : List ControlState) → KeepsEach items item_states
    → KeepsEach items parts → KeepsEach items (without_part_motion items r item_states parts)
moving_taken items r item_states parts =
    moving_by (without_motion_of r) items item_states parts (λ item a b h k. by_report item a b (is_of r item) h k)
  where
    by_report : (item : Item) (a b : ControlState) (of_it : Bool) → kept_motions a ≡ relative_controls item.form
        → kept_motions b ≡ relative_controls item.form
        → kept_motions (cond of_it (minus_motion a b) a) ≡ relative_controls item.form
    by_report item a b true h k = minus_moves a b (k ∙ sym h) ∙ h
    by_report item a b false h k = h

-- A part takes what it shows: the motion of the items of its report is what is left and what is shown.
opening_sum : (r k j : ℕ) (items : List Item) (item_states parts : List ControlState) → KeepsEach items item_states
    → KeepsEach items parts
    → motion_in (state_at item_states k) j
    ≡ motion_in (state_at (without_part_motion items r item_states parts) k) j +ℤ cond (is_of r (item_at items k))
    (motion_in (state_at parts k) j) (pos 0)
opening_sum r k j [] [] parts h g = refl
opening_sum r k j [] (item_state ∷ item_states) parts h g = absurd (cc)
opening_sum r k j (item ∷ items) [] parts h g = absurd (cc)
opening_sum r k j (item ∷ items) (item_state ∷ item_states) [] h g = absurd (cc)
opening_sum r (suc k) j (item ∷ items) (item_state ∷ item_states) (part ∷ parts) h g = opening_sum r k j items item_states parts (rest_same _ _ _ _ h) (rest_same _ _ _ _ g)
opening_sum r zero j (item ∷ items) (item_state ∷ item_states) (part ∷ parts) h g = by_report (is_of r item)
  where
    by_report : (of_it : Bool) → motion_in item_state j ≡ motion_in (cond of_it (minus_motion item_state part) item_state) j +ℤ cond of_it (motion_in part j) (pos 0)
    by_report true = split_motion item_state part j (first_same _ _ _ _ g ∙ sym (first_same _ _ _ _ h))
    by_report false = omega (arith, ints)

-- What is reported between two views of the motion of a control of report r: that of its part, once.
vacant_of : (r : ℕ) (item : Item) → part_of r item Absent ≡ Absent
vacant_of r item = by_report (is_of r item)
  where
    by_report : (of_it : Bool) → cond of_it Absent Absent ≡ Absent
    by_report true = refl
    by_report false = refl

none_told : (c : ControlId) (n r : ℕ) (items : List Item) (bs xs ps : List ControlState) → c.item < n
    → motion_of_events c (events_from n r items bs xs ps) ≡ pos 0
none_told c n r [] bs xs ps h = refl
none_told c n r (item ∷ items) [] xs ps h = refl
none_told c n r (item ∷ items) (b ∷ bs) [] ps h = refl
none_told c n r (item ∷ items) (b ∷ bs) (a ∷ xs) [] h = refl
none_told c n r (item ∷ items) (b ∷ bs) (a ∷ xs) (p ∷ ps) h =
    let front =
    given_append c (change_events n item.form b a ++ form_motions n item.form (part_of r item p))
    (events_from (n + 1) r items bs xs ps) in
    let both = given_append c (change_events n item.form b a) (form_motions n item.form (part_of r item p)) in
    let quiet = quiet_changes c n item.form b a in
    let apart : (n == c.item) ≡ false = grind (arith, nat_tests) in
    let told = told_elsewhere c n item.form (part_of r item p) apart in
    let rest = none_told c (n + 1) r items bs xs ps (omega arith) in
    omega (arith, ints, front, both, quiet, told, rest)

told_of_part : (i j r : ℕ) (item : Item) (p : ControlState) → kept_motions p ≡ relative_controls item.form
    → motion_of_events (control_at i j) (form_motions i item.form (part_of r item p))
    ≡ cond (is_of r item) (motion_in p j) (pos 0)
told_of_part i j r item p h = by_report (is_of r item)
  where
    none : (form : Form) → motion_of_events (control_at i j) (form_motions i form Absent) ≡ pos 0
    none NoControls = refl
    none (Elements kind least greatest us) = refl
    none (Keys elements rolls keys) = refl

    by_report : (of_it : Bool)
        → motion_of_events (control_at i j) (form_motions i item.form (cond of_it p Absent))
        ≡ cond of_it (motion_in p j) (pos 0)
    by_report true = told_here i j item.form p h
    by_report false = none item.form

told_from : (c : ControlId) (n k r : ℕ) (items : List Item) (bs xs ps : List ControlState) → c.item ≡ n + k
    → length bs ≡ length items → length xs ≡ length items → KeepsEach items ps
    → motion_of_events c (events_from n r items bs xs ps)
    ≡ cond (is_of r (item_at items k)) (motion_in (state_at ps k) c.index) (pos 0)
told_from c n k r [] bs xs ps e hb hx hp = refl
told_from c n k r (item ∷ items) [] xs ps e hb hx hp = absurd (omega arith)
told_from c n k r (item ∷ items) (b ∷ bs) [] ps e hb hx hp = absurd (omega arith)
told_from c n k r (item ∷ items) (b ∷ bs) (a ∷ xs) [] e hb hx hp = absurd (cc)
told_from c n zero r (item ∷ items) (b ∷ bs) (a ∷ xs) (p ∷ ps) e hb hx hp =
    let front =
    given_append c (change_events n item.form b a ++ form_motions n item.form (part_of r item p))
    (events_from (n + 1) r items bs xs ps) in
    let both = given_append c (change_events n item.form b a) (form_motions n item.form (part_of r item p)) in
    let quiet = quiet_changes c n item.form b a in
    let here : n ≡ c.item = omega arith in
    let told : motion_of_events c (form_motions n item.form (part_of r item p))
    ≡ cond (is_of r item) (motion_in p c.index) (pos 0)
    = ap (λ (i : ℕ). motion_of_events c (form_motions i item.form (part_of r item p))) here
    ∙ told_of_part c.item c.index r item p (first_same _ _ _ _ hp) in
    let rest = none_told c (n + 1) r items bs xs ps (omega arith) in
    omega (arith, ints, front, both, quiet, told, rest)
told_from c n (suc k) r (item ∷ items) (b ∷ bs) (a ∷ xs) (p ∷ ps) e hb hx hp =
    let front =
    given_append c (change_events n item.form b a ++ form_motions n item.form (part_of r item p))
    (events_from (n + 1) r items bs xs ps) in
    let both = given_append c (change_events n item.form b a) (form_motions n item.form (part_of r item p)) in
    let quiet = quiet_changes c n item.form b a in
    let apart : (n == c.item) ≡ false = grind (arith, nat_tests) in
    let told = told_elsewhere c n item.form (part_of r item p) apart in
    let rest = told_from c (n + 1) k r items bs xs ps (omega arith) (omega arith) (omega arith) (rest_same _ _ _ _ hp) in
    omega (arith, ints, front, both, quiet, told, rest)

crossing_sum : (c : ControlId) (r : ℕ) (items : List Item) (view parts : List ControlState)
    → length view ≡ length items → KeepsEach items parts
    → motion_of_events c (part_events items r view parts)
    ≡ cond (is_of r (item_at items c.item)) (motion_of parts c) (pos 0)
crossing_sum c r items view parts h k =
    told_from c 0 c.item r items view (view_after_part items r view parts) parts (omega arith) h
    (by_item_length (view_item_after r) items view parts h (moving_length items parts k)) k

-- An accepted change moves the motion of the control that it names by what it adds, and of no other.
moved_here : (c : ControlId) (change : Change) → ((target change).item == c.item) ≡ true
    → motion_of_change c change ≡ amount_at change c.index
moved_here c (Press d) h = refl
moved_here c (Release d) h = refl
moved_here c (Set d v) h = refl
moved_here c (Null d) h = refl
moved_here c (Move d by) h = ap (λ (b : Bool). cond (b && (d.index == c.index)) by (pos 0)) h

moved_elsewhere : (c : ControlId) (change : Change) → ((target change).item == c.item) ≡ false
    → motion_of_change c change ≡ pos 0
moved_elsewhere c (Press d) h = refl
moved_elsewhere c (Release d) h = refl
moved_elsewhere c (Set d v) h = refl
moved_elsewhere c (Null d) h = refl
moved_elsewhere c (Move d by) h = ap (λ (b : Bool). cond (b && (d.index == c.index)) by (pos 0)) h

sum_zero : (x : ℤ) → x +ℤ pos 0 ≡ x
sum_zero x = omega (arith, ints)

state_there : (item_states : List ControlState) (i : ℕ) (item_state : ControlState) → slice_get item_states i ≡ Some item_state
    → state_at item_states i ≡ item_state
state_there item_states i item_state h = ap (λ (o : Option ControlState). unwrap_or o Absent) h

set_sum : (item_states : List ControlState) (change : Change) (old new : ControlState) (c : ControlId)
    → slice_get item_states (target change).item ≡ Some old → ChangesMotion old new change
    → motion_of item_states c +ℤ motion_of_change c change ≡ motion_of (slice_set item_states (target change).item new) c
set_sum item_states change old new c there changes = by_item_of ((target change).item == c.item) refl
  where
    by_item_of : (b : Bool) → ((target change).item == c.item) ≡ b
        → motion_of item_states c +ℤ motion_of_change c change ≡ motion_of (slice_set item_states (target change).item new) c
    by_item_of true e =
        let same : (target change).item ≡ c.item = (Decides-eqb (target change).item c.item).0 e in
        let within : (target change).item < length item_states = slice_get_within item_states (target change).item old there in
        let before : motion_of item_states c ≡ motion_in old c.index =
        ap (λ (i : ℕ). motion_in (state_at item_states i) c.index) (sym same)
        ∙ ap (λ (item_state : ControlState). motion_in item_state c.index)
        (state_there item_states (target change).item old there) in
        let after_it : motion_of (slice_set item_states (target change).item new) c ≡ motion_in new c.index
        = ap (λ (i : ℕ). motion_in (state_at (slice_set item_states (target change).item new) i) c.index) (sym same)
        ∙ ap (λ (item_state : ControlState). motion_in item_state c.index)
        (state_there (slice_set item_states (target change).item new) (target change).item new
        (set_here item_states (target change).item new within)) in
        let added : motion_of_change c change ≡ amount_at change c.index = moved_here c change e in
        let amounts : motion_in old c.index +ℤ amount_at change c.index ≡ motion_in new c.index = changes.amounts c.index in
        omega (arith, ints, before, after_it, added, amounts)
    by_item_of false e =
        let other : (target change).item ≡ c.item → ⊥ = λ same. let t : ((target change).item == c.item) ≡ true = (Decides-eqb (target change).item c.item).1 same in absurd (cc) in
        let stays : motion_of (slice_set item_states (target change).item new) c ≡ motion_of item_states c
        = ap (λ (o : Option ControlState). motion_in (unwrap_or o Absent) c.index)
        (set_there item_states (target change).item c.item new other) in
        let added : motion_of_change c change ≡ pos 0 = moved_elsewhere c change e in
        omega (arith, ints, stays, added)

moving_set : (item_states : List ControlState) (i : ℕ) (old new : ControlState) → slice_get item_states i ≡ Some old
    → kept_motions new ≡ kept_motions old → map kept_motions (slice_set item_states i new) ≡ map kept_motions item_states
moving_set [] i old new h k = refl
moving_set (item_state ∷ item_states) zero old new h k = let e : item_state ≡ old = cc in ap (λ (m : Option ℕ). m ∷ map kept_motions item_states) (k ∙ ap kept_motions (sym e))
moving_set (item_state ∷ item_states) (suc i) old new h k = ap (λ (ms : List (Option ℕ)). kept_motions item_state ∷ ms) (moving_set item_states i old new h k)

moving_at : (items : List Item) (item_states : List ControlState) (i : ℕ) (item : Item) (item_state : ControlState)
    → KeepsEach items item_states → slice_get items i ≡ Some item → slice_get item_states i ≡ Some item_state
    → kept_motions item_state ≡ relative_controls item.form
moving_at [] item_states i item item_state h g k = absurd (cc)
moving_at (it ∷ items) [] i item item_state h g k = absurd (cc)
moving_at (it ∷ items) (x ∷ item_states) zero item item_state h g k =
    let p : it ≡ item = cc in
    let q : x ≡ item_state = cc in
    ap kept_motions (sym q) ∙ first_same _ _ _ _ h ∙ ap (λ (a : Item). relative_controls a.form) p
moving_at (it ∷ items) (x ∷ item_states) (suc i) item item_state h g k = moving_at items item_states i item item_state (rest_same _ _ _ _ h) g k

-- what an accepted change leaves
record Shifts (items : List Item) (item_states new : List ControlState) (change : Change) : Type 0 where
  moving : KeepsEach items new
  sums : (c : ControlId) → motion_of item_states c +ℤ motion_of_change c change ≡ motion_of new c

shifts_along : (items : List Item) (item_states a b : List ControlState) (change : Change) → a ≡ b
    → Shifts items item_states a change → Shifts items item_states b change
shifts_along items item_states a b change e h = let P : List ControlState → Type 0 =
    λ new. Shifts items item_states new change in subst P e h

states_same : (x y : List ControlState)
    → (let a : OrFault (List ControlState) = Ok x in let b : OrFault (List ControlState) = Ok y in a ≡ b) → x ≡ y
states_same x y h = cc

changed_sum : (items : List Item) (item_states new : List ControlState) (change : Change) → KeepsEach items item_states
    → snapshot_after items item_states change ≡ Ok new → Shifts items item_states new change
changed_sum items item_states new change moving h = by_control (control_of items (target change)) refl h
  where
    by_state : (control : Control) (o : OrFault ControlState) → control_of items (target change) ≡ Some control
        → changed_state control.kind (controls_of_form (form_at items (target change).item))
        (state_at item_states (target change).item) change ≡ o
        → with_state item_states (target change).item o ≡ Ok new → Shifts items item_states new change
    by_state control (Err fault) is e k = absurd (cc)
    by_state control (Ok item_state) is e k =
        let found = control_found items (target change) control is in
        let i : ℕ = (target change).item in
        let there = slice_get_within items i found.item found.there in
        let same_length = moving_length items item_states moving in
        let old = got item_states i (omega (arith, there, same_length)) in
        let at_it : state_at item_states i ≡ old.0 = state_there item_states i old.0 old.1 in
        let kept_there : kept_motions old.0 ≡ relative_controls found.item.form = moving_at items item_states i found.item old.0 moving found.there old.1 in
        let done : changed_state control.kind (controls_of_form (form_at items i)) old.0 change ≡ Ok item_state =
        ap (λ (x : ControlState). changed_state control.kind (controls_of_form (form_at items i)) x change)
        (sym at_it)
        ∙ e in
        let changes : ChangesMotion old.0 item_state change =
        changed_motion control.kind (controls_of_form (form_at items i)) old.0 item_state change
        (λ relative. has_motion_at found.item.form old.0
        (target change).index control kept_there found.is relative) done in
        shifts_along items item_states (slice_set item_states i item_state) new change (states_same _ _ k)
        (record { moving = moving_set item_states i old.0 item_state old.1 changes.same ∙ moving; sums = λ c. set_sum item_states change old.0 item_state c old.1 changes })

    by_control : (o : Option Control) → control_of items (target change) ≡ o → change_at items item_states change o ≡ Ok new
        → Shifts items item_states new change
    by_control None is k = absurd (cc)
    by_control (Some control) is k = by_state control _ is refl k

-- One step keeps the motion of each control, and what the link state keeps suits its items again.
abbrev Keeps : List Item → LinkState → OwnStep → ControlId → Type 0
Keeps items s x c =
    link_motion items s c +ℤ motion_of_steps c (step_if (is_move_accepted items s x) x)
    ≡ motion_of_events c (events_of_step items s x) +ℤ link_motion items (state_after_step items s x) c

-- a change, by what comes of it
abbrev standing_of : ReportState → OrFault (List ControlState) → ReportState
standing_of d (Ok item_states) = record { snapshot = item_states; fixed = d.fixed; frames = d.frames; idle = d.idle; aborted = d.aborted }
standing_of d (Err fault) = d

change_keeps : (items : List Item) (s : LinkState) (change : Change) (c : ControlId) (o : OrFault (List ControlState))
    → HasMotions items s → snapshot_after items s.reports.snapshot change ≡ o
    → link_motion items s c +ℤ motion_of_steps c (step_if (is_done o) (Changes change))
    ≡ pos 0 +ℤ link_motion items (record s { reports = standing_of s.reports o }) c
change_keeps items s change c (Ok item_states) moving h =
    let shifts = changed_sum items s.reports.snapshot item_states change moving.snapshot h in
    let sums : motion_of s.reports.snapshot c +ℤ motion_of_change c change ≡ motion_of item_states c = shifts.sums c in
    omega (arith, ints, sums)
change_keeps items s change c (Err fault) moving h = omega (arith, ints)

change_moving : (items : List Item) (s : LinkState) (change : Change) (o : OrFault (List ControlState))
    → HasMotions items s → snapshot_after items s.reports.snapshot change ≡ o
    → HasMotions items (record s { reports = standing_of s.reports o })
change_moving items s change (Ok item_states) moving h =
    record {
      snapshot = (changed_sum items s.reports.snapshot item_states change moving.snapshot h).moving;
      fixed =
          moving.fixed;
      view = moving.view;
    }
change_moving items s change (Err fault) moving h = moving

-- an opening takes out of the snapshot what its round carries
opened_by_same : (items : List Item) (d : ReportState) (odd : Bool) (view : List ControlState) (halted : Bool)
    (due : Option ℕ) (c : ControlId) → KeepsEach items d.snapshot → KeepsEach items d.fixed
    → link_motion items (link d None odd view halted) c
    ≡ link_motion items (with_open_report items (link d None odd view halted) due) c
opened_by_same items d odd view halted None c h k = refl
opened_by_same items d odd view halted (Some r) c h k =
    sum_zero (motion_of d.snapshot c)
    ∙ opening_sum r c.item c.index items d.snapshot (shown_parts items r d.snapshot d.fixed) h
    (moving_shown items r d.snapshot d.fixed h k)

opened_by_moving : (items : List Item) (s : LinkState) (due : Option ℕ) → HasMotions items s
    → HasMotions items (with_open_report items s due)
opened_by_moving items s None moving = moving
opened_by_moving items s (Some r) moving =
    let fixed = moving_shown items r s.reports.snapshot s.reports.fixed moving.snapshot moving.fixed in
    record {
      snapshot =
          moving_taken items r s.reports.snapshot
          (shown_parts items r s.reports.snapshot s.reports.fixed) moving.snapshot fixed;
      fixed = fixed;
      view =
          moving.view;
    }

opened_same : (items : List Item) (d : ReportState) (current : Option OpenRound) (odd : Bool)
    (view : List ControlState)
    (halted : Bool) (c : ControlId) → KeepsEach items d.snapshot → KeepsEach items d.fixed
    → link_motion items (link d current odd view halted) c
    ≡ link_motion items (state_at_token items (link d current odd view halted)) c
opened_same items d (Some round) odd view halted c h k = refl
opened_same items d None odd view halted c h k = opened_by_same items d odd view halted (due_where items halted d) c h k

opened_moving : (items : List Item) (d : ReportState) (current : Option OpenRound) (odd : Bool)
    (view : List ControlState)
    (halted : Bool) → HasMotions items (link d current odd view halted)
    → HasMotions items (state_at_token items (link d current odd view halted))
opened_moving items d (Some round) odd view halted moving = moving
opened_moving items d None odd view halted moving =
    opened_by_moving items (link d None odd view halted) (due_where items halted d) moving

arrived_same : (items : List Item) (s : LinkState) (fate : Fate) (c : ControlId) → HasMotions items s
    → link_motion items s c ≡ link_motion items (state_before_answer items s fate) c
arrived_same items s TokenLost c moving = refl
arrived_same items s Clean c moving =
    opened_same items s.reports s.current s.toggle s.view s.halted c moving.snapshot moving.fixed
arrived_same items s ReplyLost c moving =
    opened_same items s.reports s.current s.toggle s.view s.halted c moving.snapshot moving.fixed
arrived_same items s AckLost c moving =
    opened_same items s.reports s.current s.toggle s.view s.halted c moving.snapshot moving.fixed

arrived_moving : (items : List Item) (s : LinkState) (fate : Fate) → HasMotions items s
    → HasMotions items (state_before_answer items s fate)
arrived_moving items s TokenLost moving = moving
arrived_moving items s Clean moving = opened_moving items s.reports s.current s.toggle s.view s.halted moving
arrived_moving items s ReplyLost moving = opened_moving items s.reports s.current s.toggle s.view s.halted moving
arrived_moving items s AckLost moving = opened_moving items s.reports s.current s.toggle s.view s.halted moving

-- what an open round carries, by whether it has crossed
abbrev motion_if : List Item → List ControlState → ℕ → Bool → ControlId → ℤ
motion_if items fixed r whole c = cond (not whole && is_of r (item_at items c.item)) (motion_of fixed c) (pos 0)

-- A round tells its motion where it crosses, and carries none from then on: by whether the piece at hand is the last, and
-- has crossed.
abbrev ClosesSo : List Item → ReportState → OpenRound → List ControlState → ControlId → Bool → Bool → Type 0
ClosesSo items d round view c crossed last =
    motion_of d.snapshot c +ℤ motion_if items d.fixed round.report (crossed && last) c
    ≡ motion_of_events c (cond (last && not crossed) (part_events items round.report view d.fixed) [])
    +ℤ (motion_of d.snapshot c +ℤ open_motion items d.fixed (cond last None (Some (piece_after round))) c)

closes_so : (items : List Item) (d : ReportState) (round : OpenRound) (view : List ControlState) (c : ControlId)
    (crossed last : Bool) → KeepsEach items d.fixed → length view ≡ length items
    → ClosesSo items d round view c crossed last
closes_so items d round view c true true h k = omega (arith, ints)
closes_so items d round view c false true h k = let told = crossing_sum c round.report items view d.fixed k h in omega (arith, ints, told)
closes_so items d round view c true false h k = omega (arith, ints)
closes_so items d round view c false false h k = omega (arith, ints)

abbrev CrossesSo : List Item → ReportState → ℕ → List ControlState → ControlId → Bool → Bool → Type 0
CrossesSo items d r view c crossed last =
    motion_of d.snapshot c +ℤ motion_if items d.fixed r (crossed && last) c
    ≡ motion_of_events c (cond (last && not crossed) (part_events items r view d.fixed) []) +ℤ
    (motion_of d.snapshot c +ℤ motion_if items d.fixed r last c)

crosses_so : (items : List Item) (d : ReportState) (r : ℕ) (view : List ControlState) (c : ControlId)
    (crossed last : Bool) → KeepsEach items d.fixed → length view ≡ length items
    → CrossesSo items d r view c crossed last
crosses_so items d r view c true true h k = omega (arith, ints)
crosses_so items d r view c false true h k = let told = crossing_sum c r items view d.fixed k h in omega (arith, ints, told)
crosses_so items d r view c true false h k = omega (arith, ints)
crosses_so items d r view c false false h k = omega (arith, ints)

answer_keeps : (items : List Item) (d : ReportState) (current : Option OpenRound) (odd : Bool)
    (view : List ControlState)
    (halted : Bool) (fate : Fate) (c : ControlId) → KeepsEach items d.fixed → length view ≡ length items
    → let s : LinkState = link d current odd view halted in
    link_motion items s c
    ≡ motion_of_events c (poll_events items s fate) +ℤ link_motion items (state_after_answer items s fate) c
answer_keeps items d None odd view halted fate c h k = omega (arith, ints)
answer_keeps items d (Some round) odd view halted TokenLost c h k = omega (arith, ints)
answer_keeps items d (Some round) odd view halted ReplyLost c h k = omega (arith, ints)
answer_keeps items d (Some round) odd view halted Clean c h k = closes_so items d round view c round.crossed (is_last round) h k
answer_keeps items d (Some round) odd view halted AckLost c h k = crosses_so items d round.report view c round.crossed (is_last round) h k

seen_length : (items : List Item) (r : ℕ) (view parts : List ControlState) → length view ≡ length items
    → KeepsEach items parts → length (view_after_part items r view parts) ≡ length items
seen_length items r view parts h k =
    by_item_length (view_item_after r) items view parts h (moving_length items parts k)

view_length : (items : List Item) (r : ℕ) (sees : Bool) (view parts : List ControlState) → length view ≡ length items
    → KeepsEach items parts → length (cond sees (view_after_part items r view parts) view) ≡ length items
view_length items r true view parts h k = seen_length items r view parts h k
view_length items r false view parts h k = h

answer_moving : (items : List Item) (d : ReportState) (current : Option OpenRound) (odd : Bool)
    (view : List ControlState)
    (halted : Bool) (fate : Fate) → HasMotions items (link d current odd view halted)
    → HasMotions items (state_after_answer items (link d current odd view halted) fate)
answer_moving items d None odd view halted fate moving = moving
answer_moving items d (Some round) odd view halted TokenLost moving = moving
answer_moving items d (Some round) odd view halted ReplyLost moving = moving
answer_moving items d (Some round) odd view halted Clean moving = record { snapshot = moving.snapshot; fixed = moving.fixed; view = view_length items round.report (completes round) view d.fixed moving.view moving.fixed }
answer_moving items d (Some round) odd view halted AckLost moving = record { snapshot = moving.snapshot; fixed = moving.fixed; view = view_length items round.report (completes round) view d.fixed moving.view moving.fixed }

step_keeps : (items : List Item) (s : LinkState) (x : OwnStep) (c : ControlId) → HasMotions items s
    → Keeps items s x c
step_keeps items s (Changes change) c moving =
    change_keeps items s change c (snapshot_after items s.reports.snapshot change) moving refl
step_keeps items s Frame c moving = omega (arith, ints)
step_keeps items s (Polls fate) c moving =
    let t : LinkState = state_before_answer items s fate in
    let arrives : link_motion items s c ≡ link_motion items t c = arrived_same items s fate c moving in
    let still : HasMotions items t = arrived_moving items s fate moving in
    let answers : link_motion items t c
    ≡ motion_of_events c (poll_events items t fate) +ℤ link_motion items (state_after_answer items t fate) c =
    answer_keeps items t.reports t.current t.toggle t.view t.halted fate c still.fixed still.view in
    sum_zero (link_motion items s c) ∙ arrives ∙ answers

pub step_moving : (items : List Item) (s : LinkState) (x : OwnStep) → HasMotions items s
    → HasMotions items (state_after_step items s x)
step_moving items s (Changes change) moving =
    change_moving items s change (snapshot_after items s.reports.snapshot change) moving refl
step_moving items s Frame moving = record { snapshot = moving.snapshot; fixed = moving.fixed; view = moving.view }
step_moving items s (Polls fate) moving =
    let t : LinkState = state_before_answer items s fate in
    answer_moving items t.reports t.current t.toggle t.view t.halted fate (arrived_moving items s fate moving)

-- whole lists
moved_append : (c : ControlId) (xs ys : List OwnStep)
    → motion_of_steps c (xs ++ ys) ≡ motion_of_steps c xs +ℤ motion_of_steps c ys
moved_append c [] ys = omega (arith, ints)
moved_append c (x ∷ xs) ys = omega (arith, ints, moved_append c xs ys)

blank_each : (items : List Item) → KeepsEach items (blank items)
blank_each [] = refl
blank_each (item ∷ items) = joined _ _ _ _ (blank_moves item.form) (blank_each items)

blank_parts_each : (items : List Item) → KeepsEach items (blank_parts items)
blank_parts_each [] = refl
blank_parts_each (item ∷ items) =
    joined _ _ _ _
    (shown_moves (controls_of_form item.form) (blank_state (controls_of_form item.form)) ∙ blank_moves item.form)
    (blank_parts_each items)

blank_length : (items : List Item) → length (blank items) ≡ length items
blank_length items = length-map items (λ item. blank_state (controls_of_form item.form))

-- a round that is cut leaves the snapshot, the parts and the view
cut_snapshot : (o : Option ℕ) (d : ReportState) → (with_abort o d).snapshot ≡ d.snapshot
cut_snapshot None d = refl
cut_snapshot (Some r) d = refl

cut_fixed : (o : Option ℕ) (d : ReportState) → (with_abort o d).fixed ≡ d.fixed
cut_fixed None d = refl
cut_fixed (Some r) d = refl

abbrev cut_off : LinkState → Bool → Bool → LinkState
cut_off s halted odd =
    record {
      reports = with_abort (open_report s.current) s.reports;
      current = None;
      toggle = odd;
      view =
          s.view;
      halted = halted;
    }

cut_moving : (items : List Item) (s : LinkState) (halted odd : Bool) → HasMotions items s
    → HasMotions items (cut_off s halted odd)
cut_moving items s halted odd moving = record {
  snapshot = subst (KeepsEach items) (sym (cut_snapshot (open_report s.current) s.reports)) moving.snapshot;
  fixed = subst (KeepsEach items) (sym (cut_fixed (open_report s.current) s.reports)) moving.fixed;
  view = moving.view;
}

-- what happens to a link state leaves it its motions, and between rounds a configuration loses none
bus_event_moving : (items : List Item) (s : LinkState) (x : BusEvent) → HasMotions items s
    → HasMotions items (state_after items s x)
bus_event_moving items s (Own x) moving = step_moving items s x moving
bus_event_moving items s (Idles idle) moving =
    record { snapshot = moving.snapshot; fixed = moving.fixed; view = moving.view }
bus_event_moving items s Configures moving = record {
  snapshot = moving.snapshot;
  fixed = blank_parts_each items;
  view = blank_length items;
}
bus_event_moving items s Halts moving = cut_moving items s true s.toggle moving
bus_event_moving items s Clears moving = cut_moving items s false false moving
bus_event_moving items s Resets moving =
    record { snapshot = moving.snapshot; fixed = blank_parts_each items; view = blank_length items }

configured_same : (items : List Item) (s : LinkState) (c : ControlId) → s.current ≡ None
    → link_motion items s c ≡ link_motion items (state_after items s Configures) c
configured_same items s c none_open =
    ap (λ (o : Option OpenRound). motion_of s.reports.snapshot c +ℤ open_motion items s.reports.fixed o c) none_open

-- dropped motion counts as told motion does, and what changes between views is none
dropped_gives : (c : ControlId) (e : Event) → motion_of_event c (as_dropped e) ≡ motion_of_event c e
dropped_gives c (event.Motion d u by) = refl
dropped_gives c (event.Dropped d u by) = refl
dropped_gives c (event.Down d u) = refl
dropped_gives c (event.Up d u) = refl
dropped_gives c (event.Value d u v) = refl
dropped_gives c (event.Null d u) = refl

drops_give : (c : ControlId) (events : List Event)
    → motion_of_events c (map as_dropped events) ≡ motion_of_events c events
drops_give c [] = refl
drops_give c (e ∷ events) =
    let one : motion_of_event c (as_dropped e) ≡ motion_of_event c e = dropped_gives c e in
    let rest : motion_of_events c (map as_dropped events) ≡ motion_of_events c events = drops_give c events in
    omega (arith, ints, one, rest)

quiet_between : (c : ControlId) (n : ℕ) (items : List Item) (bs xs : List ControlState)
    → motion_of_events c (changes_from n items bs xs) ≡ pos 0
quiet_between c n [] bs xs = refl
quiet_between c n (item ∷ items) [] xs = refl
quiet_between c n (item ∷ items) (b ∷ bs) [] = refl
quiet_between c n (item ∷ items) (b ∷ bs) (a ∷ xs) =
    let front = given_append c (change_events n item.form b a) (changes_from (n + 1) items bs xs) in
    let quiet = quiet_changes c n item.form b a in
    let rest = quiet_between c (n + 1) items bs xs in
    omega (arith, ints, front, quiet, rest)

-- A reset tells the motion that its open round still carries, and that alone.
abbrev GoneSo : List Item → ReportState → ℕ → List ControlState → ControlId → Bool → Type 0
GoneSo items d r view c whole =
    motion_of d.snapshot c +ℤ motion_if items d.fixed r whole c
    ≡ motion_of_events c
    (cond whole (changes_between items view (blank items)) (drops_between items r view (blank items) d.fixed)) +ℤ
    (motion_of d.snapshot c +ℤ pos 0)

gone_by : (items : List Item) (d : ReportState) (r : ℕ) (view : List ControlState) (c : ControlId) (whole : Bool)
    → KeepsEach items d.fixed → length view ≡ length items → GoneSo items d r view c whole
gone_by items d r view c true h k = let quiet = quiet_between c 0 items view (blank items) in omega (arith, ints, quiet)
gone_by items d r view c false h k =
    let told = told_from c 0 c.item r items view (blank items) d.fixed (omega arith) k (blank_length items) h in
    let dropped = drops_give c (events_between items r view (blank items) d.fixed) in
    omega (arith, ints, told, dropped)

gone_with : (items : List Item) (d : ReportState) (current : Option OpenRound) (odd : Bool) (view : List ControlState)
    (halted : Bool) (c : ControlId) → KeepsEach items d.fixed → length view ≡ length items
    → let s : LinkState = link d current odd view halted in
    link_motion items s c
    ≡ motion_of_events c (reset_events items s) +ℤ link_motion items (state_after items s Resets) c
gone_with items d None odd view halted c h k = let quiet = quiet_between c 0 items view (blank items) in omega (arith, ints, quiet)
gone_with items d (Some round) odd view halted c h k = gone_by items d round.report view c (has_all_pieces round) h k

-- A halt and a clear tell it too.
abbrev CutSo : List Item → ReportState → ℕ → List ControlState → ControlId → Bool → Type 0
CutSo items d r view c whole =
    motion_of d.snapshot c +ℤ motion_if items d.fixed r whole c
    ≡ motion_of_events c (cond whole [] (drops_between items r view view d.fixed)) +ℤ
    (motion_of d.snapshot c +ℤ pos 0)

cut_by : (items : List Item) (d : ReportState) (r : ℕ) (view : List ControlState) (c : ControlId) (whole : Bool)
    → KeepsEach items d.fixed → length view ≡ length items → CutSo items d r view c whole
cut_by items d r view c true h k = omega (arith, ints)
cut_by items d r view c false h k =
    let told = told_from c 0 c.item r items view view d.fixed (omega arith) k k h in
    let dropped = drops_give c (events_between items r view view d.fixed) in
    omega (arith, ints, told, dropped)

cut_with : (items : List Item) (d : ReportState) (current : Option OpenRound) (odd : Bool) (view : List ControlState)
    (halted still even : Bool) (c : ControlId) → KeepsEach items d.fixed → length view ≡ length items
    → let s : LinkState = link d current odd view halted in
    link_motion items s c ≡ motion_of_events c (abort_events items s) +ℤ link_motion items (cut_off s still even) c
cut_with items d None odd view halted still even c h k = omega (arith, ints)
cut_with items d (Some round) odd view halted still even c h k =
    cut_by items d round.report view c (has_all_pieces round) h k

pub histories_keep_motion : (items : List Item) (s : LinkState) → HasMotions items s → (bus_events : List BusEvent)
    → AreBetweenRounds items s bus_events → KeepsThroughHistory items s bus_events
histories_keep_motion items s moving [] between c = omega (arith, ints)
histories_keep_motion items s moving (Own x ∷ bus_events) between c =
    let one : Keeps items s x c = step_keeps items s x c moving in
    let rest = histories_keep_motion items (state_after_step items s x) (step_moving items s x moving) bus_events between.1 c in
    let added =
    moved_append c (step_if (is_move_accepted items s x) x)
    (accepted_steps_of_events items (state_after_step items s x) bus_events) in
    let told =
    given_append c (events_of_step items s x) (events_of_history items (state_after_step items s x) bus_events) in
    omega (arith, ints, one, rest, added, told)
histories_keep_motion items s moving (Idles idle ∷ bus_events) between c =
    histories_keep_motion items (state_after items s (Idles idle))
    (bus_event_moving items s (Idles idle) moving) bus_events between.1 c
histories_keep_motion items s moving (Configures ∷ bus_events) between c =
    let same : link_motion items s c ≡ link_motion items (state_after items s Configures) c =
    configured_same items s c between.0 in
    let rest =
    histories_keep_motion items (state_after items s Configures)
    (bus_event_moving items s Configures moving) bus_events between.1 c in
    omega (arith, ints, same, rest)
histories_keep_motion items s moving (Halts ∷ bus_events) between c =
    let aborted = cut_with items s.reports s.current s.toggle s.view s.halted true s.toggle c moving.fixed moving.view in
    let rest =
    histories_keep_motion items (state_after items s Halts) (bus_event_moving items s Halts moving) bus_events between.1 c in
    let told =
    given_append c (abort_events items s) (events_of_history items (state_after items s Halts) bus_events) in
    omega (arith, ints, aborted, rest, told)
histories_keep_motion items s moving (Clears ∷ bus_events) between c =
    let aborted = cut_with items s.reports s.current s.toggle s.view s.halted false false c moving.fixed moving.view in
    let rest =
    histories_keep_motion items (state_after items s Clears)
    (bus_event_moving items s Clears moving) bus_events between.1 c in
    let told =
    given_append c (abort_events items s) (events_of_history items (state_after items s Clears) bus_events) in
    omega (arith, ints, aborted, rest, told)
histories_keep_motion items s moving (Resets ∷ bus_events) between c =
    let gone = gone_with items s.reports s.current s.toggle s.view s.halted c moving.fixed moving.view in
    let rest =
    histories_keep_motion items (state_after items s Resets)
    (bus_event_moving items s Resets moving) bus_events between.1 c in
    let told =
    given_append c (reset_events items s) (events_of_history items (state_after items s Resets) bus_events) in
    omega (arith, ints, gone, rest, told)

pub lived_has : (items : List Item) (s : LinkState) (bus_events : List BusEvent) → HasMotions items s
    → HasMotions items (state_after_all items s bus_events)
lived_has items s [] has = has
lived_has items s (x ∷ bus_events) has =
    lived_has items (state_after items s x) bus_events (bus_event_moving items s x has)

-- own steps alone
own_between : (items : List Item) (s : LinkState) (steps : List OwnStep)
    → AreBetweenRounds items s (steps_as_events steps)
own_between items s [] = tt
own_between items s (x ∷ steps) = (tt, own_between items (state_after_step items s x) steps)

own_accepted : (items : List Item) (s : LinkState) (steps : List OwnStep)
    → accepted_steps_of_events items s (steps_as_events steps) ≡ accepted_steps items s steps
own_accepted items s [] = refl
own_accepted items s (x ∷ steps) =
    ap (λ (xs : List OwnStep). step_if (is_move_accepted items s x) x ++ xs)
    (own_accepted items (state_after_step items s x) steps)

pub kept : (items : List Item) (s : LinkState) → HasMotions items s → (steps : List OwnStep)
    → KeepsMotion items s steps
kept items s has steps c =
    subst (λ (t : LinkState). Conserves c (accepted_steps items s steps) (link_motion items s c)
    (events_of_steps items s steps) (link_motion items t c)) (own_stands items steps s)
    (subst (λ (es : List Event). Conserves c (accepted_steps items s steps) (link_motion items s c) es
    (link_motion items (state_after_all items s (steps_as_events steps)) c)) (own_told items steps s)
    (subst (λ (xs : List OwnStep). Conserves c xs (link_motion items s c)
    (events_of_history items s (steps_as_events steps))
    (link_motion items (state_after_all items s (steps_as_events steps)) c)) (own_accepted items s steps)
    (histories_keep_motion items s has (steps_as_events steps) (own_between items s steps) c)))

all_accepted : (items : List Item) (s : LinkState) (steps : List OwnStep) → are_accepted items s steps ≡ true
    → accepted_steps items s steps ≡ steps
all_accepted items s [] h = refl
all_accepted items s (x ∷ steps) h =
    by_first (is_move_accepted items s x) h (all_accepted items (state_after_step items s x) steps)
  where
    by_first : (b : Bool) → (b && are_accepted items (state_after_step items s x) steps) ≡ true
        → (are_accepted items (state_after_step items s x) steps ≡ true
        → accepted_steps items (state_after_step items s x) steps ≡ steps)
        → step_if b x ++ accepted_steps items (state_after_step items s x) steps ≡ x ∷ steps
    by_first true k rest = ap (λ (xs : List OwnStep). x ∷ xs) (rest k)
    by_first false k rest = absurd (cc)

pub kept_accepted : (items : List Item) (s : LinkState) → HasMotions items s → (steps : List OwnStep)
    → are_accepted items s steps ≡ true → KeepsAccepted items s steps
kept_accepted items s has steps h c =
    ap (λ (xs : List OwnStep). link_motion items s c +ℤ motion_of_steps c xs) (sym (all_accepted items s steps h))
    ∙ kept items s has steps c

-- which link states have a motion for each relative control: those whose parts suit their items, those freshly
-- configured with nothing pressed and nothing moved, and those after any steps
pub suits_has : (items : List Item) (s : LinkState) → FitsSnapshot items s.reports.snapshot
    → FitsShown items s.reports.fixed → FitsView items s.view → HasMotions items s
suits_has items s snapshot fixed view = record {
  snapshot = suits_moving InSnapshot items s.reports.snapshot snapshot;
  fixed = suits_moving InPart items s.reports.fixed fixed;
  view = view.one_each;
}

pub fresh_has : (items : List Item) (idle : List ℕ) → HasMotions items (initial_link items (blank items) idle)
fresh_has items idle =
    record {
      snapshot = blank_each items;
      fixed = blank_parts_each items;
      view =
          length-map items (λ item. blank_state (controls_of_form item.form));
    }

pub after_has : (items : List Item) (s : LinkState) (steps : List OwnStep) → HasMotions items s
    → HasMotions items (state_after_steps items s steps)
after_has items s steps has =
    subst (HasMotions items) (own_stands items steps s) (lived_has items s (steps_as_events steps) has)

pub ruleset keeps = (kept, kept_accepted, histories_keep_motion)
