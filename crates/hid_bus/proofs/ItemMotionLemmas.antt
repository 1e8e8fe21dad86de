-- The motion of one item: what a change adds to it, what a part takes of it, and what is told of it.
use Rattle.std.proofs.Common.{◌≡◌, ℕ, zero, suc, ◌+◌, ◌<◌, Bool, true, false, cond, not, ◌&&◌, ◌==◌, nat_lt, List, [], ◌∷◌, ◌++◌, length, map, Option, Some, None, Ok, ℤ, pos, ◌+ℤ◌, refl, ap, sym, ◌∙◌, arith, subst}
use Rattle.std.specs.List.{slice_get, slice_set, zip}
use Rattle.std.specs.Option.{unwrap_or, option_map}
use Rattle.std.specs.Ordering.{int_eq}
use Rattle.std.proofs.lemmas.Int.{ints}
use Rattle.std.proofs.lemmas.List.{length-replicate}
use Rattle.std.proofs.lemmas.Bool.Decides.{nat_tests, Decides-eqb, Decides-int_eq}
use Rattle.std.proofs.lemmas.Option.{slice_get_within}
use Rattle.hid_layout.specs.declared.control.Control.{Control}
use Rattle.hid_layout.specs.declared.control.ControlId.{ControlId}
use Rattle.hid_layout.specs.declared.control.Controls.{Controls}
use Rattle.hid_layout.specs.declared.control.Controls.TheVariants as head
use Rattle.hid_layout.specs.declared.control.ControlKind.{ControlKind}
use Rattle.hid_layout.specs.declared.control.ControlKind.TheVariants.{Switch, Value, NullValue, Relative}
use Rattle.hid_report_descriptor.specs.declared.usage.Usage.{Usage}
use Rattle.hid_layout.specs.Controls.{Form, NoControls, Elements, Keys, Key, control_in, control_of_key, controls_of_form}
use Rattle.hid_snapshots.specs.declared.control_state.ControlState.{ControlState}
use Rattle.hid_snapshots.specs.declared.control_state.ControlState.TheVariants.{Absent, Switches, Values, Motions, RollOver}
use Rattle.hid_snapshots.specs.declared.change.Change.{Change}
use Rattle.hid_snapshots.specs.declared.change.Change.TheVariants.{Press, Release, Set, Null, Move}
use Rattle.hid_snapshots.specs.declared.fault.ChangeFault.{ChangeFault}
use Rattle.hid_snapshots.specs.declared.fault.ChangeFault.TheVariants.{NoDirection, MotionFull}
use Rattle.hid_snapshots.specs.declared.event.Event.{Event}
use Rattle.hid_snapshots.specs.declared.event.Event.TheVariants as event
use Rattle.hid_snapshots.specs.ControlStates.{is_i32, blank_state, HasRoom, switch_count}
use Rattle.hid_snapshots.specs.Events.{control_at, switch_event, value_event, motion_event, up_event, down_event, ups, downs, element_list_events, element_events, key_events, key_usages, change_events}
use Rattle.hid_snapshots.specs.Parts.{clamp, shown_state, differences, minus_motion}
use Rattle.hid_snapshots.specs.Snapshots.{OrFault, unless, motion_in, with_pressed, with_value, with_motion, has_direction, changed_state, target}
use Rattle.hid_snapshots.specs.Views.{form_motions}
use Rattle.hid_snapshots.proofs.ItemLemmas.{set_here, set_there}
use Rattle.hid_snapshots.proofs.FillLemmas.{set_length}
use Rattle.hid_bus.specs.Motion.{kept_motions, relative_controls, motion_of_events, is_same_control}

-- a control state with room for an item's controls moves as they do
pub room_moves : (form : Form) (state : ControlState) → HasRoom (controls_of_form form) state
    → kept_motions state ≡ relative_controls form
room_moves NoControls Absent room = refl
room_moves NoControls (Switches ps) room = absurd room
room_moves NoControls (Values vs) room = absurd room
room_moves NoControls (Motions ms) room = absurd room
room_moves NoControls (RollOver ps) room = absurd room
room_moves (Elements Switch least greatest us) Absent room = absurd room
room_moves (Elements Switch least greatest us) (Switches ps) room = refl
room_moves (Elements Switch least greatest us) (Values vs) room = absurd room
room_moves (Elements Switch least greatest us) (Motions ms) room = absurd room
room_moves (Elements Switch least greatest us) (RollOver ps) room = absurd room
room_moves (Elements Value least greatest us) Absent room = absurd room
room_moves (Elements Value least greatest us) (Switches ps) room = absurd room
room_moves (Elements Value least greatest us) (Values vs) room = refl
room_moves (Elements Value least greatest us) (Motions ms) room = absurd room
room_moves (Elements Value least greatest us) (RollOver ps) room = absurd room
room_moves (Elements NullValue least greatest us) Absent room = absurd room
room_moves (Elements NullValue least greatest us) (Switches ps) room = absurd room
room_moves (Elements NullValue least greatest us) (Values vs) room = refl
room_moves (Elements NullValue least greatest us) (Motions ms) room = absurd room
room_moves (Elements NullValue least greatest us) (RollOver ps) room = absurd room
room_moves (Elements Relative least greatest us) Absent room = absurd room
room_moves (Elements Relative least greatest us) (Switches ps) room = absurd room
room_moves (Elements Relative least greatest us) (Values vs) room = absurd room
room_moves (Elements Relative least greatest us) (Motions ms) room = ap Some room
room_moves (Elements Relative least greatest us) (RollOver ps) room = absurd room
room_moves (Keys elements rolls keys) Absent room = absurd room
room_moves (Keys elements rolls keys) (Switches ps) room = refl
room_moves (Keys elements rolls keys) (Values vs) room = absurd room
room_moves (Keys elements rolls keys) (Motions ms) room = absurd room
room_moves (Keys elements rolls keys) (RollOver ps) room = refl

pub blank_moves : (form : Form) → kept_motions (blank_state (controls_of_form form)) ≡ relative_controls form
blank_moves NoControls = refl
blank_moves (Elements Switch least greatest us) = refl
blank_moves (Elements Value least greatest us) = refl
blank_moves (Elements NullValue least greatest us) = refl
blank_moves (Elements Relative least greatest us) = ap Some (length-replicate (length us) (pos 0))
blank_moves (Keys elements rolls keys) = refl

-- what is shown of a control state moves as it does, and so does what is left of it
pub shown_moves : (controls : Controls) (state : ControlState)
    → kept_motions (shown_state controls state) ≡ kept_motions state
shown_moves head.None state = refl
shown_moves (head.Elements kind least greatest n) Absent = refl
shown_moves (head.Elements kind least greatest n) (Switches ps) = refl
shown_moves (head.Elements kind least greatest n) (Values vs) = refl
shown_moves (head.Elements kind least greatest n) (Motions ms) = ap Some (map_length (clamp least greatest) ms)
  where
    map_length : (f : ℤ → ℤ) (xs : List ℤ) → length (map f xs) ≡ length xs
    map_length f [] = refl
    map_length f (x ∷ xs) = ap suc (map_length f xs)
shown_moves (head.Elements kind least greatest n) (RollOver ps) = refl
shown_moves (head.Keys elements rolls n) Absent = refl
shown_moves (head.Keys elements rolls n) (Switches ps) = by_count (nat_lt elements (switch_count ps))
  where
    by_count : (b : Bool) → kept_motions (cond b (RollOver ps) (Switches ps)) ≡ None
    by_count true = refl
    by_count false = refl
shown_moves (head.Keys elements rolls n) (Values vs) = refl
shown_moves (head.Keys elements rolls n) (Motions ms) = refl
shown_moves (head.Keys elements rolls n) (RollOver ps) = refl

differences_length : (ms ns : List ℤ) → length ns ≡ length ms → length (differences ms ns) ≡ length ms
differences_length [] ns h = refl
differences_length (m ∷ ms) [] h = absurd (omega arith)
differences_length (m ∷ ms) (n ∷ ns) h = ap suc (differences_length ms ns (omega arith))

some_same : (a b : ℕ) → (let o : Option ℕ = Some a in let p : Option ℕ = Some b in o ≡ p) → a ≡ b
some_same a b h = cc

ok_same : (x y : ControlState) → (let a : OrFault ControlState = Ok x in let b : OrFault ControlState = Ok y in a ≡ b)
    → x ≡ y
ok_same x y h = cc

pub minus_moves : (state part : ControlState) → kept_motions part ≡ kept_motions state
    → kept_motions (minus_motion state part) ≡ kept_motions state
minus_moves Absent part h = refl
minus_moves (Switches ps) part h = refl
minus_moves (Values vs) part h = refl
minus_moves (RollOver ps) part h = refl
minus_moves (Motions ms) Absent h = refl
minus_moves (Motions ms) (Switches ps) h = refl
minus_moves (Motions ms) (Values vs) h = refl
minus_moves (Motions ms) (RollOver ps) h = refl
minus_moves (Motions ms) (Motions ns) h = ap Some (differences_length ms ns (some_same _ _ h))

-- A part takes what it shows: the motion of a control state is what is left and what is shown.
abbrev nth : List ℤ → ℕ → ℤ
nth ms j = unwrap_or (slice_get ms j) (pos 0)

difference_at : (ms ns : List ℤ) (j : ℕ) → length ns ≡ length ms → nth ms j ≡ nth (differences ms ns) j +ℤ nth ns j
difference_at [] [] j h = refl
difference_at [] (n ∷ ns) j h = absurd (omega arith)
difference_at (m ∷ ms) [] j h = absurd (omega arith)
difference_at (m ∷ ms) (n ∷ ns) zero h = omega (arith, ints)
difference_at (m ∷ ms) (n ∷ ns) (suc j) h = difference_at ms ns j (omega arith)

pub split_motion : (state part : ControlState) (j : ℕ) → kept_motions part ≡ kept_motions state
    → motion_in state j ≡ motion_in (minus_motion state part) j +ℤ motion_in part j
split_motion (Motions ms) (Motions ns) j h = difference_at ms ns j (some_same _ _ h)
split_motion (Motions ms) Absent j h = absurd (cc)
split_motion (Motions ms) (Switches ps) j h = absurd (cc)
split_motion (Motions ms) (Values vs) j h = absurd (cc)
split_motion (Motions ms) (RollOver ps) j h = absurd (cc)
split_motion Absent (Motions ns) j h = absurd (cc)
split_motion Absent Absent j h = refl
split_motion Absent (Switches ps) j h = refl
split_motion Absent (Values vs) j h = refl
split_motion Absent (RollOver ps) j h = refl
split_motion (Switches xs) (Motions ns) j h = absurd (cc)
split_motion (Switches xs) Absent j h = refl
split_motion (Switches xs) (Switches ps) j h = refl
split_motion (Switches xs) (Values vs) j h = refl
split_motion (Switches xs) (RollOver ps) j h = refl
split_motion (Values xs) (Motions ns) j h = absurd (cc)
split_motion (Values xs) Absent j h = refl
split_motion (Values xs) (Switches ps) j h = refl
split_motion (Values xs) (Values vs) j h = refl
split_motion (Values xs) (RollOver ps) j h = refl
split_motion (RollOver xs) (Motions ns) j h = absurd (cc)
split_motion (RollOver xs) Absent j h = refl
split_motion (RollOver xs) (Switches ps) j h = refl
split_motion (RollOver xs) (Values vs) j h = refl
split_motion (RollOver xs) (RollOver ps) j h = refl

-- what a change adds to the motion of an element of its item
abbrev pub amount_at : Change → ℕ → ℤ
amount_at (Press d) j = pos 0
amount_at (Release d) j = pos 0
amount_at (Set d v) j = pos 0
amount_at (Null d) j = pos 0
amount_at (Move d by) j = cond (d.index == j) by (pos 0)

-- What an accepted change makes of the motion of its item's control state.
pub record ChangesMotion (state new : ControlState) (change : Change) : Type 0 where
  pub same : kept_motions new ≡ kept_motions state
  pub amounts : (j : ℕ) → motion_in state j +ℤ amount_at change j ≡ motion_in new j

-- a control state has motion at an index
pub record HasMotion (state : ControlState) (j : ℕ) : Type 0 where
  pub count : ℕ
  pub is : kept_motions state ≡ Some count
  pub within : j < count

sum_zero : (x : ℤ) → x +ℤ pos 0 ≡ x
sum_zero x = omega (arith, ints)

zero_sum : (x : ℤ) → pos 0 +ℤ x ≡ x
zero_sum x = omega (arith, ints)

-- presses and values leave motion as it is
pressed_same : (state : ControlState) (i : ℕ) (p : Bool) → kept_motions (with_pressed state i p) ≡ kept_motions state
pressed_same Absent i p = refl
pressed_same (Switches ps) i p = refl
pressed_same (Values vs) i p = refl
pressed_same (Motions ms) i p = refl
pressed_same (RollOver ps) i p = refl

pressed_amount : (state : ControlState) (i : ℕ) (p : Bool) (j : ℕ)
    → motion_in state j ≡ motion_in (with_pressed state i p) j
pressed_amount Absent i p j = refl
pressed_amount (Switches ps) i p j = refl
pressed_amount (Values vs) i p j = refl
pressed_amount (Motions ms) i p j = refl
pressed_amount (RollOver ps) i p j = refl

value_same : (state : ControlState) (i : ℕ) (v : Option ℤ) → kept_motions (with_value state i v) ≡ kept_motions state
value_same Absent i v = refl
value_same (Switches ps) i v = refl
value_same (Values vs) i v = refl
value_same (Motions ms) i v = refl
value_same (RollOver ps) i v = refl

value_amount : (state : ControlState) (i : ℕ) (v : Option ℤ) (j : ℕ)
    → motion_in state j ≡ motion_in (with_value state i v) j
value_amount Absent i v j = refl
value_amount (Switches ps) i v j = refl
value_amount (Values vs) i v j = refl
value_amount (Motions ms) i v j = refl
value_amount (RollOver ps) i v j = refl

-- a list of motions to whose place i an amount is added
set_amount : (ms : List ℤ) (i j : ℕ) (by : ℤ) → i < length ms → nth ms j +ℤ cond (i == j) by (pos 0) ≡ nth (slice_set ms i (nth ms i +ℤ by)) j
set_amount ms i j by h = by_same (i == j) refl
  where
    by_same : (b : Bool) → (i == j) ≡ b → nth ms j +ℤ cond b by (pos 0) ≡ nth (slice_set ms i (nth ms i +ℤ by)) j
    by_same true e =
        let same : i ≡ j = (Decides-eqb i j).0 e in
        subst (λ (k : ℕ). nth ms k +ℤ by ≡ nth (slice_set ms i (nth ms i +ℤ by)) k) same
        (sym (ap (λ (o : Option ℤ). unwrap_or o (pos 0)) (set_here ms i (nth ms i +ℤ by) h)))
    by_same false e =
        sum_zero (nth ms j) ∙ sym (ap (λ (o : Option ℤ). unwrap_or o (pos 0)) (set_there ms i j (nth ms i +ℤ by) (λ same. let t : (i == j) ≡ true = (Decides-eqb i j).1 same in absurd (cc))))

moved_amount : (state : ControlState) (d : ControlId) (by : ℤ) → HasMotion state d.index
    → ChangesMotion state (with_motion state d.index (motion_in state d.index +ℤ by)) (Move d by)
moved_amount Absent d by has = let e = has.is in absurd (cc)
moved_amount (Switches ps) d by has = let e = has.is in absurd (cc)
moved_amount (Values vs) d by has = let e = has.is in absurd (cc)
moved_amount (RollOver ps) d by has = let e = has.is in absurd (cc)
moved_amount (Motions ms) d by has =
    let count : length ms ≡ has.count = some_same _ _ has.is in
    let within : d.index < length ms = omega (arith, has.within) in
    record { same = ap Some (set_length ms d.index (nth ms d.index +ℤ by)); amounts = λ j. set_amount ms d.index j by within }

unless_done : (state new x : ControlState) (change : Change) (b : Bool) (fault : ChangeFault)
    → unless b fault (Ok x) ≡ Ok new → ChangesMotion state x change → ChangesMotion state new change
unless_done state new x change true fault h ok = absurd (cc)
unless_done state new x change false fault h ok = let e : x ≡ new = ok_same x new h in let P : ControlState → Type 0 =
    λ n. ChangesMotion state n change in subst P e ok

ok_done : (state new x : ControlState) (change : Change)
    → (let a : OrFault ControlState = Ok x in let b : OrFault ControlState = Ok new in a ≡ b)
    → ChangesMotion state x change → ChangesMotion state new change
ok_done state new x change h ok = let e : x ≡ new = ok_same x new h in let P : ControlState → Type 0 =
    λ n. ChangesMotion state n change in subst P e ok

shifted : (state new x : ControlState) (change : Change) (a b : Bool) (fault fault' : ChangeFault)
    → unless a fault (unless b fault' (Ok x)) ≡ Ok new → ChangesMotion state x change → ChangesMotion state new change
shifted state new x change true b fault fault' h ok = absurd (cc)
shifted state new x change false b fault fault' h ok = unless_done state new x change b fault' h ok

-- an accepted change of a control state
pub changed_motion : (kind : ControlKind) (controls : Controls) (state new : ControlState) (change : Change)
    → (kind ≡ Relative → HasMotion state (target change).index)
    → changed_state kind controls state change ≡ Ok new → ChangesMotion state new change
changed_motion Switch controls state new (Press d) has h =
    unless_done state new (with_pressed state d.index true) (Press d) _ _ h (record { same = pressed_same state d.index true; amounts = λ j. sum_zero (motion_in state j) ∙ pressed_amount state d.index true j })
changed_motion Switch controls state new (Release d) has h =
    ok_done state new (with_pressed state d.index false) (Release d) h (record { same = pressed_same state d.index false; amounts = λ j. sum_zero (motion_in state j) ∙ pressed_amount state d.index false j })
changed_motion Switch controls state new (Set d v) has h = absurd (cc)
changed_motion Switch controls state new (Null d) has h = absurd (cc)
changed_motion Switch controls state new (Move d by) has h = absurd (cc)
changed_motion Value controls state new (Press d) has h = absurd (cc)
changed_motion Value controls state new (Release d) has h = absurd (cc)
changed_motion Value controls state new (Set d v) has h =
    unless_done state new (with_value state d.index (Some v)) (Set d v) _ _ h (record { same = value_same state d.index (Some v); amounts = λ j. sum_zero (motion_in state j) ∙ value_amount state d.index (Some v) j })
changed_motion Value controls state new (Null d) has h = absurd (cc)
changed_motion Value controls state new (Move d by) has h = absurd (cc)
changed_motion NullValue controls state new (Press d) has h = absurd (cc)
changed_motion NullValue controls state new (Release d) has h = absurd (cc)
changed_motion NullValue controls state new (Set d v) has h =
    unless_done state new (with_value state d.index (Some v)) (Set d v) _ _ h (record { same = value_same state d.index (Some v); amounts = λ j. sum_zero (motion_in state j) ∙ value_amount state d.index (Some v) j })
changed_motion NullValue controls state new (Null d) has h =
    ok_done state new (with_value state d.index None) (Null d) h (record { same = value_same state d.index None; amounts = λ j. sum_zero (motion_in state j) ∙ value_amount state d.index None j })
changed_motion NullValue controls state new (Move d by) has h = absurd (cc)
changed_motion Relative controls state new (Press d) has h = absurd (cc)
changed_motion Relative controls state new (Release d) has h = absurd (cc)
changed_motion Relative controls state new (Set d v) has h = absurd (cc)
changed_motion Relative controls state new (Null d) has h = absurd (cc)
changed_motion Relative controls state new (Move d by) has h =
    shifted state new (with_motion state d.index (motion_in state d.index +ℤ by)) (Move d by) (not (has_direction controls by)) (not (is_i32 (motion_in state d.index +ℤ by))) NoDirection MotionFull h
    (moved_amount state d by (has refl))

-- a relative control has its motion in the control state of its item
kind_there : (kind : ControlKind) (us : List Usage) (j : ℕ) (control : Control) → option_map (λ (u : Usage). record { kind = kind; usage = u }) (slice_get us j) ≡ Some control → (control.kind ≡ kind) × (j < length us)
kind_there kind us j control h = by_usage (slice_get us j) refl h
  where
    by_usage : (o : Option Usage) → slice_get us j ≡ o → option_map (λ (u : Usage). record { kind = kind; usage = u }) o ≡ Some control → (control.kind ≡ kind) × (j < length us)
    by_usage None e k = absurd (cc)
    by_usage (Some u) e k = (let same : control ≡ record { kind = kind; usage = u } = cc in ap (λ (x : Control). x.kind) same, slice_get_within us j u e)

pub has_motion_at : (form : Form) (state : ControlState) (j : ℕ) (control : Control)
    → kept_motions state ≡ relative_controls form → control_in form j ≡ Some control → control.kind ≡ Relative
    → HasMotion state j
has_motion_at NoControls state j control m h k = absurd (cc)
has_motion_at (Elements Switch least greatest us) state j control m h k = let e = (kind_there Switch us j control h).0 in absurd (cc)
has_motion_at (Elements Value least greatest us) state j control m h k = let e = (kind_there Value us j control h).0 in absurd (cc)
has_motion_at (Elements NullValue least greatest us) state j control m h k = let e = (kind_there NullValue us j control h).0 in absurd (cc)
has_motion_at (Elements Relative least greatest us) state j control m h k = record { count = length us; is = m; within = (kind_there Relative us j control h).1 }
has_motion_at (Keys elements rolls keys) state j control m h k = by_key (slice_get keys j) h
  where
    by_switch : (u : Usage) (b : Bool) → cond b (Some (record { kind = Switch; usage = u })) None ≡ Some control → HasMotion state j
    by_switch u true e = let same : record { kind = Switch; usage = u } ≡ control = cc in let s : Switch ≡ control.kind = ap (λ (x : Control). x.kind) same in absurd (cc)
    by_switch u false e = absurd (cc)

    by_key : (o : Option Key) → control_of_key o ≡ Some control → HasMotion state j
    by_key None e = absurd (cc)
    by_key (Some key) e = by_switch key.usage key.is_switch e

-- what two lists of events give, joined
pub given_append : (c : ControlId) (xs ys : List Event)
    → motion_of_events c (xs ++ ys) ≡ motion_of_events c xs +ℤ motion_of_events c ys
given_append c [] ys = omega (arith, ints)
given_append c (x ∷ xs) ys = omega (arith, ints, given_append c xs ys)

none_joined : (c : ControlId) (xs ys : List Event) → motion_of_events c xs ≡ pos 0 → motion_of_events c ys ≡ pos 0
    → motion_of_events c (xs ++ ys) ≡ pos 0
none_joined c xs ys h k = omega (arith, ints, given_append c xs ys)

-- Changes between views give no motion.
quiet_each : {C : Type 0} (c : ControlId) (f : ℕ → Usage → C → List Event) (j : ℕ) (us : List Usage) (cs : List C)
    → ((j : ℕ) (u : Usage) (x : C) → motion_of_events c (f j u x) ≡ pos 0)
    → motion_of_events c (element_list_events f j us cs) ≡ pos 0
quiet_each c f j [] cs h = refl
quiet_each c f j (u ∷ us) [] h = refl
quiet_each c f j (u ∷ us) (x ∷ cs) h =
    none_joined c (f j u x) (element_list_events f (j + 1) us cs) (h j u x) (quiet_each c f (j + 1) us cs h)

quiet_switch : (c d : ControlId) (u : Usage) (before after : Bool)
    → motion_of_events c (switch_event d u before after) ≡ pos 0
quiet_switch c d u true true = refl
quiet_switch c d u true false = refl
quiet_switch c d u false true = refl
quiet_switch c d u false false = refl

quiet_up : (c d : ControlId) (u : Usage) (before after : Bool)
    → motion_of_events c (up_event d u before after) ≡ pos 0
quiet_up c d u true true = refl
quiet_up c d u true false = refl
quiet_up c d u false true = refl
quiet_up c d u false false = refl

quiet_down : (c d : ControlId) (u : Usage) (before after : Bool)
    → motion_of_events c (down_event d u before after) ≡ pos 0
quiet_down c d u true true = refl
quiet_down c d u true false = refl
quiet_down c d u false true = refl
quiet_down c d u false false = refl

quiet_value : (c d : ControlId) (u : Usage) (before after : Option ℤ)
    → motion_of_events c (value_event d u before after) ≡ pos 0
quiet_value c d u None None = refl
quiet_value c d u (Some v) None = refl
quiet_value c d u None (Some w) = refl
quiet_value c d u (Some v) (Some w) = by_same (int_eq v w)
  where
    by_same : (b : Bool) → motion_of_events c (cond b [] (event.Value d u w ∷ [])) ≡ pos 0
    by_same true = refl
    by_same false = refl

quiet_elements : (c : ControlId) (i : ℕ) (us : List Usage) (before after : ControlState)
    → motion_of_events c (element_events i us before after) ≡ pos 0
quiet_elements c i us (Switches bs) (Switches xs) =
    quiet_each c (λ j u p. switch_event (control_at i j) u p.0 p.1) 0 us (zip bs xs)
    (λ j u p. quiet_switch c (control_at i j) u p.0 p.1)
quiet_elements c i us (Values bs) (Values xs) =
    quiet_each c (λ j u p. value_event (control_at i j) u p.0 p.1) 0 us (zip bs xs)
    (λ j u p. quiet_value c (control_at i j) u p.0 p.1)
quiet_elements c i us before after = refl

quiet_keys : (c : ControlId) (i : ℕ) (us : List Usage) (before after : ControlState)
    → motion_of_events c (key_events i us before after) ≡ pos 0
quiet_keys c i us (Switches bs) (Switches xs) =
    none_joined c (ups i us bs xs) (downs i us bs xs)
    (quiet_each c (λ j u p. up_event (control_at i j) u p.0 p.1) 0 us (zip bs xs) (λ j u p. quiet_up c (control_at i j) u p.0 p.1))
    (quiet_each c (λ j u p. down_event (control_at i j) u p.0 p.1) 0 us (zip bs xs) (λ j u p. quiet_down c (control_at i j) u p.0 p.1))
quiet_keys c i us before after = refl

pub quiet_changes : (c : ControlId) (i : ℕ) (form : Form) (before after : ControlState)
    → motion_of_events c (change_events i form before after) ≡ pos 0
quiet_changes c i NoControls before after = refl
quiet_changes c i (Elements kind least greatest us) before after = quiet_elements c i us before after
quiet_changes c i (Keys elements rolls keys) before after = quiet_keys c i (key_usages keys) before after

-- The motion that an element tells.
either_zero : (b : Bool) → pos 0 ≡ cond b (pos 0) (pos 0)
either_zero true = refl
either_zero false = refl

given_one : (c d : ControlId) (u : Usage) (m : ℤ)
    → motion_of_events c (motion_event d u m) ≡ cond (is_same_control d c) m (pos 0)
given_one c d u m = by_zero (int_eq m (pos 0)) refl
  where
    by_zero : (b : Bool) → int_eq m (pos 0) ≡ b
        → motion_of_events c (cond b [] (event.Motion d u m ∷ [])) ≡ cond (is_same_control d c) m (pos 0)
    by_zero true e = let zero_is : m ≡ pos 0 = (Decides-int_eq m (pos 0)).0 e in subst (λ (n : ℤ). pos 0 ≡ cond (is_same_control d c) n (pos 0)) (sym zero_is) (either_zero (is_same_control d c))
    by_zero false e = sum_zero (cond (is_same_control d c) m (pos 0))

abbrev motions_from : ℕ → ℕ → List Usage → List ℤ → List Event
motions_from i j us ms = element_list_events (λ k u m. motion_event (control_at i k) u m) j us ms

same_place : (i j : ℕ) → is_same_control (control_at i j) (control_at i j) ≡ true
same_place i j = grind (arith, nat_tests)

-- elements of another item, and those after a place, tell nothing of it
other_item : (c : ControlId) (i : ℕ) (j : ℕ) (us : List Usage) (ms : List ℤ) → (i == c.item) ≡ false
    → motion_of_events c (motions_from i j us ms) ≡ pos 0
other_item c i j us ms h = quiet_each c (λ k u m. motion_event (control_at i k) u m) j us ms (λ k u m. given_one c (control_at i k) u m ∙ ap (λ (b : Bool). cond (b && (k == c.index)) m (pos 0)) h)

behind : (i j l : ℕ) (us : List Usage) (ms : List ℤ) → l < j
    → motion_of_events (control_at i l) (motions_from i j us ms) ≡ pos 0
behind i j l [] ms h = refl
behind i j l (u ∷ us) [] h = refl
behind i j l (u ∷ us) (m ∷ ms) h =
    let apart : is_same_control (control_at i j) (control_at i l) ≡ false = grind (arith, nat_tests) in
    none_joined (control_at i l) (motion_event (control_at i j) u m) (motions_from i (j + 1) us ms)
    (given_one (control_at i l) (control_at i j) u m ∙ ap (λ (b : Bool). cond b m (pos 0)) apart) (behind i (j + 1) l us ms (omega arith))

-- each element's motion is reported once
given_from : (i j k : ℕ) (us : List Usage) (ms : List ℤ) → length ms ≡ length us
    → motion_of_events (control_at i (j + k)) (motions_from i j us ms) ≡ nth ms k
given_from i j k [] [] h = refl
given_from i j k [] (m ∷ ms) h = absurd (omega arith)
given_from i j k (u ∷ us) [] h = absurd (omega arith)
given_from i j zero (u ∷ us) (m ∷ ms) h =
    let here : j + 0 ≡ j = omega arith in
    let one : motion_of_events (control_at i j) (motion_event (control_at i j) u m) ≡ m =
    given_one (control_at i j) (control_at i j) u m ∙ ap (λ (b : Bool). cond b m (pos 0)) (same_place i j) in
    let rest : motion_of_events (control_at i j) (motions_from i (j + 1) us ms) ≡ pos 0 =
    behind i (j + 1) j us ms (omega arith) in
    ap (λ (n : ℕ). motion_of_events (control_at i n) (motions_from i j (u ∷ us) (m ∷ ms))) here
    ∙ given_append (control_at i j) (motion_event (control_at i j) u m) (motions_from i (j + 1) us ms)
    ∙ ap (λ (x : ℤ). x +ℤ motion_of_events (control_at i j) (motions_from i (j + 1) us ms)) one
    ∙ ap (λ (x : ℤ). m +ℤ x) rest
    ∙ sum_zero m
given_from i j (suc k) (u ∷ us) (m ∷ ms) h =
    let there : j + suc k ≡ (j + 1) + k = omega arith in
    let apart : is_same_control (control_at i j) (control_at i ((j + 1) + k)) ≡ false = grind (arith, nat_tests) in
    let one : motion_of_events (control_at i ((j + 1) + k)) (motion_event (control_at i j) u m) ≡ pos 0 =
    given_one (control_at i ((j + 1) + k)) (control_at i j) u m ∙ ap (λ (b : Bool). cond b m (pos 0)) apart in
    let rest : motion_of_events (control_at i ((j + 1) + k)) (motions_from i (j + 1) us ms) ≡ nth ms k =
    given_from i (j + 1) k us ms (omega arith) in
    ap (λ (n : ℕ). motion_of_events (control_at i n) (motions_from i j (u ∷ us) (m ∷ ms))) there
    ∙ given_append (control_at i ((j + 1) + k)) (motion_event (control_at i j) u m) (motions_from i (j + 1) us ms)
    ∙ ap (λ (x : ℤ). x +ℤ motion_of_events (control_at i ((j + 1) + k)) (motions_from i (j + 1) us ms)) one
    ∙ ap (λ (x : ℤ). pos 0 +ℤ x) rest
    ∙ zero_sum (nth ms k)

-- What is told of an item's part: its motion, of each control once, and none of another item.
pub told_here : (i j : ℕ) (form : Form) (part : ControlState) → kept_motions part ≡ relative_controls form
    → motion_of_events (control_at i j) (form_motions i form part) ≡ motion_in part j
told_here i j NoControls Absent h = refl
told_here i j NoControls (Switches ps) h = refl
told_here i j NoControls (Values vs) h = refl
told_here i j NoControls (Motions ms) h = absurd (cc)
told_here i j NoControls (RollOver ps) h = refl
told_here i j (Elements kind least greatest us) Absent h = refl
told_here i j (Elements kind least greatest us) (Switches ps) h = refl
told_here i j (Elements kind least greatest us) (Values vs) h = refl
told_here i j (Elements Switch least greatest us) (Motions ms) h = absurd (cc)
told_here i j (Elements Value least greatest us) (Motions ms) h = absurd (cc)
told_here i j (Elements NullValue least greatest us) (Motions ms) h = absurd (cc)
told_here i j (Elements Relative least greatest us) (Motions ms) h =
    let start : 0 + j ≡ j = omega arith in
    ap (λ (n : ℕ). motion_of_events (control_at i n) (motions_from i 0 us ms)) (sym start)
    ∙ given_from i 0 j us ms (some_same _ _ h)
told_here i j (Elements kind least greatest us) (RollOver ps) h = refl
told_here i j (Keys elements rolls keys) Absent h = refl
told_here i j (Keys elements rolls keys) (Switches ps) h = refl
told_here i j (Keys elements rolls keys) (Values vs) h = refl
told_here i j (Keys elements rolls keys) (Motions ms) h = absurd (cc)
told_here i j (Keys elements rolls keys) (RollOver ps) h = refl

pub told_elsewhere : (c : ControlId) (i : ℕ) (form : Form) (part : ControlState) → (i == c.item) ≡ false
    → motion_of_events c (form_motions i form part) ≡ pos 0
told_elsewhere c i NoControls part h = refl
told_elsewhere c i (Elements kind least greatest us) Absent h = refl
told_elsewhere c i (Elements kind least greatest us) (Switches ps) h = refl
told_elsewhere c i (Elements kind least greatest us) (Values vs) h = refl
told_elsewhere c i (Elements kind least greatest us) (Motions ms) h = other_item c i 0 us ms h
told_elsewhere c i (Elements kind least greatest us) (RollOver ps) h = refl
told_elsewhere c i (Keys elements rolls keys) part h = refl
