-- A change leaves a snapshot that suits its layout.
use Rattle.std.proofs.Common.{◌≡◌, ℕ, zero, suc, ◌+◌, ◌<◌, ◌≤◌, inl, inr, not, ◌&&◌, Bool, true, false, cond, nat_le, List, [], ◌∷◌, ◌++◌, length, take, drop, Option, Some, None, Ok, Err, unwrap_or, ℤ, pos, negsuc, ◌+ℤ◌, int_le, SFits, w64, get_or, refl, sym, ap, ◌∙◌, subst, arith}
use Rattle.std.specs.List.{slice_get, slice_set}
use Rattle.std.specs.Option.{option_map}
use Rattle.std.proofs.Math.Seq.{take-append_seam}
use Rattle.std.proofs.lemmas.Option.{slice_get_within, slice_get_read}
use Rattle.std.proofs.lemmas.Int.{ints}
use Rattle.std.proofs.lemmas.Bool.{cases_eq}
use Rattle.std.proofs.lemmas.Bool.Decides.{nat_tests}
use Rattle.hid_report_descriptor.specs.declared.usage.Usage.{Usage}
use Rattle.hid_layout.specs.declared.control.Control.{Control}
use Rattle.hid_layout.specs.declared.control.Controls.{Controls}
use Rattle.hid_layout.specs.declared.control.Controls.TheVariants as head
use Rattle.hid_layout.specs.declared.control.ControlKind.{ControlKind}
use Rattle.hid_layout.specs.declared.control.ControlKind.TheVariants.{Switch, Value, NullValue, Relative}
use Rattle.hid_layout.specs.Controls.{Form, NoControls, Elements, Keys, Key, Item, control_of, control_in, form_at, controls_of_form}
use Rattle.hid_snapshots.specs.declared.control_state.ControlState.{ControlState}
use Rattle.hid_snapshots.specs.declared.control_state.ControlState.TheVariants.{Absent, Switches, Values, Motions, RollOver}
use Rattle.hid_snapshots.specs.declared.change.Change.{Change}
use Rattle.hid_snapshots.specs.declared.change.Change.TheVariants.{Press, Release, Set, Null, Move}
use Rattle.hid_snapshots.specs.declared.fault.ChangeFault.{ChangeFault}
use Rattle.hid_snapshots.specs.ControlStates.{is_in, has_null, is_i32, switch_count, HasRoom, is_value, are_values, are_motions, are_pressable, InSnapshot, FitControlStates}
use Rattle.hid_snapshots.specs.Snapshots.{OrFault, unless, is_pressed, motion_in, with_pressed, with_value, with_motion, is_full, can_hold, has_direction, changed_state, target, snapshot_after, change_at, with_state, state_at, Changes, ChangesState, HasIndex}
use Rattle.hid_snapshots.proofs.CodeLemmas.{both_true}
use Rattle.hid_snapshots.proofs.ListLemmas.{cons_count}
use Rattle.hid_snapshots.proofs.FillLemmas.{set_length}
use Rattle.hid_layout.specs.declared.control.ControlId.{ControlId}
use Rattle.hid_snapshots.specs.declared.fault.ChangeFault.TheVariants as ChangeFault_
use Rattle.hid_snapshots.proofs.ItemLemmas.{mapped_some, set_same, set_here, set_there, IsControl, control_found, form_at-is}

-- a control state with room for an item's controls has a place for each of them
pub room_index : (form : Form) (state : ControlState) (j : ℕ) (control : Control)
    → HasRoom (controls_of_form form) state
    → control_in form j ≡ Some control → HasIndex state j
room_index form Absent j control room h = tt
room_index form (RollOver ps) j control room h = tt
room_index NoControls (Switches ps) j control room h = absurd room
room_index NoControls (Values ps) j control room h = absurd room
room_index NoControls (Motions ps) j control room h = absurd room
room_index (Elements Switch least greatest us) (Switches ps) j control room h = let e =
    mapped_some _ (slice_get us j) control h in omega (arith, room, slice_get_within us j e.0 e.1)
room_index (Elements Value least greatest us) (Switches ps) j control room h = absurd room
room_index (Elements NullValue least greatest us) (Switches ps) j control room h = absurd room
room_index (Elements Relative least greatest us) (Switches ps) j control room h = absurd room
room_index (Elements Switch least greatest us) (Values ps) j control room h = absurd room
room_index (Elements Value least greatest us) (Values ps) j control room h = let e =
    mapped_some _ (slice_get us j) control h in omega (arith, room, slice_get_within us j e.0 e.1)
room_index (Elements NullValue least greatest us) (Values ps) j control room h = let e =
    mapped_some _ (slice_get us j) control h in omega (arith, room, slice_get_within us j e.0 e.1)
room_index (Elements Relative least greatest us) (Values ps) j control room h = absurd room
room_index (Elements Switch least greatest us) (Motions ps) j control room h = absurd room
room_index (Elements Value least greatest us) (Motions ps) j control room h = absurd room
room_index (Elements NullValue least greatest us) (Motions ps) j control room h = absurd room
room_index (Elements Relative least greatest us) (Motions ps) j control room h = let e =
    mapped_some _ (slice_get us j) control h in omega (arith, room, slice_get_within us j e.0 e.1)
room_index (Keys elements rolls keys) (Values ps) j control room h = absurd room
room_index (Keys elements rolls keys) (Motions ps) j control room h = absurd room
room_index (Keys elements rolls keys) (Switches ps) j control room h = by_key (slice_get keys j) refl h
  where
    by_key : (o : Option Key) → slice_get keys j ≡ o
        → elim o as (λ _. Option Control) [ None ↦ None | Some key ↦ cond key.is_switch (Some (record { kind = Switch; usage = key.usage })) None ] ≡ Some control
        → j < length ps
    by_key None e k = absurd (cc)
    by_key (Some key) e k = omega (arith, room, slice_get_within keys j key e)

-- what a test that passed tells
pub unless_ok : {A : Type 0} (b : Bool) (fault : ChangeFault) (rest : OrFault A) (new : A) → unless b fault rest ≡ Ok new → (b ≡ false) × (rest ≡ Ok new)
unless_ok true fault rest new h = absurd (cc)
unless_ok false fault rest new h = (refl, h)

ok_same : {A : Type 0} (x y : A) (a b : OrFault A) → a ≡ Ok x → b ≡ Ok y → a ≡ b → x ≡ y
ok_same x y a b h k e = cc

done : (x y : ControlState) → (let a : OrFault ControlState = Ok x in let b : OrFault ControlState = Ok y in a ≡ b)
    → x ≡ y
done x y e = ok_same x y _ _ refl refl e

-- the room of a control state stays
with_pressed_room : (controls : Controls) (state : ControlState) (j : ℕ) (p : Bool) → HasRoom controls state
    → HasRoom controls (with_pressed state j p)
with_pressed_room controls Absent j p room = room
with_pressed_room controls (Values vs) j p room = room
with_pressed_room controls (Motions vs) j p room = room
with_pressed_room controls (RollOver vs) j p room = room
with_pressed_room head.None (Switches ps) j p room = absurd room
with_pressed_room (head.Elements Switch least greatest n) (Switches ps) j p room = set_length ps j p ∙ room
with_pressed_room (head.Elements Value least greatest n) (Switches ps) j p room = absurd room
with_pressed_room (head.Elements NullValue least greatest n) (Switches ps) j p room = absurd room
with_pressed_room (head.Elements Relative least greatest n) (Switches ps) j p room = absurd room
with_pressed_room (head.Keys elements rolls n) (Switches ps) j p room = set_length ps j p ∙ room

with_value_room : (controls : Controls) (state : ControlState) (j : ℕ) (v : Option ℤ) → HasRoom controls state
    → HasRoom controls (with_value state j v)
with_value_room controls Absent j p room = room
with_value_room controls (Switches vs) j p room = room
with_value_room controls (Motions vs) j p room = room
with_value_room controls (RollOver vs) j p room = room
with_value_room head.None (Values ps) j p room = absurd room
with_value_room (head.Elements Switch least greatest n) (Values ps) j p room = absurd room
with_value_room (head.Elements Value least greatest n) (Values ps) j p room = set_length ps j p ∙ room
with_value_room (head.Elements NullValue least greatest n) (Values ps) j p room = set_length ps j p ∙ room
with_value_room (head.Elements Relative least greatest n) (Values ps) j p room = absurd room
with_value_room (head.Keys elements rolls n) (Values ps) j p room = absurd room

with_motion_room : (controls : Controls) (state : ControlState) (j : ℕ) (m : ℤ) → HasRoom controls state
    → HasRoom controls (with_motion state j m)
with_motion_room controls Absent j p room = room
with_motion_room controls (Switches vs) j p room = room
with_motion_room controls (Values vs) j p room = room
with_motion_room controls (RollOver vs) j p room = room
with_motion_room head.None (Motions ps) j p room = absurd room
with_motion_room (head.Elements Switch least greatest n) (Motions ps) j p room = absurd room
with_motion_room (head.Elements Value least greatest n) (Motions ps) j p room = absurd room
with_motion_room (head.Elements NullValue least greatest n) (Motions ps) j p room = absurd room
with_motion_room (head.Elements Relative least greatest n) (Motions ps) j p room = set_length ps j p ∙ room
with_motion_room (head.Keys elements rolls n) (Motions ps) j p room = absurd room

-- one pressed key more, or one less
count_more : (ps : List Bool) (j : ℕ) → switch_count (slice_set ps j true) ≤ switch_count ps + 1
count_more [] j = omega arith
count_more (true ∷ ps) zero = omega arith
count_more (false ∷ ps) zero = omega (arith, cons_count true ps, cons_count false ps)
count_more (true ∷ ps) (suc j) = omega (arith, count_more ps j, cons_count true ps, cons_count true (slice_set ps j true))
count_more (false ∷ ps) (suc j) = omega (arith, count_more ps j, cons_count false ps, cons_count false (slice_set ps j true))

count_less : (ps : List Bool) (j : ℕ) → switch_count (slice_set ps j false) ≤ switch_count ps
count_less [] j = omega arith
count_less (true ∷ ps) zero = omega (arith, cons_count true ps, cons_count false ps)
count_less (false ∷ ps) zero = omega arith
count_less (true ∷ ps) (suc j) = omega (arith, count_less ps j, cons_count true ps, cons_count true (slice_set ps j false))
count_less (false ∷ ps) (suc j) = omega (arith, count_less ps j, cons_count false ps, cons_count false (slice_set ps j false))

set_pressable : (keys : List Key) (ps : List Bool) (j : ℕ) (p : Bool) → ((key : Key) → slice_get keys j ≡ Some key → p ≡ true → key.is_switch ≡ true) → are_pressable keys ps → are_pressable keys (slice_set ps j p)
set_pressable [] [] j p h ok = ok
set_pressable [] (q ∷ ps) j p h ok = absurd ok
set_pressable (key ∷ keys) [] j p h ok = ok
set_pressable (key ∷ keys) (q ∷ ps) zero p h ok = (h key refl, ok.1)
set_pressable (key ∷ keys) (q ∷ ps) (suc j) p h ok = (ok.0, set_pressable keys ps j p h ok.1)

set_values : (null : Bool) (least greatest : ℤ) (vs : List (Option ℤ)) (j : ℕ) (v : Option ℤ) → is_value null least greatest v → are_values null least greatest vs → are_values null least greatest (slice_set vs j v)
set_values null least greatest [] j v h ok = ok
set_values null least greatest (w ∷ vs) zero v h ok = (h, ok.1)
set_values null least greatest (w ∷ vs) (suc j) v h ok = (ok.0, set_values null least greatest vs j v h ok.1)

set_motions : (least greatest : ℤ) (ms : List ℤ) (j : ℕ) (m : ℤ) → is_in least greatest m ≡ true → are_motions least greatest ms → are_motions least greatest (slice_set ms j m)
set_motions least greatest [] j m h ok = ok
set_motions least greatest (w ∷ ms) zero m h ok = (h, ok.1)
set_motions least greatest (w ∷ ms) (suc j) m h ok = (ok.0, set_motions least greatest ms j m h ok.1)

-- a key that is a control is a switch
key_switch : (elements : ℕ) (rolls : Bool) (keys : List Key) (j : ℕ) (control : Control) → control_in (Keys elements rolls keys) j ≡ Some control → (key : Key) → slice_get keys j ≡ Some key → key.is_switch ≡ true
key_switch elements rolls keys j control h key e = by_switch key.is_switch refl
  where
    named : cond key.is_switch (Some (record { kind = Switch; usage = key.usage })) None ≡ Some control
    named = sym (ap (λ (o : Option Key). elim o as (λ _. Option Control) [ None ↦ None | Some k ↦ cond k.is_switch (Some (record { kind = Switch; usage = k.usage })) None ]) e) ∙ h

    by_switch : (b : Bool) → key.is_switch ≡ b → key.is_switch ≡ true
    by_switch true e = e
    by_switch false e = let none : None ≡ Some control = sym (ap (λ (b : Bool). cond b (Some (record { kind = Switch; usage = key.usage })) None) e) ∙ named in absurd (cc)

-- What a change leaves in a control state suits its controls.
pub record Leaves (form : Form) (state : ControlState) : Type 0 where
  pub room : HasRoom (controls_of_form form) state
  pub stands : InSnapshot form state

leaves_along : (form : Form) (a b : ControlState) → a ≡ b → Leaves form a → Leaves form b
leaves_along form a b e h = let P : ControlState → Type 0 = λ state. Leaves form state in subst P e h

both_false : (a b : Bool) → (a && b) ≡ false → a ≡ true → b ≡ false
both_false true b h e = h
both_false false b h e = absurd (cc)

not_true : (b : Bool) → not b ≡ false → b ≡ true
not_true true h = refl
not_true false h = absurd (cc)

not_false : (b : Bool) → b ≡ false → not b ≡ true
not_false true h = absurd (cc)
not_false false h = refl

pressed_stays : (form : Form) (ps : List Bool) (j : ℕ) (control : Control) → control_in form j ≡ Some control
    → InSnapshot form (Switches ps)
    → (not (is_pressed (Switches ps) j) && is_full (controls_of_form form) (Switches ps)) ≡ false
    → InSnapshot form (Switches (slice_set ps j true))
pressed_stays NoControls ps j control h ok free = tt
pressed_stays (Elements kind least greatest us) ps j control h ok free = tt
pressed_stays (Keys elements rolls keys) ps j control h ok free =
    (set_pressable keys ps j true (λ key e _. key_switch elements rolls keys j control h key e) ok.0, by_pressed (slice_get ps j) refl)
  where
    by_pressed : (o : Option Bool) → slice_get ps j ≡ o → rolls ≡ false
        → switch_count (slice_set ps j true) ≤ elements
    by_pressed (Some true) e none = rw (set_same ps j true e) (ok.1 none)
    by_pressed (Some false) e none =
        let open_ : is_pressed (Switches ps) j ≡ false = ap (λ (o : Option Bool). unwrap_or o false) e in
        let full : is_full (head.Keys elements rolls (length keys)) (Switches ps) ≡ false =
        both_false _ _ free (not_false _ open_) in
        below (both_false _ _ full (not_false rolls none))
      where
        below : nat_le elements (switch_count ps) ≡ false → switch_count (slice_set ps j true) ≤ elements
        below less = let more = count_more ps j in grind (arith, nat_tests)
    by_pressed None e none =
        let open_ : is_pressed (Switches ps) j ≡ false = ap (λ (o : Option Bool). unwrap_or o false) e in
        let full : is_full (head.Keys elements rolls (length keys)) (Switches ps) ≡ false =
        both_false _ _ free (not_false _ open_) in
        below (both_false _ _ full (not_false rolls none))
      where
        below : nat_le elements (switch_count ps) ≡ false → switch_count (slice_set ps j true) ≤ elements
        below less = let more = count_more ps j in grind (arith, nat_tests)

released_stays : (form : Form) (ps : List Bool) (j : ℕ) → InSnapshot form (Switches ps)
    → InSnapshot form (Switches (slice_set ps j false))
released_stays NoControls ps j ok = tt
released_stays (Elements kind least greatest us) ps j ok = tt
released_stays (Keys elements rolls keys) ps j ok =
    (set_pressable keys ps j false (λ key e on. absurd (cc)) ok.0, λ none. omega (arith, ok.1 none, count_less ps j))

press_leaves : (form : Form) (state new : ControlState) (c : ControlId) (control : Control)
    → control_in form c.index ≡ Some control → Leaves form state
    → changed_state Switch (controls_of_form form) state (Press c) ≡ Ok new → Leaves form new
press_leaves form state new c control h was e = by_state state was (unless_ok _ _ _ _ e)
  where
    by_state : (state : ControlState) → Leaves form state
        → (not (is_pressed state c.index) && is_full (controls_of_form form) state ≡ false)
        × (let a : OrFault ControlState = Ok (with_pressed state c.index true) in a ≡ Ok new) → Leaves form new
    by_state (Switches ps) was k =
        leaves_along form _ new (done _ new k.1)
        (record {
          room = with_pressed_room (controls_of_form form) (Switches ps) c.index true was.room;
          stands =
              pressed_stays form ps c.index control h was.stands k.0;
        })
    by_state Absent was k = leaves_along form _ new (done _ new k.1) was
    by_state (Values vs) was k = leaves_along form _ new (done _ new k.1) was
    by_state (Motions vs) was k = leaves_along form _ new (done _ new k.1) was
    by_state (RollOver vs) was k = leaves_along form _ new (done _ new k.1) was

release_leaves : (form : Form) (state new : ControlState) (j : ℕ) → Leaves form state → with_pressed state j false ≡ new
    → Leaves form new
release_leaves form (Switches ps) new j was e =
    leaves_along form _ new e
    (record {
      room = with_pressed_room (controls_of_form form) (Switches ps) j false was.room;
      stands =
          released_stays form ps j was.stands;
    })
release_leaves form Absent new j was e = leaves_along form _ new e was
release_leaves form (Values vs) new j was e = leaves_along form _ new e was
release_leaves form (Motions vs) new j was e = leaves_along form _ new e was
release_leaves form (RollOver vs) new j was e = leaves_along form _ new e was

-- a value that the controls can hold
Held : Form → Option ℤ → Type 0
Held (Elements kind least greatest us) v = is_value (has_null kind) least greatest v
Held NoControls v = Unit {0}
Held (Keys elements rolls keys) v = Unit {0}

valued_stays : (form : Form) (vs : List (Option ℤ)) (j : ℕ) (v : Option ℤ) → Held form v → InSnapshot form (Values vs)
    → InSnapshot form (Values (slice_set vs j v))
unfolding Held
valued_stays NoControls vs j v held ok = tt
valued_stays (Keys elements rolls keys) vs j v held ok = tt
valued_stays (Elements kind least greatest us) vs j v held ok = set_values (has_null kind) least greatest vs j v held ok

value_leaves : (form : Form) (state new : ControlState) (j : ℕ) (v : Option ℤ) → Held form v → Leaves form state
    → with_value state j v ≡ new → Leaves form new
value_leaves form (Values vs) new j v held was e =
    leaves_along form _ new e
    (record {
      room = with_value_room (controls_of_form form) (Values vs) j v was.room;
      stands =
          valued_stays form vs j v held was.stands;
    })
value_leaves form Absent new j v held was e = leaves_along form _ new e was
value_leaves form (Switches vs) new j v held was e = leaves_along form _ new e was
value_leaves form (Motions vs) new j v held was e = leaves_along form _ new e was
value_leaves form (RollOver vs) new j v held was e = leaves_along form _ new e was

set_held : (form : Form) (v : ℤ) → not (can_hold (controls_of_form form) v) ≡ false → Held form (Some v)
unfolding Held
set_held NoControls v h = tt
set_held (Keys elements rolls keys) v h = tt
set_held (Elements kind least greatest us) v h = not_true _ h

-- the kind of a control is that of its item
null_held : (form : Form) (j : ℕ) (u : Usage) → control_in form j ≡ Some (record { kind = NullValue; usage = u }) → Held form None
unfolding Held
null_held NoControls j u h = tt
null_held (Keys elements rolls keys) j u h = tt
null_held (Elements kind least greatest us) j u h = by_usage (slice_get us j) h
  where
    by_usage : (o : Option Usage) → option_map (λ (v : Usage). let c : Control = record { kind = kind; usage = v } in c) o ≡ Some (record { kind = NullValue; usage = u }) → has_null kind ≡ true
    by_usage None e = absurd (cc)
    by_usage (Some v) e =
        let same : kind ≡ NullValue = ap (λ (o : Option Control). elim o as (λ _. ControlKind) [ None ↦ NullValue | Some c ↦ c.kind ]) e in
        rw same refl

motion_leaves : (form : Form) (state new : ControlState) (j : ℕ) (m : ℤ) → is_i32 m ≡ true → Leaves form state
    → with_motion state j m ≡ new → Leaves form new
motion_leaves form (Motions ms) new j m fits was e =
    leaves_along form _ new e
    (record {
      room = with_motion_room (controls_of_form form) (Motions ms) j m was.room;
      stands =
          moved_stays form was.stands;
    })
  where
    moved_stays : (form : Form) → InSnapshot form (Motions ms) → InSnapshot form (Motions (slice_set ms j m))
    moved_stays NoControls ok = tt
    moved_stays (Keys elements rolls keys) ok = tt
    moved_stays (Elements kind least greatest us) ok = set_motions (negsuc 0x7FFF_FFFF) (pos 0x7FFF_FFFF) ms j m fits ok
motion_leaves form Absent new j m fits was e = leaves_along form _ new e was
motion_leaves form (Switches vs) new j m fits was e = leaves_along form _ new e was
motion_leaves form (Values vs) new j m fits was e = leaves_along form _ new e was
motion_leaves form (RollOver vs) new j m fits was e = leaves_along form _ new e was

wrong : (new : ControlState) → (let a : OrFault ControlState = Err ChangeFault_.WrongKind in a ≡ Ok new) → ⊥
wrong new e = cc

-- a change that is accepted leaves a control state that suits the controls
pub change_leaves : (form : Form) (state new : ControlState) (change : Change) (kind : ControlKind) (u : Usage)
    → control_in form (target change).index ≡ Some (record { kind = kind; usage = u })
    → Leaves form state → changed_state kind (controls_of_form form) state change ≡ Ok new → Leaves form new
change_leaves form state new (Press c) Switch u h was e = press_leaves form state new c _ h was e
change_leaves form state new (Press c) Value u h was e = absurd (wrong new e)
change_leaves form state new (Press c) NullValue u h was e = absurd (wrong new e)
change_leaves form state new (Press c) Relative u h was e = absurd (wrong new e)
change_leaves form state new (Release c) Switch u h was e = release_leaves form state new c.index was (done _ new e)
change_leaves form state new (Release c) Value u h was e = absurd (wrong new e)
change_leaves form state new (Release c) NullValue u h was e = absurd (wrong new e)
change_leaves form state new (Release c) Relative u h was e = absurd (wrong new e)
change_leaves form state new (Set c v) Switch u h was e = absurd (wrong new e)
change_leaves form state new (Set c v) Value u h was e =
    let k = unless_ok _ _ _ _ e in
    value_leaves form state new c.index (Some v) (set_held form v k.0) was (done _ new k.1)
change_leaves form state new (Set c v) NullValue u h was e =
    let k = unless_ok _ _ _ _ e in
    value_leaves form state new c.index (Some v) (set_held form v k.0) was (done _ new k.1)
change_leaves form state new (Set c v) Relative u h was e = absurd (wrong new e)
change_leaves form state new (Null c) Switch u h was e = absurd (wrong new e)
change_leaves form state new (Null c) Value u h was e = absurd (cc)
change_leaves form state new (Null c) NullValue u h was e = value_leaves form state new c.index None (null_held form c.index u h) was (done _ new e)
change_leaves form state new (Null c) Relative u h was e = absurd (wrong new e)
change_leaves form state new (Move c by) Switch u h was e = absurd (wrong new e)
change_leaves form state new (Move c by) Value u h was e = absurd (wrong new e)
change_leaves form state new (Move c by) NullValue u h was e = absurd (wrong new e)
change_leaves form state new (Move c by) Relative u h was e =
    let total : ℤ = motion_in state c.index +ℤ by in
    let end_ : OrFault ControlState = Ok (with_motion state c.index total) in
    let k = unless_ok (not (has_direction (controls_of_form form) by)) ChangeFault_.NoDirection
    (unless (not (is_i32 total)) ChangeFault_.MotionFull end_) new e in
    let l = unless_ok (not (is_i32 total)) ChangeFault_.MotionFull end_ new k.1 in
    motion_leaves form state new c.index total (not_true _ l.0) was (done _ new l.1)

-- A change of one control's control state is a change of the snapshot.
pub changes_state : (items : List Item) (states : List ControlState) (change : Change) (control : Control)
    (controls : Controls) (state new : ControlState) (result : OrFault (Unit {0}))
    → control_of items (target change) ≡ Some control
    → controls ≡ controls_of_form (form_at items (target change).item)
    → slice_get states (target change).item ≡ Some state
    → ChangesState control.kind controls state change result new → Changes items states change result (slice_set states (target change).item new)
changes_state items states change control controls state new (Ok tt_) named heads there h = named_is ∙ ap (with_state states (target change).item) (by_parts ∙ h)
  where
    named_is : snapshot_after items states change ≡ change_at items states change (Some control)
    named_is = ap (change_at items states change) named

    by_parts : changed_state control.kind (controls_of_form (form_at items (target change).item))
        (state_at states (target change).item) change ≡ changed_state control.kind controls state change
    by_parts = rw (← heads, there) refl
changes_state items states change control controls state new (Err fault) named heads there h =
    (named_is ∙ ap (with_state states (target change).item) (by_parts ∙ h.0), rw h.1 (set_same states _ state there))
  where
    named_is : snapshot_after items states change ≡ change_at items states change (Some control)
    named_is = ap (change_at items states change) named

    by_parts : changed_state control.kind (controls_of_form (form_at items (target change).item))
        (state_at states (target change).item) change ≡ changed_state control.kind controls state change
    by_parts = rw (← heads, there) refl

same_place : {A : Type 0} (xs : List A) (i : ℕ) (a b : A) → slice_get xs i ≡ Some a → slice_get xs i ≡ Some b → a ≡ b
same_place xs i a b h k = cc

-- One control state is replaced by another that suits.
pub suits_set : (stands : Form → ControlState → Type 0) (items : List Item) (states : List ControlState) (i : ℕ)
    (item : Item) (new : ControlState) → slice_get items i ≡ Some item
    → HasRoom (controls_of_form item.form) new → stands item.form new → FitControlStates stands items states
    → FitControlStates stands items (slice_set states i new)
suits_set stands items states i item new there room ok was = record {
  one_each = set_length states i new ∙ was.one_each;
  room = λ k it state h g. elim (cases_eq i k) [
    | inl same ↦ let e : it ≡ item = same_place items i it item (rw same h) there in
        let f : state ≡ new = same_place (slice_set states i new) i state new (let P : ℕ → Type 0 = λ n. slice_get (slice_set states i new) n ≡ Some state in subst P (sym same) g) (set_here states i new (within k it h same)) in
        rw (e, f) room
    | inr ne ↦ was.room k it state h (sym (set_there states i k new ne) ∙ g)
  ];
  suits = λ k it state h g. elim (cases_eq i k) [
    | inl same ↦ let e : it ≡ item = same_place items i it item (rw same h) there in
        let f : state ≡ new = same_place (slice_set states i new) i state new (let P : ℕ → Type 0 = λ n. slice_get (slice_set states i new) n ≡ Some state in subst P (sym same) g) (set_here states i new (within k it h same)) in
        rw (e, f) ok
    | inr ne ↦ was.suits k it state h (sym (set_there states i k new ne) ∙ g)
  ];
}
  where
    within : (k : ℕ) (it : Item) → slice_get items k ≡ Some it → i ≡ k → i < length states
    within k it h same = omega (arith, was.one_each, slice_get_within items k it h)

-- A change of one control's control state leaves a snapshot that suits the items.
pub changes_fit : (items : List Item) (states : List ControlState) (change : Change) (control : Control)
    (controls : Controls) (state new : ControlState) (result : OrFault (Unit {0}))
    → IsControl items (target change) control → controls ≡ controls_of_form (form_at items (target change).item)
    → slice_get states (target change).item ≡ Some state
    → ChangesState control.kind controls state change result new → FitControlStates InSnapshot items states
    → FitControlStates InSnapshot items (slice_set states (target change).item new)
changes_fit items states change control controls state new result found heads there h was =
    suits_set InSnapshot items states (target change).item found.item new found.there left.room left.stands was
  where
    here : Leaves found.item.form state
    here = record { room = was.room _ found.item state found.there there; stands = was.suits _ found.item state found.there there }

    is_head : controls ≡ controls_of_form found.item.form
    is_head = heads ∙ ap controls_of_form (form_at-is items (target change).item found.item found.there)

    by_result : (result : OrFault (Unit {0})) → ChangesState control.kind controls state change result new → Leaves found.item.form new
    by_result (Ok tt_) k = change_leaves found.item.form state new change control.kind control.usage found.is here (rw is_head at k)
    by_result (Err fault) k = leaves_along found.item.form state new (sym k.1) here

    left : Leaves found.item.form new
    left = by_result result h

-- the control state of a control that a layout has
pub state_of_control : (items : List Item) (states now : List ControlState) (c : ControlId) (control : Control)
    (state : ControlState) → control_of items c ≡ Some control → states ≡ now
    → FitControlStates InSnapshot items now → state ≡ get_or states c.item state → slice_get now c.item ≡ Some state
state_of_control items states now c control state named view was value =
    let found = control_found items c control named in
    slice_get_read now (length items) c.item state (sym was.one_each) (slice_get_within items c.item found.item found.there) (value ∙ ap (λ xs. get_or xs c.item state) view)

-- A snapshot whose control state of the changed control is replaced is the snapshot after the change, and suits the items.
pub change_done : (items : List Item) (states now : List ControlState) (id : ControlId) (change : Change)
    (control : Control) (controls : Controls) (state new : ControlState) (result : OrFault (Unit {0}))
    → id ≡ target change → control_of items id ≡ Some control → controls ≡ controls_of_form (form_at items id.item)
    → states ≡ now → state ≡ get_or states id.item state
    → FitControlStates InSnapshot items now → ChangesState control.kind controls state change result new
    → Changes items now change result (slice_set states id.item new)
    × FitControlStates InSnapshot items (slice_set states id.item new)
change_done items states now id change control controls state new result is named heads view value was h =
    let P : ControlId → Type 0 =
    λ c. control_of items c ≡ Some control → controls ≡ controls_of_form (form_at items c.item)
    → slice_get now c.item ≡ Some state
    → Changes items now change result (slice_set now c.item new)
    × FitControlStates InSnapshot items (slice_set now c.item new) in
    rw view (subst P (sym is)
    (λ n d t. (changes_state items now change control controls state new result n d t h, changes_fit items now change control controls state new result (control_found items (target change) control n) d t h was))
    named heads (state_of_control items states now id control state named view was value))

-- what a motion leaves of a control state, by the two tests of it
pub moved_by : (controls : Controls) (state : ControlState) (c : ControlId) (by total : ℤ) (toward small : Bool)
    → has_direction controls by ≡ toward → motion_in state c.index +ℤ by ≡ total → is_i32 total ≡ small
    → changed_state Relative controls state (Change.Move c by) ≡ unless (not toward) ChangeFault_.NoDirection (unless (not small) ChangeFault_.MotionFull (Ok (with_motion state c.index total)))
moved_by controls state c by total toward small direction sum fits = rw (direction, sum, fits) refl

-- a motion that takes more than 64 bits takes more than 32
pub wide_motion : (total : ℤ) → (SFits w64 total → ⊥) → is_i32 total ≡ false
wide_motion total wide = of_test (is_i32 total) refl
  where
    of_test : (b : Bool) → is_i32 total ≡ b → b ≡ false
    of_test false e = refl
    of_test true e =
        let ends = both_true (int_le (negsuc 0x7FFF_FFFF) total) (int_le total (pos 0x7FFF_FFFF)) e in
        absurd (wide (omega (arith, ints, ends.0, ends.1)))

-- what stands in a Vec once the slice that it lent is filled with as many
pub written_back : {A : Type 0} (new old : List A) (n : ℕ) → n ≡ length new → take n (new ++ drop (length new) old) ≡ new
written_back new old n is = ap (λ (k : ℕ). take k (new ++ drop (length new) old)) is ∙ take-append_seam new (drop (length new) old)
