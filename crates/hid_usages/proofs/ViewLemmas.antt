-- What changes between two views, item by item, and how much of it there is at most.
use Rattle.std.proofs.Common.{◌≡◌, ℕ, suc, ◌+◌, ◌*◌, ◌<◌, ◌≤◌, Bool, true, false, cond, List, [], ◌∷◌, ◌++◌, get_or, length, length-append, drop, Option, Some, None, ℤ, pos, zero-add, refl, sym, ap, ◌∙◌, subst, arith}
use Rattle.std.specs.List.{slice_get, zip}
use Rattle.std.proofs.lemmas.Option.{unwrap_or-slice_get}
use Rattle.hid_report_descriptor.specs.declared.usage.Usage.{Usage}
use Rattle.hid_layout.specs.Controls.{Form, NoControls, Elements, Keys, Key, Item, form_at, controls_of_form, events_in, max_events}
use Rattle.hid_snapshots.specs.declared.control_state.ControlState.{ControlState}
use Rattle.hid_snapshots.specs.declared.control_state.ControlState.TheVariants.{Absent, Switches, Values, Motions, RollOver}
use Rattle.hid_snapshots.specs.declared.event.Event.{Event}
use Rattle.hid_snapshots.specs.declared.event.Event.TheVariants as event
use Rattle.std.specs.Ordering.{int_eq}
use Rattle.std.proofs.lemmas.List.Sums.{sum_by-append}
use Rattle.hid_snapshots.specs.ControlStates.{switch_count, HasRoom, InView, FitControlStates}
use Rattle.hid_snapshots.specs.Events.{control_at, element_list_events, switch_event, value_event, motion_event, up_event, down_event, motion_events, ups, downs, key_usages, element_events, key_events, change_events}
use Rattle.hid_snapshots.specs.Snapshots.{state_at}
use Rattle.hid_snapshots.specs.Views.{changes_from}
use Rattle.hid_usages.proofs.EventLemmas.{drop_at}
use Rattle.hid_snapshots.proofs.ItemLemmas.{got, form_at-is}
use Rattle.hid_snapshots.proofs.ListLemmas.{cons_count}

-- one item more
pub changes_from-next : (items : List Item) (bs xs : List ControlState) (i : ℕ) (b a : ControlState)
    → i < length items → slice_get bs i ≡ Some b → slice_get xs i ≡ Some a
    → changes_from i (drop i items) (drop i bs) (drop i xs) ≡ change_events i (form_at items i) b a ++ changes_from (i + 1) (drop (i + 1) items) (drop (i + 1) bs) (drop (i + 1) xs)
changes_from-next items bs xs i b a within h k =
    let item = got items i within in
    rw (drop_at items i item.0 item.1, drop_at bs i b h, drop_at xs i a k, form_at-is items i item.0 item.1) refl

pub room_at : (stands : Form → ControlState → Type 0) (items : List Item) (states : List ControlState) (i : ℕ)
    (state : ControlState) → FitControlStates stands items states → i < length items → slice_get states i ≡ Some state
    → HasRoom (controls_of_form (form_at items i)) state
room_at stands items states i state fits within h =
    let item = got items i within in
    subst (λ (f : Form). HasRoom (controls_of_form f) state) (sym (form_at-is items i item.0 item.1))
    (fits.room i item.0 state item.1 h)

-- each element tells one event at most
pub each_few : {C : Type 0} (f : ℕ → Usage → C → List Event) → ((j : ℕ) (u : Usage) (c : C) → length (f j u c) ≤ 1)
    → (j : ℕ) (us : List Usage) (cs : List C) → length (element_list_events f j us cs) ≤ length us
each_few f one j [] cs = omega arith
each_few f one j (u ∷ us) [] = omega arith
each_few f one j (u ∷ us) (c ∷ cs) =
    omega (
      arith,
      one j u c,
      each_few f one (j + 1) us cs,
      length-append (f j u c) (element_list_events f (j + 1) us cs),
    )

switch_one : (i j : ℕ) (u : Usage) (p q : Bool) → length (switch_event (control_at i j) u p q) ≤ 1
switch_one i j u true true = omega arith
switch_one i j u true false = omega arith
switch_one i j u false true = omega arith
switch_one i j u false false = omega arith

value_one : (i j : ℕ) (u : Usage) (p q : Option ℤ) → length (value_event (control_at i j) u p q) ≤ 1
value_one i j u None None = omega arith
value_one i j u None (Some w) = omega arith
value_one i j u (Some v) None = omega arith
value_one i j u (Some v) (Some w) = by_same (int_eq v w)
  where
    by_same : (b : Bool) → length (cond b [] (event.Value (control_at i j) u w ∷ [])) ≤ 1
    by_same true = omega arith
    by_same false = omega arith

motion_one : (i j : ℕ) (u : Usage) (m : ℤ) → length (motion_event (control_at i j) u m) ≤ 1
motion_one i j u m = by_same (int_eq m (pos 0))
  where
    by_same : (b : Bool) → length (cond b [] (event.Motion (control_at i j) u m ∷ [])) ≤ 1
    by_same true = omega arith
    by_same false = omega arith

-- no more releases than held keys, and no more presses than keys held then
ups_few : (i j : ℕ) (us : List Usage) (bs xs : List Bool)
    → length (element_list_events (λ k u (p : Bool × Bool). up_event (control_at i k) u p.0 p.1) j us
    (zip bs xs)) ≤ switch_count bs
ups_few i j [] bs xs = omega arith
ups_few i j (u ∷ us) [] xs = omega arith
ups_few i j (u ∷ us) (b ∷ bs) [] = omega arith
ups_few i j (u ∷ us) (true ∷ bs) (true ∷ xs) = omega (arith, ups_few i (j + 1) us bs xs, cons_count true bs)
ups_few i j (u ∷ us) (true ∷ bs) (false ∷ xs) = omega (arith, ups_few i (j + 1) us bs xs, cons_count true bs)
ups_few i j (u ∷ us) (false ∷ bs) (true ∷ xs) = omega (arith, ups_few i (j + 1) us bs xs, cons_count false bs)
ups_few i j (u ∷ us) (false ∷ bs) (false ∷ xs) = omega (arith, ups_few i (j + 1) us bs xs, cons_count false bs)

downs_few : (i j : ℕ) (us : List Usage) (bs xs : List Bool)
    → length (element_list_events (λ k u (p : Bool × Bool). down_event (control_at i k) u p.0 p.1) j us
    (zip bs xs)) ≤ switch_count xs
downs_few i j [] bs xs = omega arith
downs_few i j (u ∷ us) [] xs = omega arith
downs_few i j (u ∷ us) (b ∷ bs) [] = omega arith
downs_few i j (u ∷ us) (true ∷ bs) (true ∷ xs) = omega (arith, downs_few i (j + 1) us bs xs, cons_count true xs)
downs_few i j (u ∷ us) (false ∷ bs) (true ∷ xs) = omega (arith, downs_few i (j + 1) us bs xs, cons_count true xs)
downs_few i j (u ∷ us) (true ∷ bs) (false ∷ xs) = omega (arith, downs_few i (j + 1) us bs xs, cons_count false xs)
downs_few i j (u ∷ us) (false ∷ bs) (false ∷ xs) = omega (arith, downs_few i (j + 1) us bs xs, cons_count false xs)

pub element_few : (i : ℕ) (us : List Usage) (b a : ControlState) → length (element_events i us b a) ≤ length us
element_few i us (Switches bs) (Switches xs) = each_few _ (λ j u p. switch_one i j u p.0 p.1) 0 us (zip bs xs)
element_few i us (Switches bs) Absent = omega arith
element_few i us (Switches bs) (Values xs) = omega arith
element_few i us (Switches bs) (Motions xs) = omega arith
element_few i us (Switches bs) (RollOver xs) = omega arith
element_few i us (Values bs) (Values xs) = each_few _ (λ j u p. value_one i j u p.0 p.1) 0 us (zip bs xs)
element_few i us (Values bs) Absent = omega arith
element_few i us (Values bs) (Switches xs) = omega arith
element_few i us (Values bs) (Motions xs) = omega arith
element_few i us (Values bs) (RollOver xs) = omega arith
element_few i us Absent a = omega arith
element_few i us (Motions bs) a = omega arith
element_few i us (RollOver bs) a = omega arith

pub motions_few : (i : ℕ) (us : List Usage) (ms : List ℤ) → length (motion_events i us ms) ≤ length us
motions_few i us ms = each_few _ (λ j u m. motion_one i j u m) 0 us ms

key_few : (i elements : ℕ) (rolls : Bool) (keys : List Key) (b a : ControlState) → InView (Keys elements rolls keys) b
    → InView (Keys elements rolls keys) a → length (key_events i (key_usages keys) b a) ≤ 2 * elements
key_few i elements rolls keys (Switches bs) (Switches xs) ok ok' =
    let up = ups_few i 0 (key_usages keys) bs xs in
    let down = downs_few i 0 (key_usages keys) bs xs in
    let both = length-append (ups i (key_usages keys) bs xs) (downs i (key_usages keys) bs xs) in
    let few : switch_count bs ≤ elements = ok in
    let few' : switch_count xs ≤ elements = ok' in
    omega (arith, up, down, both)
key_few i elements rolls keys (Switches bs) Absent ok ok' = omega arith
key_few i elements rolls keys (Switches bs) (Values xs) ok ok' = omega arith
key_few i elements rolls keys (Switches bs) (Motions xs) ok ok' = omega arith
key_few i elements rolls keys (Switches bs) (RollOver xs) ok ok' = omega arith
key_few i elements rolls keys Absent a ok ok' = omega arith
key_few i elements rolls keys (Values bs) a ok ok' = omega arith
key_few i elements rolls keys (Motions bs) a ok ok' = omega arith
key_few i elements rolls keys (RollOver bs) a ok ok' = omega arith

-- the events of an item's change are few
pub change_few : (i : ℕ) (form : Form) (b a : ControlState) → InView form b → InView form a
    → length (change_events i form b a) ≤ events_in form
change_few i NoControls b a ok ok' = omega arith
change_few i (Elements kind least greatest us) b a ok ok' = element_few i us b a
change_few i (Keys elements rolls keys) b a ok ok' = key_few i elements rolls keys b a ok ok'

pub sum_cons : (item : Item) (items : List Item) → max_events (item ∷ items) ≡ events_in item.form + max_events items
sum_cons item items = sum_by-append (λ (it : Item). events_in it.form) (item ∷ []) items ∙ ap (λ (n : ℕ). n + max_events items) (zero-add (events_in item.form))

pub suits_tail : (stands : Form → ControlState → Type 0) (item : Item) (items : List Item) (c : ControlState)
    (states : List ControlState) → FitControlStates stands (item ∷ items) (c ∷ states)
    → FitControlStates stands items states
suits_tail stands item items c states fits = record {
  one_each = (let e = fits.one_each in omega arith);
  room = λ i it state h g. fits.room (suc i) it state h g;
  suits = λ i it state h g. fits.suits (suc i) it state h g;
}

-- the events of the changes of all items are few
pub changes_few : (i : ℕ) (items : List Item) (bs xs : List ControlState) → FitControlStates InView items bs
    → FitControlStates InView items xs → length (changes_from i items bs xs) ≤ max_events items
changes_few i [] bs xs fits fits' = omega arith
changes_few i (item ∷ items) [] xs fits fits' = absurd (let e = fits.one_each in omega arith)
changes_few i (item ∷ items) (b ∷ bs) [] fits fits' = absurd (let e = fits'.one_each in omega arith)
changes_few i (item ∷ items) (b ∷ bs) (a ∷ xs) fits fits' =
    omega (
      arith,
      sum_cons item items,
      change_few i item.form b a (fits.suits 0 item b refl refl) (fits'.suits 0 item a refl refl),
      changes_few (i + 1) items bs xs (suits_tail InView item items b bs fits) (suits_tail InView item items a xs fits'),
      length-append (change_events i item.form b a) (changes_from (i + 1) items bs xs),
    )

pub ruleset few_changes = (changes_few)

same_ups : (i j : ℕ) (us : List Usage) (bs : List Bool)
    → element_list_events (λ k u (p : Bool × Bool). up_event (control_at i k) u p.0 p.1) j us (zip bs bs) ≡ []
same_ups i j [] bs = refl
same_ups i j (u ∷ us) [] = refl
same_ups i j (u ∷ us) (true ∷ bs) = same_ups i (j + 1) us bs
same_ups i j (u ∷ us) (false ∷ bs) = same_ups i (j + 1) us bs

same_downs : (i j : ℕ) (us : List Usage) (bs : List Bool)
    → element_list_events (λ k u (p : Bool × Bool). down_event (control_at i k) u p.0 p.1) j us (zip bs bs) ≡ []
same_downs i j [] bs = refl
same_downs i j (u ∷ us) [] = refl
same_downs i j (u ∷ us) (true ∷ bs) = same_downs i (j + 1) us bs
same_downs i j (u ∷ us) (false ∷ bs) = same_downs i (j + 1) us bs

-- keys that stay tell nothing
pub same_keys : (i : ℕ) (us : List Usage) (state : ControlState) → key_events i us state state ≡ []
same_keys i us (Switches bs) =
    ap (λ (xs : List Event). xs ++ downs i us bs bs) (same_ups i 0 us bs) ∙ same_downs i 0 us bs
same_keys i us Absent = refl
same_keys i us (Values bs) = refl
same_keys i us (Motions bs) = refl
same_keys i us (RollOver bs) = refl

-- what stands at a place of a view, where its control states were looked up
pub state_there : (view states : List ControlState) (i : ℕ) (state : ControlState) → states ≡ view
    → state ≡ get_or states i Absent → state_at view i ≡ state
state_there view states i state same is =
    unwrap_or-slice_get view i Absent ∙ sym (is ∙ ap (λ (l : List ControlState). get_or l i Absent) same)
