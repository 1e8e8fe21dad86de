-- What a report shows of a snapshot suits the controls, and so does what is left of its motion.
use Rattle.std.proofs.Common.{◌≡◌, ℕ, zero, suc, ◌<◌, ◌≤◌, Bool, true, false, cond, nat_lt, List, [], ◌∷◌, length, map, replicate, Some, ℤ, pos, negsuc, ◌-ℤ◌, ◌≤ℤ◌, refl, sym, ap, ◌∙◌, subst, arith}
use Rattle.std.specs.List.{slice_get}
use Rattle.std.specs.Int.{int_min}
use Rattle.std.specs.Int.Signed.{le_z}
use Rattle.std.proofs.lemmas.List.{length-map, length-replicate}
use Rattle.std.proofs.lemmas.Int.{ints, int_min_is, int_max_is}
use Rattle.std.proofs.lemmas.Bool.Decides.{nat_tests}
use Rattle.hid_layout.specs.Layout.{Contents}
use Rattle.hid_layout.specs.Reports.{IsLayout}
use Rattle.hid_layout.specs.declared.control.ControlKind.TheVariants.{Switch, Value, NullValue, Relative}
use Rattle.hid_layout.specs.Controls.{Form, NoControls, Elements, Keys, Item, items_of, controls_of_form}
use Rattle.hid_snapshots.specs.declared.control_state.ControlState.{ControlState}
use Rattle.hid_snapshots.specs.declared.control_state.ControlState.TheVariants.{Absent, Switches, Values, Motions, RollOver}
use Rattle.hid_snapshots.specs.ControlStates.{is_in, is_i32, switch_count, are_motions, HasRoom, InSnapshot, InPart, FitControlStates, blank_state}
use Rattle.std.proofs.lemmas.Option.{slice_get_within}
use Rattle.hid_layout.specs.declared.control.Controls.{Controls}
use Rattle.hid_layout.specs.declared.control.Controls.TheVariants as head
use Rattle.hid_snapshots.specs.Parts.{item_at, HasRoomOf, AreMotions, blank_parts, has_zeros, clamp, is_of, by_item, shown_state, shown_part_of, shown_parts, differences, minus_motion, without_motion_of, without_part_motion, has_zero, without_motion, still_of, still_parts}
use Rattle.hid_snapshots.proofs.CodeLemmas.{test_true, true_test, both_true}
use Rattle.hid_snapshots.proofs.FillLemmas.{length_map_zip}
use Rattle.hid_snapshots.proofs.BlankLemmas.{IsSound, sound_items, suits_all, blank_room, blank_in_snapshot}
use Rattle.hid_snapshots.proofs.PartLemmas.{by_item_at, by_item_length, Places, places, room_of, item_at-is}
use Rattle.hid_snapshots.proofs.ItemLemmas.{got}

to_le : (a b : ℤ) → le_z a b ≡ true → a ≤ℤ b
to_le a b h = record { le = true_test (le_z a b) h }

of_le : (a b : ℤ) → a ≤ℤ b → le_z a b ≡ true
of_le a b h = test_true (le_z a b) h.le

in_both : (least greatest v : ℤ) → least ≤ℤ v → v ≤ℤ greatest → is_in least greatest v ≡ true
in_both least greatest v h k = rw (of_le least v h, of_le v greatest k) refl

pub clamp_in : (least greatest m : ℤ) → le_z least greatest ≡ true → is_in least greatest (clamp least greatest m) ≡ true
clamp_in least greatest m h =
    let some : least ≤ℤ greatest = to_le least greatest h in
    let inner = int_min_is greatest m in
    let outer = int_max_is least (int_min greatest m) in
    in_both least greatest (clamp least greatest m) (omega (arith, ints, inner, outer)) (omega (arith, ints, inner, outer))

-- what is left of a motion of 32 bits has 32 bits, where an element can carry 0
rest_i32 : (least greatest m : ℤ) → is_in least greatest (pos 0) ≡ true → is_i32 m ≡ true → is_i32 (m -ℤ clamp least greatest m) ≡ true
rest_i32 least greatest m zero_ fits =
    let low : least ≤ℤ pos 0 = to_le least (pos 0) ((both_true _ _ zero_).0) in
    let high : pos 0 ≤ℤ greatest = to_le (pos 0) greatest ((both_true _ _ zero_).1) in
    let least' : negsuc 0x7FFF_FFFF ≤ℤ m = to_le _ m ((both_true _ _ fits).0) in
    let greatest' : m ≤ℤ pos 0x7FFF_FFFF = to_le m _ ((both_true _ _ fits).1) in
    let inner = int_min_is greatest m in
    let outer = int_max_is least (int_min greatest m) in
    in_both (negsuc 0x7FFF_FFFF) (pos 0x7FFF_FFFF) (m -ℤ clamp least greatest m) (omega (arith, ints, inner, outer)) (omega (arith, ints, inner, outer))

-- what an element carries of a motion of 32 bits has 32 bits, where it can carry 0
carried_i32 : (least greatest m : ℤ) → is_in least greatest (pos 0) ≡ true → is_i32 m ≡ true → is_i32 (clamp least greatest m) ≡ true
carried_i32 least greatest m zero_ fits =
    let low : least ≤ℤ pos 0 = to_le least (pos 0) ((both_true _ _ zero_).0) in
    let high : pos 0 ≤ℤ greatest = to_le (pos 0) greatest ((both_true _ _ zero_).1) in
    let least' : negsuc 0x7FFF_FFFF ≤ℤ m = to_le _ m ((both_true _ _ fits).0) in
    let greatest' : m ≤ℤ pos 0x7FFF_FFFF = to_le m _ ((both_true _ _ fits).1) in
    let inner = int_min_is greatest m in
    let outer = int_max_is least (int_min greatest m) in
    in_both (negsuc 0x7FFF_FFFF) (pos 0x7FFF_FFFF) (clamp least greatest m) (omega (arith, ints, inner, outer)) (omega (arith, ints, inner, outer))

clamped_in : (least greatest : ℤ) (ms : List ℤ) → le_z least greatest ≡ true → are_motions least greatest (map (clamp least greatest) ms)
clamped_in least greatest [] h = tt
clamped_in least greatest (m ∷ ms) h = (clamp_in least greatest m h, clamped_in least greatest ms h)

pub carried_all : (least greatest : ℤ) (ms : List ℤ) → is_in least greatest (pos 0) ≡ true → are_motions (negsuc 0x7FFF_FFFF) (pos 0x7FFF_FFFF) ms → are_motions (negsuc 0x7FFF_FFFF) (pos 0x7FFF_FFFF) (map (clamp least greatest) ms)
carried_all least greatest [] h ok = tt
carried_all least greatest (m ∷ ms) h ok = (carried_i32 least greatest m h ok.0, carried_all least greatest ms h ok.1)

pub rest_all : (least greatest : ℤ) (ms : List ℤ) → is_in least greatest (pos 0) ≡ true → are_motions (negsuc 0x7FFF_FFFF) (pos 0x7FFF_FFFF) ms
    → are_motions (negsuc 0x7FFF_FFFF) (pos 0x7FFF_FFFF) (differences ms (map (clamp least greatest) ms))
rest_all least greatest [] h ok = tt
rest_all least greatest (m ∷ ms) h ok = (rest_i32 least greatest m h ok.0, rest_all least greatest ms h ok.1)

part_room : (form : Form) (state : ControlState) → HasRoom (controls_of_form form) state
    → HasRoom (controls_of_form form) (shown_state (controls_of_form form) state)
part_room NoControls Absent room = room
part_room NoControls (Switches xs) room = absurd room
part_room NoControls (Values xs) room = absurd room
part_room NoControls (Motions xs) room = absurd room
part_room NoControls (RollOver xs) room = absurd room
part_room (Elements Switch least greatest us) Absent room = absurd room
part_room (Elements Switch least greatest us) (Switches xs) room = room
part_room (Elements Switch least greatest us) (Values xs) room = absurd room
part_room (Elements Switch least greatest us) (Motions xs) room = absurd room
part_room (Elements Switch least greatest us) (RollOver xs) room = absurd room
part_room (Elements Value least greatest us) Absent room = absurd room
part_room (Elements Value least greatest us) (Switches xs) room = absurd room
part_room (Elements Value least greatest us) (Values xs) room = room
part_room (Elements Value least greatest us) (Motions xs) room = absurd room
part_room (Elements Value least greatest us) (RollOver xs) room = absurd room
part_room (Elements NullValue least greatest us) Absent room = absurd room
part_room (Elements NullValue least greatest us) (Switches xs) room = absurd room
part_room (Elements NullValue least greatest us) (Values xs) room = room
part_room (Elements NullValue least greatest us) (Motions xs) room = absurd room
part_room (Elements NullValue least greatest us) (RollOver xs) room = absurd room
part_room (Elements Relative least greatest us) Absent room = absurd room
part_room (Elements Relative least greatest us) (Switches xs) room = absurd room
part_room (Elements Relative least greatest us) (Values xs) room = absurd room
part_room (Elements Relative least greatest us) (Motions xs) room = length-map xs (clamp least greatest) ∙ room
part_room (Elements Relative least greatest us) (RollOver xs) room = absurd room
part_room (Keys elements rolls keys) Absent room = absurd room
part_room (Keys elements rolls keys) (Switches xs) room = by_count (nat_lt elements (switch_count xs))
  where
    by_count : (b : Bool) → HasRoom (controls_of_form (Keys elements rolls keys)) (cond b (RollOver xs) (Switches xs))
    by_count true = room
    by_count false = room
part_room (Keys elements rolls keys) (Values xs) room = absurd room
part_room (Keys elements rolls keys) (Motions xs) room = absurd room
part_room (Keys elements rolls keys) (RollOver xs) room = room

part_stands : (form : Form) (state : ControlState) → IsSound form → InSnapshot form state
    → InPart form (shown_state (controls_of_form form) state)
part_stands NoControls Absent some ok = tt
part_stands NoControls (Switches xs) some ok = tt
part_stands NoControls (Values xs) some ok = tt
part_stands NoControls (Motions xs) some ok = tt
part_stands NoControls (RollOver xs) some ok = tt
part_stands (Elements kind least greatest us) Absent some ok = tt
part_stands (Elements kind least greatest us) (Switches xs) some ok = tt
part_stands (Elements kind least greatest us) (Values xs) some ok = ok
part_stands (Elements kind least greatest us) (Motions xs) some ok = clamped_in least greatest xs some
part_stands (Elements kind least greatest us) (RollOver xs) some ok = tt
part_stands (Keys elements rolls keys) Absent some ok = tt
part_stands (Keys elements rolls keys) (Switches xs) some ok = by_count (nat_lt elements (switch_count xs)) refl
  where
    by_rolls : (b : Bool) → rolls ≡ b → nat_lt elements (switch_count xs) ≡ true → rolls ≡ true
    by_rolls true e more = e
    by_rolls false e more = let few : switch_count xs ≤ elements = ok.1 e in absurd (grind (arith, nat_tests))

    by_count : (b : Bool) → nat_lt elements (switch_count xs) ≡ b
        → InPart (Keys elements rolls keys) (cond b (RollOver xs) (Switches xs))
    by_count true more = by_rolls rolls refl more
    by_count false few = (ok.0, grind (arith, nat_tests))
part_stands (Keys elements rolls keys) (Values xs) some ok = tt
part_stands (Keys elements rolls keys) (Motions xs) some ok = tt
part_stands (Keys elements rolls keys) (RollOver xs) some ok = absurd ok

-- control states that are put together item by item suit the items, where each does
pub suits_by : (stands : Form → ControlState → Type 0) (f : Item → ControlState → ControlState → ControlState)
    (items : List Item) (xs bs : List ControlState) → length xs ≡ length items → length bs ≡ length items
    → ((i : ℕ) (item : Item) (a b : ControlState) → slice_get items i ≡ Some item → slice_get xs i ≡ Some a
    → slice_get bs i ≡ Some b → HasRoom (controls_of_form item.form) (f item a b) × stands item.form (f item a b))
    → FitControlStates stands items (by_item f items xs bs)
suits_by stands f items xs bs lx lb each = record {
  one_each = by_item_length f items xs bs lx lb;
  room = λ i item state h g. let p =
      at i item h in
      subst (λ c. HasRoom (controls_of_form item.form) c) (made i item state h g)
      ((each i item p.state p.part h p.state_there p.part_there).0);
  suits = λ i item state h g. let p = at i item h in subst (λ c. stands item.form c) (made i item state h g) ((each i item p.state p.part h p.state_there p.part_there).1);
}
  where
    at : (i : ℕ) (item : Item) → slice_get items i ≡ Some item → Places items xs bs i
    at i item h = places items xs bs i (slice_get_within items i item h) lx lb

    made : (i : ℕ) (item : Item) (state : ControlState) (h : slice_get items i ≡ Some item)
        → slice_get (by_item f items xs bs) i ≡ Some state → f item (at i item h).state (at i item h).part ≡ state
    made i item state h g =
        let p = at i item h in
        let e = by_item_at f items xs bs i item p.state p.part h p.state_there p.part_there in
        cc

-- What is shown of a snapshot suits the items.
pub shown_fits : (layout : Contents) (r : ℕ) (states parts : List ControlState) → IsLayout layout
    → FitControlStates InSnapshot (items_of layout) states → FitControlStates InPart (items_of layout) parts
    → FitControlStates InPart (items_of layout) (shown_parts (items_of layout) r states parts)
shown_fits layout r states parts laid fits fits' =
    suits_by InPart (shown_part_of r) (items_of layout) states parts fits.one_each fits'.one_each
    (λ i item a b h g k. by_report (is_of r item) item a b
    (part_room item.form a (fits.room i item a h g), part_stands item.form a (sound_items layout laid i item h) (fits.suits i item a h g)) (fits'.room i item b h k, fits'.suits i item b h k))
  where
    by_report : (b : Bool) (item : Item) (state part : ControlState)
        → HasRoom (controls_of_form item.form) (shown_state (controls_of_form item.form) state)
        × InPart item.form (shown_state (controls_of_form item.form) state)
        → HasRoom (controls_of_form item.form) part × InPart item.form part
        → HasRoom (controls_of_form item.form) (cond b (shown_state (controls_of_form item.form) state) part)
        × InPart item.form (cond b (shown_state (controls_of_form item.form) state) part)
    by_report true item state part new old = new
    by_report false item state part new old = old

pub blank_parts_fit : (layout : Contents) → IsLayout layout
    → FitControlStates InPart (items_of layout) (blank_parts (items_of layout))
blank_parts_fit layout laid =
    suits_all InPart (λ item. shown_state (controls_of_form item.form) (blank_state (controls_of_form item.form)))
    (items_of layout)
    (λ i item h. (part_room item.form _ (blank_room item.form), part_stands item.form _ (sound_items layout laid i item h) (blank_in_snapshot item.form (sound_items layout laid i item h))))

pub motions_kept : (form : Form) (state : ControlState) → HasRoom (controls_of_form form) state
    → InSnapshot form state
    → AreMotions state
motions_kept NoControls Absent room ok = tt
motions_kept NoControls (Switches xs) room ok = tt
motions_kept NoControls (Values xs) room ok = tt
motions_kept NoControls (Motions xs) room ok = absurd room
motions_kept NoControls (RollOver xs) room ok = tt
motions_kept (Elements Switch least greatest us) Absent room ok = tt
motions_kept (Elements Switch least greatest us) (Switches xs) room ok = tt
motions_kept (Elements Switch least greatest us) (Values xs) room ok = tt
motions_kept (Elements Switch least greatest us) (Motions xs) room ok = ok
motions_kept (Elements Switch least greatest us) (RollOver xs) room ok = tt
motions_kept (Elements Value least greatest us) Absent room ok = tt
motions_kept (Elements Value least greatest us) (Switches xs) room ok = tt
motions_kept (Elements Value least greatest us) (Values xs) room ok = tt
motions_kept (Elements Value least greatest us) (Motions xs) room ok = ok
motions_kept (Elements Value least greatest us) (RollOver xs) room ok = tt
motions_kept (Elements NullValue least greatest us) Absent room ok = tt
motions_kept (Elements NullValue least greatest us) (Switches xs) room ok = tt
motions_kept (Elements NullValue least greatest us) (Values xs) room ok = tt
motions_kept (Elements NullValue least greatest us) (Motions xs) room ok = ok
motions_kept (Elements NullValue least greatest us) (RollOver xs) room ok = tt
motions_kept (Elements Relative least greatest us) Absent room ok = tt
motions_kept (Elements Relative least greatest us) (Switches xs) room ok = tt
motions_kept (Elements Relative least greatest us) (Values xs) room ok = tt
motions_kept (Elements Relative least greatest us) (Motions xs) room ok = ok
motions_kept (Elements Relative least greatest us) (RollOver xs) room ok = tt
motions_kept (Keys elements rolls keys) Absent room ok = tt
motions_kept (Keys elements rolls keys) (Switches xs) room ok = tt
motions_kept (Keys elements rolls keys) (Values xs) room ok = tt
motions_kept (Keys elements rolls keys) (Motions xs) room ok = absurd room
motions_kept (Keys elements rolls keys) (RollOver xs) room ok = tt

pub motions_shown : (form : Form) (state : ControlState) → has_zero (controls_of_form form) ≡ true
    → HasRoom (controls_of_form form) state
    → InSnapshot form state → AreMotions (shown_state (controls_of_form form) state)
motions_shown NoControls Absent zero_ room ok = tt
motions_shown NoControls (Switches xs) zero_ room ok = tt
motions_shown NoControls (Values xs) zero_ room ok = tt
motions_shown NoControls (Motions xs) zero_ room ok = absurd room
motions_shown NoControls (RollOver xs) zero_ room ok = tt
motions_shown (Elements Switch least greatest us) Absent zero_ room ok = tt
motions_shown (Elements Switch least greatest us) (Switches xs) zero_ room ok = tt
motions_shown (Elements Switch least greatest us) (Values xs) zero_ room ok = tt
motions_shown (Elements Switch least greatest us) (Motions xs) zero_ room ok = absurd room
motions_shown (Elements Switch least greatest us) (RollOver xs) zero_ room ok = tt
motions_shown (Elements Value least greatest us) Absent zero_ room ok = tt
motions_shown (Elements Value least greatest us) (Switches xs) zero_ room ok = tt
motions_shown (Elements Value least greatest us) (Values xs) zero_ room ok = tt
motions_shown (Elements Value least greatest us) (Motions xs) zero_ room ok = absurd room
motions_shown (Elements Value least greatest us) (RollOver xs) zero_ room ok = tt
motions_shown (Elements NullValue least greatest us) Absent zero_ room ok = tt
motions_shown (Elements NullValue least greatest us) (Switches xs) zero_ room ok = tt
motions_shown (Elements NullValue least greatest us) (Values xs) zero_ room ok = tt
motions_shown (Elements NullValue least greatest us) (Motions xs) zero_ room ok = absurd room
motions_shown (Elements NullValue least greatest us) (RollOver xs) zero_ room ok = tt
motions_shown (Elements Relative least greatest us) Absent zero_ room ok = tt
motions_shown (Elements Relative least greatest us) (Switches xs) zero_ room ok = tt
motions_shown (Elements Relative least greatest us) (Values xs) zero_ room ok = tt
motions_shown (Elements Relative least greatest us) (Motions xs) zero_ room ok =
    carried_all least greatest xs zero_ ok
motions_shown (Elements Relative least greatest us) (RollOver xs) zero_ room ok = tt
motions_shown (Keys elements rolls keys) Absent zero_ room ok = tt
motions_shown (Keys elements rolls keys) (Switches xs) zero_ room ok = by_count (nat_lt elements (switch_count xs))
  where
    by_count : (b : Bool) → AreMotions (cond b (RollOver xs) (Switches xs))
    by_count true = tt
    by_count false = tt
motions_shown (Keys elements rolls keys) (Values xs) zero_ room ok = tt
motions_shown (Keys elements rolls keys) (Motions xs) zero_ room ok = absurd room
motions_shown (Keys elements rolls keys) (RollOver xs) zero_ room ok = tt

rest_room : (controls : Controls) (state part : ControlState) → HasRoom controls state → HasRoomOf state part
    → HasRoom controls (minus_motion state part)
rest_room controls Absent part room like = room
rest_room controls (Switches xs) part room like = room
rest_room controls (Values xs) part room like = room
rest_room controls (RollOver xs) part room like = room
rest_room controls (Motions xs) Absent room like = room
rest_room controls (Motions xs) (Switches bs) room like = room
rest_room controls (Motions xs) (Values bs) room like = room
rest_room controls (Motions xs) (RollOver bs) room like = room
rest_room head.None (Motions xs) (Motions bs) room like = absurd room
rest_room (head.Elements Switch least greatest n) (Motions xs) (Motions bs) room like = absurd room
rest_room (head.Elements Value least greatest n) (Motions xs) (Motions bs) room like = absurd room
rest_room (head.Elements NullValue least greatest n) (Motions xs) (Motions bs) room like = absurd room
rest_room (head.Elements Relative least greatest n) (Motions xs) (Motions bs) room like =
    length_map_zip (λ (p : ℤ × ℤ). p.0 -ℤ p.1) xs bs like ∙ room
rest_room (head.Keys elements rolls n) (Motions xs) (Motions bs) room like = absurd room

rest_stands : (form : Form) (state : ControlState) → has_zero (controls_of_form form) ≡ true
    → HasRoom (controls_of_form form) state
    → InSnapshot form state → InSnapshot form (minus_motion state (shown_state (controls_of_form form) state))
rest_stands NoControls Absent zero_ room ok = ok
rest_stands NoControls (Switches xs) zero_ room ok = ok
rest_stands NoControls (Values xs) zero_ room ok = ok
rest_stands NoControls (Motions xs) zero_ room ok = absurd room
rest_stands NoControls (RollOver xs) zero_ room ok = ok
rest_stands (Elements Switch least greatest us) Absent zero_ room ok = ok
rest_stands (Elements Switch least greatest us) (Switches xs) zero_ room ok = ok
rest_stands (Elements Switch least greatest us) (Values xs) zero_ room ok = ok
rest_stands (Elements Switch least greatest us) (Motions xs) zero_ room ok = absurd room
rest_stands (Elements Switch least greatest us) (RollOver xs) zero_ room ok = ok
rest_stands (Elements Value least greatest us) Absent zero_ room ok = ok
rest_stands (Elements Value least greatest us) (Switches xs) zero_ room ok = ok
rest_stands (Elements Value least greatest us) (Values xs) zero_ room ok = ok
rest_stands (Elements Value least greatest us) (Motions xs) zero_ room ok = absurd room
rest_stands (Elements Value least greatest us) (RollOver xs) zero_ room ok = ok
rest_stands (Elements NullValue least greatest us) Absent zero_ room ok = ok
rest_stands (Elements NullValue least greatest us) (Switches xs) zero_ room ok = ok
rest_stands (Elements NullValue least greatest us) (Values xs) zero_ room ok = ok
rest_stands (Elements NullValue least greatest us) (Motions xs) zero_ room ok = absurd room
rest_stands (Elements NullValue least greatest us) (RollOver xs) zero_ room ok = ok
rest_stands (Elements Relative least greatest us) Absent zero_ room ok = ok
rest_stands (Elements Relative least greatest us) (Switches xs) zero_ room ok = ok
rest_stands (Elements Relative least greatest us) (Values xs) zero_ room ok = ok
rest_stands (Elements Relative least greatest us) (Motions xs) zero_ room ok = rest_all least greatest xs zero_ ok
rest_stands (Elements Relative least greatest us) (RollOver xs) zero_ room ok = ok
rest_stands (Keys elements rolls keys) Absent zero_ room ok = ok
rest_stands (Keys elements rolls keys) (Switches xs) zero_ room ok = ok
rest_stands (Keys elements rolls keys) (Values xs) zero_ room ok = ok
rest_stands (Keys elements rolls keys) (Motions xs) zero_ room ok = absurd room
rest_stands (Keys elements rolls keys) (RollOver xs) zero_ room ok = ok

-- a part that is shown is what is shown of its control state
pub part_is_shown : (items : List Item) (r : ℕ) (states parts : List ControlState) (i : ℕ) (item : Item)
    (state part : ControlState) → parts ≡ shown_parts items r states parts → slice_get items i ≡ Some item
    → slice_get states i ≡ Some state → slice_get parts i ≡ Some part
    → is_of r item ≡ true → part ≡ shown_state (controls_of_form item.form) state
part_is_shown items r states parts i item state part same h g k of_it =
    let e = by_item_at (shown_part_of r) items states parts i item state part h g k in
    let f : slice_get parts i ≡ Some (shown_part_of r item state part) = ap (λ xs. slice_get xs i) same ∙ e in
    let p : part ≡ shown_part_of r item state part = cc in
    p ∙ ap (λ (b : Bool). cond b (shown_state (controls_of_form item.form) state) part) of_it

zero_at : (items : List Item) (i : ℕ) (item : Item) → has_zeros items ≡ true → slice_get items i ≡ Some item
    → has_zero (controls_of_form item.form) ≡ true
zero_at [] i item h k = absurd (cc)
zero_at (it ∷ items) zero item h k = let e : it ≡ item = cc in rw (← e) (both_true _ _ h).0
zero_at (it ∷ items) (suc i) item h k =
    zero_at items i item ((both_true (has_zero (controls_of_form it.form)) (has_zeros items) h).1) k

-- no motion at all, where an element can carry 0
still_all : (least greatest : ℤ) (n : ℕ) → is_in least greatest (pos 0) ≡ true → are_motions least greatest (replicate n (pos 0))
still_all least greatest zero h = tt
still_all least greatest (suc n) h = (h, still_all least greatest n h)

still_stands : (form : Form) (part : ControlState) → has_zero (controls_of_form form) ≡ true
    → HasRoom (controls_of_form form) part
    → InPart form part → HasRoom (controls_of_form form) (without_motion part) × InPart form (without_motion part)
still_stands form Absent zero_ room ok = (room, ok)
still_stands form (Switches xs) zero_ room ok = (room, ok)
still_stands form (Values xs) zero_ room ok = (room, ok)
still_stands form (RollOver xs) zero_ room ok = (room, ok)
still_stands NoControls (Motions xs) zero_ room ok = absurd room
still_stands (Elements Switch least greatest us) (Motions xs) zero_ room ok = absurd room
still_stands (Elements Value least greatest us) (Motions xs) zero_ room ok = absurd room
still_stands (Elements NullValue least greatest us) (Motions xs) zero_ room ok = absurd room
still_stands (Elements Relative least greatest us) (Motions xs) zero_ room ok =
    (length-replicate (length xs) (pos 0) ∙ room, still_all least greatest (length xs) zero_)
still_stands (Keys elements rolls keys) (Motions xs) zero_ room ok = absurd room

-- The still part of a snapshot suits the items.
pub still_fits : (layout : Contents) (r : ℕ) (states parts : List ControlState) → IsLayout layout
    → has_zeros (items_of layout) ≡ true → FitControlStates InSnapshot (items_of layout) states
    → FitControlStates InPart (items_of layout) parts
    → FitControlStates InPart (items_of layout) (still_parts (items_of layout) r states parts)
still_fits layout r states parts laid zeros fits fits' =
    suits_by InPart (still_of r) (items_of layout) states parts fits.one_each fits'.one_each
    (λ i item a b h g k. by_report (is_of r item) item a b
    (still_stands item.form (shown_state (controls_of_form item.form) a) (zero_at (items_of layout) i item zeros h)
    (part_room item.form a (fits.room i item a h g))
    (part_stands item.form a (sound_items layout laid i item h) (fits.suits i item a h g)))
    (fits'.room i item b h k, fits'.suits i item b h k))
  where
    by_report : (b : Bool) (item : Item) (state part : ControlState)
        → HasRoom (controls_of_form item.form) (without_motion (shown_state (controls_of_form item.form) state))
        × InPart item.form (without_motion (shown_state (controls_of_form item.form) state))
        → HasRoom (controls_of_form item.form) part × InPart item.form part
        → HasRoom (controls_of_form item.form)
        (cond b (without_motion (shown_state (controls_of_form item.form) state)) part)
        × InPart item.form (cond b (without_motion (shown_state (controls_of_form item.form) state)) part)
    by_report true item state part new old = new
    by_report false item state part new old = old

-- What is left of a snapshot's motion suits the items.
pub taken_fits : (items : List Item) (r : ℕ) (states parts : List ControlState) → has_zeros items ≡ true
    → parts ≡ shown_parts items r states parts → FitControlStates InSnapshot items states
    → FitControlStates InPart items parts
    → FitControlStates InSnapshot items (without_part_motion items r states parts)
taken_fits items r states parts zeros same fits fits' =
    suits_by InSnapshot (without_motion_of r) items states parts fits.one_each fits'.one_each
    (λ i item a b h g k. by_report (is_of r item) i item refl a b h g k (fits.room i item a h g) (fits.suits i item a h g) (fits'.room i item b h k))
  where
    by_report : (b : Bool) (i : ℕ) (item : Item) → is_of r item ≡ b → (state part : ControlState)
        → slice_get items i ≡ Some item → slice_get states i ≡ Some state → slice_get parts i ≡ Some part
        → HasRoom (controls_of_form item.form) state → InSnapshot item.form state
        → HasRoom (controls_of_form item.form) part
        → HasRoom (controls_of_form item.form) (cond b (minus_motion state part) state)
        × InSnapshot item.form (cond b (minus_motion state part) state)
    by_report true i item of_it state part h g k room ok room' = (
      rest_room (controls_of_form item.form) state part room (room_of item.form state part room ok room'),
      rw (part_is_shown items r states parts i item state part same h g k of_it) (rest_stands item.form state (zero_at items i item zeros h) room ok),
    )
    by_report false i item of_it state part h g k room ok room' = (room, ok)

-- the item, control state and part of a place whose motion is taken next
pub record TakesNext (items : List Item) (r : ℕ) (states parts : List ControlState) (i : ℕ)
    (state part : ControlState) : Type 0 where
  pub room : HasRoomOf state part
  pub amounts : AreMotions state
  pub others : is_of r (item_at items i) ≡ true → AreMotions part

pub takes_next : (items : List Item) (r : ℕ) (states parts : List ControlState) (i : ℕ) (state part : ControlState)
    → has_zeros items ≡ true → parts ≡ shown_parts items r states parts → FitControlStates InSnapshot items states
    → FitControlStates InPart items parts
    → i < length items → slice_get states i ≡ Some state → slice_get parts i ≡ Some part → TakesNext items r states parts i state part
takes_next items r states parts i state part zeros same fits fits' within g k =
    let item = got items i within in
    let room = fits.room i item.0 state item.1 g in
    let ok = fits.suits i item.0 state item.1 g in
    record {
      room = room_of item.0.form state part room ok (fits'.room i item.0 part item.1 k);
      amounts = motions_kept item.0.form state room ok;
      others = λ of_it. let here : is_of r item.0 ≡ true = ap (is_of r) (sym (item_at-is items i item.0 item.1)) ∙ of_it in
          subst AreMotions (sym (part_is_shown items r states parts i item.0 state part same item.1 g k here)) (motions_shown item.0.form state (zero_at items i item.0 zeros item.1) room ok);
    }

-- what is shown is shown again as it is
pub shown_again : (items : List Item) (r : ℕ) (states parts : List ControlState)
    → shown_parts items r states (shown_parts items r states parts) ≡ shown_parts items r states parts
shown_again [] r states parts = refl
shown_again (item ∷ items) r [] parts = refl
shown_again (item ∷ items) r (c ∷ states) [] = refl
shown_again (item ∷ items) r (c ∷ states) (p ∷ parts) =
    ap (λ t. shown_part_of r item c (shown_part_of r item c p) ∷ t) (shown_again items r states parts)
    ∙ ap (λ t. t ∷ shown_parts items r states parts) (twice (is_of r item))
  where
    twice : (b : Bool)
        → cond b (shown_state (controls_of_form item.form) c) (cond b (shown_state (controls_of_form item.form) c) p)
        ≡ cond b (shown_state (controls_of_form item.form) c) p
    twice true = refl
    twice false = refl
