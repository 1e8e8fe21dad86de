-- What control states keep: the kind of an item's control state stays, whatever happens to a device.
use Rattle.std.proofs.Common.{◌≡◌, ◌+◌, ◌||◌, not, ℕ, zero, suc, Bool, true, false, cond, List, [], ◌∷◌, length, nat_lt, Option, Some, None, Ok, Err, ℤ, ◌+ℤ◌, refl, ap, sym, ◌∙◌, subst, arith}
use Rattle.std.specs.Option.{unwrap_or}
use Rattle.std.specs.List.{slice_get, slice_set, list_any}
use Rattle.std.proofs.lemmas.Option.{slice_get_within}
use Rattle.std.proofs.lemmas.List.{length-map}
use Rattle.hid_layout.specs.declared.control.Control.{Control}
use Rattle.hid_layout.specs.declared.control.Controls.{Controls}
use Rattle.hid_layout.specs.declared.control.Controls.TheVariants as head
use Rattle.hid_layout.specs.declared.control.ControlKind.{ControlKind}
use Rattle.hid_layout.specs.declared.control.ControlKind.TheVariants.{Switch, Value, NullValue, Relative}
use Rattle.hid_layout.specs.Controls.{Form, NoControls, Elements, Keys, Item, control_of, controls_of_form, form_at, no_item}
use Rattle.hid_snapshots.specs.declared.control_state.ControlState.{ControlState}
use Rattle.hid_snapshots.specs.declared.control_state.ControlState.TheVariants.{Absent, Switches, Values, Motions, RollOver}
use Rattle.hid_snapshots.specs.declared.change.Change.{Change}
use Rattle.hid_snapshots.specs.declared.change.Change.TheVariants.{Press, Release, Set, Null, Move}
use Rattle.hid_snapshots.specs.declared.fault.ChangeFault.TheVariants.{NoDirection, MotionFull}
use Rattle.hid_snapshots.specs.ControlStates.{is_i32, HasRoom, FitsSnapshot, blank_state, blank, switch_count}
use Rattle.hid_snapshots.specs.Parts.{is_of, item_at, by_item, shown_state, shown_part_of, shown_parts, blank_parts, minus_motion, without_motion_of, without_part_motion}
use Rattle.hid_snapshots.specs.Snapshots.{OrFault, unless, motion_in, with_pressed, with_value, with_motion, changed_state, has_direction, target, state_at, with_state, change_at, snapshot_after}
use Rattle.hid_snapshots.specs.Views.{seen_state, view_item_after, view_after_part}
use Rattle.hid_snapshots.proofs.FillLemmas.{set_length}
use Rattle.hid_snapshots.proofs.ItemLemmas.{got}
use Rattle.hid_snapshots.proofs.PartLemmas.{by_item_length}
use Rattle.hid_snapshots.proofs.SnapshotLemmas.{unless_ok}
use Rattle.hid_bus.specs.Agreement.{IsSentIn, AreSentIn}

-- ---- one place of lists that are put together item by item

pub at_by_item : (f : Item → ControlState → ControlState → ControlState) (items : List Item) (xs bs : List ControlState)
    (i : ℕ) → f no_item Absent Absent ≡ Absent → length xs ≡ length items → length bs ≡ length items
    → state_at (by_item f items xs bs) i ≡ f (item_at items i) (state_at xs i) (state_at bs i)
at_by_item f [] [] [] i none lx lb = sym none
at_by_item f [] [] (b ∷ bs) i none lx lb = absurd (omega arith)
at_by_item f [] (x ∷ xs) bs i none lx lb = absurd (omega arith)
at_by_item f (item ∷ items) [] bs i none lx lb = absurd (omega arith)
at_by_item f (item ∷ items) (x ∷ xs) [] i none lx lb = absurd (omega arith)
at_by_item f (item ∷ items) (x ∷ xs) (b ∷ bs) zero none lx lb = refl
at_by_item f (item ∷ items) (x ∷ xs) (b ∷ bs) (suc i) none lx lb = at_by_item f items xs bs i none (omega arith) (omega arith)

pub none_of : (a b : Bool) → a || b ≡ false → (a ≡ false) × (b ≡ false)
none_of true b h = absurd (cc)
none_of false b h = (refl, h)

pub not_called : (f : Item → ControlState → ControlState → Bool) (items : List Item) (xs bs : List ControlState)
    (i : ℕ) → f no_item Absent Absent ≡ false → length xs ≡ length items → length bs ≡ length items
    → list_any (λ called. called) (by_item f items xs bs) ≡ false
    → f (item_at items i) (state_at xs i) (state_at bs i) ≡ false
not_called f [] [] [] i none lx lb h = none
not_called f [] [] (b ∷ bs) i none lx lb h = absurd (omega arith)
not_called f [] (x ∷ xs) bs i none lx lb h = absurd (omega arith)
not_called f (item ∷ items) [] bs i none lx lb h = absurd (omega arith)
not_called f (item ∷ items) (x ∷ xs) [] i none lx lb h = absurd (omega arith)
not_called f (item ∷ items) (x ∷ xs) (b ∷ bs) zero none lx lb h =
    (none_of (f item x b) (list_any (λ called. called) (by_item f items xs bs)) h).0
not_called f (item ∷ items) (x ∷ xs) (b ∷ bs) (suc i) none lx lb h =
    not_called f items xs bs i none (omega arith) (omega arith) (none_of (f item x b) (list_any (λ called. called) (by_item f items xs bs)) h).1

pub form_is : (items : List Item) (i : ℕ) → form_at items i ≡ (item_at items i).form
form_is [] i = refl
form_is (item ∷ items) zero = refl
form_is (item ∷ items) (suc i) = form_is items i

pub sent_at : (n : ℕ) (items : List Item) (i : ℕ) → AreSentIn n items → IsSentIn n (item_at items i)
sent_at n [] i sent = refl
sent_at n (item ∷ items) zero sent = sent.0
sent_at n (item ∷ items) (suc i) sent = sent_at n items i sent.1

pub blank_at : (items : List Item) (i : ℕ)
    → state_at (blank items) i ≡ blank_state (controls_of_form (item_at items i).form)
blank_at [] i = refl
blank_at (item ∷ items) zero = refl
blank_at (item ∷ items) (suc i) = blank_at items i

pub blank_part_at : (items : List Item) (i : ℕ)
    → state_at (blank_parts items) i
    ≡ shown_state (controls_of_form (item_at items i).form) (blank_state (controls_of_form (item_at items i).form))
blank_part_at [] i = refl
blank_part_at (item ∷ items) zero = refl
blank_part_at (item ∷ items) (suc i) = blank_part_at items i

-- ---- what control states keep

pub data Kept : Type 0 where
  KeepsNothing : Kept
  KeepsSwitches : Kept
  KeepsValues : Kept
  KeepsMotions : Kept

abbrev pub kept_in : ControlState → Kept
kept_in Absent = KeepsNothing
kept_in (Switches ps) = KeepsSwitches
kept_in (Values vs) = KeepsValues
kept_in (Motions ms) = KeepsMotions
kept_in (RollOver ps) = KeepsSwitches

-- what the controls of an item need
abbrev pub item_kept : Item → Kept
item_kept item = kept_in (blank_state (controls_of_form item.form))

rolled_kept : (ps : List Bool) (b : Bool) → kept_in (cond b (RollOver ps) (Switches ps)) ≡ KeepsSwitches
rolled_kept ps true = refl
rolled_kept ps false = refl

shown_kept : (controls : Controls) (state : ControlState) → kept_in (shown_state controls state) ≡ kept_in state
shown_kept head.None Absent = refl
shown_kept head.None (Switches ps) = refl
shown_kept head.None (Values vs) = refl
shown_kept head.None (Motions ms) = refl
shown_kept head.None (RollOver ps) = refl
shown_kept (head.Elements kind least greatest count) Absent = refl
shown_kept (head.Elements kind least greatest count) (Switches ps) = refl
shown_kept (head.Elements kind least greatest count) (Values vs) = refl
shown_kept (head.Elements kind least greatest count) (Motions ms) = refl
shown_kept (head.Elements kind least greatest count) (RollOver ps) = refl
shown_kept (head.Keys elements rolls count) Absent = refl
shown_kept (head.Keys elements rolls count) (Switches ps) = rolled_kept ps (nat_lt elements (switch_count ps))
shown_kept (head.Keys elements rolls count) (Values vs) = refl
shown_kept (head.Keys elements rolls count) (Motions ms) = refl
shown_kept (head.Keys elements rolls count) (RollOver ps) = refl

minus_kept : (state part : ControlState) → kept_in (minus_motion state part) ≡ kept_in state
minus_kept Absent part = refl
minus_kept (Switches ps) part = refl
minus_kept (Values vs) part = refl
minus_kept (RollOver ps) part = refl
minus_kept (Motions ms) Absent = refl
minus_kept (Motions ms) (Switches ps) = refl
minus_kept (Motions ms) (Values vs) = refl
minus_kept (Motions ms) (Motions ns) = refl
minus_kept (Motions ms) (RollOver ps) = refl

seen_kept : (view part : ControlState) → kept_in view ≡ kept_in part → kept_in (seen_state view part) ≡ kept_in view
seen_kept view Absent h = refl
seen_kept view (Switches ps) h = sym h
seen_kept view (Values vs) h = sym h
seen_kept view (Motions ms) h = refl
seen_kept view (RollOver ps) h = refl

pressed_kept : (state : ControlState) (j : ℕ) (p : Bool) → kept_in (with_pressed state j p) ≡ kept_in state
pressed_kept Absent j p = refl
pressed_kept (Switches ps) j p = refl
pressed_kept (Values vs) j p = refl
pressed_kept (Motions ms) j p = refl
pressed_kept (RollOver ps) j p = refl

value_kept : (state : ControlState) (j : ℕ) (v : Option ℤ) → kept_in (with_value state j v) ≡ kept_in state
value_kept Absent j v = refl
value_kept (Switches ps) j v = refl
value_kept (Values vs) j v = refl
value_kept (Motions ms) j v = refl
value_kept (RollOver ps) j v = refl

moved_kept : (state : ControlState) (j : ℕ) (m : ℤ) → kept_in (with_motion state j m) ≡ kept_in state
moved_kept Absent j m = refl
moved_kept (Switches ps) j m = refl
moved_kept (Values vs) j m = refl
moved_kept (Motions ms) j m = refl
moved_kept (RollOver ps) j m = refl

done_kept : (state made new : ControlState) → (let o : OrFault ControlState = Ok made in o ≡ Ok new) → kept_in made ≡ kept_in state → kept_in new ≡ kept_in state
done_kept state made new h same = let e : made ≡ new = cc in ap kept_in (sym e) ∙ same

changed_kept : (kind : ControlKind) (controls : Controls) (state new : ControlState) (change : Change)
    → changed_state kind controls state change ≡ Ok new → kept_in new ≡ kept_in state
changed_kept Switch controls state new (Press d) h =
    done_kept state (with_pressed state d.index true) new (unless_ok _ _ (Ok (with_pressed state d.index true)) new h).1 (pressed_kept state d.index true)
changed_kept Switch controls state new (Release d) h =
    done_kept state (with_pressed state d.index false) new h (pressed_kept state d.index false)
changed_kept Switch controls state new (Set d v) h = absurd (cc)
changed_kept Switch controls state new (Null d) h = absurd (cc)
changed_kept Switch controls state new (Move d by) h = absurd (cc)
changed_kept Value controls state new (Press d) h = absurd (cc)
changed_kept Value controls state new (Release d) h = absurd (cc)
changed_kept Value controls state new (Set d v) h =
    done_kept state (with_value state d.index (Some v)) new (unless_ok _ _ (Ok (with_value state d.index (Some v))) new h).1 (value_kept state d.index (Some v))
changed_kept Value controls state new (Null d) h = absurd (cc)
changed_kept Value controls state new (Move d by) h = absurd (cc)
changed_kept NullValue controls state new (Press d) h = absurd (cc)
changed_kept NullValue controls state new (Release d) h = absurd (cc)
changed_kept NullValue controls state new (Set d v) h =
    done_kept state (with_value state d.index (Some v)) new (unless_ok _ _ (Ok (with_value state d.index (Some v))) new h).1 (value_kept state d.index (Some v))
changed_kept NullValue controls state new (Null d) h =
    done_kept state (with_value state d.index None) new h (value_kept state d.index None)
changed_kept NullValue controls state new (Move d by) h = absurd (cc)
changed_kept Relative controls state new (Press d) h = absurd (cc)
changed_kept Relative controls state new (Release d) h = absurd (cc)
changed_kept Relative controls state new (Set d v) h = absurd (cc)
changed_kept Relative controls state new (Null d) h = absurd (cc)
changed_kept Relative controls state new (Move d by) h =
    let m : ℤ = motion_in state d.index +ℤ by in
    done_kept state (with_motion state d.index m) new (unless_ok (not (is_i32 m)) MotionFull (Ok (with_motion state d.index m)) new (unless_ok (not (has_direction controls by)) NoDirection (unless (not (is_i32 m)) MotionFull (Ok (with_motion state d.index m))) new h).1).1 (moved_kept state d.index m)

room_kept : (form : Form) (state : ControlState) → HasRoom (controls_of_form form) state
    → kept_in state ≡ kept_in (blank_state (controls_of_form form))
room_kept NoControls Absent room = refl
room_kept NoControls (Switches ps) room = absurd room
room_kept NoControls (Values vs) room = absurd room
room_kept NoControls (Motions ms) room = absurd room
room_kept NoControls (RollOver ps) room = absurd room
room_kept (Elements Switch least greatest us) Absent room = absurd room
room_kept (Elements Switch least greatest us) (Switches ps) room = refl
room_kept (Elements Switch least greatest us) (Values vs) room = absurd room
room_kept (Elements Switch least greatest us) (Motions ms) room = absurd room
room_kept (Elements Switch least greatest us) (RollOver ps) room = absurd room
room_kept (Elements Value least greatest us) Absent room = absurd room
room_kept (Elements Value least greatest us) (Switches ps) room = absurd room
room_kept (Elements Value least greatest us) (Values vs) room = refl
room_kept (Elements Value least greatest us) (Motions ms) room = absurd room
room_kept (Elements Value least greatest us) (RollOver ps) room = absurd room
room_kept (Elements NullValue least greatest us) Absent room = absurd room
room_kept (Elements NullValue least greatest us) (Switches ps) room = absurd room
room_kept (Elements NullValue least greatest us) (Values vs) room = refl
room_kept (Elements NullValue least greatest us) (Motions ms) room = absurd room
room_kept (Elements NullValue least greatest us) (RollOver ps) room = absurd room
room_kept (Elements Relative least greatest us) Absent room = absurd room
room_kept (Elements Relative least greatest us) (Switches ps) room = absurd room
room_kept (Elements Relative least greatest us) (Values vs) room = absurd room
room_kept (Elements Relative least greatest us) (Motions ms) room = refl
room_kept (Elements Relative least greatest us) (RollOver ps) room = absurd room
room_kept (Keys elements rolls keys) Absent room = absurd room
room_kept (Keys elements rolls keys) (Switches ps) room = refl
room_kept (Keys elements rolls keys) (Values vs) room = absurd room
room_kept (Keys elements rolls keys) (Motions ms) room = absurd room
room_kept (Keys elements rolls keys) (RollOver ps) room = refl

-- control states, one for each item, that keep what its controls need
pub record KeepKinds (items : List Item) (states : List ControlState) : Type 0 where
  pub each : length states ≡ length items
  pub kept : (i : ℕ) → kept_in (state_at states i) ≡ item_kept (item_at items i)

fits_kept : (items : List Item) (states : List ControlState) → FitsSnapshot items states → (i : ℕ)
    → kept_in (state_at states i) ≡ item_kept (item_at items i)
fits_kept items states fits i = by_place (slice_get items i) refl (slice_get states i) refl
  where
    by_place : (o : Option Item) → slice_get items i ≡ o → (p : Option ControlState) → slice_get states i ≡ p
        → kept_in (state_at states i) ≡ item_kept (item_at items i)
    by_place None h None k =
        ap (λ (q : Option ControlState). kept_in (unwrap_or q Absent)) k
        ∙ sym (ap (λ (q : Option Item). item_kept (unwrap_or q no_item)) h)
    by_place (Some item) h (Some state) k =
        ap (λ (q : Option ControlState). kept_in (unwrap_or q Absent)) k
        ∙ room_kept item.form state (fits.room i item state h k)
        ∙ sym (ap (λ (q : Option Item). item_kept (unwrap_or q no_item)) h)
    by_place None h (Some state) k =
        let one = got items i (omega (arith, slice_get_within states i state k, fits.one_each)) in
        absurd (let e = one.1 in cc)
    by_place (Some item) h None k =
        let one = got states i (omega (arith, slice_get_within items i item h, fits.one_each)) in
        absurd (let e = one.1 in cc)

pub start_kinds : (items : List Item) (states : List ControlState) → FitsSnapshot items states → KeepKinds items states
start_kinds items states fits = record { each = fits.one_each; kept = fits_kept items states fits }

pub blank_kinds : (items : List Item) → KeepKinds items (blank items)
blank_kinds items = record {
  each = length-map items (λ (item : Item). blank_state (controls_of_form item.form));
  kept = λ i. ap kept_in (blank_at items i);
}

pub blank_part_kinds : (items : List Item) → KeepKinds items (blank_parts items)
blank_part_kinds items = record {
  each = length-map items (λ (item : Item). shown_state (controls_of_form item.form) (blank_state (controls_of_form item.form)));
  kept = λ i. ap kept_in (blank_part_at items i) ∙ shown_kept (controls_of_form (item_at items i).form) (blank_state (controls_of_form (item_at items i).form));
}

kinds_by : (f : Item → ControlState → ControlState → ControlState) (items : List Item) (xs bs : List ControlState)
    → f no_item Absent Absent ≡ Absent
    → ((item : Item) (a b : ControlState) → kept_in a ≡ item_kept item → kept_in b ≡ item_kept item → kept_in (f item a b) ≡ item_kept item)
    → KeepKinds items xs → KeepKinds items bs → KeepKinds items (by_item f items xs bs)
kinds_by f items xs bs none keeps hx hb = record {
  each = by_item_length f items xs bs hx.each hb.each;
  kept = λ i. ap kept_in (at_by_item f items xs bs i none hx.each hb.each) ∙ keeps (item_at items i) (state_at xs i) (state_at bs i) (hx.kept i) (hb.kept i);
}

if_kept : (b : Bool) (x y : ControlState) (k : Kept) → kept_in x ≡ k → kept_in y ≡ k → kept_in (cond b x y) ≡ k
if_kept true x y k hx hy = hx
if_kept false x y k hx hy = hy

pub shown_kinds : (items : List Item) (r : ℕ) (snapshot fixed : List ControlState) → KeepKinds items snapshot → KeepKinds items fixed
    → KeepKinds items (shown_parts items r snapshot fixed)
shown_kinds items r snapshot fixed =
    kinds_by (shown_part_of r) items snapshot fixed refl
    (λ item a b ha hb. if_kept (is_of r item) (shown_state (controls_of_form item.form) a) b (item_kept item) (shown_kept (controls_of_form item.form) a ∙ ha) hb)

pub left_kinds : (items : List Item) (r : ℕ) (snapshot parts : List ControlState) → KeepKinds items snapshot → KeepKinds items parts
    → KeepKinds items (without_part_motion items r snapshot parts)
left_kinds items r snapshot parts =
    kinds_by (without_motion_of r) items snapshot parts refl
    (λ item a b ha hb. if_kept (is_of r item) (minus_motion a b) a (item_kept item) (minus_kept a b ∙ ha) ha)

pub seen_kinds : (items : List Item) (r : ℕ) (view parts : List ControlState) → KeepKinds items view → KeepKinds items parts
    → KeepKinds items (view_after_part items r view parts)
seen_kinds items r view parts =
    kinds_by (view_item_after r) items view parts refl
    (λ item a b ha hb. if_kept (is_of r item) (seen_state a b) a (item_kept item) (seen_kept a b (ha ∙ sym hb) ∙ ha) ha)

set_kinds : (items : List Item) (states : List ControlState) (t : ℕ) (new : ControlState) → kept_in new ≡ kept_in (state_at states t)
    → KeepKinds items states → KeepKinds items (slice_set states t new)
set_kinds items states t new same keeps = record {
  each = set_length states t new ∙ keeps.each;
  kept = λ i. set_kept states t i new same ∙ keeps.kept i;
}
  where
    set_kept : (states : List ControlState) (t i : ℕ) (new : ControlState) → kept_in new ≡ kept_in (state_at states t) → kept_in (state_at (slice_set states t new) i) ≡ kept_in (state_at states i)
    set_kept [] t i new same = refl
    set_kept (x ∷ states) zero zero new same = same
    set_kept (x ∷ states) zero (suc i) new same = refl
    set_kept (x ∷ states) (suc t) zero new same = refl
    set_kept (x ∷ states) (suc t) (suc i) new same = set_kept states t i new same

same_states : (x y : List ControlState)
    → (let a : OrFault (List ControlState) = Ok x in let b : OrFault (List ControlState) = Ok y in a ≡ b) → x ≡ y
same_states x y h = cc

pub change_kinds : (items : List Item) (states new : List ControlState) (change : Change) → snapshot_after items states change ≡ Ok new
    → KeepKinds items states → KeepKinds items new
change_kinds items states new change h keeps = by_control (control_of items (target change)) h
  where
    by_state : (control : Control) (o : OrFault ControlState)
        → changed_state control.kind (controls_of_form (form_at items (target change).item)) (state_at states (target change).item) change ≡ o
        → with_state states (target change).item o ≡ Ok new → KeepKinds items new
    by_state control (Err fault) e k = absurd (cc)
    by_state control (Ok state) e k =
        subst (KeepKinds items) (same_states (slice_set states (target change).item state) new k)
        (set_kinds items states (target change).item state
        (changed_kept control.kind (controls_of_form (form_at items (target change).item)) (state_at states (target change).item) state change e) keeps)

    by_control : (o : Option Control) → change_at items states change o ≡ Ok new → KeepKinds items new
    by_control None k = absurd (cc)
    by_control (Some control) k =
        by_state control (changed_state control.kind (controls_of_form (form_at items (target change).item)) (state_at states (target change).item) change) refl k
