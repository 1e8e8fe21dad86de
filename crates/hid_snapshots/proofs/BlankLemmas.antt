-- What is kept of the controls at first suits them.
use Rattle.std.proofs.Common.{◌≡◌, ℕ, zero, suc, ◌+◌, ◌<◌, ◌≤◌, inl, inr, Bool, true, false, cond, List, [], ◌∷◌, ◌++◌, length, map, take, replicate, Option, Some, None, ℤ, pos, negsuc, refl, ap, ◌∙◌, subst, take_all, arith}
use Rattle.std.proofs.lemmas.Bool.{cases_Bool}
use Rattle.std.specs.List.{slice_get}
use Rattle.std.specs.Int.Signed.{le_z}
use Rattle.std.proofs.lemmas.List.{length-replicate, length-map}
use Rattle.std.proofs.lemmas.Bool.Decides.{nat_tests}
use Rattle.std.proofs.lemmas.Option.{slice_get_within}
use Rattle.hid_layout.specs.declared.main_item.MainItem.{MainItem}
use Rattle.hid_report_descriptor.specs.declared.shape.Shape.{Shape}
use Rattle.hid_report_descriptor.specs.declared.shape.Shape.TheVariants.{Padding, Variable, Array}
use Rattle.hid_report_descriptor.specs.declared.usage.Usage.{Usage}
use Rattle.hid_layout.specs.declared.control.Controls.{Controls}
use Rattle.hid_layout.specs.declared.control.ControlKind.TheVariants.{Switch, Value, NullValue, Relative}
use Rattle.hid_report_descriptor.specs.Usages.{Entry, usage_list}
use Rattle.hid_report_descriptor.specs.Fields.{is_padding}
use Rattle.hid_layout.specs.Layout.{Contents}
use Rattle.hid_layout.specs.Reports.{IsLayout, HasElements, report_bytes}
use Rattle.hid_layout.specs.Controls.{Form, NoControls, Elements, Keys, Key, Item, items_of, item_of, form_of, form_at, controls_of_form, is_input, input_item, no_item}
use Rattle.hid_snapshots.specs.declared.control_state.ControlState.{ControlState}
use Rattle.hid_snapshots.specs.ControlStates.{is_in, switch_count, blank_state, blank, HasRoom, is_value, are_values, are_motions, are_pressable, InSnapshot, InView, FitControlStates, FitsSnapshot, FitsView}
use Rattle.hid_snapshots.proofs.ListLemmas.{cons_count, map_at, mapped_at}
use Rattle.hid_snapshots.proofs.CodeLemmas.{test_true}
use Rattle.hid_snapshots.proofs.ItemLemmas.{items_from-at, items_of-length, got, form_at-is}

-- What holds of the controls of every listed item: some value can be sent, and an array has an element.
abbrev pub IsSound : Form → Type 0
IsSound NoControls = Unit {0}
IsSound (Elements kind least greatest us) = le_z least greatest ≡ true
IsSound (Keys elements rolls keys) = 0 < elements

sound_form : (m : MainItem) (us : List Usage) (shape : Shape) → (is_padding shape ≡ false → HasElements m) → IsSound (form_of m us shape)
sound_form m us Padding has = tt
sound_form m us Variable has = test_true _ ((has refl).some_value.le)
sound_form m us Array has = (has refl).some

sound_item : (layout : Contents) (m : MainItem) (es : List Entry) → (is_padding m.shape ≡ false → HasElements m) → IsSound (item_of layout m es).form
sound_item layout m es has = by_input (is_input layout.reports m.report)
  where
    by_input : (b : Bool) → IsSound (let a : Item = input_item m.report (report_bytes layout m.report) (form_of m (usage_list es) m.shape) in let z : Item = no_item in cond b a z).form
    by_input true = sound_form m (usage_list es) m.shape has
    by_input false = tt

pub sound_items : (layout : Contents) → IsLayout layout → (i : ℕ) (item : Item) → slice_get (items_of layout) i ≡ Some item → IsSound item.form
sound_items layout laid i item h =
    let within : i < length layout.items = omega (arith, slice_get_within (items_of layout) i item h, items_of-length layout laid) in
    let m = got layout.items i within in
    let es = got layout.entries i (omega (arith, laid.entries_there)) in
    let is : slice_get (items_of layout) i ≡ Some (item_of layout m.0 es.0) = items_from-at layout layout.items layout.entries i m.0 es.0 m.1 es.1 in
    let same : item_of layout m.0 es.0 ≡ item = cc in
    let P : Item → Type 0 = λ it. IsSound it.form in
    subst P same (sound_item layout m.0 es.0 (laid.elements i m.0 m.1))

int_same : (v : ℤ) → le_z v v ≡ true
int_same (pos n) = grind (arith, nat_tests)
int_same (negsuc n) = grind (arith, nat_tests)

first_in : (least greatest : ℤ) → le_z least greatest ≡ true → is_in least greatest (cond (is_in least greatest (pos 0)) (pos 0) least) ≡ true
first_in least greatest some = elim (cases_Bool (is_in least greatest (pos 0))) [
  | inl e ↦ rw e e
  | inr e ↦ rw (e, int_same least, some) refl
]

same_values : (null : Bool) (least greatest : ℤ) (n : ℕ) (v : Option ℤ) → is_value null least greatest v → are_values null least greatest (replicate n v)
same_values null least greatest zero v h = tt
same_values null least greatest (suc n) v h = (h, same_values null least greatest n v h)

pub same_motions : (least greatest : ℤ) (n : ℕ) (m : ℤ) → is_in least greatest m ≡ true → are_motions least greatest (replicate n m)
same_motions least greatest zero m h = tt
same_motions least greatest (suc n) m h = (h, same_motions least greatest n m h)

pub none_pressed : (n : ℕ) → switch_count (replicate n false) ≡ 0
none_pressed zero = refl
none_pressed (suc n) = omega (arith, cons_count false (replicate n false), none_pressed n)

none_pressable : (keys : List Key) → are_pressable keys (replicate (length keys) false)
none_pressable [] = tt
none_pressable (key ∷ keys) = ((λ on. absurd (cc)), none_pressable keys)

pub blank_room : (form : Form) → HasRoom (controls_of_form form) (blank_state (controls_of_form form))
blank_room NoControls = tt
blank_room (Elements Switch least greatest us) = length-replicate (length us) false
blank_room (Elements Value least greatest us) = length-replicate (length us) _
blank_room (Elements NullValue least greatest us) = length-replicate (length us) _
blank_room (Elements Relative least greatest us) = length-replicate (length us) (pos 0)
blank_room (Keys elements rolls keys) = length-replicate (length keys) false

pub blank_in_snapshot : (form : Form) → IsSound form → InSnapshot form (blank_state (controls_of_form form))
blank_in_snapshot NoControls some = tt
blank_in_snapshot (Elements Switch least greatest us) some = tt
blank_in_snapshot (Elements Value least greatest us) some = same_values false least greatest (length us) _ (first_in least greatest some)
blank_in_snapshot (Elements NullValue least greatest us) some = same_values true least greatest (length us) None refl
blank_in_snapshot (Elements Relative least greatest us) some = same_motions (negsuc 0x7FFF_FFFF) (pos 0x7FFF_FFFF) (length us) (pos 0) refl
blank_in_snapshot (Keys elements rolls keys) some = (none_pressable keys, λ none. omega (arith, none_pressed (length keys)))

pub blank_in_view : (form : Form) → InView form (blank_state (controls_of_form form))
blank_in_view NoControls = tt
blank_in_view (Elements Switch least greatest us) = tt
blank_in_view (Elements Value least greatest us) = tt
blank_in_view (Elements NullValue least greatest us) = tt
blank_in_view (Elements Relative least greatest us) = tt
blank_in_view (Keys elements rolls keys) = omega (arith, none_pressed (length keys))

-- control states that are made of the items suit them, where each does
pub suits_all : (stands : Form → ControlState → Type 0) (f : Item → ControlState) (items : List Item)
    → ((i : ℕ) (item : Item) → slice_get items i ≡ Some item
    → HasRoom (controls_of_form item.form) (f item) × stands item.form (f item))
    → FitControlStates stands items (map f items)
suits_all stands f items each = record {
  one_each = length-map items f;
  room = λ i item state h g. subst (λ c. HasRoom (controls_of_form item.form) c) (made i item state h g)
      ((each i item h).0);
  suits = λ i item state h g. subst (λ c. stands item.form c) (made i item state h g) ((each i item h).1);
}
  where
    made : (i : ℕ) (item : Item) (state : ControlState) → slice_get items i ≡ Some item
        → slice_get (map f items) i ≡ Some state → f item ≡ state
    made i item state h g = let e = map_at f items i item h in cc

pub blank_fits : (layout : Contents) → IsLayout layout → FitsSnapshot (items_of layout) (blank (items_of layout))
blank_fits layout laid =
    suits_all InSnapshot (λ item. blank_state (controls_of_form item.form)) (items_of layout)
    (λ i item h. (blank_room item.form, blank_in_snapshot item.form (sound_items layout laid i item h)))

pub initial_fits : (layout : Contents) → IsLayout layout → FitsView (items_of layout) (blank (items_of layout))
initial_fits layout laid =
    suits_all InView (λ item. blank_state (controls_of_form item.form)) (items_of layout)
    (λ i item h. (blank_room item.form, blank_in_view item.form))

-- one item further
pub made_more : (f : Controls → ControlState) (items : List Item) (i : ℕ) (controls : Controls) (state : ControlState)
    (done : List ControlState) → i < length items → controls ≡ controls_of_form (form_at items i)
    → state ≡ f controls → done ≡ map (λ item. f (controls_of_form item.form)) (take i items)
    → done ++ state ∷ [] ≡ map (λ item. f (controls_of_form item.form)) (take (i + 1) items)
made_more f items i controls state done within heads is so_far =
    let item = got items i within in
    mapped_at (λ (it : Item). f (controls_of_form it.form)) items done i item.0 state item.1
    (is ∙ ap f (heads ∙ ap controls_of_form (form_at-is items i item.0 item.1))) so_far

pub made_all : (f : Controls → ControlState) (items : List Item) (i : ℕ) (done : List ControlState) → length items ≤ i
    → done ≡ map (λ item. f (controls_of_form item.form)) (take i items)
    → done ≡ map (λ item. f (controls_of_form item.form)) items
made_all f items i done all so_far =
    so_far ∙ ap (map (λ (item : Item). f (controls_of_form item.form))) (take_all i items all)
