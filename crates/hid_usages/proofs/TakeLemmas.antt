-- The items of a report that is read.
use Rattle.std.proofs.Common.{◌≡◌, ℕ, zero, suc, ◌+◌, ◌<◌, ◌≤◌, Bool, true, false, cond, List, [], ◌∷◌, ◌++◌, length, length-append, map, take, drop, get_or, Option, Some, None, ℤ, zero-add, refl, sym, ap, ◌∙◌, subst, arith, append-nil, ◌==◌, ◌&&◌, not, nat_lt, Result, Ok, Err}
use Rattle.std.specs.List.{slice_get, slice_set, list_any, position}
use Rattle.std.proofs.lemmas.List.{drop_all}
use Rattle.std.proofs.Math.Seq.{take-append_seam}
use Rattle.std.proofs.lemmas.Option.{slice_get_within, slice_get-get_or}
use Rattle.hid_layout.specs.declared.main_item.MainItem.{MainItem}
use Rattle.hid_report_descriptor.specs.declared.shape.Shape.{Shape}
use Rattle.hid_report_descriptor.specs.declared.shape.Shape.TheVariants.{Padding, Variable, Array}
use Rattle.hid_layout.specs.declared.control.ControlKind.{ControlKind}
use Rattle.hid_layout.specs.declared.control.Controls.TheVariants as head
use Rattle.hid_report_descriptor.specs.declared.usage.Usage.{Usage}
use Rattle.hid_report_descriptor.specs.Usages.{Entry, usage_list}
use Rattle.hid_report_descriptor.specs.Fields.{is_padding}
use Rattle.hid_layout.specs.Layout.{Contents}
use Rattle.hid_layout.specs.Reports.{IsLayout, first_bit, report_bytes}
use Rattle.hid_layout.specs.Controls.{Form, NoControls, Elements, Keys, Item, items_of, item_of, form_of, form_at, controls_of_form, array_keys, max_events, Key, has_place, rollover_from, element_kind, least_of, greatest_of, events_in, is_input_report}
use Rattle.hid_snapshots.specs.Events.{usages_of, usages_at, element_events, key_events, key_usages, change_events}
use Rattle.hid_usages.specs.Reading.{read_motion, names_rollover, named_keys_from, read_elements, read_named, read_keys, read_state, motion_elements, motion_state, is_data_in, item_numbers, first_byte, is_input_with, whole_report, report_named}
use Rattle.hid_usages.specs.Taking.{list_at, IsFormOf, state_after_report_at, events_of_report_at, view_from_item, events_from_item, read_view, read_events, state_after_numbers_at, events_of_numbers_at}
use Rattle.hid_snapshots.proofs.PlanLemmas.{Skips}
use Rattle.hid_snapshots.specs.declared.control_state.ControlState.{ControlState}
use Rattle.hid_snapshots.specs.declared.event.Event.{Event}
use Rattle.hid_snapshots.specs.Views.{form_motions, motions_of}
use Rattle.hid_usages.proofs.EventLemmas.{drop_at}
use Rattle.hid_snapshots.proofs.FillLemmas.{unfilled_at, fill_next, length_map_zip}
use Rattle.hid_layout.specs.declared.control.ControlKind.TheVariants.{Switch, Value, NullValue, Relative}
use Rattle.hid_snapshots.specs.declared.control_state.ControlState.TheVariants.{Absent, Switches, Values, Motions, RollOver}
use Rattle.hid_snapshots.specs.ControlStates.{switch_count, HasRoom, InView, FitControlStates}
use Rattle.hid_usages.proofs.NamedLemmas.{named_length}
use Rattle.hid_usages.proofs.KeyLemmas.{named_count}
use Rattle.hid_usages.proofs.ViewLemmas.{sum_cons, element_few, motions_few, change_few}
use Rattle.hid_snapshots.specs.Parts.{IsInput}
use Rattle.hid_fields.specs.Value.{is_negative}
use Rattle.hid_snapshots.proofs.NumberLemmas.{numbers_in-length}
use Rattle.hid_snapshots.proofs.EncodingLemmas.{data_if}
use Rattle.hid_report_descriptor.specs.declared.report.Report.{Report}
use Rattle.hid_report_descriptor.specs.declared.report.ReportKind.TheVariants.{Input}
use Rattle.hid_snapshots.specs.declared.fault.ReportFault.{ReportFault}
use Rattle.hid_snapshots.specs.declared.fault.ReportFault.TheVariants.{Short}
use Rattle.std.proofs.lemmas.List.Quantifiers.{position-Some}
use Rattle.hid_snapshots.proofs.CodeLemmas.{both_true}
use Rattle.hid_snapshots.specs.Encoding.{IsData}
use Rattle.hid_snapshots.proofs.ItemLemmas.{items_of-length, set_same, got, items_from-at, form_at-is}
use Rattle.hid_snapshots.proofs.ReportLemmas.{form_in_input}
use Rattle.hid_snapshots.proofs.SendLemmas.{spread_usages-length}

pub list_at-is : (layout : Contents) (i : ℕ) (es : List Entry) → slice_get layout.entries i ≡ Some es → list_at layout i ≡ usage_list es
list_at-is layout i es h = ap (λ (o : Option (List Entry)). elim o as (λ _. List Usage) [ None ↦ [] | Some fs ↦ usage_list fs ]) h

form_usages : (m : MainItem) (us : List Usage) (shape : Shape) (kind : ControlKind) (least greatest : ℤ) (n : ℕ)
    → 0 < length us → head.Elements kind least greatest n ≡ controls_of_form (form_of m us shape)
    → length (usages_of (form_of m us shape)) ≡ m.count
form_usages m us Padding kind least greatest n some h = absurd (cc)
form_usages m us Variable kind least greatest n some h = spread_usages-length m.count us some
form_usages m us Array kind least greatest n some h = absurd (cc)

-- a variable item has a usage for each element
pub usages_count : (layout : Contents) (i : ℕ) (m : MainItem) (kind : ControlKind) (least greatest : ℤ) (n : ℕ) → IsLayout layout → slice_get layout.items i ≡ Some m → is_padding m.shape ≡ false → IsFormOf layout i m
    → head.Elements kind least greatest n ≡ controls_of_form (form_at (items_of layout) i)
    → length (usages_at layout i) ≡ m.count
usages_count layout i m kind least greatest n laid listed data_ form heads =
    let es = got layout.entries i (omega (arith, laid.entries_there, slice_get_within layout.items i m listed)) in
    let us = list_at-is layout i es.0 es.1 in
    let some : 0 < length (list_at layout i) = omega (arith, laid.some_usage i m es.0 listed es.1 data_, ap length us) in
    ap (λ (f : Form). length (usages_of f)) form
    ∙ form_usages m (list_at layout i) m.shape kind least greatest n some (heads ∙ ap controls_of_form form)

-- the controls of a variable item
pub variable_controls : (layout : Contents) (i : ℕ) (m : MainItem) → IsLayout layout → slice_get layout.items i ≡ Some m → IsFormOf layout i m → m.shape ≡ Variable
    → head.Elements (element_kind m) (least_of m) (greatest_of m) m.count
    ≡ controls_of_form (form_at (items_of layout) i)
variable_controls layout i m laid listed form shape =
    let es = got layout.entries i (omega (arith, laid.entries_there, slice_get_within layout.items i m listed)) in
    let us = list_at-is layout i es.0 es.1 in
    let data_ : is_padding m.shape ≡ false = ap is_padding shape in
    let some : 0 < length (list_at layout i) = omega (arith, laid.some_usage i m es.0 listed es.1 data_, ap length us) in
    let is : form_at (items_of layout) i ≡ form_of m (list_at layout i) Variable = form ∙ ap (form_of m (list_at layout i)) shape in
    sym (ap controls_of_form is
    ∙ ap (λ (n : ℕ). head.Elements (element_kind m) (least_of m) (greatest_of m) n)
    (spread_usages-length m.count (list_at layout i) some))

-- an item of an Input report has the controls of its form
pub form_of_item : (layout : Contents) (r i : ℕ) (m : MainItem) → IsLayout layout → IsInput layout r → IsData layout r i m → IsFormOf layout i m
form_of_item layout r i m laid input d =
    let es = got layout.entries i (omega (arith, laid.entries_there, slice_get_within layout.items i m d.listed)) in
    let item = items_from-at layout layout.items layout.entries i m es.0 d.listed es.1 in
    form_at-is (items_of layout) i (item_of layout m es.0) item ∙ form_in_input layout r m es.0 input d.in_report
    ∙ ap (λ (us : List Usage). form_of m us m.shape) (sym (list_at-is layout i es.0 es.1))

pub view_from_item-at : (layout : Contents) (r : ℕ) (bytes : List ℕ) (i : ℕ) (states : List ControlState) (k : ℕ)
    (state : ControlState) → slice_get states k ≡ Some state
    → slice_get (view_from_item layout r bytes i states) k ≡ Some (state_after_report_at layout r bytes (i + k) state)
view_from_item-at layout r bytes i [] k state h = absurd (cc)
view_from_item-at layout r bytes i (c ∷ states) zero state h =
    let e : c ≡ state = cc in
    let z : i + 0 ≡ i = omega arith in
    rw (e, z) refl
view_from_item-at layout r bytes i (c ∷ states) (suc k) state h =
    view_from_item-at layout r bytes (i + 1) states k state h
    ∙ ap (λ (n : ℕ). Some (state_after_report_at layout r bytes n state))
    (let n : (i + 1) + k ≡ i + suc k = omega arith in n)

pub view_from_item-length : (layout : Contents) (r : ℕ) (bytes : List ℕ) (i : ℕ) (states : List ControlState)
    → length (view_from_item layout r bytes i states) ≡ length states
view_from_item-length layout r bytes i [] = refl
view_from_item-length layout r bytes i (c ∷ states) = ap suc (view_from_item-length layout r bytes (i + 1) states)

pub read_view-at : (layout : Contents) (r : ℕ) (bytes : List ℕ) (states : List ControlState) (k : ℕ)
    (state : ControlState) → slice_get states k ≡ Some state
    → slice_get (read_view layout r bytes states) k ≡ Some (state_after_report_at layout r bytes k state)
read_view-at layout r bytes states k state h =
    view_from_item-at layout r bytes 0 states k state h
    ∙ ap (λ (n : ℕ). Some (state_after_report_at layout r bytes n state)) (zero-add k)

-- one control state more is read
pub events_from_item-next : (layout : Contents) (r : ℕ) (bytes : List ℕ) (states : List ControlState) (i : ℕ)
    (state : ControlState) → slice_get states i ≡ Some state
    → events_from_item layout r bytes i (drop i states) ≡ events_of_report_at layout r bytes i state
    ++ events_from_item layout r bytes (i + 1) (drop (i + 1) states)
events_from_item-next layout r bytes states i state h = rw (drop_at states i state h) refl

-- the control state that isn't read yet
pub read_start : (layout : Contents) (r : ℕ) (bytes : List ℕ) (start now : List ControlState) (i : ℕ)
    (d : ControlState) → now ≡ take i (read_view layout r bytes start) ++ drop i start → i < length start
    → length now ≡ length start → slice_get start i ≡ Some (get_or now i d)
read_start layout r bytes start now i d so_far within ln =
    unfilled_at (read_view layout r bytes start) start i (get_or now i d)
    (view_from_item-length layout r bytes 0 start)
    (ap (λ xs. slice_get xs i) (sym so_far) ∙ slice_get-get_or now i d (omega arith))

pub read_next : (layout : Contents) (r : ℕ) (bytes : List ℕ) (start now : List ControlState) (i : ℕ)
    (d new : ControlState) → now ≡ take i (read_view layout r bytes start) ++ drop i start → i < length start
    → length now ≡ length start
    → new ≡ state_after_report_at layout r bytes i (get_or now i d)
    → slice_set now i new ≡ take (i + 1) (read_view layout r bytes start) ++ drop (i + 1) start
read_next layout r bytes start now i d new so_far within ln is =
    let there = read_start layout r bytes start now i d so_far within ln in
    ap (λ xs. slice_set xs i new) so_far ∙ fill_next (read_view layout r bytes start) start i new (read_view-at layout r bytes start i (get_or now i d) there ∙ ap Some (sym is)) within

pub found_input : (id : ℕ) (layout : Contents) (r : ℕ) → position (is_input_with id) layout.reports ≡ Some r → IsInput layout r
found_input id layout r h =
    let found = position-Some (is_input_with id) layout.reports r (record { kind = Input; id = 0; bits = 0 }) h in
    let there = slice_get-get_or layout.reports r (record { kind = Input; id = 0; bits = 0 }) found.0 in
    ap (λ (o : Option Report). is_input_report o) there ∙ (both_true _ _ found.1).0

-- bytes that name a report name an Input report
pub named_input : (layout : Contents) (bytes : List ℕ) (r : ℕ) → report_named layout bytes ≡ Ok r → IsInput layout r
named_input layout bytes r h = by_numbered layout.numbered h
  where
    of_size : (n : ℕ) (b : Bool) → (let a : Result ℕ ReportFault = Err Short in cond b a (Ok n)) ≡ Ok r → n ≡ r
    of_size n true e = absurd (cc)
    of_size n false e = cc

    of_found : (id : ℕ) (o : Option ℕ) → position (is_input_with id) layout.reports ≡ o → whole_report layout bytes o ≡ Ok r → IsInput layout r
    of_found id None e k = absurd (cc)
    of_found id (Some n) e k = subst (IsInput layout) (of_size n (nat_lt (length bytes) (report_bytes layout n)) k) (found_input id layout n e)

    of_byte : (o : Option ℕ) → elim o as (λ _. Result ℕ ReportFault) [ None ↦ Err Short | Some id ↦ whole_report layout bytes (position (is_input_with id) layout.reports) ] ≡ Ok r → IsInput layout r
    of_byte None k = absurd (cc)
    of_byte (Some id) k = of_found id (position (is_input_with id) layout.reports) refl k

    by_numbered : (b : Bool) → cond b (elim (first_byte bytes) as (λ _. Result ℕ ReportFault) [ None ↦ Err Short | Some id ↦ whole_report layout bytes (position (is_input_with id) layout.reports) ]) (whole_report layout bytes (position (is_input_with 0) layout.reports)) ≡ Ok r → IsInput layout r
    by_numbered true k = of_byte (first_byte bytes) k
    by_numbered false k = of_found 0 (position (is_input_with 0) layout.reports) refl k

read_elements_room : (kind : ControlKind) (least greatest : ℤ) (n : ℕ) (state : ControlState) (vs : List ℤ)
    → length vs ≡ n → HasRoom (head.Elements kind least greatest n) state
    → HasRoom (head.Elements kind least greatest n) (read_elements kind least greatest state vs)
read_elements_room kind least greatest n Absent vs h room = room
read_elements_room kind least greatest n (Motions ms) vs h room = room
read_elements_room kind least greatest n (RollOver ps) vs h room = room
read_elements_room Switch least greatest n (Switches bs) vs h room = length_map_zip _ bs vs (h ∙ sym room) ∙ room
read_elements_room Value least greatest n (Switches bs) vs h room = absurd room
read_elements_room NullValue least greatest n (Switches bs) vs h room = absurd room
read_elements_room Relative least greatest n (Switches bs) vs h room = absurd room
read_elements_room Switch least greatest n (Values bs) vs h room = absurd room
read_elements_room Value least greatest n (Values bs) vs h room = length_map_zip _ bs vs (h ∙ sym room) ∙ room
read_elements_room NullValue least greatest n (Values bs) vs h room = length_map_zip _ bs vs (h ∙ sym room) ∙ room
read_elements_room Relative least greatest n (Values bs) vs h room = absurd room

read_keys_fits : (m : MainItem) (us : List Usage) (elements : ℕ) (rolls : Bool) (keys : List Key)
    (state : ControlState) (vs : List ℤ) → length vs ≡ elements
    → HasRoom (controls_of_form (Keys elements rolls keys)) state
    → InView (Keys elements rolls keys) state
    → HasRoom (controls_of_form (Keys elements rolls keys)) (read_keys m us keys state vs)
    × InView (Keys elements rolls keys) (read_keys m us keys state vs)
read_keys_fits m us elements rolls keys state vs h room ok = by_rolls (list_any (names_rollover m us) vs)
  where
    named : (state : ControlState) → HasRoom (controls_of_form (Keys elements rolls keys)) state
        → InView (Keys elements rolls keys) state
        → HasRoom (controls_of_form (Keys elements rolls keys)) (read_named m keys state vs)
        × InView (Keys elements rolls keys) (read_named m keys state vs)
    named (Switches bs) room ok = (
      named_length m vs 0 keys,
      (let few = named_count m keys vs in let in_all : switch_count (named_keys_from m vs 0 keys) ≤ elements =
          omega arith in in_all),
    )
    named Absent room ok = absurd room
    named (Values bs) room ok = absurd room
    named (Motions bs) room ok = absurd room
    named (RollOver bs) room ok = absurd ok

    by_rolls : (b : Bool)
        → HasRoom (controls_of_form (Keys elements rolls keys)) (cond b state (read_named m keys state vs))
        × InView (Keys elements rolls keys) (cond b state (read_named m keys state vs))
    by_rolls true = (room, ok)
    by_rolls false = named state room ok

-- what is read of an item suits it
pub read_state_fits : (m : MainItem) (us : List Usage) (shape : Shape) (state : ControlState) (vs : List ℤ)
    → (is_padding shape ≡ false) → 0 < length us → length vs ≡ m.count
    → HasRoom (controls_of_form (form_of m us shape)) state
    → InView (form_of m us shape) state
    → HasRoom (controls_of_form (form_of m us shape)) (read_state m us (form_of m us shape) state vs)
    × InView (form_of m us shape) (read_state m us (form_of m us shape) state vs)
read_state_fits m us Padding state vs data_ some h room ok = absurd (cc)
read_state_fits m us Variable state vs data_ some h room ok = (
  read_elements_room (element_kind m) (least_of m) (greatest_of m) _ state vs
      (h ∙ sym (spread_usages-length m.count us some)) room,
  tt,
)
read_state_fits m us Array state vs data_ some h room ok = read_keys_fits m us m.count (has_place (rollover_from m 0 us)) (array_keys m us) state vs h room ok

-- the events of what is read of an item are few
elements_few : (i : ℕ) (us : List Usage) (kind : ControlKind) (least greatest : ℤ) (b a : ControlState) (vs : List ℤ)
    → HasRoom (head.Elements kind least greatest (length us)) b
    → length (element_events i us b a) + length (motions_of i us (motion_elements kind least greatest vs)) ≤ length us
elements_few i us Switch least greatest b a vs room = omega (arith, element_few i us b a)
elements_few i us Value least greatest b a vs room = omega (arith, element_few i us b a)
elements_few i us NullValue least greatest b a vs room = omega (arith, element_few i us b a)
elements_few i us Relative least greatest (Motions ms) a vs room =
    omega (arith, motions_few i us (map (read_motion least greatest) vs))
elements_few i us Relative least greatest Absent a vs room = absurd room
elements_few i us Relative least greatest (Switches bs) a vs room = absurd room
elements_few i us Relative least greatest (Values bs) a vs room = absurd room
elements_few i us Relative least greatest (RollOver bs) a vs room = absurd room

pub told_few : (i : ℕ) (form : Form) (b a : ControlState) (vs : List ℤ) → HasRoom (controls_of_form form) b
    → InView form b
    → InView form a → length (change_events i form b a ++ form_motions i form (motion_state form vs)) ≤ events_in form
told_few i NoControls b a vs room ok ok' = omega arith
told_few i (Elements kind least greatest us) b a vs room ok ok' =
    omega (arith, elements_few i us kind least greatest b a vs room, length-append (element_events i us b a) (motions_of i us (motion_elements kind least greatest vs)))
told_few i (Keys elements rolls keys) b a vs room ok ok' =
    omega (arith, change_few i (Keys elements rolls keys) b a ok ok', ap length (append-nil (key_events i (key_usages keys) b a)))

-- one item of a report that is read
pub record ReadsWell (layout : Contents) (r : ℕ) (bytes : List ℕ) (i : ℕ) (state : ControlState) : Type 0 where
  pub room : HasRoom (controls_of_form (form_at (items_of layout) i)) (state_after_report_at layout r bytes i state)
  pub stands : InView (form_at (items_of layout) i) (state_after_report_at layout r bytes i state)
  pub few : length (events_of_report_at layout r bytes i state) ≤ events_in (form_at (items_of layout) i)

pub reads_well : (layout : Contents) (r : ℕ) (bytes : List ℕ) (i : ℕ) (state : ControlState) → IsLayout layout
    → IsInput layout r → i < length layout.items
    → HasRoom (controls_of_form (form_at (items_of layout) i)) state → InView (form_at (items_of layout) i) state
    → ReadsWell layout r bytes i state
reads_well layout r bytes i state laid input within room ok = by_data (is_data_in r m) refl
  where
    m : MainItem
    m = (got layout.items i within).0

    listed : slice_get layout.items i ≡ Some m
    listed = (got layout.items i within).1

    vs : List ℤ
    vs = item_numbers layout bytes m

    read_is : state_after_report_at layout r bytes i state
        ≡ cond (is_data_in r m) (state_after_numbers_at layout i m state vs) state
    read_is =
        ap (λ (o : Option MainItem). elim o as
        (λ _. ControlState) [
          | None ↦ state
          | Some x ↦
              cond (is_data_in r x) (state_after_numbers_at layout i x state (item_numbers layout bytes x)) state
        ]) listed

    told_is : events_of_report_at layout r bytes i state
        ≡ cond (is_data_in r m)
        (events_of_numbers_at layout i m state (state_after_numbers_at layout i m state vs) vs) []
    told_is =
        ap (λ (o : Option MainItem). elim o as
        (λ _. List Event) [
          | None ↦ []
          | Some x ↦
              cond (is_data_in r x)
              (events_of_numbers_at layout i x state
              (state_after_numbers_at layout i x state (item_numbers layout bytes x))
              (item_numbers layout bytes x)) []
        ]) listed

    read_fits : IsData layout r i m
        → HasRoom (controls_of_form (form_at (items_of layout) i)) (state_after_numbers_at layout i m state vs)
        × InView (form_at (items_of layout) i) (state_after_numbers_at layout i m state vs)
    read_fits d =
        let form = form_of_item layout r i m laid input d in
        let es = got layout.entries i (omega (arith, laid.entries_there)) in
        let us = list_at-is layout i es.0 es.1 in
        let some : 0 < length (list_at layout i) = omega (arith, laid.some_usage i m es.0 listed es.1 d.no_padding, ap length us) in
        let P : Form → Type 0 =
        λ f. HasRoom (controls_of_form f) state → InView f state
        → HasRoom (controls_of_form f) (read_state m (list_at layout i) f state vs)
        × InView f (read_state m (list_at layout i) f state vs) in
        subst P (sym form) (λ a b. read_state_fits m (list_at layout i) m.shape state vs d.no_padding some (numbers_in-length bytes (first_bit layout + m.offset) m.size (is_negative m.min) m.count) a b) room ok

    by_data : (b : Bool) → is_data_in r m ≡ b → ReadsWell layout r bytes i state
    by_data false e =
        let same : state_after_report_at layout r bytes i state ≡ state =
        read_is ∙ ap (λ (b : Bool). cond b (state_after_numbers_at layout i m state vs) state) e in
        let none : events_of_report_at layout r bytes i state ≡ [] =
        told_is ∙ ap
        (λ (b : Bool). cond b
        (events_of_numbers_at layout i m state (state_after_numbers_at layout i m state vs) vs) []) e in
        record {
          room = subst (λ (c : ControlState). HasRoom (controls_of_form (form_at (items_of layout) i)) c)
              (sym same) room;
          stands = subst (λ (c : ControlState). InView (form_at (items_of layout) i) c) (sym same) ok;
          few = omega (arith, ap (λ (l : List Event). length l) none);
        }
    by_data true e =
        let same : state_after_report_at layout r bytes i state ≡ state_after_numbers_at layout i m state vs =
        read_is ∙ ap (λ (b : Bool). cond b (state_after_numbers_at layout i m state vs) state) e in
        let told : events_of_report_at layout r bytes i state
        ≡ events_of_numbers_at layout i m state (state_after_numbers_at layout i m state vs) vs =
        told_is ∙ ap
        (λ (b : Bool). cond b
        (events_of_numbers_at layout i m state (state_after_numbers_at layout i m state vs) vs) []) e in
        let fits = read_fits (data_if layout r i m listed e) in
        record {
          room = subst (λ (c : ControlState). HasRoom (controls_of_form (form_at (items_of layout) i)) c)
              (sym same) fits.0;
          stands = subst (λ (c : ControlState). InView (form_at (items_of layout) i) c) (sym same) fits.1;
          few = omega (
            arith,
            ap (λ (l : List Event). length l) told,
            told_few i (form_at (items_of layout) i) state
                (state_after_numbers_at layout i m state vs) vs room ok fits.1,
          );
        }

well_at : (layout : Contents) (r : ℕ) (bytes : List ℕ) (view : List ControlState) → IsLayout layout → IsInput layout r
    → FitControlStates InView (items_of layout) view → (i : ℕ) (item : Item) (state : ControlState)
    → slice_get (items_of layout) i ≡ Some item → slice_get view i ≡ Some state
    → (form_at (items_of layout) i ≡ item.form) × ReadsWell layout r bytes i state
well_at layout r bytes view laid input fits i item state h g =
    let form = form_at-is (items_of layout) i item h in
    let within : i < length layout.items = omega (arith, slice_get_within (items_of layout) i item h, items_of-length layout laid) in (
      form,
      reads_well layout r bytes i state laid input within
          (subst (λ (f : Form). HasRoom (controls_of_form f) state) (sym form) (fits.room i item state h g))
          (subst (λ (f : Form). InView f state) (sym form) (fits.suits i item state h g)),
    )

-- The view that is read suits the items.
pub read_view_fits : (layout : Contents) (r : ℕ) (bytes : List ℕ) (view : List ControlState) → IsLayout layout
    → IsInput layout r → FitControlStates InView (items_of layout) view
    → FitControlStates InView (items_of layout) (read_view layout r bytes view)
read_view_fits layout r bytes view laid input fits = record {
  one_each = view_from_item-length layout r bytes 0 view ∙ fits.one_each;
  room = λ i item state h g.
      let old = got view i (omega (arith, slice_get_within (items_of layout) i item h, fits.one_each)) in
      let well = well_at layout r bytes view laid input fits i item old.0 h old.1 in
      subst (λ (c : ControlState). HasRoom (controls_of_form item.form) c) (same i old.0 state old.1 g)
      (subst (λ (f : Form). HasRoom (controls_of_form f)
      (state_after_report_at layout r bytes i old.0)) well.0 well.1.room);
  suits = λ i item state h g.
      let old = got view i (omega (arith, slice_get_within (items_of layout) i item h, fits.one_each)) in
      let well = well_at layout r bytes view laid input fits i item old.0 h old.1 in
      subst (λ (c : ControlState). InView item.form c) (same i old.0 state old.1 g)
      (subst (λ (f : Form). InView f (state_after_report_at layout r bytes i old.0)) well.0 well.1.stands);
}
  where
    same : (i : ℕ) (old state : ControlState) → slice_get view i ≡ Some old
        → slice_get (read_view layout r bytes view) i ≡ Some state
        → state_after_report_at layout r bytes i old ≡ state
    same i old state h g = let e = read_view-at layout r bytes view i old h in cc

few_from : (layout : Contents) (r : ℕ) (bytes : List ℕ) (i : ℕ) (items : List Item) (states : List ControlState)
    → length states ≡ length items
    → ((k : ℕ) (item : Item) (state : ControlState) → slice_get items k ≡ Some item → slice_get states k ≡ Some state
    → length (events_of_report_at layout r bytes (i + k) state) ≤ events_in item.form)
    → length (events_from_item layout r bytes i states) ≤ max_events items
few_from layout r bytes i [] [] h few = omega arith
few_from layout r bytes i [] (c ∷ states) h few = absurd (omega arith)
few_from layout r bytes i (item ∷ items) [] h few = absurd (omega arith)
few_from layout r bytes i (item ∷ items) (c ∷ states) h few =
    let zero_ : i + 0 ≡ i = omega arith in
    let here = few 0 item c refl refl in
    let rest =
    few_from layout r bytes (i + 1) items states (omega arith)
    (λ k it state g f. let n : (i + 1) + k ≡ i + suc k =
    omega arith in
    omega (
      arith,
      few (suc k) it state g f,
      ap (λ (j : ℕ). length (events_of_report_at layout r bytes j state)) n,
    )) in
    omega (
      arith,
      here,
      rest,
      ap (λ (j : ℕ). length (events_of_report_at layout r bytes j c)) zero_,
      sum_cons item items,
      length-append (events_of_report_at layout r bytes i c) (events_from_item layout r bytes (i + 1) states),
    )

-- Reading a report tells no more than the greatest number of events.
pub read_events_few : (layout : Contents) (r : ℕ) (bytes : List ℕ) (view : List ControlState) → IsLayout layout
    → IsInput layout r → FitControlStates InView (items_of layout) view
    → length (read_events layout r bytes view) ≤ max_events (items_of layout)
read_events_few layout r bytes view laid input fits =
    few_from layout r bytes 0 (items_of layout) view fits.one_each
    (λ k item state h g.
    let well = well_at layout r bytes view laid input fits k item state h g in
    let zero_ : 0 + k ≡ k = omega arith in
    omega (
      arith,
      well.1.few,
      ap (λ (f : Form). events_in f) well.0,
      ap (λ (j : ℕ). length (events_of_report_at layout r bytes j state)) zero_,
    ))

-- Reading along the plan: the items before a place are read, and the rest is as it was.
pub record HasTaken (layout : Contents) (r : ℕ) (bytes : List ℕ) (start now : List ControlState)
    (before told : List Event) (len room i : ℕ) : Type 0 where
  pub states : now ≡ take i (read_view layout r bytes start) ++ drop i start
  pub events : told ++ events_from_item layout r bytes i (drop i start) ≡ before ++ read_events layout r bytes start
  pub fits : len + length (events_from_item layout r bytes i (drop i start)) ≤ room

-- an item of another report stays, and tells nothing
other_stays : (layout : Contents) (r : ℕ) (bytes : List ℕ) (i : ℕ) (item : MainItem) (state : ControlState)
    → slice_get layout.items i ≡ Some item → (item.report == r) ≡ false
    → state_after_report_at layout r bytes i state ≡ state
other_stays layout r bytes i item state listed other =
    ap (λ (o : Option MainItem). elim o as
    (λ _. ControlState) [
      | None ↦ state
      | Some m ↦
          cond (is_data_in r m) (state_after_numbers_at layout i m state (item_numbers layout bytes m)) state
    ]) listed
    ∙ ap (λ (b : Bool). cond (b && not (is_padding item.shape))
    (state_after_numbers_at layout i item state (item_numbers layout bytes item)) state) other

other_silent : (layout : Contents) (r : ℕ) (bytes : List ℕ) (i : ℕ) (item : MainItem) (state : ControlState)
    → slice_get layout.items i ≡ Some item → (item.report == r) ≡ false
    → events_of_report_at layout r bytes i state ≡ []
other_silent layout r bytes i item state listed other =
    ap (λ (o : Option MainItem). elim o as (λ _. List Event) [
      | None ↦ []
      | Some m ↦
          cond (is_data_in r m)
          (events_of_numbers_at layout i m state
          (state_after_numbers_at layout i m state (item_numbers layout bytes m))
          (item_numbers layout bytes m)) []
    ]) listed
    ∙ ap (λ (b : Bool). cond (b && not (is_padding item.shape))
    (events_of_numbers_at layout i item state
    (state_after_numbers_at layout i item state (item_numbers layout bytes item))
    (item_numbers layout bytes item)) []) other

pub taking_skips : (layout : Contents) (r : ℕ) (bytes : List ℕ) (start now : List ControlState)
    (before told : List Event) (len room : ℕ) → length start ≡ length layout.items → length now ≡ length start
    → Skips layout r (HasTaken layout r bytes start now before told len room)
taking_skips layout r bytes start now before told len room ls ln i item listed other h =
    let within : i < length start = omega (arith, ls, slice_get_within layout.items i item listed) in
    let state = got now i (omega arith) in
    let is : state.0 ≡ get_or now i state.0 = let e : Some state.0 ≡ Some (get_or now i state.0) = sym state.1 ∙ slice_get-get_or now i state.0 (omega arith) in cc in
    let there = read_start layout r bytes start now i state.0 h.states within ln in
    let stays : state_after_report_at layout r bytes i (get_or now i state.0) ≡ get_or now i state.0 =
    other_stays layout r bytes i item (get_or now i state.0) listed other in
    let silent : events_of_report_at layout r bytes i (get_or now i state.0) ≡ [] =
    other_silent layout r bytes i item (get_or now i state.0) listed other in
    let left : events_from_item layout r bytes i (drop i start)
    ≡ events_from_item layout r bytes (i + 1) (drop (i + 1) start) =
    events_from_item-next layout r bytes start i (get_or now i state.0) there
    ∙ ap (λ (es : List Event). es ++ events_from_item layout r bytes (i + 1) (drop (i + 1) start)) silent
    in
    record {
      states = sym (set_same now i state.0 state.1) ∙ read_next layout r bytes start now i state.0 state.0 h.states within ln (is ∙ sym stays);
      events = rw (← left) h.events;
      fits = rw (← left) h.fits;
    }

-- nothing is left to be told
pub all_told : (layout : Contents) (r : ℕ) (bytes : List ℕ) (start : List ControlState) (n : ℕ)
    (told all : List Event) → length start ≤ n → told ++ events_from_item layout r bytes n (drop n start) ≡ all
    → told ≡ all
all_told layout r bytes start n told all within h =
    sym (append-nil told)
    ∙ ap (λ (states : List ControlState). told ++ events_from_item layout r bytes n states)
    (sym (drop_all n start within)) ∙ h

-- the control states after a report, which were lent as a slice, are the view that it leaves
pub view_after : (layout : Contents) (r : ℕ) (bytes : List ℕ) (view old new items : List ControlState) (n : ℕ)
    → n ≡ length new → old ≡ view → new ≡ read_view layout r bytes old
    → take n (new ++ drop (length new) items) ≡ read_view layout r bytes view
view_after layout r bytes view old new items n many same is =
    ap (λ (k : ℕ). take k (new ++ drop (length new) items)) many ∙ take-append_seam new (drop (length new) items) ∙ is ∙ ap (read_view layout r bytes) same
