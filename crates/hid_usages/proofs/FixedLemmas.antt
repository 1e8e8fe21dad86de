-- Reading again what was read: the same bits of an absolute item leave its control state, and give no event.
use Rattle.std.proofs.Common.{◌≡◌, ◌≢◌, ℕ, ◌+◌, Bool, true, false, cond, List, [], ◌∷◌, map, not, ◌==◌, ◌&&◌, Option, Some, None, ℤ, pos, refl, sym, ap, ◌∙◌, arith}
use Rattle.std.specs.List.{slice_get, list_any, zip}
use Rattle.std.proofs.lemmas.Bool.Decides.{nat_tests}
use Rattle.std.specs.Ordering.{int_eq}
use Rattle.hid_report_descriptor.specs.Fields.{is_padding}
use Rattle.hid_report_descriptor.specs.declared.usage.Usage.{Usage}
use Rattle.hid_layout.specs.declared.main_item.MainItem.{MainItem}
use Rattle.hid_layout.specs.declared.control.ControlKind.TheVariants.{Switch, Value, NullValue, Relative}
use Rattle.hid_layout.specs.Layout.{Contents}
use Rattle.hid_layout.specs.Controls.{Form, NoControls, Elements, Keys, items_of, form_at}
use Rattle.hid_snapshots.specs.declared.control_state.ControlState.{ControlState}
use Rattle.hid_snapshots.specs.declared.control_state.ControlState.TheVariants.{Absent, Switches, Values, Motions, RollOver}
use Rattle.hid_snapshots.specs.declared.event.Event.{Event}
use Rattle.hid_snapshots.specs.ControlStates.{is_in, has_null}
use Rattle.hid_snapshots.specs.Events.{control_at, element_list_events, switch_event, value_event, change_events, key_usages}
use Rattle.hid_snapshots.specs.Views.{form_motions}
use Rattle.hid_usages.specs.Reading.{read_switch, read_value, read_state, read_named, names_rollover, is_data_in, item_numbers, motion_state}
use Rattle.hid_usages.specs.Taking.{list_at, state_after_report_at, events_of_report_at, state_after_numbers_at, events_of_numbers_at, view_from_item, read_view}
use Rattle.hid_layout.specs.Reports.{report_bytes}
use Rattle.hid_usages.specs.declared.changed_bits.BitSpan.{BitSpan}
use Rattle.hid_usages.specs.declared.take.ListedItem.{ListedItem}
use Rattle.hid_usages.specs.Known.{KnowsPlace}
use Rattle.hid_usages.specs.Ranges.{KnowsListed}
use Rattle.hid_snapshots.proofs.CodeLemmas.{both_true}
use Rattle.hid_usages.proofs.BitLemmas.{same_number}
use Rattle.hid_usages.proofs.ElementLemmas.{switch_stays, value_stays}
use Rattle.hid_usages.proofs.ViewLemmas.{same_keys}

-- elements that their numbers left are left by them again
read_again : {A : Type 0} (read : A × ℤ → A) → ((x : A) (v : ℤ) → read (read (x, v), v) ≡ read (x, v)) → (xs : List A) (vs : List ℤ) → map read (zip (map read (zip xs vs)) vs) ≡ map read (zip xs vs)
read_again read same [] vs = refl
read_again read same (x ∷ xs) [] = refl
read_again read same (x ∷ xs) (v ∷ vs) = rw (same x v, read_again read same xs vs) refl

switch_again : (b : Bool) (v : ℤ) → read_switch (read_switch b v) v ≡ read_switch b v
switch_again b v = by_tests (int_eq v (pos 0)) (int_eq v (pos 1))
  where
    by_tests : (z o : Bool) → cond z false (cond o true (cond z false (cond o true b))) ≡ cond z false (cond o true b)
    by_tests true o = refl
    by_tests false true = refl
    by_tests false false = refl

value_again : (null : Bool) (least greatest : ℤ) (b : Option ℤ) (v : ℤ) → read_value null least greatest (read_value null least greatest b v) v ≡ read_value null least greatest b v
value_again null least greatest b v = by_tests (is_in least greatest v) null
  where
    by_tests : (i n : Bool) → cond i (Some v) (cond n None (cond i (Some v) (cond n None b))) ≡ cond i (Some v) (cond n None b)
    by_tests true n = refl
    by_tests false true = refl
    by_tests false false = refl

-- What numbers leave of an item, they leave again.
pub cell_again : (m : MainItem) (us : List Usage) (form : Form) (state : ControlState) (vs : List ℤ) → read_state m us form (read_state m us form state vs) vs ≡ read_state m us form state vs
cell_again m us NoControls state vs = refl
cell_again m us (Elements kind least greatest us') Absent vs = refl
cell_again m us (Elements kind least greatest us') (Motions ms) vs = refl
cell_again m us (Elements kind least greatest us') (RollOver ps) vs = refl
cell_again m us (Elements kind least greatest us') (Switches bs) vs = ap Switches (read_again (λ p. read_switch p.0 p.1) (λ x v. switch_again x v) bs vs)
cell_again m us (Elements kind least greatest us') (Values bs) vs = ap Values (read_again (λ p. read_value (has_null kind) least greatest p.0 p.1) (λ x v. value_again (has_null kind) least greatest x v) bs vs)
cell_again m us (Keys elements rolls keys) state vs = by_rolls (list_any (names_rollover m us) vs) state
  where
    by_rolls : (b : Bool) (state : ControlState) → cond b (cond b state (read_named m keys state vs)) (read_named m keys (cond b state (read_named m keys state vs)) vs) ≡ cond b state (read_named m keys state vs)
    by_rolls true state = refl
    by_rolls false Absent = refl
    by_rolls false (Motions ms) = refl
    by_rolls false (Values bs) = refl
    by_rolls false (RollOver ps) = refl
    by_rolls false (Switches bs) = refl

-- of the item at a place, where there is one
abbrev pub after_item : Contents → ℕ → List ℕ → ℕ → Option MainItem → ControlState → ControlState
after_item layout r bytes i o state = elim o as (λ _. ControlState) [ None ↦ state | Some m ↦ cond (is_data_in r m) (state_after_numbers_at layout i m state (item_numbers layout bytes m)) state ]

pub place_again : (layout : Contents) (r : ℕ) (bytes : List ℕ) (i : ℕ) (state : ControlState) → state_after_report_at layout r bytes i (state_after_report_at layout r bytes i state) ≡ state_after_report_at layout r bytes i state
place_again layout r bytes i state = of_item (slice_get layout.items i)
  where
    of_item : (o : Option MainItem) → after_item layout r bytes i o (after_item layout r bytes i o state) ≡ after_item layout r bytes i o state
    of_item None = refl
    of_item (Some m) = of_data (is_data_in r m)
      where
        of_data : (b : Bool) → cond b (state_after_numbers_at layout i m (cond b (state_after_numbers_at layout i m state (item_numbers layout bytes m)) state) (item_numbers layout bytes m)) (cond b (state_after_numbers_at layout i m state (item_numbers layout bytes m)) state)
            ≡ cond b (state_after_numbers_at layout i m state (item_numbers layout bytes m)) state
        of_data false = refl
        of_data true = cell_again m (list_at layout i) (form_at (items_of layout) i) state (item_numbers layout bytes m)

from_again : (layout : Contents) (r : ℕ) (bytes : List ℕ) (i : ℕ) (states : List ControlState) → view_from_item layout r bytes i (view_from_item layout r bytes i states) ≡ view_from_item layout r bytes i states
from_again layout r bytes i [] = refl
from_again layout r bytes i (c ∷ states) = rw (place_again layout r bytes i c, from_again layout r bytes (i + 1) states) refl

-- A report that was read leaves the view when it is read again.
pub view_again : (layout : Contents) (r : ℕ) (bytes : List ℕ) (view : List ControlState) → read_view layout r bytes (read_view layout r bytes view) ≡ read_view layout r bytes view
view_again layout r bytes view = from_again layout r bytes 0 view

-- what a report leaves of an item, it leaves behind another report too
place_other : (layout : Contents) (r s : ℕ) (bytes others : List ℕ) (i : ℕ) (state : ControlState) → r ≢ s → state_after_report_at layout r bytes i state ≡ state
    → state_after_report_at layout r bytes i (state_after_report_at layout s others i state) ≡ state_after_report_at layout s others i state
place_other layout r s bytes others i state apart fixed = of_item (slice_get layout.items i) fixed
  where
    of_item : (o : Option MainItem) → after_item layout r bytes i o state ≡ state → after_item layout r bytes i o (after_item layout s others i o state) ≡ after_item layout s others i o state
    of_item None h = refl
    of_item (Some m) h = of_data (is_data_in r m) (is_data_in s m) refl refl h
      where
        of_data : (a b : Bool) → is_data_in r m ≡ a → is_data_in s m ≡ b → cond a (state_after_numbers_at layout i m state (item_numbers layout bytes m)) state ≡ state
            → cond a (state_after_numbers_at layout i m (cond b (state_after_numbers_at layout i m state (item_numbers layout others m)) state) (item_numbers layout bytes m)) (cond b (state_after_numbers_at layout i m state (item_numbers layout others m)) state)
            ≡ cond b (state_after_numbers_at layout i m state (item_numbers layout others m)) state
        of_data false b e g h = refl
        of_data true false e g h = h
        of_data true true e g h =
            let one : m.report ≡ r = same_number m.report r (both_true (m.report == r) (not (is_padding m.shape)) e).0 in
            let two : m.report ≡ s = same_number m.report s (both_true (m.report == s) (not (is_padding m.shape)) g).0 in
            absurd (apart (sym one ∙ two))

from_other : (layout : Contents) (r s : ℕ) (bytes others : List ℕ) (i : ℕ) (states : List ControlState) → r ≢ s → view_from_item layout r bytes i states ≡ states
    → view_from_item layout r bytes i (view_from_item layout s others i states) ≡ view_from_item layout s others i states
from_other layout r s bytes others i [] apart fixed = refl
from_other layout r s bytes others i (c ∷ states) apart fixed =
    let here : state_after_report_at layout r bytes i c ≡ c = cc in
    let rest : view_from_item layout r bytes (i + 1) states ≡ states = cc in
    rw (place_other layout r s bytes others i c apart here, from_other layout r s bytes others (i + 1) states apart rest) refl

-- A view that a report leaves is left by it behind another report too.
pub view_other : (layout : Contents) (r s : ℕ) (bytes others : List ℕ) (view : List ControlState) → r ≢ s → read_view layout r bytes view ≡ view
    → read_view layout r bytes (read_view layout s others view) ≡ read_view layout s others view
view_other layout r s bytes others view apart fixed = from_other layout r s bytes others 0 view apart fixed

-- an item of these bits is left by them
pub left_by_bits : (layout : Contents) (r : ℕ) (last bytes : List ℕ) (i : ℕ) (m : MainItem) (state : ControlState) → slice_get layout.items i ≡ Some m → item_numbers layout bytes m ≡ item_numbers layout last m → state_after_report_at layout r last i state ≡ state
    → state_after_report_at layout r bytes i state ≡ state
left_by_bits layout r last bytes i m state listed same fixed =
    ap (λ (o : Option MainItem). after_item layout r bytes i o state) listed
    ∙ ap (λ (vs : List ℤ). cond (is_data_in r m) (state_after_numbers_at layout i m state vs) state) same
    ∙ sym (ap (λ (o : Option MainItem). after_item layout r last i o state) listed) ∙ fixed

same_each : {C : Type 0} (f : ℕ → Usage → C × C → List Event) → ((k : ℕ) (u : Usage) (x : C) → f k u (x, x) ≡ []) → (j : ℕ) (us : List Usage) (xs : List C) → element_list_events f j us (zip xs xs) ≡ []
same_each f quiet j [] xs = refl
same_each f quiet j (u ∷ us) [] = refl
same_each f quiet j (u ∷ us) (x ∷ xs) = rw (quiet j u x, same_each f quiet (j + 1) us xs) refl

-- an item whose state stays tells no change
no_change : (i : ℕ) (form : Form) (state : ControlState) → change_events i form state state ≡ []
no_change i NoControls state = refl
no_change i (Keys elements rolls keys) state = same_keys i (key_usages keys) state
no_change i (Elements kind least greatest us) Absent = refl
no_change i (Elements kind least greatest us) (Motions ms) = refl
no_change i (Elements kind least greatest us) (RollOver ps) = refl
no_change i (Elements kind least greatest us) (Switches bs) = same_each (λ j u p. switch_event (control_at i j) u p.0 p.1) (λ k u x. switch_stays (control_at i k) u x) 0 us bs
no_change i (Elements kind least greatest us) (Values bs) = same_each (λ j u p. value_event (control_at i j) u p.0 p.1) (λ k u x. value_stays (control_at i k) u x) 0 us bs

-- the elements of these controls tell no motion
abbrev pub TellsNoMotion : Form → Type 0
TellsNoMotion NoControls = Unit {0}
TellsNoMotion (Elements kind least greatest us) = (kind ≡ Relative → ⊥)
TellsNoMotion (Keys elements rolls keys) = Unit {0}

no_motion : (i : ℕ) (form : Form) (vs : List ℤ) → TellsNoMotion form → form_motions i form (motion_state form vs) ≡ []
no_motion i NoControls vs h = refl
no_motion i (Keys elements rolls keys) vs h = refl
no_motion i (Elements Switch least greatest us) vs h = refl
no_motion i (Elements Value least greatest us) vs h = refl
no_motion i (Elements NullValue least greatest us) vs h = refl
no_motion i (Elements Relative least greatest us) vs h = absurd (h refl)

-- an item of these bits gives no event, where it has no motions
pub silent_by_bits : (layout : Contents) (r : ℕ) (last bytes : List ℕ) (i : ℕ) (m : MainItem) (state : ControlState) → slice_get layout.items i ≡ Some m → item_numbers layout bytes m ≡ item_numbers layout last m → (is_data_in r m ≡ true → TellsNoMotion (form_at (items_of layout) i))
    → state_after_report_at layout r last i state ≡ state → events_of_report_at layout r bytes i state ≡ []
silent_by_bits layout r last bytes i m state listed same absolute fixed =
    ap (λ (o : Option MainItem). elim o as (λ _. List Event) [
      | None ↦ []
      | Some x ↦ cond (is_data_in r x) (events_of_numbers_at layout i x state (state_after_numbers_at layout i x state (item_numbers layout bytes x)) (item_numbers layout bytes x)) []
    ]) listed
    ∙ by_data (is_data_in r m) refl (sym (ap (λ (o : Option MainItem). after_item layout r bytes i o state) listed) ∙ left_by_bits layout r last bytes i m state listed same fixed)
  where
    by_data : (b : Bool) → is_data_in r m ≡ b → cond b (state_after_numbers_at layout i m state (item_numbers layout bytes m)) state ≡ state
        → cond b (events_of_numbers_at layout i m state (state_after_numbers_at layout i m state (item_numbers layout bytes m)) (item_numbers layout bytes m)) [] ≡ []
    by_data false e h = refl
    by_data true e h =
        let quiet : change_events i (form_at (items_of layout) i) state (state_after_numbers_at layout i m state (item_numbers layout bytes m)) ≡ [] = ap (λ (c : ControlState). change_events i (form_at (items_of layout) i) state c) h ∙ no_change i (form_at (items_of layout) i) state in
        rw (quiet, no_motion i (form_at (items_of layout) i) (item_numbers layout bytes m) (absolute e)) refl

no_data : (a p : Bool) → p ≡ true → (a && not p) ≡ false
no_data true true h = refl
no_data false true h = refl
no_data true false h = absurd (cc)
no_data false false h = absurd (cc)

some_data : (a p : Bool) → a ≡ true → p ≡ false → (a && not p) ≡ true
some_data true false h e = refl
some_data true true h e = absurd (cc)
some_data false p h e = absurd (cc)

-- the events of the item at a place, where there is one
abbrev told_of : Contents → ℕ → List ℕ → ℕ → Option MainItem → ControlState → List Event
told_of layout r bytes i o state = elim o as (λ _. List Event) [
  | None ↦ []
  | Some m ↦ cond (is_data_in r m) (events_of_numbers_at layout i m state (state_after_numbers_at layout i m state (item_numbers layout bytes m)) (item_numbers layout bytes m)) []
]

-- padding stays, and gives no event
pub padding_stays : (layout : Contents) (r : ℕ) (bytes : List ℕ) (i : ℕ) (m : MainItem) (state : ControlState) → slice_get layout.items i ≡ Some m → is_padding m.shape ≡ true
    → (state_after_report_at layout r bytes i state ≡ state) × (events_of_report_at layout r bytes i state ≡ [])
padding_stays layout r bytes i m state listed padding =
    let off : is_data_in r m ≡ false = no_data (m.report == r) (is_padding m.shape) padding in (
      ap (λ (o : Option MainItem). after_item layout r bytes i o state) listed
          ∙ ap (λ (b : Bool). cond b (state_after_numbers_at layout i m state (item_numbers layout bytes m)) state) off,
      ap (λ (o : Option MainItem). told_of layout r bytes i o state) listed
          ∙ ap (λ (b : Bool). cond b (events_of_numbers_at layout i m state (state_after_numbers_at layout i m state (item_numbers layout bytes m)) (item_numbers layout bytes m)) []) off,
    )

-- an item with data of the report is read by its numbers
pub data_read : (layout : Contents) (r : ℕ) (bytes : List ℕ) (i : ℕ) (m : MainItem) (state : ControlState) → slice_get layout.items i ≡ Some m → m.report ≡ r → is_padding m.shape ≡ false
    → (state_after_report_at layout r bytes i state ≡ state_after_numbers_at layout i m state (item_numbers layout bytes m))
    × (events_of_report_at layout r bytes i state ≡ events_of_numbers_at layout i m state (state_after_numbers_at layout i m state (item_numbers layout bytes m)) (item_numbers layout bytes m))
data_read layout r bytes i m state listed is data_ =
    let on : is_data_in r m ≡ true = some_data (m.report == r) (is_padding m.shape) (number_is m.report r is) data_ in (
      ap (λ (o : Option MainItem). after_item layout r bytes i o state) listed
          ∙ ap (λ (b : Bool). cond b (state_after_numbers_at layout i m state (item_numbers layout bytes m)) state) on,
      ap (λ (o : Option MainItem). told_of layout r bytes i o state) listed
          ∙ ap (λ (b : Bool). cond b (events_of_numbers_at layout i m state (state_after_numbers_at layout i m state (item_numbers layout bytes m)) (item_numbers layout bytes m)) []) on,
    )
  where
    number_is : (a c : ℕ) → a ≡ c → (a == c) ≡ true
    number_is a c e = grind (arith, nat_tests)

-- what is known of the item at a place is known of it as a listed one
pub listed_known : (layout : Contents) (r : ℕ) (bytes last : List ℕ) (span : BitSpan) (listed : ListedItem) (state : ControlState) → listed.layout.now ≡ layout → slice_get layout.items listed.place ≡ Some listed.item.now → listed.item.now.report ≡ r → is_padding listed.item.now.shape ≡ false
    → KnowsPlace layout r bytes last span listed.place state → KnowsListed listed bytes span state
listed_known layout r bytes last span listed state laid there is data_ known =
    let room : report_bytes listed.layout.now listed.item.now.report ≡ report_bytes layout r = ap (λ (l : Contents). report_bytes l listed.item.now.report) laid ∙ ap (report_bytes layout) is in
    record {
      last = last;
      same = λ n low outside. known.same n (omega (arith, low, room)) outside;
      left = λ n low outside.
          ap (λ (l : Contents). state_after_numbers_at l listed.place listed.item.now state (item_numbers l last listed.item.now)) laid
          ∙ sym (data_read layout r last listed.place listed.item.now state there is data_).0 ∙ known.left n (omega (arith, low, room)) outside;
    }
