-- What a reader needn't read again: a report that tells nothing leaves the view.
use Rattle.std.proofs.Common.{◌≡◌, ℕ, suc, ◌+◌, Bool, true, false, cond, List, [], ◌∷◌, ◌++◌, length, Option, Some, None, ℤ, refl, sym, ap, ◌∙◌, subst, arith}
use Rattle.std.specs.List.{slice_get, list_any, zip}
use Rattle.std.specs.Ordering.{int_eq}
use Rattle.std.specs.Bool.{Decides}
use Rattle.std.proofs.lemmas.Bool.Decides.{Decides-int_eq}
use Rattle.std.proofs.lemmas.Option.{slice_get_within}
use Rattle.hid_report_descriptor.specs.declared.usage.Usage.{Usage}
use Rattle.hid_layout.specs.declared.main_item.MainItem.{MainItem}
use Rattle.hid_layout.specs.declared.control.ControlId.{ControlId}
use Rattle.hid_layout.specs.Layout.{Contents}
use Rattle.hid_layout.specs.Reports.{IsLayout}
use Rattle.hid_layout.specs.Controls.{Form, NoControls, Elements, Keys, items_of, form_at, controls_of_form}
use Rattle.hid_snapshots.specs.declared.control_state.ControlState.{ControlState}
use Rattle.hid_snapshots.specs.declared.control_state.ControlState.TheVariants.{Absent, Switches, Values, Motions, RollOver}
use Rattle.hid_snapshots.specs.declared.event.Event.{Event}
use Rattle.hid_snapshots.specs.ControlStates.{HasRoom, FitsView}
use Rattle.hid_snapshots.specs.Events.{control_at, element_list_events, switch_event, value_event, up_event, down_event, usages_of, key_events, key_usages, change_events, HasPlaces}
use Rattle.hid_snapshots.specs.Parts.{IsInput}
use Rattle.hid_snapshots.proofs.ItemLemmas.{got, form_at-is}
use Rattle.hid_usages.specs.Reading.{read_state, names_rollover, read_named, is_data_in, item_numbers}
use Rattle.hid_usages.specs.Taking.{list_at, state_after_report_at, events_of_report_at, state_after_numbers_at, events_of_numbers_at, view_from_item, events_from_item, read_view, read_events}
use Rattle.hid_usages.proofs.EventLemmas.{has_places}
use Rattle.hid_usages.proofs.TakeLemmas.{read_view-at, read_view_fits}

-- of events of which there are none, none stand in front and none after
none_in_front : (xs ys : List Event) → xs ++ ys ≡ [] → xs ≡ []
none_in_front [] ys h = refl
none_in_front (x ∷ xs) ys h = absurd (cc)

none_behind : (xs ys : List Event) → xs ++ ys ≡ [] → ys ≡ []
none_behind [] ys h = h
none_behind (x ∷ xs) ys h = absurd (cc)

-- elements of which none tells anything are as they were
quiet_each : {C : Type 0} (f : ℕ → Usage → C × C → List Event) → ((k : ℕ) (u : Usage) (b x : C) → f k u (b, x) ≡ [] → x ≡ b)
    → (j : ℕ) (us : List Usage) (bs xs : List C) → length bs ≡ length us → length xs ≡ length us
    → element_list_events f j us (zip bs xs) ≡ [] → xs ≡ bs
quiet_each f same j [] [] [] l m h = refl
quiet_each f same j [] (b ∷ bs) xs l m h = absurd (omega arith)
quiet_each f same j [] [] (x ∷ xs) l m h = absurd (omega arith)
quiet_each f same j (u ∷ us) [] xs l m h = absurd (omega arith)
quiet_each f same j (u ∷ us) (b ∷ bs) [] l m h = absurd (omega arith)
quiet_each f same j (u ∷ us) (b ∷ bs) (x ∷ xs) l m h =
    let here = same j u b x (none_in_front (f j u (b, x)) (element_list_events f (j + 1) us (zip bs xs)) h) in
    let rest =
    quiet_each f same (j + 1) us bs xs (omega arith) (omega arith)
    (none_behind (f j u (b, x)) (element_list_events f (j + 1) us (zip bs xs)) h) in
    rw (here, rest) refl

quiet_switch : (c : ControlId) (u : Usage) (b x : Bool) → switch_event c u b x ≡ [] → x ≡ b
quiet_switch c u true true h = refl
quiet_switch c u false false h = refl
quiet_switch c u true false h = absurd (cc)
quiet_switch c u false true h = absurd (cc)

quiet_value : (c : ControlId) (u : Usage) (b x : Option ℤ) → value_event c u b x ≡ [] → x ≡ b
quiet_value c u None None h = refl
quiet_value c u (Some v) None h = absurd (cc)
quiet_value c u None (Some w) h = absurd (cc)
quiet_value c u (Some v) (Some w) h = by_test (int_eq v w) (Decides-int_eq v w) refl
  where
    by_test : (b : Bool) → Decides (int_eq v w) (v ≡ w) → int_eq v w ≡ b → Some w ≡ Some v
    by_test true d e = ap Some (sym (d.0 e))
    by_test false d e = absurd (cc)

-- keys of which none goes up and none goes down are as they were
quiet_keys : (i j : ℕ) (us : List Usage) (bs xs : List Bool) → length bs ≡ length us → length xs ≡ length us
    → element_list_events (λ k u p. up_event (control_at i k) u p.0 p.1) j us (zip bs xs) ≡ []
    → element_list_events (λ k u p. down_event (control_at i k) u p.0 p.1) j us (zip bs xs) ≡ [] → xs ≡ bs
quiet_keys i j [] [] [] l m h g = refl
quiet_keys i j [] (b ∷ bs) xs l m h g = absurd (omega arith)
quiet_keys i j [] [] (x ∷ xs) l m h g = absurd (omega arith)
quiet_keys i j (u ∷ us) [] xs l m h g = absurd (omega arith)
quiet_keys i j (u ∷ us) (b ∷ bs) [] l m h g = absurd (omega arith)
quiet_keys i j (u ∷ us) (b ∷ bs) (x ∷ xs) l m h g =
    let here =
    one b x (none_in_front (up_event (control_at i j) u b x)
    (element_list_events (λ k v p. up_event (control_at i k) v p.0 p.1) (j + 1) us (zip bs xs)) h)
    (none_in_front (down_event (control_at i j) u b x)
    (element_list_events (λ k v p. down_event (control_at i k) v p.0 p.1) (j + 1) us (zip bs xs)) g) in
    let rest =
    quiet_keys i (j + 1) us bs xs (omega arith) (omega arith)
    (none_behind (up_event (control_at i j) u b x)
    (element_list_events (λ k v p. up_event (control_at i k) v p.0 p.1) (j + 1) us (zip bs xs)) h)
    (none_behind (down_event (control_at i j) u b x)
    (element_list_events (λ k v p. down_event (control_at i k) v p.0 p.1) (j + 1) us (zip bs xs)) g) in
    rw (here, rest) refl
  where
    one : (p q : Bool) → up_event (control_at i j) u p q ≡ [] → down_event (control_at i j) u p q ≡ [] → q ≡ p
    one true true a b = refl
    one false false a b = refl
    one true false a b = absurd (cc)
    one false true a b = absurd (cc)

-- so is what is kept of an item of which nothing is told
quiet_state : (i : ℕ) (m : MainItem) (us : List Usage) (form : Form) (state : ControlState) (vs : List ℤ)
    → HasPlaces state (length (usages_of form)) → HasPlaces (read_state m us form state vs) (length (usages_of form))
    → change_events i form state (read_state m us form state vs) ≡ [] → read_state m us form state vs ≡ state
quiet_state i m us NoControls state vs room after h = refl
quiet_state i m us (Elements kind least greatest us') Absent vs room after h = refl
quiet_state i m us (Elements kind least greatest us') (Motions ms) vs room after h = refl
quiet_state i m us (Elements kind least greatest us') (RollOver ps) vs room after h = refl
quiet_state i m us (Elements kind least greatest us') (Switches bs) vs room after h =
    ap Switches
    (quiet_each (λ k u p. switch_event (control_at i k) u p.0 p.1)
    (λ k u b x e. quiet_switch (control_at i k) u b x e) 0 us' bs _ room after h)
quiet_state i m us (Elements kind least greatest us') (Values bs) vs room after h =
    ap Values
    (quiet_each (λ k u p. value_event (control_at i k) u p.0 p.1)
    (λ k u b x e. quiet_value (control_at i k) u b x e) 0 us' bs _ room after h)
quiet_state i m us (Keys elements rolls keys) state vs room after h = by_rolls (list_any (names_rollover m us) vs) state room after h
  where
    by_rolls : (b : Bool) (state : ControlState) → HasPlaces state (length (key_usages keys))
        → HasPlaces (cond b state (read_named m keys state vs)) (length (key_usages keys))
        → key_events i (key_usages keys) state (cond b state (read_named m keys state vs)) ≡ [] → cond b state (read_named m keys state vs) ≡ state
    by_rolls true state room after h = refl
    by_rolls false Absent room after h = refl
    by_rolls false (Motions ms) room after h = refl
    by_rolls false (Values bs) room after h = refl
    by_rolls false (RollOver ps) room after h = refl
    by_rolls false (Switches bs) room after h =
        ap Switches (quiet_keys i 0 (key_usages keys) bs _ room after (none_in_front _ _ h) (none_behind _ _ h))

quiet_place : (layout : Contents) (r : ℕ) (bytes : List ℕ) (i : ℕ) (state : ControlState)
    → HasRoom (controls_of_form (form_at (items_of layout) i)) state
    → HasRoom (controls_of_form (form_at (items_of layout) i)) (state_after_report_at layout r bytes i state)
    → events_of_report_at layout r bytes i state ≡ [] → state_after_report_at layout r bytes i state ≡ state
quiet_place layout r bytes i state room after h = of_item (slice_get layout.items i) after h
  where
    of_item : (o : Option MainItem)
        → HasRoom (controls_of_form (form_at (items_of layout) i))
        (elim o as
        (λ _. ControlState) [
          | None ↦ state
          | Some m ↦
              cond (is_data_in r m) (state_after_numbers_at layout i m state (item_numbers layout bytes m)) state
        ])
        → elim o as
        (λ _. List Event) [
          | None ↦ []
          | Some m ↦
              cond (is_data_in r m)
              (events_of_numbers_at layout i m state
              (state_after_numbers_at layout i m state (item_numbers layout bytes m))
              (item_numbers layout bytes m)) []
        ] ≡ []
        → elim o as
        (λ _. ControlState) [
          | None ↦ state
          | Some m ↦
              cond (is_data_in r m) (state_after_numbers_at layout i m state (item_numbers layout bytes m)) state
        ] ≡ state
    of_item None after h = refl
    of_item (Some m) after h = of_data (is_data_in r m) after h
      where
        of_data : (b : Bool)
            → HasRoom (controls_of_form (form_at (items_of layout) i))
            (cond b (state_after_numbers_at layout i m state (item_numbers layout bytes m)) state)
            → cond b (events_of_numbers_at layout i m state
            (state_after_numbers_at layout i m state (item_numbers layout bytes m))
            (item_numbers layout bytes m)) [] ≡ []
            → cond b (state_after_numbers_at layout i m state (item_numbers layout bytes m)) state ≡ state
        of_data false after h = refl
        of_data true after h =
            quiet_state i m (list_at layout i) (form_at (items_of layout) i) state (item_numbers layout bytes m)
            (has_places (form_at (items_of layout) i) state room) (has_places (form_at (items_of layout) i) _ after) (none_in_front _ _ h)

quiet_from : (layout : Contents) (r : ℕ) (bytes : List ℕ) (i : ℕ) (states : List ControlState)
    → ((k : ℕ) (state : ControlState) → slice_get states k ≡ Some state
    → events_of_report_at layout r bytes (i + k) state ≡ []
    → state_after_report_at layout r bytes (i + k) state ≡ state)
    → events_from_item layout r bytes i states ≡ [] → view_from_item layout r bytes i states ≡ states
quiet_from layout r bytes i [] quiet h = refl
quiet_from layout r bytes i (c ∷ states) quiet h =
    let z : i + 0 ≡ i = omega arith in
    let at_once =
    none_in_front (events_of_report_at layout r bytes i c) (events_from_item layout r bytes (i + 1) states) h in
    let here : state_after_report_at layout r bytes i c ≡ c =
    subst (λ (n : ℕ). events_of_report_at layout r bytes n c ≡ [] → state_after_report_at layout r bytes n c ≡ c) z
    (quiet 0 c refl) at_once
    in
    let rest = quiet_from layout r bytes (i + 1) states (λ k state g e.
    let n : i + suc k ≡ (i + 1) + k = omega arith in
    subst (λ (n : ℕ). events_of_report_at layout r bytes n state ≡ []
    → state_after_report_at layout r bytes n state ≡ state) n
    (quiet (suc k) state g) e)
    (none_behind (events_of_report_at layout r bytes i c) (events_from_item layout r bytes (i + 1) states) h) in
    rw (here, rest) refl

-- A report that tells nothing leaves the view.
pub quiet_view : (layout : Contents) (r : ℕ) (bytes : List ℕ) (view : List ControlState) → IsLayout layout
    → IsInput layout r → FitsView (items_of layout) view
    → read_events layout r bytes view ≡ [] → read_view layout r bytes view ≡ view
quiet_view layout r bytes view laid input fits h =
    let after = read_view_fits layout r bytes view laid input fits in
    quiet_from layout r bytes 0 view
    (λ k state g e.
    let z : 0 + k ≡ k = omega arith in
    let item = got (items_of layout) k (omega (arith, slice_get_within view k state g, fits.one_each)) in
    let form = form_at-is (items_of layout) k item.0 item.1 in
    let room =
    subst (λ (f : Form). HasRoom (controls_of_form f) state) (sym form) (fits.room k item.0 state item.1 g) in
    let room' =
    subst (λ (f : Form). HasRoom (controls_of_form f) (state_after_report_at layout r bytes k state)) (sym form)
    (after.room k item.0 (state_after_report_at layout r bytes k state) item.1
    (read_view-at layout r bytes view k state g)) in
    subst (λ (n : ℕ). events_of_report_at layout r bytes n state ≡ []
    → state_after_report_at layout r bytes n state ≡ state)
    (sym z) (quiet_place layout r bytes k state room room') e)
    h

no_events : (es : List Event) → length es ≡ 0 → es ≡ []
no_events [] h = refl
no_events (e ∷ es) h = absurd (omega arith)

-- a report that gave no event gives none when it comes again
pub quiet_again : (layout : Contents) (r : ℕ) (bytes : List ℕ) (view : List ControlState) → IsLayout layout → IsInput layout r → FitsView (items_of layout) view
    → length (read_events layout r bytes view) ≡ 0 → read_events layout r bytes (read_view layout r bytes view) ≡ []
quiet_again layout r bytes view laid input fits none =
    let quiet : read_events layout r bytes view ≡ [] = no_events _ none in
    ap (λ (v : List ControlState). read_events layout r bytes v) (quiet_view layout r bytes view laid input fits quiet) ∙ quiet
