-- Reading the bytes of a part, item by item.
use Rattle.std.proofs.Common.{◌≡◌, ℕ, zero, suc, ◌+◌, ◌<◌, ◌&&◌, Bool, true, false, cond, nat_eq, List, [], ◌∷◌, ◌++◌, length, Option, Some, None, Result, Ok, Err, ℤ, zero-add, refl, sym, ap, ◌∙◌, subst, arith}
use Rattle.std.specs.List.{slice_get, zip}
use Rattle.std.specs.Option.{is_some}
use Rattle.std.specs.Ordering.{int_eq}
use Rattle.std.proofs.lemmas.Option.{slice_get_within}
use Rattle.std.proofs.lemmas.Bool.Decides.{nat_tests, Decides-int_eq}
use Rattle.hid_layout.specs.declared.main_item.MainItem.{MainItem}
use Rattle.hid_report_descriptor.specs.declared.shape.Shape.{Shape}
use Rattle.hid_report_descriptor.specs.declared.shape.Shape.TheVariants.{Padding, Variable, Array}
use Rattle.hid_report_descriptor.specs.declared.report.Report.{Report}
use Rattle.hid_report_descriptor.specs.declared.usage.Usage.{Usage}
use Rattle.hid_layout.specs.declared.control.ControlKind.{ControlKind}
use Rattle.hid_layout.specs.declared.control.ControlKind.TheVariants.{Switch, Value, NullValue, Relative}
use Rattle.hid_report_descriptor.specs.Usages.{Entry, usage_list}
use Rattle.hid_report_descriptor.specs.Fields.{is_padding}
use Rattle.hid_layout.specs.Layout.{Contents}
use Rattle.hid_layout.specs.Reports.{IsLayout, report_bytes}
use Rattle.hid_layout.specs.Controls.{Form, NoControls, Elements, Keys, Item, items_of, item_of, form_of, form_at, controls_of_form, is_input, input_item, no_item}
use Rattle.hid_layout.specs.Codes.{empty_number}
use Rattle.hid_snapshots.specs.declared.control_state.ControlState.{ControlState}
use Rattle.hid_snapshots.specs.declared.control_state.ControlState.TheVariants.{Absent, Switches, Values, Motions, RollOver}
use Rattle.hid_snapshots.specs.declared.event.Event.{Event}
use Rattle.hid_snapshots.specs.declared.event.Event.TheVariants as event
use Rattle.hid_snapshots.specs.ControlStates.{HasRoom, InPart, InView}
use Rattle.hid_snapshots.specs.Codes.{is_array, has_empty_code, empty_codes_from, has_empty_codes}
use Rattle.hid_snapshots.specs.Encoding.{IsData, part_numbers}
use Rattle.hid_snapshots.specs.Events.{control_at, element_list_events, switch_event, value_event, change_events}
use Rattle.hid_usages.specs.NumbersReadBack.{IsPart, IsLike}
use Rattle.hid_snapshots.specs.Parts.{IsInput, is_of, by_item}
use Rattle.hid_snapshots.specs.declared.fault.ReportFault.{ReportFault}
use Rattle.hid_usages.specs.Reading.{report_named, read_state, motion_state, is_data_in, item_numbers}
use Rattle.hid_snapshots.specs.Sending.{element_numbers}
use Rattle.hid_usages.specs.Taking.{list_at, state_after_numbers_at, events_of_numbers_at, state_after_report_at, events_of_report_at, view_from_item, events_from_item, read_view, read_events}
use Rattle.hid_snapshots.specs.Views.{seen_state, view_item_after, motions_of, form_motions, part_of, events_from}
use Rattle.hid_usages.specs.PartsReadBack.{PartsAreReadBack, PartsAreTaken, SeenIsView}
use Rattle.hid_snapshots.proofs.CodeLemmas.{both_true}
use Rattle.hid_usages.proofs.CodePartLemmas.{is_part}
use Rattle.hid_snapshots.proofs.EncodingLemmas.{state_numbers, data_if}
use Rattle.hid_snapshots.proofs.ItemLemmas.{items_from-at, items_of-length, got}
use Rattle.hid_usages.proofs.LawLemmas.{reads_back, motions_back}
use Rattle.hid_usages.proofs.NamingLemmas.{names_report}
use Rattle.hid_snapshots.proofs.ReportLemmas.{numbers_at-is, form_in_input}
use Rattle.hid_snapshots.proofs.ShownLemmas.{suits_by}
use Rattle.hid_usages.proofs.TakeLemmas.{list_at-is, form_of_item}
use Rattle.hid_usages.proofs.ViewLemmas.{same_keys}

-- a view's control state and a part of the same item have one shape
elements_like : (kind : ControlKind) (least greatest : ℤ) (us : List Usage) (view part : ControlState)
    → HasRoom (controls_of_form (Elements kind least greatest us)) view
    → HasRoom (controls_of_form (Elements kind least greatest us)) part → IsLike view part
elements_like Switch least greatest us (Switches bs) (Switches ps) room room' = room ∙ sym room'
elements_like Switch least greatest us (Switches bs) Absent room room' = absurd room'
elements_like Switch least greatest us (Switches bs) (Values ps) room room' = absurd room'
elements_like Switch least greatest us (Switches bs) (Motions ps) room room' = absurd room'
elements_like Switch least greatest us (Switches bs) (RollOver ps) room room' = absurd room'
elements_like Switch least greatest us Absent part room room' = absurd room
elements_like Switch least greatest us (Values bs) part room room' = absurd room
elements_like Switch least greatest us (Motions bs) part room room' = absurd room
elements_like Switch least greatest us (RollOver bs) part room room' = absurd room
elements_like Value least greatest us (Values bs) (Values ps) room room' = room ∙ sym room'
elements_like Value least greatest us (Values bs) Absent room room' = absurd room'
elements_like Value least greatest us (Values bs) (Switches ps) room room' = absurd room'
elements_like Value least greatest us (Values bs) (Motions ps) room room' = absurd room'
elements_like Value least greatest us (Values bs) (RollOver ps) room room' = absurd room'
elements_like Value least greatest us Absent part room room' = absurd room
elements_like Value least greatest us (Switches bs) part room room' = absurd room
elements_like Value least greatest us (Motions bs) part room room' = absurd room
elements_like Value least greatest us (RollOver bs) part room room' = absurd room
elements_like NullValue least greatest us (Values bs) (Values ps) room room' = room ∙ sym room'
elements_like NullValue least greatest us (Values bs) Absent room room' = absurd room'
elements_like NullValue least greatest us (Values bs) (Switches ps) room room' = absurd room'
elements_like NullValue least greatest us (Values bs) (Motions ps) room room' = absurd room'
elements_like NullValue least greatest us (Values bs) (RollOver ps) room room' = absurd room'
elements_like NullValue least greatest us Absent part room room' = absurd room
elements_like NullValue least greatest us (Switches bs) part room room' = absurd room
elements_like NullValue least greatest us (Motions bs) part room room' = absurd room
elements_like NullValue least greatest us (RollOver bs) part room room' = absurd room
elements_like Relative least greatest us (Motions bs) (Motions ps) room room' = tt
elements_like Relative least greatest us (Motions bs) Absent room room' = absurd room'
elements_like Relative least greatest us (Motions bs) (Switches ps) room room' = absurd room'
elements_like Relative least greatest us (Motions bs) (Values ps) room room' = absurd room'
elements_like Relative least greatest us (Motions bs) (RollOver ps) room room' = absurd room'
elements_like Relative least greatest us Absent part room room' = absurd room
elements_like Relative least greatest us (Switches bs) part room room' = absurd room
elements_like Relative least greatest us (Values bs) part room room' = absurd room
elements_like Relative least greatest us (RollOver bs) part room room' = absurd room

like : (form : Form) (view part : ControlState) → HasRoom (controls_of_form form) view → InView form view
    → HasRoom (controls_of_form form) part → IsLike view part
like NoControls view Absent room ok room' = by_view view room
  where
    by_view : (view : ControlState) → HasRoom (controls_of_form NoControls) view → IsLike view Absent
    by_view Absent h = tt
    by_view (Switches bs) h = tt
    by_view (Values bs) h = tt
    by_view (Motions bs) h = tt
    by_view (RollOver bs) h = tt
like NoControls view (Switches ps) room ok room' = absurd room'
like NoControls view (Values ps) room ok room' = absurd room'
like NoControls view (Motions ps) room ok room' = absurd room'
like NoControls view (RollOver ps) room ok room' = absurd room'
like (Elements kind least greatest us) view part room ok room' = elements_like kind least greatest us view part room room'
like (Keys elements rolls keys) (Switches bs) (Switches ps) room ok room' = room ∙ sym room'
like (Keys elements rolls keys) (Switches bs) (RollOver ps) room ok room' = tt
like (Keys elements rolls keys) (Switches bs) Absent room ok room' = absurd room'
like (Keys elements rolls keys) (Switches bs) (Values ps) room ok room' = absurd room'
like (Keys elements rolls keys) (Switches bs) (Motions ps) room ok room' = absurd room'
like (Keys elements rolls keys) (RollOver bs) part room ok room' = absurd ok
like (Keys elements rolls keys) Absent part room ok room' = absurd room
like (Keys elements rolls keys) (Values bs) part room ok room' = absurd room
like (Keys elements rolls keys) (Motions bs) part room ok room' = absurd room

-- the motions read are those of the part
motions_read : (m : MainItem) (us : List Usage) (i : ℕ) (form : Form) (part : ControlState)
    → HasRoom (controls_of_form form) part → InPart form part
    → form_motions i form (motion_state form (element_numbers m us form part)) ≡ form_motions i form part
motions_read m us i NoControls part room ok = refl
motions_read m us i (Keys elements rolls keys) part room ok = refl
motions_read m us i (Elements Relative least greatest usages) (Motions ms) room ok =
    ap (λ (l : List ℤ). motions_of i usages (Motions l)) (motions_back least greatest ms ok)
motions_read m us i (Elements Relative least greatest usages) Absent room ok = absurd room
motions_read m us i (Elements Relative least greatest usages) (Switches ps) room ok = absurd room
motions_read m us i (Elements Relative least greatest usages) (Values ps) room ok = absurd room
motions_read m us i (Elements Relative least greatest usages) (RollOver ps) room ok = absurd room
motions_read m us i (Elements Switch least greatest usages) (Switches ps) room ok = refl
motions_read m us i (Elements Switch least greatest usages) Absent room ok = absurd room
motions_read m us i (Elements Switch least greatest usages) (Values ps) room ok = absurd room
motions_read m us i (Elements Switch least greatest usages) (Motions ps) room ok = absurd room
motions_read m us i (Elements Switch least greatest usages) (RollOver ps) room ok = absurd room
motions_read m us i (Elements Value least greatest usages) (Values ps) room ok = refl
motions_read m us i (Elements Value least greatest usages) Absent room ok = absurd room
motions_read m us i (Elements Value least greatest usages) (Switches ps) room ok = absurd room
motions_read m us i (Elements Value least greatest usages) (Motions ps) room ok = absurd room
motions_read m us i (Elements Value least greatest usages) (RollOver ps) room ok = absurd room
motions_read m us i (Elements NullValue least greatest usages) (Values ps) room ok = refl
motions_read m us i (Elements NullValue least greatest usages) Absent room ok = absurd room
motions_read m us i (Elements NullValue least greatest usages) (Switches ps) room ok = absurd room
motions_read m us i (Elements NullValue least greatest usages) (Motions ps) room ok = absurd room
motions_read m us i (Elements NullValue least greatest usages) (RollOver ps) room ok = absurd room

-- a control state that stays tells nothing
same_switches : (i j : ℕ) (us : List Usage) (bs : List Bool)
    → element_list_events (λ k u (p : Bool × Bool). switch_event (control_at i k) u p.0 p.1) j us (zip bs bs) ≡ []
same_switches i j [] bs = refl
same_switches i j (u ∷ us) [] = refl
same_switches i j (u ∷ us) (true ∷ bs) = same_switches i (j + 1) us bs
same_switches i j (u ∷ us) (false ∷ bs) = same_switches i (j + 1) us bs

same_values : (i j : ℕ) (us : List Usage) (bs : List (Option ℤ))
    → element_list_events (λ k u (p : Option ℤ × Option ℤ). value_event (control_at i k) u p.0 p.1) j us (zip bs bs) ≡ []
same_values i j [] bs = refl
same_values i j (u ∷ us) [] = refl
same_values i j (u ∷ us) (None ∷ bs) = same_values i (j + 1) us bs
same_values i j (u ∷ us) (Some v ∷ bs) =
    let same : int_eq v v ≡ true = (Decides-int_eq v v).1 refl in
    ap (λ (b : Bool). cond b [] (event.Value (control_at i j) u v ∷ [])
    ++ element_list_events (λ k u (p : Option ℤ × Option ℤ). value_event (control_at i k) u p.0 p.1) (j + 1) us
    (zip bs bs)) same ∙ same_values i (j + 1) us bs

pub same_state : (i : ℕ) (form : Form) (state : ControlState) → change_events i form state state ≡ []
same_state i NoControls state = refl
same_state i (Keys elements rolls keys) state = same_keys i _ state
same_state i (Elements kind least greatest us) (Switches bs) = same_switches i 0 us bs
same_state i (Elements kind least greatest us) (Values bs) = same_values i 0 us bs
same_state i (Elements kind least greatest us) Absent = refl
same_state i (Elements kind least greatest us) (Motions bs) = refl
same_state i (Elements kind least greatest us) (RollOver bs) = refl

no_motion : (i : ℕ) (form : Form) → form_motions i form Absent ≡ []
no_motion i NoControls = refl
no_motion i (Elements kind least greatest us) = refl
no_motion i (Keys elements rolls keys) = refl

-- the empty code of an Input array
code_at : (reports : List Report) (ms : List MainItem) (ess : List (List Entry)) (i : ℕ) (m : MainItem) (es : List Entry) → slice_get ms i ≡ Some m → slice_get ess i ≡ Some es → empty_codes_from reports ms ess ≡ true → has_empty_code reports m es ≡ true
code_at reports [] ess i m es h k all = absurd (cc)
code_at reports (x ∷ ms) [] i m es h k all = absurd (cc)
code_at reports (x ∷ ms) (y ∷ ess) zero m es h k all =
    let e : x ≡ m = cc in
    let f : y ≡ es = cc in
    let first = (both_true (has_empty_code reports x y) (empty_codes_from reports ms ess) all).0 in
    subst (λ (n : MainItem). has_empty_code reports n es ≡ true) e (subst (λ (fs : List Entry). has_empty_code reports x fs ≡ true) f first)
code_at reports (x ∷ ms) (y ∷ ess) (suc i) m es h k all = code_at reports ms ess i m es h k ((both_true (has_empty_code reports x y) (empty_codes_from reports ms ess) all).1)

array_code : (reports : List Report) (m : MainItem) (es : List Entry) → has_empty_code reports m es ≡ true → is_input reports m.report ≡ true → m.shape ≡ Array → is_some (empty_number m (usage_list es)) ≡ true
array_code reports m es all input shape =
    let array : is_array m.shape ≡ true = ap is_array shape in
    let test : (is_input reports m.report && is_array m.shape) ≡ true = ap (λ (t : Bool). t && is_array m.shape) input ∙ array in
    sym (ap (λ (t : Bool). cond t (is_some (empty_number m (usage_list es))) true) test) ∙ all

-- What reading the bytes of a part makes of one item, and tells of it.
pub record ReadsItem (layout : Contents) (r : ℕ) (bytes : List ℕ) (i : ℕ) (item : Item)
    (state part : ControlState) : Type 0 where
  pub view : state_after_report_at layout r bytes i state ≡ view_item_after r item state part
  pub events : events_of_report_at layout r bytes i state
      ≡ change_events i item.form state (view_item_after r item state part)
      ++ form_motions i item.form (part_of r item part)

-- an item with data elements in the report
data_item : (layout : Contents) (r i : ℕ) (m : MainItem) (es : List Entry) (state part : ControlState) (vs : List ℤ)
    → IsLayout layout → IsInput layout r → IsData layout r i m → slice_get layout.entries i ≡ Some es
    → has_empty_codes layout ≡ true → vs ≡ element_numbers m (usage_list es) (form_of m (usage_list es) m.shape) part
    → HasRoom (controls_of_form (form_of m (usage_list es) m.shape)) state
    → InView (form_of m (usage_list es) m.shape) state
    → HasRoom (controls_of_form (form_of m (usage_list es) m.shape)) part
    → InPart (form_of m (usage_list es) m.shape) part
    → (state_after_numbers_at layout i m state vs ≡ seen_state state part)
    × (events_of_numbers_at layout i m state (state_after_numbers_at layout i m state vs) vs
    ≡ change_events i (form_of m (usage_list es) m.shape) state (seen_state state part)
    ++ form_motions i (form_of m (usage_list es) m.shape) part)
data_item layout r i m es state part vs laid input d entries codes numbers room ok room' ok' = (read, told)
  where
    us : List Usage
    us = usage_list es

    form : Form
    form = form_of m us m.shape

    listed : list_at layout i ≡ us
    listed = list_at-is layout i es entries

    at_form : form_at (items_of layout) i ≡ form
    at_form = form_of_item layout r i m laid input d ∙ ap (λ (l : List Usage). form_of m l m.shape) listed

    item_is_input : is_input layout.reports m.report ≡ true
    item_is_input = ap (is_input layout.reports) d.in_report ∙ input

    part_is : IsPart m us form part
    part_is = is_part m us m.shape part (laid.elements i m d.listed) (array_code layout.reports m es (code_at layout.reports layout.items layout.entries i m es d.listed entries codes) item_is_input) room' ok'

    read_is : state_after_numbers_at layout i m state vs ≡ read_state m us form state (element_numbers m us form part)
    read_is = ap (λ (l : List Usage). read_state m l (form_at (items_of layout) i) state vs) listed ∙ ap (λ (f : Form). read_state m us f state vs) at_form ∙ ap (read_state m us form state) numbers

    read : state_after_numbers_at layout i m state vs ≡ seen_state state part
    read = read_is ∙ reads_back m us form state part part_is (like form state part room ok room')

    told : events_of_numbers_at layout i m state (state_after_numbers_at layout i m state vs) vs
        ≡ change_events i form state (seen_state state part) ++ form_motions i form part
    told =
        ap (λ (c : ControlState). events_of_numbers_at layout i m state c vs) read
        ∙ ap (λ (f : Form). change_events i f state (seen_state state part)
        ++ form_motions i f (motion_state f vs)) at_form
        ∙ ap (λ (l : List ℤ). change_events i form state (seen_state state part)
        ++ form_motions i form (motion_state form l)) numbers
        ∙ ap (λ (l : List Event). change_events i form state (seen_state state part) ++ l) (motions_read m us i form part room' ok')

-- any item of the layout
pub reads_item : (layout : Contents) (r i : ℕ) (m : MainItem) (es : List Entry) (bytes : List ℕ)
    (state part : ControlState) → IsLayout layout → IsInput layout r → has_empty_codes layout ≡ true
    → slice_get layout.items i ≡ Some m → slice_get layout.entries i ≡ Some es
    → (IsData layout r i m
    → item_numbers layout bytes m ≡ element_numbers m (usage_list es) (form_of m (usage_list es) m.shape) part)
    → HasRoom (controls_of_form (item_of layout m es).form) state → InView (item_of layout m es).form state
    → HasRoom (controls_of_form (item_of layout m es).form) part → InPart (item_of layout m es).form part
    → ReadsItem layout r bytes i (item_of layout m es) state part
reads_item layout r i m es bytes state part laid input codes listed entries numbers room ok room' ok' = by_data (nat_eq m.report r) (is_padding m.shape) refl refl
  where
    item : Item
    item = item_of layout m es

    us : List Usage
    us = usage_list es

    vs : List ℤ
    vs = item_numbers layout bytes m

    read_is : state_after_report_at layout r bytes i state
        ≡ cond (is_data_in r m) (state_after_numbers_at layout i m state vs) state
    read_is =
        ap (λ (o : Option MainItem). elim o as
        (λ _. ControlState) [
          | None ↦ state
          | Some x ↦
              cond (is_data_in r x) (state_after_numbers_at layout i x state (item_numbers layout bytes x)) state
        ]) listed

    told_is : events_of_report_at layout r bytes i state
        ≡ cond (is_data_in r m)
        (events_of_numbers_at layout i m state (state_after_numbers_at layout i m state vs) vs) []
    told_is =
        ap (λ (o : Option MainItem). elim o as
        (λ _. List Event) [
          | None ↦ []
          | Some x ↦
              cond (is_data_in r x)
              (events_of_numbers_at layout i x state
              (state_after_numbers_at layout i x state (item_numbers layout bytes x))
              (item_numbers layout bytes x)) []
        ]) listed

    in_report : (m.report ≡ r) → item ≡ input_item m.report (report_bytes layout m.report) (form_of m us m.shape)
    in_report e =
        let here : is_input layout.reports m.report ≡ true = ap (is_input layout.reports) e ∙ input in
        ap (λ (b : Bool). let a : Item = input_item m.report (report_bytes layout m.report) (form_of m us m.shape) in let z : Item = no_item in cond b a z) here

    is_here : (m.report ≡ r) → is_of r item ≡ true
    is_here e = let same : nat_eq m.report r ≡ true = grind (arith, nat_tests) in ap (is_of r) (in_report e) ∙ same

    is_there : (m.report ≡ r → ⊥) → is_of r item ≡ false
    is_there ne = by_input (is_input layout.reports m.report)
      where
        by_input : (b : Bool) → is_of r (let a : Item = input_item m.report (report_bytes layout m.report) (form_of m us m.shape) in let z : Item = no_item in cond b a z) ≡ false
        by_input true = grind (arith, nat_tests)
        by_input false = refl

    there_data : IsData layout r i m → is_data_in r m ≡ true → ReadsItem layout r bytes i item state part
    there_data d e =
        let formed : item.form ≡ form_of m us m.shape = form_in_input layout r m es input d.in_report in
        let both = data_item layout r i m es state part vs laid input d entries codes (numbers d)
        (subst (λ (f : Form). HasRoom (controls_of_form f) state) formed room)
        (subst (λ (f : Form). InView f state) formed ok)
        (subst (λ (f : Form). HasRoom (controls_of_form f) part) formed room')
        (subst (λ (f : Form). InPart f part) formed ok')
        in
        let here = is_here d.in_report in
        let sees : view_item_after r item state part ≡ seen_state state part =
        ap (λ (b : Bool). cond b (seen_state state part) state) here in
        let its_part : part_of r item part ≡ part = ap (λ (b : Bool). cond b part Absent) here in
        record {
          view = read_is ∙ ap (λ (b : Bool). cond b (state_after_numbers_at layout i m state vs) state) e ∙ both.0
              ∙ sym sees;
          events = told_is
              ∙ ap (λ (b : Bool). cond b
              (events_of_numbers_at layout i m state (state_after_numbers_at layout i m state vs) vs) []) e
              ∙ both.1
              ∙ sym (ap
              (λ (f : Form). change_events i f state (view_item_after r item state part)
              ++ form_motions i f (part_of r item part)) formed
              ∙ ap (λ (c : ControlState). change_events i (form_of m us m.shape) state c
              ++ form_motions i (form_of m us m.shape) (part_of r item part)) sees
              ∙ ap (λ (c : ControlState). change_events i (form_of m us m.shape) state (seen_state state part)
              ++ form_motions i (form_of m us m.shape) c) its_part);
        }

    stays : is_data_in r m ≡ false → view_item_after r item state part ≡ state
        → form_motions i item.form (part_of r item part) ≡ [] → ReadsItem layout r bytes i item state part
    stays e sees quiet = record {
      view = read_is ∙ ap (λ (b : Bool). cond b (state_after_numbers_at layout i m state vs) state) e ∙ sym sees;
      events = told_is
          ∙ ap (λ (b : Bool). cond b
          (events_of_numbers_at layout i m state (state_after_numbers_at layout i m state vs) vs) []) e
          ∙ sym (ap
          (λ (c : ControlState). change_events i item.form state c
          ++ form_motions i item.form (part_of r item part)) sees
          ∙ ap (λ (l : List Event). l ++ form_motions i item.form (part_of r item part)) (same_state i item.form state)
          ∙ quiet);
    }

    other : is_data_in r m ≡ false → (m.report ≡ r → ⊥) → ReadsItem layout r bytes i item state part
    other e ne =
        let there = is_there ne in
        stays e (ap (λ (b : Bool). cond b (seen_state state part) state) there)
        (ap (λ (b : Bool). form_motions i item.form (cond b part Absent)) there ∙ no_motion i item.form)

    padded : is_data_in r m ≡ false → m.report ≡ r → is_padding m.shape ≡ true → ReadsItem layout r bytes i item state part
    padded e at_r pads =
        let none : item.form ≡ NoControls = form_in_input layout r m es input at_r ∙ no_controls m.shape pads in
        stays e (ap (λ (b : Bool). cond b (seen_state state part) state) (is_here at_r)
        ∙ vacant part (subst (λ (f : Form). HasRoom (controls_of_form f) part) none room'))
        (ap (λ (f : Form). form_motions i f (part_of r item part)) none)
      where
        no_controls : (shape : Shape) → is_padding shape ≡ true → form_of m us shape ≡ NoControls
        no_controls Padding h = refl
        no_controls Variable h = absurd (cc)
        no_controls Array h = absurd (cc)

        vacant : (part : ControlState) → HasRoom (controls_of_form NoControls) part → seen_state state part ≡ state
        vacant Absent h = refl
        vacant (Switches ps) h = absurd h
        vacant (Values ps) h = absurd h
        vacant (Motions ps) h = absurd h
        vacant (RollOver ps) h = absurd h

    by_data : (a p : Bool) → nat_eq m.report r ≡ a → is_padding m.shape ≡ p → ReadsItem layout r bytes i item state part
    by_data true false at_r data_ = let is : is_data_in r m ≡ true = rw (at_r, data_) refl in there_data (data_if layout r i m listed is) is
    by_data true true at_r pads = padded (rw (at_r, pads) refl) (grind (arith, nat_tests)) pads
    by_data false p not_r shape = other (rw not_r refl) (λ same. grind (arith, nat_tests))

-- the whole list
read_all : (layout : Contents) (r : ℕ) (bytes : List ℕ) (i : ℕ) (items : List Item) (states parts : List ControlState)
    → length states ≡ length items → length parts ≡ length items
    → ((k : ℕ) (item : Item) (state part : ControlState) → slice_get items k ≡ Some item
    → slice_get states k ≡ Some state → slice_get parts k ≡ Some part → ReadsItem layout r bytes (i + k) item state part)
    → (view_from_item layout r bytes i states ≡ by_item (view_item_after r) items states parts)
    × (events_from_item layout r bytes i states
    ≡ events_from i r items states (by_item (view_item_after r) items states parts) parts)
read_all layout r bytes i [] [] [] h k element_list_events = (refl, refl)
read_all layout r bytes i [] (c ∷ states) parts h k element_list_events = absurd (omega arith)
read_all layout r bytes i [] [] (p ∷ parts) h k element_list_events = absurd (omega arith)
read_all layout r bytes i (item ∷ items) [] parts h k element_list_events = absurd (omega arith)
read_all layout r bytes i (item ∷ items) (c ∷ states) [] h k element_list_events = absurd (omega arith)
read_all layout r bytes i (item ∷ items) (c ∷ states) (p ∷ parts) h k element_list_events =
    let zero_ : i + 0 ≡ i = omega arith in
    let first : ReadsItem layout r bytes i item c p = let P : ℕ → Type 0 =
    λ n. ReadsItem layout r bytes n item c p in subst P zero_ (element_list_events 0 item c p refl refl refl) in
    let rest = read_all layout r bytes (i + 1) items states parts (omega arith) (omega arith)
    (λ j it state part g f e. let next : i + suc j ≡ (i + 1) + j = omega arith in let P : ℕ → Type 0 =
    λ n. ReadsItem layout r bytes n it state part in subst P next (element_list_events (suc j) it state part g f e))
    in (
      ap (λ (x : ControlState). x ∷ view_from_item layout r bytes (i + 1) states) first.view
          ∙ ap (λ (xs : List ControlState). view_item_after r item c p ∷ xs) rest.0,
      ap (λ (x : List Event). x ++ events_from_item layout r bytes (i + 1) states) first.events
          ∙ ap (λ (x : List Event).
          (change_events i item.form c (view_item_after r item c p) ++ form_motions i item.form (part_of r item p))
          ++ x) rest.1,
    )

-- a view that sees parts suits the items
seen_room : (form : Form) (state part : ControlState) → HasRoom (controls_of_form form) state → InView form state
    → HasRoom (controls_of_form form) part → InPart form part
    → HasRoom (controls_of_form form) (seen_state state part) × InView form (seen_state state part)
seen_room form state Absent room ok room' ok' = (room, ok)
seen_room form state (Motions ms) room ok room' ok' = (room, ok)
seen_room form state (RollOver ps) room ok room' ok' = (room, ok)
seen_room NoControls state (Switches ps) room ok room' ok' = absurd room'
seen_room (Elements kind least greatest us) state (Switches ps) room ok room' ok' = (room', tt)
seen_room (Keys elements rolls keys) state (Switches ps) room ok room' ok' = (room', ok'.1)
seen_room NoControls state (Values vs) room ok room' ok' = absurd room'
seen_room (Elements kind least greatest us) state (Values vs) room ok room' ok' = (room', tt)
seen_room (Keys elements rolls keys) state (Values vs) room ok room' ok' = absurd room'

pub seen_is_view : SeenIsView
seen_is_view items r view parts fits shows =
    suits_by InView (view_item_after r) items view parts fits.one_each shows.one_each at_item
  where
    by_report : (b : Bool) (form : Form) (state part : ControlState) → HasRoom (controls_of_form form) state
        → InView form state
        → HasRoom (controls_of_form form) part → InPart form part
        → HasRoom (controls_of_form form) (cond b (seen_state state part) state)
        × InView form (cond b (seen_state state part) state)
    by_report true form state part room ok room' ok' = seen_room form state part room ok room' ok'
    by_report false form state part room ok room' ok' = (room, ok)

    at_item : (i : ℕ) (item : Item) (a b : ControlState) → slice_get items i ≡ Some item → slice_get view i ≡ Some a
        → slice_get parts i ≡ Some b
        → HasRoom (controls_of_form item.form) (view_item_after r item a b)
        × InView item.form (view_item_after r item a b)
    at_item i item a b h g k = by_report (is_of r item) item.form a b (fits.room i item a h g) (fits.suits i item a h g) (shows.room i item b h k) (shows.suits i item b h k)

-- every part is read back
pub parts_back : PartsAreReadBack
parts_back layout r parts bytes view shows fits = record { report = names_report layout r (part_numbers layout parts) bytes shows.laid shows.input shows.are_bytes shows.encoding; view = all.0; events = all.1 }
  where
    numbers : (i : ℕ) (m : MainItem) (es : List Entry) (part : ControlState) → slice_get layout.entries i ≡ Some es
        → slice_get parts i ≡ Some part → IsData layout r i m
        → item_numbers layout bytes m ≡ element_numbers m (usage_list es) (form_of m (usage_list es) m.shape) part
    numbers i m es part entries there d =
        shows.encoding.shows.elements i m (slice_get_within layout.items i m d.listed) d
        ∙ state_numbers layout parts i part there ∙ numbers_at-is layout i m es part d.listed entries

    item_there : (i : ℕ) (m : MainItem) (es : List Entry) (item : Item) (state part : ControlState)
        → slice_get layout.items i ≡ Some m → slice_get layout.entries i ≡ Some es → item_of layout m es ≡ item
        → slice_get (items_of layout) i ≡ Some item → slice_get view i ≡ Some state → slice_get parts i ≡ Some part → ReadsItem layout r bytes i item state part
    item_there i m es item state part listed entries is h g k =
        let P : Item → Type 0 =
        λ it. HasRoom (controls_of_form it.form) state → InView it.form state
        → HasRoom (controls_of_form it.form) part → InPart it.form part
        → ReadsItem layout r bytes i it state part in
        let read : P (item_of layout m es) = reads_item layout r i m es bytes state part shows.laid shows.input shows.empty_codes listed entries (numbers i m es part entries k) in
        subst P is read (fits.room i item state h g) (fits.suits i item state h g) (shows.fits.room i item part h k) (shows.fits.suits i item part h k)

    element_list_events : (i : ℕ) (item : Item) (state part : ControlState) → slice_get (items_of layout) i ≡ Some item
        → slice_get view i ≡ Some state → slice_get parts i ≡ Some part → ReadsItem layout r bytes i item state part
    element_list_events i item state part h g k =
        let within : i < length layout.items = omega (arith, slice_get_within (items_of layout) i item h, items_of-length layout shows.laid) in
        let m = got layout.items i within in
        let es = got layout.entries i (omega (arith, shows.laid.entries_there)) in
        let there = items_from-at layout layout.items layout.entries i m.0 es.0 m.1 es.1 in
        item_there i m.0 es.0 item state part m.1 es.1 (same_item (item_of layout m.0 es.0) item i there h) h g k
      where
        same_item : (a b : Item) (i : ℕ) → slice_get (items_of layout) i ≡ Some a → slice_get (items_of layout) i ≡ Some b → a ≡ b
        same_item a b i h k = cc

    all : (view_from_item layout r bytes 0 view ≡ by_item (view_item_after r) (items_of layout) view parts)
        × (events_from_item layout r bytes 0 view
        ≡ events_from 0 r (items_of layout) view (by_item (view_item_after r) (items_of layout) view parts) parts)
    all = read_all layout r bytes 0 (items_of layout) view parts fits.one_each shows.fits.one_each
        (λ k item state part h g f. let P : ℕ → Type 0 =
        λ n. ReadsItem layout r bytes n item state part in
        subst P (sym (zero-add k)) (element_list_events k item state part h g f))

-- every part that is sent is taken
pub parts_taken : PartsAreTaken
parts_taken layout r parts bytes before out (Err fault) after told shows fits takes =
    let back = parts_back layout r parts bytes before shows fits in
    absurd (named_not (report_named layout bytes) back.report takes.0)
  where
    named_not : (o : Result ℕ ReportFault) → o ≡ Ok r → o ≡ Err fault → ⊥
    named_not o e f = cc
parts_taken layout r parts bytes before out (Ok done) after told shows fits takes =
    let back = parts_back layout r parts bytes before shows fits in
    let same : takes.0 ≡ r = one_report (report_named layout bytes) takes.0 takes.1 back.report in
    record {
      accepted = refl;
      view = takes.2 ∙ ap (λ (n : ℕ). read_view layout n bytes before) same ∙ back.view;
      events = takes.3 ∙ ap (λ (n : ℕ). out ++ read_events layout n bytes before) same ∙ ap (λ (l : List Event). out ++ l) back.events;
    }
  where
    one_report : (o : Result ℕ ReportFault) (n : ℕ) → o ≡ Ok n → o ≡ Ok r → n ≡ r
    one_report o n e f = cc
