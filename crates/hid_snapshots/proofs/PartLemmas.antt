-- What a report shows of what is kept.
use Rattle.std.proofs.Common.{◌≡◌, ℕ, zero, suc, ◌+◌, ◌<◌, ◌==◌, Bool, true, false, cond, List, [], ◌∷◌, ◌++◌, length, take, drop, Option, Some, ℤ, refl, sym, ap, ◌∙◌, arith, unwrap_or, get_or}
use Rattle.std.specs.List.{slice_get, slice_set}
use Rattle.std.proofs.lemmas.Option.{slice_get_within, slice_get-get_or}
use Rattle.hid_layout.specs.declared.control.ControlKind.TheVariants.{Switch, Value, NullValue, Relative}
use Rattle.hid_layout.specs.declared.main_item.MainItem.{MainItem}
use Rattle.hid_report_descriptor.specs.Usages.{Entry, usage_list}
use Rattle.std.proofs.lemmas.Bool.Decides.{Decides-eqb}
use Rattle.hid_snapshots.proofs.FillLemmas.{unfilled_at, fill_next, filled}
use Rattle.hid_snapshots.proofs.ItemLemmas.{got, items_from-at}
use Rattle.hid_layout.specs.Layout.{Contents}
use Rattle.hid_layout.specs.Reports.{IsLayout, report_bytes}
use Rattle.hid_layout.specs.Controls.{Form, NoControls, Elements, Keys, Item, items_of, item_of, form_of, controls_of_form, is_input, input_item, no_item}
use Rattle.hid_snapshots.specs.declared.control_state.ControlState.{ControlState}
use Rattle.hid_snapshots.specs.declared.control_state.ControlState.TheVariants.{Absent, Switches, Values, Motions, RollOver}
use Rattle.hid_snapshots.specs.ControlStates.{is_in, are_motions, HasRoom, InSnapshot, InPart, FitControlStates}
use Rattle.hid_snapshots.specs.Parts.{IsInput, item_at, is_of, by_item, HasRoomOf}

pub motion_at : (least greatest : ℤ) (ms : List ℤ) (j : ℕ) (m : ℤ) → are_motions least greatest ms → slice_get ms j ≡ Some m → is_in least greatest m ≡ true
motion_at least greatest [] j m ok h = absurd (cc)
motion_at least greatest (n ∷ ms) zero m ok h = let e : n ≡ m = cc in rw (← e) ok.0
motion_at least greatest (n ∷ ms) (suc j) m ok h = motion_at least greatest ms j m ok.1 h

-- control states put together item by item, at one place
pub by_item_at : {A : Type 0} (f : Item → ControlState → ControlState → A) (items : List Item)
    (xs bs : List ControlState) (i : ℕ) (item : Item) (a b : ControlState) → slice_get items i ≡ Some item
    → slice_get xs i ≡ Some a → slice_get bs i ≡ Some b
    → slice_get (by_item f items xs bs) i ≡ Some (f item a b)
by_item_at f [] xs bs i item a b h g k = absurd (cc)
by_item_at f (it ∷ items) [] bs i item a b h g k = absurd (cc)
by_item_at f (it ∷ items) (x ∷ xs) [] i item a b h g k = absurd (cc)
by_item_at f (it ∷ items) (x ∷ xs) (y ∷ bs) zero item a b h g k =
    let p : it ≡ item = cc in
    let q : x ≡ a = cc in
    let r : y ≡ b = cc in
    rw (p, q, r) refl
by_item_at f (it ∷ items) (x ∷ xs) (y ∷ bs) (suc i) item a b h g k = by_item_at f items xs bs i item a b h g k

pub by_item_length : {A : Type 0} (f : Item → ControlState → ControlState → A) (items : List Item)
    (xs bs : List ControlState) → length xs ≡ length items → length bs ≡ length items
    → length (by_item f items xs bs) ≡ length items
by_item_length f [] xs bs h k = refl
by_item_length f (it ∷ items) [] bs h k = absurd (omega arith)
by_item_length f (it ∷ items) (x ∷ xs) [] h k = absurd (omega arith)
by_item_length f (it ∷ items) (x ∷ xs) (y ∷ bs) h k = ap suc (by_item_length f items xs bs (omega arith) (omega arith))

pub item_at-is : (items : List Item) (i : ℕ) (item : Item) → slice_get items i ≡ Some item → item_at items i ≡ item
item_at-is items i item h = ap (λ (o : Option Item). unwrap_or o no_item) h

-- A control state of a snapshot can be copied into the part of the same item.
pub room_of : (form : Form) (state part : ControlState) → HasRoom (controls_of_form form) state
    → InSnapshot form state
    → HasRoom (controls_of_form form) part → HasRoomOf state part
room_of NoControls Absent Absent room ok room' = tt
room_of NoControls Absent (Switches bs) room ok room' = absurd room'
room_of NoControls Absent (Values bs) room ok room' = absurd room'
room_of NoControls Absent (Motions bs) room ok room' = absurd room'
room_of NoControls Absent (RollOver bs) room ok room' = absurd room'
room_of NoControls (Switches xs) part room ok room' = absurd room
room_of NoControls (Values xs) part room ok room' = absurd room
room_of NoControls (Motions xs) part room ok room' = absurd room
room_of NoControls (RollOver xs) part room ok room' = absurd room
room_of (Elements Switch least greatest us) Absent part room ok room' = absurd room
room_of (Elements Switch least greatest us) (Switches xs) Absent room ok room' = absurd room'
room_of (Elements Switch least greatest us) (Switches xs) (Switches bs) room ok room' = room' ∙ sym room
room_of (Elements Switch least greatest us) (Switches xs) (Values bs) room ok room' = absurd room'
room_of (Elements Switch least greatest us) (Switches xs) (Motions bs) room ok room' = absurd room'
room_of (Elements Switch least greatest us) (Switches xs) (RollOver bs) room ok room' = absurd room'
room_of (Elements Switch least greatest us) (Values xs) part room ok room' = absurd room
room_of (Elements Switch least greatest us) (Motions xs) part room ok room' = absurd room
room_of (Elements Switch least greatest us) (RollOver xs) part room ok room' = absurd room
room_of (Elements Value least greatest us) Absent part room ok room' = absurd room
room_of (Elements Value least greatest us) (Switches xs) part room ok room' = absurd room
room_of (Elements Value least greatest us) (Values xs) Absent room ok room' = absurd room'
room_of (Elements Value least greatest us) (Values xs) (Switches bs) room ok room' = absurd room'
room_of (Elements Value least greatest us) (Values xs) (Values bs) room ok room' = room' ∙ sym room
room_of (Elements Value least greatest us) (Values xs) (Motions bs) room ok room' = absurd room'
room_of (Elements Value least greatest us) (Values xs) (RollOver bs) room ok room' = absurd room'
room_of (Elements Value least greatest us) (Motions xs) part room ok room' = absurd room
room_of (Elements Value least greatest us) (RollOver xs) part room ok room' = absurd room
room_of (Elements NullValue least greatest us) Absent part room ok room' = absurd room
room_of (Elements NullValue least greatest us) (Switches xs) part room ok room' = absurd room
room_of (Elements NullValue least greatest us) (Values xs) Absent room ok room' = absurd room'
room_of (Elements NullValue least greatest us) (Values xs) (Switches bs) room ok room' = absurd room'
room_of (Elements NullValue least greatest us) (Values xs) (Values bs) room ok room' = room' ∙ sym room
room_of (Elements NullValue least greatest us) (Values xs) (Motions bs) room ok room' = absurd room'
room_of (Elements NullValue least greatest us) (Values xs) (RollOver bs) room ok room' = absurd room'
room_of (Elements NullValue least greatest us) (Motions xs) part room ok room' = absurd room
room_of (Elements NullValue least greatest us) (RollOver xs) part room ok room' = absurd room
room_of (Elements Relative least greatest us) Absent part room ok room' = absurd room
room_of (Elements Relative least greatest us) (Switches xs) part room ok room' = absurd room
room_of (Elements Relative least greatest us) (Values xs) part room ok room' = absurd room
room_of (Elements Relative least greatest us) (Motions xs) Absent room ok room' = absurd room'
room_of (Elements Relative least greatest us) (Motions xs) (Switches bs) room ok room' = absurd room'
room_of (Elements Relative least greatest us) (Motions xs) (Values bs) room ok room' = absurd room'
room_of (Elements Relative least greatest us) (Motions xs) (Motions bs) room ok room' = room' ∙ sym room
room_of (Elements Relative least greatest us) (Motions xs) (RollOver bs) room ok room' = absurd room'
room_of (Elements Relative least greatest us) (RollOver xs) part room ok room' = absurd room
room_of (Keys elements rolls keys) Absent part room ok room' = absurd room
room_of (Keys elements rolls keys) (Switches xs) Absent room ok room' = absurd room'
room_of (Keys elements rolls keys) (Switches xs) (Switches bs) room ok room' = room' ∙ sym room
room_of (Keys elements rolls keys) (Switches xs) (Values bs) room ok room' = absurd room'
room_of (Keys elements rolls keys) (Switches xs) (Motions bs) room ok room' = absurd room'
room_of (Keys elements rolls keys) (Switches xs) (RollOver bs) room ok room' = room' ∙ sym room
room_of (Keys elements rolls keys) (Values xs) part room ok room' = absurd room
room_of (Keys elements rolls keys) (Motions xs) part room ok room' = absurd room
room_of (Keys elements rolls keys) (RollOver xs) part room ok room' = absurd ok

-- what is known of the control states of one item
pub record Places (items : List Item) (states parts : List ControlState) (i : ℕ) : Type 0 where
  pub item : Item
  pub state : ControlState
  pub part : ControlState
  pub item_there : slice_get items i ≡ Some item
  pub state_there : slice_get states i ≡ Some state
  pub part_there : slice_get parts i ≡ Some part

pub places : (items : List Item) (states parts : List ControlState) (i : ℕ) → i < length items
    → length states ≡ length items → length parts ≡ length items → Places items states parts i
places items states parts i h a b =
    let item = got items i h in
    let state = got states i (omega arith) in
    let part = got parts i (omega arith) in
    record { item = item.0; state = state.0; part = part.0; item_there = item.1; state_there = state.1; part_there = part.1 }

-- a part that isn't shown yet
pub show_start : (f : Item → ControlState → ControlState → ControlState) (items : List Item)
    (states start now : List ControlState) (i : ℕ) (d : ControlState) → length states ≡ length items
    → length start ≡ length items
    → now ≡ take i (by_item f items states start) ++ drop i start → i < length items → length now ≡ length start → slice_get start i ≡ Some (get_or now i d)
show_start f items states start now i d lc ls so_far within ln =
    let target = by_item f items states start in
    let long : length target ≡ length start = by_item_length f items states start lc ls ∙ sym ls in
    unfilled_at target start i (get_or now i d) long (ap (λ xs. slice_get xs i) (sym so_far) ∙ slice_get-get_or now i d (omega arith))

-- one more part is shown
pub show_next : (f : Item → ControlState → ControlState → ControlState) (items : List Item)
    (states start now : List ControlState) (i : ℕ) (state d new : ControlState) → length states ≡ length items
    → length start ≡ length items
    → now ≡ take i (by_item f items states start) ++ drop i start → i < length items → slice_get states i ≡ Some state → length now ≡ length start
    → new ≡ f (item_at items i) state (get_or now i d) → slice_set now i new ≡ take (i + 1) (by_item f items states start) ++ drop (i + 1) start
show_next f items states start now i state d new lc ls so_far within state_there ln is =
    let p = places items states start i within lc ls in
    let target = by_item f items states start in
    let part = get_or now i d in
    let start_there : slice_get start i ≡ Some part = show_start f items states start now i d lc ls so_far within ln in
    let here : slice_get target i ≡ Some (f p.item state part) = by_item_at f items states start i p.item state part p.item_there state_there start_there in
    let new_is : new ≡ f p.item state part = is ∙ ap (λ (it : Item). f it state part) (item_at-is items i p.item p.item_there) in
    ap (λ xs. slice_set xs i new) so_far ∙ fill_next target start i new (here ∙ ap Some (sym new_is)) (omega arith)

pub show_all : (f : Item → ControlState → ControlState → ControlState) (items : List Item)
    (states start now : List ControlState) (i : ℕ) → length states ≡ length items → length start ≡ length items
    → now ≡ take i (by_item f items states start) ++ drop i start → i ≡ length items → now ≡ by_item f items states start
show_all f items states start now i lc ls so_far all =
    let long = by_item_length f items states start lc ls in
    so_far ∙ filled (by_item f items states start) start i (omega arith) (omega arith)

-- of a layout's items, which belong to an Input report
pub of_report : (layout : Contents) → IsLayout layout → (i r : ℕ) (m : MainItem) → slice_get layout.items i ≡ Some m → IsInput layout r → (m.report == r) ≡ is_of r (item_at (items_of layout) i)
of_report layout laid i r m h input =
    let within : i < length layout.items = slice_get_within layout.items i m h in
    let es = got layout.entries i (omega (arith, laid.entries_there)) in
    let is = items_from-at layout layout.items layout.entries i m es.0 h es.1 in
    rw (item_at-is (items_of layout) i (item_of layout m es.0) is) (by_number (m.report == r) refl es.0)
  where
    by_input : (b : Bool) → (m.report == r) ≡ false → (es : List Entry)
        → (m.report == r) ≡ is_of r (let a : Item = input_item m.report (report_bytes layout m.report) (form_of m (usage_list es) m.shape) in let z : Item = no_item in cond b a z)
    by_input true e es = refl
    by_input false e es = e

    by_number : (b : Bool) → (m.report == r) ≡ b → (es : List Entry) → (m.report == r) ≡ is_of r (item_of layout m es)
    by_number true e es =
        let same : m.report ≡ r = (Decides-eqb m.report r).0 e in
        let in_it : is_input layout.reports m.report ≡ true = ap (is_input layout.reports) same ∙ input in
        rw in_it refl
    by_number false e es = by_input (is_input layout.reports m.report) e es

-- The room of the part that is shown next.
pub show_room : (f : Item → ControlState → ControlState → ControlState) (items : List Item)
    (states start now : List ControlState) (i : ℕ) (state d : ControlState) → FitControlStates InSnapshot items states
    → FitControlStates InPart items start
    → now ≡ take i (by_item f items states start) ++ drop i start → i < length items → slice_get states i ≡ Some state → length now ≡ length start → HasRoomOf state (get_or now i d)
show_room f items states start now i state d fits fits' so_far within state_there ln =
    let item = got items i within in
    let part_there = show_start f items states start now i d fits.one_each fits'.one_each so_far within ln in
    room_of item.0.form state (get_or now i d) (fits.room i item.0 state item.1 state_there) (fits.suits i item.0 state item.1 state_there) (fits'.room i item.0 (get_or now i d) item.1 part_there)

pub of_report_at : (layout : Contents) (items : List MainItem) → items ≡ layout.items → IsLayout layout → (i r : ℕ) (default : MainItem) → i < length layout.items → IsInput layout r
    → ((get_or items i default).report == r) ≡ is_of r (item_at (items_of layout) i)
of_report_at layout items same laid i r default within input =
    ap (λ (xs : List MainItem). (get_or xs i default).report == r) same ∙ of_report layout laid i r (get_or layout.items i default) (slice_get-get_or layout.items i default within) input

-- the other way round
pub by_item_turned : {A : Type 0} (f : Item → ControlState → ControlState → A) (items : List Item)
    (xs bs : List ControlState) → by_item (λ item b a. f item a b) items bs xs ≡ by_item f items xs bs
by_item_turned f [] xs bs = refl
by_item_turned f (item ∷ items) [] [] = refl
by_item_turned f (item ∷ items) [] (b ∷ bs) = refl
by_item_turned f (item ∷ items) (a ∷ xs) [] = refl
by_item_turned f (item ∷ items) (a ∷ xs) (b ∷ bs) = ap (λ t. f item a b ∷ t) (by_item_turned f items xs bs)

-- one more control state is asked
pub called_there : {A : Type 0} (f : Item → ControlState → ControlState → A) (items : List Item)
    (xs bs : List ControlState) (i : ℕ) (a b : ControlState) → length xs ≡ length items → length bs ≡ length items
    → i < length items
    → slice_get xs i ≡ Some a → slice_get bs i ≡ Some b → slice_get (by_item f items xs bs) i ≡ Some (f (item_at items i) a b)
called_there f items xs bs i a b lx lb within h k =
    let item = got items i within in
    by_item_at f items xs bs i item.0 a b item.1 h k ∙ ap (λ (it : Item). Some (f it a b)) (sym (item_at-is items i item.0 item.1))
