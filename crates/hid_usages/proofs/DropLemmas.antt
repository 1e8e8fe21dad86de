-- The motion of a part that is dropped, item by item, and how much of it there is at most.
use Rattle.std.proofs.Common.{◌≡◌, ℕ, ◌+◌, ◌<◌, ◌≤◌, Bool, true, false, cond, List, [], ◌∷◌, ◌++◌, length, length-append, append-nil, drop, map, Option, Some, None, ℤ, pos, refl, sym, ap, ◌∙◌, ◌⊎◌, inl, inr, arith}
use Rattle.std.specs.List.{slice_get, zip}
use Rattle.std.specs.Option.{unwrap_or}
use Rattle.std.specs.Ordering.{int_eq}
use Rattle.std.proofs.lemmas.List.{map-append}
use Rattle.hid_report_descriptor.specs.declared.usage.Usage.{Usage}
use Rattle.hid_layout.specs.declared.control.Controls.TheVariants as head
use Rattle.hid_layout.specs.declared.control.ControlId.{ControlId}
use Rattle.hid_layout.specs.declared.control.ControlKind.{ControlKind}
use Rattle.hid_layout.specs.declared.control.ControlKind.TheVariants.{Switch, Value, NullValue, Relative}
use Rattle.hid_layout.specs.Controls.{Form, NoControls, Elements, Keys, Item, form_at, controls_of_form, events_in, max_events}
use Rattle.hid_snapshots.specs.declared.control_state.ControlState.{ControlState}
use Rattle.hid_snapshots.specs.declared.control_state.ControlState.TheVariants.{Absent, Switches, Values, Motions, RollOver}
use Rattle.hid_snapshots.specs.declared.event.Event.{Event}
use Rattle.hid_snapshots.specs.declared.event.Event.TheVariants as event
use Rattle.hid_snapshots.specs.ControlStates.{HasRoom, InView, InPart, FitControlStates}
use Rattle.hid_snapshots.specs.Events.{control_at, element_list_events, switch_event, value_event, motion_event, up_event, down_event, ups, downs, key_usages, element_events, key_events, change_events}
use Rattle.hid_snapshots.specs.Parts.{is_of, item_at}
use Rattle.hid_snapshots.specs.Snapshots.{state_at, motion_in}
use Rattle.hid_snapshots.specs.Views.{as_dropped, form_motions, part_of, events_from, drops_between}
use Rattle.hid_snapshots.proofs.ItemLemmas.{got, form_at-is}
use Rattle.hid_usages.specs.Dropping.{motions_in, drop_event, drop_events, item_drop_events, drops_from}
use Rattle.hid_usages.proofs.EventLemmas.{drop_at}
use Rattle.hid_usages.proofs.ViewLemmas.{each_few, element_few, change_few, suits_tail, sum_cons}

-- ---- events of changes stay, and those of motions are dropped

each_dropped : {C : Type 0} (f : ℕ → Usage → C → List Event) (j : ℕ) (us : List Usage) (cs : List C)
    → map as_dropped (element_list_events f j us cs) ≡ element_list_events (λ k u c. map as_dropped (f k u c)) j us cs
each_dropped f j [] cs = refl
each_dropped f j (u ∷ us) [] = refl
each_dropped f j (u ∷ us) (c ∷ cs) =
    map-append as_dropped (f j u c) (element_list_events f (j + 1) us cs)
    ∙ ap (λ (es : List Event). map as_dropped (f j u c) ++ es) (each_dropped f (j + 1) us cs)

each_stays : {C : Type 0} (f : ℕ → Usage → C → List Event)
    → ((j : ℕ) (u : Usage) (c : C) → map as_dropped (f j u c) ≡ f j u c) → (j : ℕ) (us : List Usage) (cs : List C)
    → map as_dropped (element_list_events f j us cs) ≡ element_list_events f j us cs
each_stays f same j [] cs = refl
each_stays f same j (u ∷ us) [] = refl
each_stays f same j (u ∷ us) (c ∷ cs) =
    map-append as_dropped (f j u c) (element_list_events f (j + 1) us cs)
    ∙ ap (λ (es : List Event). es ++ map as_dropped (element_list_events f (j + 1) us cs)) (same j u c)
    ∙ ap (λ (es : List Event). f j u c ++ es) (each_stays f same (j + 1) us cs)

switch_stays : (c : ControlId) (u : Usage) (p q : Bool) → map as_dropped (switch_event c u p q) ≡ switch_event c u p q
switch_stays c u true true = refl
switch_stays c u true false = refl
switch_stays c u false true = refl
switch_stays c u false false = refl

value_stays : (c : ControlId) (u : Usage) (p q : Option ℤ) → map as_dropped (value_event c u p q) ≡ value_event c u p q
value_stays c u None None = refl
value_stays c u None (Some w) = refl
value_stays c u (Some v) None = refl
value_stays c u (Some v) (Some w) = by_same (int_eq v w)
  where
    by_same : (b : Bool) → map as_dropped (cond b [] (event.Value c u w ∷ [])) ≡ cond b [] (event.Value c u w ∷ [])
    by_same true = refl
    by_same false = refl

up_stays : (c : ControlId) (u : Usage) (p q : Bool) → map as_dropped (up_event c u p q) ≡ up_event c u p q
up_stays c u true true = refl
up_stays c u true false = refl
up_stays c u false true = refl
up_stays c u false false = refl

down_stays : (c : ControlId) (u : Usage) (p q : Bool) → map as_dropped (down_event c u p q) ≡ down_event c u p q
down_stays c u true true = refl
down_stays c u true false = refl
down_stays c u false true = refl
down_stays c u false false = refl

element_stays : (i : ℕ) (us : List Usage) (b a : ControlState)
    → map as_dropped (element_events i us b a) ≡ element_events i us b a
element_stays i us (Switches bs) (Switches xs) =
    each_stays _ (λ j u p. switch_stays (control_at i j) u p.0 p.1) 0 us (zip bs xs)
element_stays i us (Switches bs) Absent = refl
element_stays i us (Switches bs) (Values xs) = refl
element_stays i us (Switches bs) (Motions xs) = refl
element_stays i us (Switches bs) (RollOver xs) = refl
element_stays i us (Values bs) (Values xs) = each_stays _ (λ j u p. value_stays (control_at i j) u p.0 p.1) 0 us (zip bs xs)
element_stays i us (Values bs) Absent = refl
element_stays i us (Values bs) (Switches xs) = refl
element_stays i us (Values bs) (Motions xs) = refl
element_stays i us (Values bs) (RollOver xs) = refl
element_stays i us Absent a = refl
element_stays i us (Motions bs) a = refl
element_stays i us (RollOver bs) a = refl

key_stays : (i : ℕ) (us : List Usage) (b a : ControlState)
    → map as_dropped (key_events i us b a) ≡ key_events i us b a
key_stays i us (Switches bs) (Switches xs) =
    map-append as_dropped (ups i us bs xs) (downs i us bs xs)
    ∙ ap (λ (es : List Event). es ++ map as_dropped (downs i us bs xs)) (each_stays _ (λ j u p. up_stays (control_at i j) u p.0 p.1) 0 us (zip bs xs))
    ∙ ap (λ (es : List Event). ups i us bs xs ++ es) (each_stays _ (λ j u p. down_stays (control_at i j) u p.0 p.1) 0 us (zip bs xs))
key_stays i us (Switches bs) Absent = refl
key_stays i us (Switches bs) (Values xs) = refl
key_stays i us (Switches bs) (Motions xs) = refl
key_stays i us (Switches bs) (RollOver xs) = refl
key_stays i us Absent a = refl
key_stays i us (Values bs) a = refl
key_stays i us (Motions bs) a = refl
key_stays i us (RollOver bs) a = refl

change_stays : (i : ℕ) (form : Form) (b a : ControlState)
    → map as_dropped (change_events i form b a) ≡ change_events i form b a
change_stays i NoControls b a = refl
change_stays i (Elements kind least greatest us) b a = element_stays i us b a
change_stays i (Keys elements rolls keys) b a = key_stays i (key_usages keys) b a

-- without motions nothing is told
none_dropped : (i j : ℕ) (us : List Usage) → element_list_events (λ k u m. drop_event (control_at i k) u m) j us [] ≡ []
none_dropped i j [] = refl
none_dropped i j (u ∷ us) = refl

told_dropped : (i : ℕ) (form : Form) (part : ControlState)
    → map as_dropped (form_motions i form part) ≡ item_drop_events i form part
told_dropped i NoControls part = refl
told_dropped i (Elements kind least greatest us) (Motions ms) =
    each_dropped (λ j u m. motion_event (control_at i j) u m) 0 us ms
told_dropped i (Elements kind least greatest us) Absent = sym (none_dropped i 0 us)
told_dropped i (Elements kind least greatest us) (Switches ps) = sym (none_dropped i 0 us)
told_dropped i (Elements kind least greatest us) (Values vs) = sym (none_dropped i 0 us)
told_dropped i (Elements kind least greatest us) (RollOver ps) = sym (none_dropped i 0 us)
told_dropped i (Keys elements rolls keys) part = refl

all_dropped : (i r : ℕ) (items : List Item) (bs xs ps : List ControlState)
    → map as_dropped (events_from i r items bs xs ps) ≡ drops_from i r items bs xs ps
all_dropped i r [] bs xs ps = refl
all_dropped i r (item ∷ items) [] xs ps = refl
all_dropped i r (item ∷ items) (b ∷ bs) [] ps = refl
all_dropped i r (item ∷ items) (b ∷ bs) (a ∷ xs) [] = refl
all_dropped i r (item ∷ items) (b ∷ bs) (a ∷ xs) (p ∷ ps) =
    let here : List Event = change_events i item.form b a in
    let moved : List Event = form_motions i item.form (part_of r item p) in
    let rest : List Event = events_from (i + 1) r items bs xs ps in
    map-append as_dropped (here ++ moved) rest
    ∙ ap (λ (es : List Event). es ++ map as_dropped rest) (map-append as_dropped here moved)
    ∙ ap (λ (es : List Event). (es ++ map as_dropped moved) ++ map as_dropped rest) (change_stays i item.form b a)
    ∙ ap (λ (es : List Event). (here ++ es) ++ map as_dropped rest) (told_dropped i item.form (part_of r item p))
    ∙ ap (λ (es : List Event). (here ++ item_drop_events i item.form (part_of r item p)) ++ es) (all_dropped (i + 1) r items bs xs ps)

pub drops_are : (items : List Item) (r : ℕ) (before after parts : List ControlState)
    → drops_between items r before after parts ≡ drops_from 0 r items before after parts
drops_are items r before after parts = all_dropped 0 r items before after parts

-- ---- one item more

pub drops_from-next : (items : List Item) (r : ℕ) (bs xs ps : List ControlState) (i : ℕ) (b a p : ControlState)
    → i < length items → slice_get bs i ≡ Some b → slice_get xs i ≡ Some a → slice_get ps i ≡ Some p
    → drops_from i r (drop i items) (drop i bs) (drop i xs) (drop i ps)
    ≡ (change_events i (form_at items i) b a ++ item_drop_events i (form_at items i) (part_of r (item_at items i) (state_at ps i))) ++ drops_from (i + 1) r (drop (i + 1) items) (drop (i + 1) bs) (drop (i + 1) xs) (drop (i + 1) ps)
drops_from-next items r bs xs ps i b a p within h k g =
    let item = got items i within in
    rw (drop_at items i item.0 item.1, drop_at bs i b h, drop_at xs i a k, drop_at ps i p g, form_at-is items i item.0 item.1, item.1, g) refl

-- the motion of an element
pub motion_there : (state : ControlState) (n j : ℕ) → HasRoom (head.Elements Relative (pos 0) (pos 0) n) state → j < n
    → slice_get (motions_in state) j ≡ Some (motion_in state j)
motion_there (Motions ms) n j room within =
    let m = got ms j (omega (arith, room)) in
    m.1 ∙ ap (λ (o : Option ℤ). Some (unwrap_or o (pos 0))) (sym m.1)
motion_there Absent n j room within = absurd room
motion_there (Switches ps) n j room within = absurd room
motion_there (Values vs) n j room within = absurd room
motion_there (RollOver ps) n j room within = absurd room

-- ---- how many there are

drop_one : (c : ControlId) (u : Usage) (m : ℤ) → length (drop_event c u m) ≤ 1
drop_one c u m = by_same (int_eq m (pos 0))
  where
    by_same : (b : Bool) → length (map as_dropped (cond b [] (event.Motion c u m ∷ []))) ≤ 1
    by_same true = omega arith
    by_same false = omega arith

drops_few_of : (i : ℕ) (us : List Usage) (kind : ControlKind) (least greatest : ℤ) (b a p : ControlState)
    → HasRoom (head.Elements kind least greatest (length us)) b
    → HasRoom (head.Elements kind least greatest (length us)) p
    → length (element_events i us b a) + length (drop_events i us (motions_in p)) ≤ length us
drops_few_of i us Switch least greatest b a (Switches ps) room part =
    omega (arith, element_few i us b a, ap length (none_dropped i 0 us))
drops_few_of i us Switch least greatest b a Absent room part = absurd part
drops_few_of i us Switch least greatest b a (Values vs) room part = absurd part
drops_few_of i us Switch least greatest b a (Motions ms) room part = absurd part
drops_few_of i us Switch least greatest b a (RollOver ps) room part = absurd part
drops_few_of i us Value least greatest b a (Values vs) room part =
    omega (arith, element_few i us b a, ap length (none_dropped i 0 us))
drops_few_of i us Value least greatest b a Absent room part = absurd part
drops_few_of i us Value least greatest b a (Switches ps) room part = absurd part
drops_few_of i us Value least greatest b a (Motions ms) room part = absurd part
drops_few_of i us Value least greatest b a (RollOver ps) room part = absurd part
drops_few_of i us NullValue least greatest b a (Values vs) room part =
    omega (arith, element_few i us b a, ap length (none_dropped i 0 us))
drops_few_of i us NullValue least greatest b a Absent room part = absurd part
drops_few_of i us NullValue least greatest b a (Switches ps) room part = absurd part
drops_few_of i us NullValue least greatest b a (Motions ms) room part = absurd part
drops_few_of i us NullValue least greatest b a (RollOver ps) room part = absurd part
drops_few_of i us Relative least greatest (Motions bs) a p room part =
    omega (arith, each_few _ (λ j u m. drop_one (control_at i j) u m) 0 us (motions_in p))
drops_few_of i us Relative least greatest Absent a p room part = absurd room
drops_few_of i us Relative least greatest (Switches bs) a p room part = absurd room
drops_few_of i us Relative least greatest (Values bs) a p room part = absurd room
drops_few_of i us Relative least greatest (RollOver bs) a p room part = absurd room

drops_few_in : (i : ℕ) (form : Form) (b a p : ControlState) → HasRoom (controls_of_form form) b
    → HasRoom (controls_of_form form) p
    → InView form b → InView form a → length (change_events i form b a ++ item_drop_events i form p) ≤ events_in form
drops_few_in i NoControls b a p room part ok ok' = omega arith
drops_few_in i (Elements kind least greatest us) b a p room part ok ok' =
    omega (arith, drops_few_of i us kind least greatest b a p room part, length-append (element_events i us b a) (drop_events i us (motions_in p)))
drops_few_in i (Keys elements rolls keys) b a p room part ok ok' =
    omega (arith, change_few i (Keys elements rolls keys) b a ok ok', ap length (append-nil (key_events i (key_usages keys) b a)))

-- of an item of another report nothing is dropped
pub none_told : (i : ℕ) (form : Form) → item_drop_events i form Absent ≡ []
none_told i NoControls = refl
none_told i (Elements kind least greatest us) = none_dropped i 0 us
none_told i (Keys elements rolls keys) = refl

-- of switches and values nothing is dropped
still : (kind : ControlKind) → (kind ≡ Switch) ⊎ ((kind ≡ Value) ⊎ (kind ≡ NullValue)) → kind ≡ Relative → ⊥
still kind (inl h) e = cc
still kind (inr (inl h)) e = cc
still kind (inr (inr h)) e = cc

pub no_drops : (i : ℕ) (form : Form) (of_it : Bool) (part : ControlState) (kind : ControlKind) (least greatest : ℤ)
    (count : ℕ) → controls_of_form form ≡ head.Elements kind least greatest count
    → (kind ≡ Switch) ⊎ ((kind ≡ Value) ⊎ (kind ≡ NullValue)) → HasRoom (controls_of_form form) part
    → item_drop_events i form (cond of_it part Absent) ≡ []
no_drops i form false part kind least greatest count is kinds room = none_told i form
no_drops i form true Absent kind least greatest count is kinds room = none_told i form
no_drops i NoControls true part kind least greatest count is kinds room = refl
no_drops i (Keys elements rolls keys) true part kind least greatest count is kinds room = refl
no_drops i (Elements k least' greatest' us) true (Switches ps) kind least greatest count is kinds room =
    none_dropped i 0 us
no_drops i (Elements k least' greatest' us) true (Values vs) kind least greatest count is kinds room =
    none_dropped i 0 us
no_drops i (Elements k least' greatest' us) true (RollOver ps) kind least greatest count is kinds room =
    none_dropped i 0 us
no_drops i (Elements Switch least' greatest' us) true (Motions ms) kind least greatest count is kinds room =
    absurd room
no_drops i (Elements Value least' greatest' us) true (Motions ms) kind least greatest count is kinds room =
    absurd room
no_drops i (Elements NullValue least' greatest' us) true (Motions ms) kind least greatest count is kinds room =
    absurd room
no_drops i (Elements Relative least' greatest' us) true (Motions ms) kind least greatest count is kinds room =
    absurd (still kind kinds (cc))

drops_few_by : (of_it : Bool) (i : ℕ) (form : Form) (b a p : ControlState) → HasRoom (controls_of_form form) b
    → HasRoom (controls_of_form form) p → InView form b → InView form a
    → length (change_events i form b a ++ item_drop_events i form (cond of_it p Absent)) ≤ events_in form
drops_few_by true i form b a p room part ok ok' = drops_few_in i form b a p room part ok ok'
drops_few_by false i form b a p room part ok ok' =
    omega (
      arith,
      change_few i form b a ok ok',
      length-append (change_events i form b a) (item_drop_events i form Absent),
      ap length (none_told i form),
    )

pub drops_few : (i r : ℕ) (items : List Item) (bs xs ps : List ControlState) → FitControlStates InView items bs
    → FitControlStates InView items xs → FitControlStates InPart items ps
    → length (drops_from i r items bs xs ps) ≤ max_events items
drops_few i r [] bs xs ps fits fits' parts = omega arith
drops_few i r (item ∷ items) [] xs ps fits fits' parts = absurd (let e = fits.one_each in omega arith)
drops_few i r (item ∷ items) (b ∷ bs) [] ps fits fits' parts = absurd (let e = fits'.one_each in omega arith)
drops_few i r (item ∷ items) (b ∷ bs) (a ∷ xs) [] fits fits' parts = absurd (let e = parts.one_each in omega arith)
drops_few i r (item ∷ items) (b ∷ bs) (a ∷ xs) (p ∷ ps) fits fits' parts =
    let here : List Event = change_events i item.form b a ++ item_drop_events i item.form (part_of r item p) in
    omega (
      arith,
      sum_cons item items,
      drops_few_by (is_of r item) i item.form b a p (fits.room 0 item b refl refl) (parts.room 0 item p refl refl) (fits.suits 0 item b refl refl) (fits'.suits 0 item a refl refl),
      drops_few (i + 1) r items bs xs ps (suits_tail InView item items b bs fits) (suits_tail InView item items a xs fits') (suits_tail InPart item items p ps parts),
      length-append here (drops_from (i + 1) r items bs xs ps),
    )

pub ruleset drops = (drops_are, drops_few)
