-- What releases make of control states.
use Rattle.std.proofs.Common.{◌≡◌, ℕ, zero, suc, ◌+◌, ◌<◌, ◌≤◌, Bool, true, false, List, [], ◌∷◌, ◌++◌, length, take, drop, map, Option, Some, None, Result, Ok, Err, unwrap_or, refl, sym, ap, subst, ◌∙◌, arith}
use Rattle.std.specs.Option.{option_map}
use Rattle.std.specs.List.{slice_get, slice_set}
use Rattle.std.proofs.lemmas.List.{length-map}
use Rattle.std.proofs.lemmas.Option.{slice_get_within, slice_get_past}
use Rattle.hid_report_descriptor.specs.declared.usage.Usage.{Usage}
use Rattle.hid_layout.specs.declared.control.Control.{Control}
use Rattle.hid_layout.specs.declared.control.ControlId.{ControlId}
use Rattle.hid_layout.specs.declared.control.ControlKind.{ControlKind}
use Rattle.hid_layout.specs.declared.control.ControlKind.TheVariants.{Switch, Value, NullValue, Relative}
use Rattle.hid_layout.specs.Controls.{Form, NoControls, Elements, Keys, Item, Key, control_in, control_of_item, control_of_key, controls_of_form, form_at, items_of}
use Rattle.hid_snapshots.specs.declared.control_state.ControlState.{ControlState}
use Rattle.hid_snapshots.specs.declared.control_state.ControlState.TheVariants.{Absent, Switches, Values, Motions, RollOver}
use Rattle.hid_snapshots.specs.declared.change.Change.TheVariants.{Release}
use Rattle.hid_snapshots.specs.declared.fault.ChangeFault.TheVariants.{NoSuchControl}
use Rattle.hid_snapshots.specs.ControlStates.{FitsSnapshot, HasRoom, InSnapshot, are_pressable}
use Rattle.hid_snapshots.specs.Snapshots.{OrFault, change_at, changed_state, state_at, with_pressed, with_state}
use Rattle.hid_snapshots.proofs.FillLemmas.{fill_next, filled, map_next, set_length}
use Rattle.hid_snapshots.proofs.ItemLemmas.{form_at-is, got, set_here, set_same}
use Rattle.hid_bus.specs.ReportState.{ReportState, after_change}
use Rattle.hid_device.specs.Core.{CoreState, IsSound, changed_core}
use Rattle.hidstack_device.specs.Finding.{place_count, places_of}
use Rattle.hidstack_device.specs.Releasing.{core_with_item_let_go, core_with_release, core_with_states, let_go, released_core}

-- a place past the last isn't set
set_none : {A : Type 0} (xs : List A) (i : ℕ) (x : A) → slice_get xs i ≡ None → slice_set xs i x ≡ xs
set_none [] i x e = refl
set_none (y ∷ xs) zero x e = absurd (cc)
set_none (y ∷ xs) (suc i) x e = ap (λ ys. y ∷ ys) (set_none xs i x e)

none_past : {A : Type 0} (xs : List A) (i : ℕ) → slice_get xs i ≡ None → length xs ≤ i
none_past [] i e = omega arith
none_past (y ∷ xs) zero e = absurd (cc)
none_past (y ∷ xs) (suc i) e = let past = none_past xs i e in omega (arith, past)

set_twice : {A : Type 0} (xs : List A) (i : ℕ) (x y : A) → slice_set (slice_set xs i x) i y ≡ slice_set xs i y
set_twice [] i x y = refl
set_twice (z ∷ xs) zero x y = refl
set_twice (z ∷ xs) (suc i) x y = ap (λ zs. z ∷ zs) (set_twice xs i x y)

-- the report state with these control states
abbrev with_states : ReportState → List ControlState → ReportState
with_states d states = record d { snapshot = states }

-- the report state once a change is done, or refused
abbrev with_answer : ReportState → OrFault (List ControlState) → ReportState
with_answer d (Ok states) = with_states d states
with_answer d (Err fault) = d

-- the control states once a place of an item is released, if a control stands there
abbrev released_at : List ControlState → ControlId → Form → ControlState → Option Control → OrFault (List ControlState)
released_at states c form state None = Err NoSuchControl
released_at states c form state (Some control) = with_state states c.item (changed_state control.kind (controls_of_form form) state (Release c))

-- a control of an item's elements is of their kind
kind_is : (kind : ControlKind) (o : Option Usage) (control : Control) → option_map (λ u. record { kind = kind; usage = u }) o ≡ Some control → control.kind ≡ kind
kind_is kind None control e = absurd (cc)
kind_is kind (Some u) control e = let same : record { kind = kind; usage = u } ≡ control = cc in sym (ap (λ (k : Control). k.kind) same)

no_usage : (kind : ControlKind) (o : Option Usage) → option_map {U = Control} (λ u. record { kind = kind; usage = u }) o ≡ None → o ≡ None
no_usage kind None e = refl
no_usage kind (Some u) e = absurd (cc)

-- a key is a switch
key_kind : (o : Option Key) (control : Control) → control_of_key o ≡ Some control → control.kind ≡ Switch
key_kind None control e = absurd (cc)
key_kind (Some key) control e = by_switch key.is_switch refl
  where
    by_switch : (b : Bool) → key.is_switch ≡ b → control.kind ≡ Switch
    by_switch true is = let e' = rw is at e in let same : record { kind = Switch; usage = key.usage } ≡ control = cc in sym (ap (λ (k : Control). k.kind) same)
    by_switch false is = let e' = rw is at e in absurd (cc)

-- a place of an array that is no key isn't pressed
unpressed : (keys : List Key) (ps : List Bool) (j : ℕ) → are_pressable keys ps → control_of_key (slice_get keys j) ≡ None → slice_set ps j false ≡ ps
unpressed [] [] j fit e = refl
unpressed [] (p ∷ ps) j fit e = absurd fit
unpressed (key ∷ keys) [] j fit e = absurd fit
unpressed (key ∷ keys) (true ∷ ps) zero fit e = let is = fit.0 refl in let e' = rw is at e in absurd (cc)
unpressed (key ∷ keys) (false ∷ ps) zero fit e = refl
unpressed (key ∷ keys) (p ∷ ps) (suc j) fit e = ap (λ qs. p ∷ qs) (unpressed keys ps j fit.1 e)

past_last : {A : Type 0} (us : List A) (ps : List Bool) (j : ℕ) → length ps ≡ length us → slice_get us j ≡ None → slice_set ps j false ≡ ps
past_last us ps j same none =
    let past = none_past us j none in
    let short : length ps ≤ j = omega (arith, past) in
    set_none ps j false (slice_get_past ps j short)

-- control states with the own one set are as they were
own : (d : ReportState) (i : ℕ) (state state' : ControlState) → slice_get d.snapshot i ≡ Some state → state' ≡ state → d ≡ with_states d (slice_set d.snapshot i state')
own d i state state' here same = sym (ap (with_states d) (ap (slice_set d.snapshot i) same ∙ set_same d.snapshot i state here))

-- A release clears its place, whatever stands there.
clears : (d : ReportState) (c : ControlId) (form : Form) (state : ControlState) (o : Option Control) → HasRoom (controls_of_form form) state → InSnapshot form state
    → slice_get d.snapshot c.item ≡ Some state → control_in form c.index ≡ o
    → with_answer d (released_at d.snapshot c form state o) ≡ with_states d (slice_set d.snapshot c.item (with_pressed state c.index false))
clears d c NoControls Absent None room stands here e = own d c.item Absent Absent here refl
clears d c NoControls Absent (Some control) room stands here e = absurd (cc)
clears d c (Elements Switch least greatest us) (Switches ps) None room stands here e =
    own d c.item (Switches ps) (Switches (slice_set ps c.index false)) here (ap Switches (past_last us ps c.index room (no_usage Switch (slice_get us c.index) e)))
clears d c (Elements Switch least greatest us) (Switches ps) (Some control) room stands here e = rw (kind_is Switch (slice_get us c.index) control e) refl
clears d c (Elements Value least greatest us) (Values vs) None room stands here e = own d c.item (Values vs) (Values vs) here refl
clears d c (Elements Value least greatest us) (Values vs) (Some control) room stands here e =
    rw (kind_is Value (slice_get us c.index) control e) (own d c.item (Values vs) (Values vs) here refl)
clears d c (Elements NullValue least greatest us) (Values vs) None room stands here e = own d c.item (Values vs) (Values vs) here refl
clears d c (Elements NullValue least greatest us) (Values vs) (Some control) room stands here e =
    rw (kind_is NullValue (slice_get us c.index) control e) (own d c.item (Values vs) (Values vs) here refl)
clears d c (Elements Relative least greatest us) (Motions ms) None room stands here e = own d c.item (Motions ms) (Motions ms) here refl
clears d c (Elements Relative least greatest us) (Motions ms) (Some control) room stands here e =
    rw (kind_is Relative (slice_get us c.index) control e) (own d c.item (Motions ms) (Motions ms) here refl)
clears d c (Keys elements rolls keys) (Switches ps) None room stands here e =
    own d c.item (Switches ps) (Switches (slice_set ps c.index false)) here (ap Switches (unpressed keys ps c.index stands.0 e))
clears d c (Keys elements rolls keys) (Switches ps) (Some control) room stands here e = rw (key_kind (slice_get keys c.index) control e) refl
clears d c (Keys elements rolls keys) (RollOver ps) o room stands here e = absurd stands
clears d c form state o room stands here e = absurd room

same_change : (items : List Item) (states : List ControlState) (c : ControlId) (form : Form) (state : ControlState) (o : Option Control) → form_at items c.item ≡ form
    → state_at states c.item ≡ state → change_at items states (Release c) o ≡ released_at states c form state o
same_change items states c form state None same is = refl
same_change items states c form state (Some control) same is =
    ap (λ (f : Form). with_state states c.item (changed_state control.kind (controls_of_form f) (state_at states c.item) (Release c))) same
    ∙ ap (λ (s : ControlState). with_state states c.item (changed_state control.kind (controls_of_form form) s (Release c))) is

released_of : (items : List Item) (d : ReportState) (c : ControlId) → FitsSnapshot items d.snapshot
    → after_change items d (Release c) ≡ with_states d (slice_set d.snapshot c.item (with_pressed (state_at d.snapshot c.item) c.index false))
released_of items d c fits = by_state (slice_get d.snapshot c.item) refl
  where
    by_item : (state : ControlState) → slice_get d.snapshot c.item ≡ Some state → (o : Option Item) → slice_get items c.item ≡ o
        → after_change items d (Release c) ≡ with_states d (slice_set d.snapshot c.item (with_pressed (state_at d.snapshot c.item) c.index false))
    by_item state here None none =
        let past = none_past items c.item none in
        let within = slice_get_within d.snapshot c.item state here in
        let same = fits.one_each in
        absurd (omega (arith, past, within, same))
    by_item state here (Some item) there =
        let is : state_at d.snapshot c.item ≡ state = ap (λ (o : Option ControlState). unwrap_or o Absent) here in
        ap (λ (o : Option Item). with_answer d (change_at items d.snapshot (Release c) (control_of_item c.index o))) there
        ∙ ap (with_answer d) (same_change items d.snapshot c item.form state (control_in item.form c.index) (form_at-is items c.item item there) is)
        ∙ clears d c item.form state (control_in item.form c.index) (fits.room c.item item state there here) (fits.suits c.item item state there here) here refl
        ∙ sym (ap (λ (s : ControlState). with_states d (slice_set d.snapshot c.item (with_pressed s c.index false))) is)

    by_state : (s : Option ControlState) → slice_get d.snapshot c.item ≡ s
        → after_change items d (Release c) ≡ with_states d (slice_set d.snapshot c.item (with_pressed (state_at d.snapshot c.item) c.index false))
    by_state None none =
        let past = none_past d.snapshot c.item none in
        let same = fits.one_each in
        let beyond : length items ≤ c.item = omega (arith, past, same) in
        ap (λ (o : Option Item). with_answer d (change_at items d.snapshot (Release c) (control_of_item c.index o))) (slice_get_past items c.item beyond)
        ∙ sym (ap (with_states d) (set_none d.snapshot c.item (with_pressed (state_at d.snapshot c.item) c.index false) none))
    by_state (Some state) here = by_item state here (slice_get items c.item) refl

-- A place of an item that is released isn't pressed, and nothing else changes.
pub release_is : (core : CoreState) (i j : ℕ) → IsSound core → changed_core core (Release (record { item = i; index = j })) ≡ core_with_release core i j
release_is core i j sound = ap (λ (r : ReportState). record core { reports = r }) (released_of (items_of core.layout) core.reports (record { item = i; index = j }) sound.snapshot)

-- the control state of an item of which nothing at the first places is pressed
abbrev pub first_let_go : ℕ → ControlState → ControlState
first_let_go n (Switches ps) = Switches (take n (map (λ p. false) ps) ++ drop n ps)
first_let_go n state = state

-- an item of a sound device has a control state with a place for each of its controls
pub record HasState (core : CoreState) (i : ℕ) : Type 0 where
  pub within : i < length core.reports.snapshot
  pub room : HasRoom (controls_of_form (form_at (items_of core.layout) i)) (state_at core.reports.snapshot i)

pub has_state : (core : CoreState) (i : ℕ) → IsSound core → i < length (items_of core.layout) → HasState core i
has_state core i sound within =
    let items : List Item = items_of core.layout in
    let states : List ControlState = core.reports.snapshot in
    let same = sound.snapshot.one_each in
    let there = got items i within in
    let short : i < length states = omega (arith, within, same) in
    let here = got states i short in
    record {
      within = short;
      room = subst (λ (f : Form). HasRoom (controls_of_form f) (state_at states i)) (sym (form_at-is items i there.0 there.1))
          (subst (λ (s : ControlState). HasRoom (controls_of_form there.0.form) s) (sym (ap (λ (o : Option ControlState). unwrap_or o Absent) here.1))
          (sound.snapshot.room i there.0 here.0 there.1 here.1));
    }

falses : (ps : List Bool) (j : ℕ) → j < length ps → slice_get (map (λ p. false) ps) j ≡ Some false
falses [] j h = absurd (omega arith)
falses (p ∷ ps) zero h = refl
falses (p ∷ ps) (suc j) h = falses ps j (omega arith)

place_len : (form : Form) (ps : List Bool) → HasRoom (controls_of_form form) (Switches ps) → place_count (controls_of_form form) ≡ length ps
place_len NoControls ps room = absurd room
place_len (Elements Switch least greatest us) ps room = sym room
place_len (Elements Value least greatest us) ps room = absurd room
place_len (Elements NullValue least greatest us) ps room = absurd room
place_len (Elements Relative least greatest us) ps room = absurd room
place_len (Keys elements rolls keys) ps room = sym room

pub none_let_go : (state : ControlState) → first_let_go 0 state ≡ state
none_let_go Absent = refl
none_let_go (Switches ps) = refl
none_let_go (Values vs) = refl
none_let_go (Motions ms) = refl
none_let_go (RollOver ps) = refl

next_let_go : (form : Form) (state : ControlState) (j : ℕ) → HasRoom (controls_of_form form) state → j < place_count (controls_of_form form)
    → with_pressed (first_let_go j state) j false ≡ first_let_go (j + 1) state
next_let_go form Absent j room h = refl
next_let_go form (Switches ps) j room h =
    let len = place_len form ps room in
    let within : j < length ps = omega (arith, len, h) in
    ap Switches (fill_next (map (λ p. false) ps) ps j false (falses ps j within) within)
next_let_go form (Values vs) j room h = refl
next_let_go form (Motions ms) j room h = refl
next_let_go form (RollOver ps) j room h = refl

all_let_go : (form : Form) (state : ControlState) (n : ℕ) → HasRoom (controls_of_form form) state → n ≡ place_count (controls_of_form form)
    → first_let_go n state ≡ let_go state
all_let_go form Absent n room e = refl
all_let_go form (Switches ps) n room e =
    let same : length (map (λ p. false) ps) ≡ length ps = length-map ps (λ p. false) in
    ap Switches (filled (map (λ p. false) ps) ps n (e ∙ place_len form ps room ∙ sym same) (sym same))
all_let_go form (Values vs) n room e = refl
all_let_go form (Motions ms) n room e = refl
all_let_go form (RollOver ps) n room e = refl

-- the device of which nothing at the first places of an item is pressed
abbrev pub core_with_first : CoreState → ℕ → ℕ → CoreState
core_with_first core i n = core_with_states core (slice_set core.reports.snapshot i (first_let_go n (state_at core.reports.snapshot i)))

pub first_none : (core : CoreState) (i : ℕ) → HasState core i → core ≡ core_with_first core i 0
first_none core i has =
    let states : List ControlState = core.reports.snapshot in
    let here = got states i has.within in
    let is : state_at states i ≡ here.0 = ap (λ (o : Option ControlState). unwrap_or o Absent) here.1 in
    sym (ap (core_with_states core) (ap (slice_set states i) (none_let_go (state_at states i) ∙ is) ∙ set_same states i here.0 here.1))

pub first_next : (core now after : CoreState) (i j : ℕ) → HasState core i → j < places_of (items_of core.layout) i → now ≡ core_with_first core i j
    → after ≡ core_with_release now i j → after ≡ core_with_first core i (j + 1)
first_next core now after i j has h so_far released =
    let states : List ControlState = core.reports.snapshot in
    let state : ControlState = first_let_go j (state_at states i) in
    let is : state_at (slice_set states i state) i ≡ state = ap (λ (o : Option ControlState). unwrap_or o Absent) (set_here states i state has.within) in
    released ∙ ap (λ (d : CoreState). core_with_release d i j) so_far
    ∙ ap (core_with_states core) (ap (λ (s : ControlState). slice_set (slice_set states i state) i (with_pressed s j false)) is
    ∙ set_twice states i state (with_pressed state j false)
    ∙ ap (slice_set states i) (next_let_go (form_at (items_of core.layout) i) (state_at states i) j has.room h))

pub first_all : (core now : CoreState) (i n : ℕ) → HasState core i → n ≡ places_of (items_of core.layout) i → now ≡ core_with_first core i n
    → now ≡ core_with_item_let_go core i
first_all core now i n has e so_far =
    so_far ∙ ap (λ (s : ControlState). core_with_states core (slice_set core.reports.snapshot i s))
    (all_let_go (form_at (items_of core.layout) i) (state_at core.reports.snapshot i) n has.room e)

filled_length : {A : Type 0} (target start : List A) (k : ℕ) → length target ≡ length start → length (take k target ++ drop k start) ≡ length start
filled_length [] [] zero e = refl
filled_length [] [] (suc k) e = refl
filled_length [] (s ∷ ss) k e = absurd (omega arith)
filled_length (t ∷ ts) [] k e = absurd (omega arith)
filled_length (t ∷ ts) (s ∷ ss) zero e = refl
filled_length (t ∷ ts) (s ∷ ss) (suc k) e = let rest : length ts ≡ length ss = omega arith in ap suc (filled_length ts ss k rest)

-- the device of whose first items nothing is pressed
abbrev pub core_with_items : CoreState → ℕ → CoreState
core_with_items core n = core_with_states core (take n (map let_go core.reports.snapshot) ++ drop n core.reports.snapshot)

pub items_next : (core now after : CoreState) (i : ℕ) → i < length core.reports.snapshot → now ≡ core_with_items core i → after ≡ core_with_item_let_go now i
    → after ≡ core_with_items core (i + 1)
items_next core now after i within so_far next =
    let states : List ControlState = core.reports.snapshot in
    let done : List ControlState = take i (map let_go states) ++ drop i states in
    let same : length done ≡ length states = filled_length (map let_go states) states i (length-map states let_go) in
    let here = got done i (omega (arith, within, same)) in
    let is : state_at done i ≡ here.0 = ap (λ (o : Option ControlState). unwrap_or o Absent) here.1 in
    next ∙ ap (λ (d : CoreState). core_with_item_let_go d i) so_far
    ∙ ap (core_with_states core) (map_next let_go states done i here.0 (let_go (state_at done i)) refl here.1 within (ap let_go is))

pub items_all : (core now : CoreState) (n : ℕ) → n ≡ length core.reports.snapshot → now ≡ core_with_items core n → now ≡ released_core core
items_all core now n e so_far =
    let states : List ControlState = core.reports.snapshot in
    let same : length (map let_go states) ≡ length states = length-map states let_go in
    so_far ∙ ap (core_with_states core) (filled (map let_go states) states n (e ∙ sym same) (sym same))
