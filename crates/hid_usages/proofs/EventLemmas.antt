-- The events of the elements of one item.
use Rattle.std.proofs.Common.{Vec, vec_capacity, ◌≡◌, ℕ, zero, suc, ◌+◌, ◌-◌, ◌<◌, ◌≤◌, ◌&&◌, not, inl, inr, Bool, true, false, List, [], ◌∷◌, ◌++◌, append_assoc, length, length-append, append-nil, drop, Some, refl, sym, ap, ◌∙◌, arith}
use Rattle.std.specs.List.{slice_get, zip}
use Rattle.hid_report_descriptor.specs.declared.usage.Usage.{Usage}
use Rattle.hid_layout.specs.declared.control.ControlId.{ControlId}
use Rattle.hid_snapshots.specs.declared.event.Event.{Event}
use Rattle.hid_snapshots.specs.declared.event.Event.TheVariants as event
use Rattle.hid_snapshots.specs.Words.{is_on, is_alone, IsFirst}
use Rattle.hid_snapshots.proofs.ItemLemmas.{got}
use Rattle.std.proofs.lemmas.List.{length-map, drop_all}
use Rattle.hid_layout.specs.declared.control.ControlKind.TheVariants.{Switch, Value, NullValue, Relative}
use Rattle.hid_layout.specs.Controls.{Form, NoControls, Elements, Keys, controls_of_form}
use Rattle.hid_snapshots.specs.declared.control_state.ControlState.{ControlState}
use Rattle.hid_snapshots.specs.declared.control_state.ControlState.TheVariants.{Absent, Switches, Values, Motions, RollOver}
use Rattle.hid_snapshots.specs.ControlStates.{HasRoom}
pub use Rattle.hid_snapshots.proofs.ListLemmas.{drop_at, zip_at}
use Rattle.std.proofs.lemmas.Bool.{cases_lt}
use Rattle.hid_usages.specs.Appending.{HasSpace, Appends}
use Rattle.hid_snapshots.specs.Events.{control_at, switch_event, up_event, down_event, element_list_events, usages_of, HasPlaces}

-- the events from one element on
pub element_list_events-from : {C : Type 0} (f : ℕ → Usage → C → List Event) (us : List Usage) (cs : List C) (j : ℕ)
    (u : Usage) (c : C) → slice_get us j ≡ Some u → slice_get cs j ≡ Some c
    → element_list_events f j (drop j us) (drop j cs) ≡ f j u c
    ++ element_list_events f (j + 1) (drop (j + 1) us) (drop (j + 1) cs)
element_list_events-from f us cs j u c h k = rw (drop_at us j u h, drop_at cs j c k) refl

-- A loop appends what its next element tells: what is left then, and the room for it.
pub room_for : (len cap : ℕ) (left now rest : List Event) → left ≡ now ++ rest → len + length left ≤ cap → len + length now ≤ cap
room_for len cap left now rest e h = omega (arith, ap length e, length-append now rest)

pub room_left : (len cap len' cap' : ℕ) (left now rest : List Event) → left ≡ now ++ rest → len + length left ≤ cap → len' ≡ len + length now → cap' ≡ cap → len' + length rest ≤ cap'
room_left len cap len' cap' left now rest e h l k = omega (arith, ap length e, length-append now rest)

pub told : (all start done left now rest : List Event) → left ≡ now ++ rest → start ++ left ≡ all → done ≡ start ++ now → done ++ rest ≡ all
told all start done left now rest e so_far here = rw here (append_assoc start now rest ∙ ap (λ (x : List Event). start ++ x) (sym e) ∙ so_far)

-- what stays tells nothing
pub nothing_told : (out now : List Event) → now ≡ [] → out ≡ out ++ now
nothing_told out now h = sym (append-nil out) ∙ ap (λ (t : List Event). out ++ t) (sym h)

-- Events that are appended in the room that was there: how many there are then follows.
pub appends : {Z : Type 0} (before after : Vec Event Z) (events : List Event) → after.items ≡ before.items ++ events → vec_capacity after ≡ vec_capacity before → Appends before events after
appends before after events h room = record {
  items = h;
  len = omega (arith, before.ok.0, after.ok.0, ap length h, length-append before.items events);
  room = room;
}

pub nothing_appended : {Z : Type 0} (out : Vec Event Z) (events : List Event) → events ≡ [] → Appends out events out
nothing_appended out events none = appends out out events (nothing_told out.items events none) refl

-- Of two lots of events, one after the other, there is room for each, and both are appended.
pub space_first : {Z : Type 0} (out : Vec Event Z) (first second : List Event) → HasSpace out (first ++ second) → HasSpace out first
space_first out first second room = omega (arith, room, length-append first second)

pub space_second : {Z : Type 0} (out mid : Vec Event Z) (first second : List Event) → HasSpace out (first ++ second) → Appends out first mid → HasSpace mid second
space_second out mid first second room told = omega (arith, room, told.len, told.room, length-append first second)

pub both_appended : {Z : Type 0} (out mid end : Vec Event Z) (first second : List Event) → Appends out first mid → Appends mid second end → Appends out (first ++ second) end
both_appended out mid end first second told behind =
    appends out end (first ++ second) (behind.items ∙ ap (λ (t : List Event). t ++ second) told.items ∙ append_assoc out.items first second) (behind.room ∙ told.room)

-- A loop is done where nothing is left.
pub all_appended : {Z : Type 0} (before after : Vec Event Z) (left all : List Event) → left ≡ [] → after.items ++ left ≡ before.items ++ all → vec_capacity after ≡ vec_capacity before → Appends before all after
all_appended before after left all done h room =
    appends before after all (sym (append-nil after.items) ∙ ap (λ (t : List Event). after.items ++ t) (sym done) ∙ h) room

pub each_end : {C : Type 0} (f : ℕ → Usage → C → List Event) (us : List Usage) (cs : List C) (j : ℕ) → length us ≤ j
    → element_list_events f j (drop j us) cs ≡ []
each_end f us cs j h = ap (λ (vs : List Usage). element_list_events f j vs cs) (drop_all j us h)

-- a control state with room for an item's controls has a place for each usage
pub has_places : (form : Form) (state : ControlState) → HasRoom (controls_of_form form) state
    → HasPlaces state (length (usages_of form))
has_places form Absent room = tt
has_places NoControls (Switches ps) room = absurd room
has_places NoControls (Values ps) room = absurd room
has_places NoControls (Motions ps) room = absurd room
has_places NoControls (RollOver ps) room = absurd room
has_places (Elements Switch least greatest us) (Switches ps) room = room
has_places (Elements Switch least greatest us) (Values ps) room = absurd room
has_places (Elements Switch least greatest us) (Motions ps) room = absurd room
has_places (Elements Switch least greatest us) (RollOver ps) room = absurd room
has_places (Elements Value least greatest us) (Switches ps) room = absurd room
has_places (Elements Value least greatest us) (Values ps) room = room
has_places (Elements Value least greatest us) (Motions ps) room = absurd room
has_places (Elements Value least greatest us) (RollOver ps) room = absurd room
has_places (Elements NullValue least greatest us) (Switches ps) room = absurd room
has_places (Elements NullValue least greatest us) (Values ps) room = room
has_places (Elements NullValue least greatest us) (Motions ps) room = absurd room
has_places (Elements NullValue least greatest us) (RollOver ps) room = absurd room
has_places (Elements Relative least greatest us) (Switches ps) room = absurd room
has_places (Elements Relative least greatest us) (Values ps) room = absurd room
has_places (Elements Relative least greatest us) (Motions ps) room = room
has_places (Elements Relative least greatest us) (RollOver ps) room = absurd room
has_places (Keys elements rolls keys) (Switches ps) room = room ∙ sym (length-map keys _)
has_places (Keys elements rolls keys) (RollOver ps) room = room ∙ sym (length-map keys _)
has_places (Keys elements rolls keys) (Values ps) room = absurd room
has_places (Keys elements rolls keys) (Motions ps) room = absurd room

pub ruleset item_places = (has_places)

-- Where the elements from one index up to another tell nothing, they are passed over.
pub each_quiet : {C : Type 0} (f : ℕ → Usage → C → List Event) (us : List Usage) (cs : List C) (from n : ℕ) → from + n ≤ length us → from + n ≤ length cs
    → ((j : ℕ) (u : Usage) (c : C) → from ≤ j → j < from + n → slice_get us j ≡ Some u → slice_get cs j ≡ Some c → f j u c ≡ [])
    → element_list_events f from (drop from us) (drop from cs)
    ≡ element_list_events f (from + n) (drop (from + n) us) (drop (from + n) cs)
each_quiet f us cs from zero within within' quiet = let e : from ≡ from + 0 =
    omega arith in ap (λ (k : ℕ). element_list_events f k (drop k us) (drop k cs)) e
each_quiet f us cs from (suc n) within within' quiet =
    let u = got us from (omega arith) in
    let c = got cs from (omega arith) in
    let e : (from + 1) + n ≡ from + suc n = omega arith in
    element_list_events-from f us cs from u.0 c.0 u.1 c.1
    ∙ ap (λ (t : List Event). t ++ element_list_events f (from + 1) (drop (from + 1) us) (drop (from + 1) cs))
    (quiet from u.0 c.0 (omega arith) (omega arith) u.1 c.1)
    ∙ each_quiet f us cs (from + 1) n (omega arith) (omega arith) (λ j v d a b. quiet j v d (omega arith) (omega arith))
    ∙ ap (λ (k : ℕ). element_list_events f k (drop k us) (drop k cs)) e

pub length_zip : {A B : Type 0} (xs : List A) (ys : List B) → length xs ≤ length ys → length (zip xs ys) ≡ length xs
length_zip [] ys h = refl
length_zip (x ∷ xs) [] h = absurd (omega arith)
length_zip (x ∷ xs) (y ∷ ys) h = ap suc (length_zip xs ys (omega arith))

-- the two flags at an index are those of the pair there
pub zip_parts : (bs xs : List Bool) (j : ℕ) (p : Bool × Bool) → slice_get (zip bs xs) j ≡ Some p → (is_on bs j ≡ p.0) × (is_on xs j ≡ p.1)
zip_parts [] xs j p h = absurd (cc)
zip_parts (b ∷ bs) [] j p h = absurd (cc)
zip_parts (b ∷ bs) (x ∷ xs) zero p h = let e : (b, x) ≡ p = cc in (ap (λ (q : Bool × Bool). q.0) e, ap (λ (q : Bool × Bool). q.1) e)
zip_parts (b ∷ bs) (x ∷ xs) (suc j) p h = zip_parts bs xs j p h

no_up : (i j : ℕ) (u : Usage) (p q : Bool) → (p && not q) ≡ false → up_event (control_at i j) u p q ≡ []
no_up i j u true true h = refl
no_up i j u true false h = absurd (cc)
no_up i j u false q h = refl

one_up : (i j : ℕ) (u : Usage) (p q : Bool) → (p && not q) ≡ true → up_event (control_at i j) u p q ≡ event.Up (control_at i j) u ∷ []
one_up i j u true true h = absurd (cc)
one_up i j u true false h = refl
one_up i j u false q h = absurd (cc)

no_down : (i j : ℕ) (u : Usage) (p q : Bool) → (q && not p) ≡ false → down_event (control_at i j) u p q ≡ []
no_down i j u true true h = refl
no_down i j u true false h = refl
no_down i j u false true h = absurd (cc)
no_down i j u false false h = refl

one_down : (i j : ℕ) (u : Usage) (p q : Bool) → (q && not p) ≡ true → down_event (control_at i j) u p q ≡ event.Down (control_at i j) u ∷ []
one_down i j u true true h = absurd (cc)
one_down i j u true false h = absurd (cc)
one_down i j u false true h = refl
one_down i j u false false h = absurd (cc)

-- what the pairs of flags of one item tell, from one index on, by a test of an index
pub record TellsBy (f : ℕ → Usage → Bool × Bool → List Event) (test : ℕ → Bool) (bs xs : List Bool) (told_at : ℕ → Usage → Event) : Type 0 where
  pub none : (j : ℕ) (u : Usage) (p : Bool × Bool) → slice_get (zip bs xs) j ≡ Some p → test j ≡ false → f j u p ≡ []
  pub one : (j : ℕ) (u : Usage) (p : Bool × Bool) → slice_get (zip bs xs) j ≡ Some p → test j ≡ true → f j u p ≡ told_at j u ∷ []

pub ups_by : (i : ℕ) (bs xs : List Bool) → TellsBy (λ j u p. up_event (control_at i j) u p.0 p.1) (is_alone bs xs) bs xs (λ j u. event.Up (control_at i j) u)
ups_by i bs xs = record {
  none = λ j u p h e. let q = zip_parts bs xs j p h in no_up i j u p.0 p.1 (sym (ap (λ (b : Bool). b && not (is_on xs j)) q.0 ∙ ap (λ (b : Bool). p.0 && not b) q.1) ∙ e);
  one = λ j u p h e. let q = zip_parts bs xs j p h in one_up i j u p.0 p.1 (sym (ap (λ (b : Bool). b && not (is_on xs j)) q.0 ∙ ap (λ (b : Bool). p.0 && not b) q.1) ∙ e);
}

pub downs_by : (i : ℕ) (bs xs : List Bool) → TellsBy (λ j u p. down_event (control_at i j) u p.0 p.1) (is_alone xs bs) bs xs (λ j u. event.Down (control_at i j) u)
downs_by i bs xs = record {
  none = λ j u p h e. let q = zip_parts bs xs j p h in no_down i j u p.0 p.1 (sym (ap (λ (b : Bool). b && not (is_on bs j)) q.1 ∙ ap (λ (b : Bool). p.1 && not b) q.0) ∙ e);
  one = λ j u p h e. let q = zip_parts bs xs j p h in one_down i j u p.0 p.1 (sym (ap (λ (b : Bool). b && not (is_on bs j)) q.1 ∙ ap (λ (b : Bool). p.1 && not b) q.0) ∙ e);
}

-- the next event, of the first index that passes the test
pub each_next : (f : ℕ → Usage → Bool × Bool → List Event) (test : ℕ → Bool) (bs xs : List Bool) (told_at : ℕ → Usage → Event) (us : List Usage) (from j : ℕ) (u : Usage) → TellsBy f test bs xs told_at → length bs ≡ length us → length us ≤ length xs
    → IsFirst test from (length us) j → slice_get us j ≡ Some u
    → element_list_events f from (drop from us) (drop from (zip bs xs)) ≡ (told_at j u ∷ [])
    ++ element_list_events f (j + 1) (drop (j + 1) us) (drop (j + 1) (zip bs xs))
each_next f test bs xs told_at us from j u tells long long' first here =
    let low = first.low in
    let high = first.high in
    let pairs : length (zip bs xs) ≡ length us = length_zip bs xs (omega (arith, long, long')) ∙ long in
    let e : from + (j - from) ≡ j = omega arith in
    let p = got (zip bs xs) j (omega arith) in
    each_quiet f us (zip bs xs) from (j - from) (omega arith) (omega arith) (λ k v q a b h g. tells.none k v q g (first.before k a (omega arith)))
    ∙ ap (λ (k : ℕ). element_list_events f k (drop k us) (drop k (zip bs xs))) e
    ∙ element_list_events-from f us (zip bs xs) j u p.0 here p.1
    ∙ ap (λ (t : List Event). t ++ element_list_events f (j + 1) (drop (j + 1) us) (drop (j + 1) (zip bs xs)))
    (tells.one j u p.0 p.1 first.hit)

-- no event is left where no index passes
pub each_done : (f : ℕ → Usage → Bool × Bool → List Event) (test : ℕ → Bool) (bs xs : List Bool) (told_at : ℕ → Usage → Event) (us : List Usage) (from : ℕ) → TellsBy f test bs xs told_at → length bs ≡ length us → length us ≤ length xs → from ≤ length us
    → ((j : ℕ) → from ≤ j → j < length us → test j ≡ false)
    → element_list_events f from (drop from us) (drop from (zip bs xs)) ≡ []
each_done f test bs xs told_at us from tells long long' within none =
    let pairs : length (zip bs xs) ≡ length us = length_zip bs xs (omega (arith, long, long')) ∙ long in
    let e : from + (length us - from) ≡ length us = omega arith in
    each_quiet f us (zip bs xs) from (length us - from) (omega arith) (omega arith) (λ k v q a b h g. tells.none k v q g (none k a (omega arith)))
    ∙ ap (λ (k : ℕ). element_list_events f k (drop k us) (drop k (zip bs xs))) e
    ∙ ap (λ (vs : List Usage). element_list_events f (length us) vs (drop (length us) (zip bs xs)))
    (drop_all (length us) us (omega arith))

-- elements that don't pass the test tell nothing, also past the last one
pub each_skipped : (f : ℕ → Usage → Bool × Bool → List Event) (test : ℕ → Bool) (bs xs : List Bool) (told_at : ℕ → Usage → Event) (us : List Usage) (from n : ℕ) → TellsBy f test bs xs told_at → length bs ≡ length us → length us ≤ length xs
    → ((j : ℕ) → from ≤ j → j < from + n → test j ≡ false)
    → element_list_events f from (drop from us) (drop from (zip bs xs))
    ≡ element_list_events f (from + n) (drop (from + n) us) (drop (from + n) (zip bs xs))
each_skipped f test bs xs told_at us from zero tells long long' none =
    let e : from ≡ from + 0 = omega arith in
    ap (λ (k : ℕ). element_list_events f k (drop k us) (drop k (zip bs xs))) e
each_skipped f test bs xs told_at us from (suc n) tells long long' none = elim (cases_lt from (length us)) [
  | inl low ↦
      let pairs : length (zip bs xs) ≡ length us = length_zip bs xs (omega (arith, long, long')) ∙ long in
      let u = got us from low in
      let p = got (zip bs xs) from (omega arith) in
      let e : (from + 1) + n ≡ from + suc n = omega arith in
      element_list_events-from f us (zip bs xs) from u.0 p.0 u.1 p.1
      ∙ ap (λ (t : List Event). t ++ element_list_events f (from + 1) (drop (from + 1) us) (drop (from + 1) (zip bs xs))) (tells.none from u.0 p.0 p.1 (none from (omega arith) (omega arith)))
      ∙ each_skipped f test bs xs told_at us (from + 1) n tells long long' (λ j a b. none j (omega arith) (omega arith))
      ∙ ap (λ (k : ℕ). element_list_events f k (drop k us) (drop k (zip bs xs))) e
  | inr past ↦ each_end f us (drop from (zip bs xs)) from past ∙ sym (each_end f us (drop (from + suc n) (zip bs xs)) (from + suc n) (omega arith))
]

pub each_until : (f : ℕ → Usage → Bool × Bool → List Event) (test : ℕ → Bool) (bs xs : List Bool) (told_at : ℕ → Usage → Event) (us : List Usage) (from to : ℕ) → TellsBy f test bs xs told_at → length bs ≡ length us → length us ≤ length xs → from ≤ to
    → ((j : ℕ) → from ≤ j → j < to → test j ≡ false)
    → element_list_events f from (drop from us) (drop from (zip bs xs)) ≡ element_list_events f to (drop to us) (drop to (zip bs xs))
each_until f test bs xs told_at us from to tells long long' le none =
    let e : from + (to - from) ≡ to = omega arith in
    each_skipped f test bs xs told_at us from (to - from) tells long long' (λ j a b. none j a (omega arith))
    ∙ ap (λ (k : ℕ). element_list_events f k (drop k us) (drop k (zip bs xs))) e

-- what stays tells nothing
pub no_switch : (c : ControlId) (u : Usage) (b a : Bool) → b ≡ a → switch_event c u b a ≡ []
no_switch c u true true h = refl
no_switch c u false false h = refl
no_switch c u true false h = absurd (cc)
no_switch c u false true h = absurd (cc)
