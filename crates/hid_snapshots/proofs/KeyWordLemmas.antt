-- The keys of an array, and the words that keep them.
use Rattle.std.proofs.Common.{◌≡◌, ℕ, ◌<◌, ◌≤◌, ◌⊎◌, inl, inr, unwrap_or, subst, Bool, true, false, List, [], length, Option, Some, None, refl, sym, ap, ◌∙◌, arith}
use Rattle.std.specs.List.{slice_get}
use Rattle.std.specs.Int.{div_ceil}
use Rattle.std.proofs.lemmas.Option.{slice_get_past}
use Rattle.std.proofs.lemmas.Bool.{cases_lt}
use Rattle.hid_layout.specs.Controls.{Form, NoControls, Elements, Keys, Key, Item, form_at, controls_of_form}
use Rattle.hid_snapshots.specs.declared.control_state.ControlState.{ControlState}
use Rattle.hid_snapshots.specs.declared.control_state.ControlState.TheVariants.{Absent, Switches, Values, Motions, RollOver}
use Rattle.hid_snapshots.specs.ControlStates.{HasRoom, FitControlStates, InSnapshot, InView, FitsSnapshot, FitsView}
use Rattle.hid_snapshots.specs.Snapshots.{is_pressed, state_at}
use Rattle.hid_snapshots.specs.Words.{switch_words, words_in}
use Rattle.hid_snapshots.specs.Keys.{keys_of, has_keys, has_keys_at, is_array_head, pressed_places, key_words, AreKeyWords}
use Rattle.hid_snapshots.proofs.WordLemmas.{bit_is_on, words_in-length, enough}
use Rattle.hid_snapshots.proofs.ItemLemmas.{got, form_at-is}

pub head_keys : (form : Form) → is_array_head (controls_of_form form) ≡ has_keys form
head_keys NoControls = refl
head_keys (Elements kind least greatest usages) = refl
head_keys (Keys elements rolls keys) = refl

pub no_keys_past : (items : List Item) (i : ℕ) → length items ≤ i → false ≡ has_keys_at items i
no_keys_past items i h = sym (ap (λ (o : Option Item). has_keys (elim o as (λ _. Form) [ None ↦ NoControls | Some found ↦ found.form ])) (slice_get_past items i h))

pub ruleset keys_found = (head_keys, no_keys_past)

-- the places of an array have its words
pub of_places : (ps : List Bool) (places : ℕ) → length ps ≡ places
    → AreKeyWords places (is_pressed (Switches ps)) (switch_words ps)
of_places ps places h = record {
  count = words_in-length (div_ceil (length ps) 64) ps ∙ ap (λ n. div_ceil n 64) h;
  bits = λ i. bit_is_on (div_ceil (length ps) 64) ps i (enough (length ps));
}

pub no_words : (let none : List ℕ = [] in none ≡ switch_words [])
unfolding words_in
no_words = refl

pub words_there : (states : List ControlState) (i : ℕ) (state : ControlState) → slice_get states i ≡ Some state
    → switch_words (pressed_places state) ≡ key_words states i
words_there states i state h =
    sym (ap (λ (o : Option ControlState). switch_words (pressed_places (unwrap_or o Absent))) h)

pub words_past : (states : List ControlState) (i : ℕ) → length states ≤ i
    → (let none : List ℕ = [] in none ≡ key_words states i)
words_past states i h =
    no_words ∙ sym
    (ap (λ (o : Option ControlState). switch_words (pressed_places (unwrap_or o Absent))) (slice_get_past states i h))

pub ruleset words_found = (no_words, words_there, words_past)

array_state : (stands : Form → ControlState → Type 0)
    → ((elements : ℕ) (rolls : Bool) (keys : List Key) (ps : List Bool)
    → stands (Keys elements rolls keys) (RollOver ps) → ⊥) → (form : Form) (state : ControlState)
    → HasRoom (controls_of_form form) state → stands form state → has_keys form ≡ true
    → AreKeyWords (length (keys_of form)) (is_pressed state) (switch_words (pressed_places state))
array_state stands none NoControls state room ok h = absurd (cc)
array_state stands none (Elements kind least greatest usages) state room ok h = absurd (cc)
array_state stands none (Keys elements rolls keys) Absent room ok h = absurd room
array_state stands none (Keys elements rolls keys) (Switches ps) room ok h = of_places ps (length keys) room
array_state stands none (Keys elements rolls keys) (Values vs) room ok h = absurd room
array_state stands none (Keys elements rolls keys) (Motions ms) room ok h = absurd room
array_state stands none (Keys elements rolls keys) (RollOver ps) room ok h = absurd (none elements rolls keys ps ok)

array_words : (stands : Form → ControlState → Type 0)
    → ((elements : ℕ) (rolls : Bool) (keys : List Key) (ps : List Bool)
    → stands (Keys elements rolls keys) (RollOver ps) → ⊥) → (items : List Item) (states : List ControlState) (i : ℕ)
    → FitControlStates stands items states → has_keys_at items i ≡ true
    → AreKeyWords (length (keys_of (form_at items i))) (is_pressed (state_at states i)) (key_words states i)
array_words stands none items states i fits h = by_place (cases_lt i (length items))
  where
    by_place : (i < length items) ⊎ (length items ≤ i) → AreKeyWords (length (keys_of (form_at items i))) (is_pressed (state_at states i)) (key_words states i)
    by_place (inr past) = let e = no_keys_past items i past in absurd (cc)
    by_place (inl within) =
        let item = got items i within in
        let state = got states i (let same = fits.one_each in omega arith) in
        let form_is = form_at-is items i item.0 item.1 in
        let state_is : state_at states i ≡ state.0 = ap (λ (o : Option ControlState). unwrap_or o Absent) state.1 in
        let keys : has_keys item.0.form ≡ true = sym (ap has_keys form_is) ∙ h in
        let here = array_state stands none item.0.form state.0 (fits.room i item.0 state.0 item.1 state.1) (fits.suits i item.0 state.0 item.1 state.1) keys in
        let at_form =
        subst (λ (f : Form). AreKeyWords (length (keys_of f)) (is_pressed state.0)
        (switch_words (pressed_places state.0))) (sym form_is) here in
        subst (λ (c : ControlState). AreKeyWords (length (keys_of (form_at items i))) (is_pressed c)
        (switch_words (pressed_places c))) (sym state_is) at_form

-- the words of an array of a snapshot, and of a view, are those of its keys
pub snapshot_words : (items : List Item) (states : List ControlState) (i : ℕ) → FitsSnapshot items states
    → has_keys_at items i ≡ true
    → AreKeyWords (length (keys_of (form_at items i))) (is_pressed (state_at states i)) (key_words states i)
snapshot_words items states i fits h = array_words InSnapshot (λ elements rolls keys ps ok. ok) items states i fits h

pub view_words : (items : List Item) (states : List ControlState) (i : ℕ) → FitsView items states
    → has_keys_at items i ≡ true
    → AreKeyWords (length (keys_of (form_at items i))) (is_pressed (state_at states i)) (key_words states i)
view_words items states i fits h = array_words InView (λ elements rolls keys ps ok. ok) items states i fits h
